-- Bytes stay bytes where one is written.
use Rattle.std.proofs.Common.{ℕ, zero, suc, ◌<◌, List, [], ◌∷◌, get_or, set}

pub small_set : (l : List ℕ) (at v i : ℕ) → ((k : ℕ) → get_or l k 0 < 256) → v < 256 → get_or (set l at v) i 0 < 256
small_set [] at v i h s = h i
small_set (x ∷ l) zero v zero h s = s
small_set (x ∷ l) zero v (suc i) h s = h (suc i)
small_set (x ∷ l) (suc at) v zero h s = h zero
small_set (x ∷ l) (suc at) v (suc i) h s = small_set l at v i (λ k. h (suc k)) s
