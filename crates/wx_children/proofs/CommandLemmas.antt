-- The arguments of a command, one after another.
use Rattle.std.proofs.Common.{◌≡◌, ℕ, zero, suc, ◌+◌, List, [], ◌∷◌, ◌++◌, take, Some, None, refl, ap, sym, ◌∙◌, arith}
use Rattle.std.specs.Prelude.{slice_get}

take_next : {A : Type 0} (xs : List A) (n : ℕ) (x : A) → slice_get xs n ≡ Some x → take (n + 1) xs ≡ take n xs ++ x ∷ []
take_next [] n x e = absurd cc
take_next (y ∷ xs) zero x e = let same : y ≡ x = cc in ap (λ z. z ∷ []) same
take_next (y ∷ xs) (suc n) x e = let at : suc n + 1 ≡ suc (n + 1) = omega arith in ap (λ k. take k (y ∷ xs)) at ∙ ap (λ zs. y ∷ zs) (take_next xs n x e)

-- one more of the arguments was added
pub next_argument : (old new texts : List (List ℕ)) (at : ℕ) (text : List ℕ) → old ≡ take at texts → new ≡ old ++ text ∷ [] → slice_get texts at ≡ Some text → new ≡ take (at + 1) texts
next_argument old new texts at text so more same =
    more ∙ ap (λ zs. zs ++ text ∷ []) so ∙ sym (take_next texts at text same)

pub take_whole : {A : Type 0} (xs : List A) (n : ℕ) → slice_get xs n ≡ None → take n xs ≡ xs
take_whole [] zero e = refl
take_whole [] (suc n) e = refl
take_whole (x ∷ xs) zero e = absurd cc
take_whole (x ∷ xs) (suc n) e = ap (λ zs. x ∷ zs) (take_whole xs n e)
