-- Distinct numbers below n, n of them, are all the numbers below n.
use Rattle.std.proofs.Common.{◌≡◌, ◌≢◌, ℕ, zero, suc, ◌+◌, ◌<◌, ◌≤◌, ◌⊎◌, inl, inr, ⊎_elim, List, [], ◌∷◌, length, refl, sym, subst, arith}
use Rattle.std.specs.List.{AllByRecursion, Contains}
use mathlib.Core.Logic.{dite}
use native.Mathlib.Decide.{ℕ_discrete}
use Rattle.wx_turn.specs.Turns.{AreDistinct}

none_equal : (k : ℕ) (xs : List ℕ) → AllByRecursion (λ m. m ≢ k) xs → AllByRecursion (λ m. m < suc k) xs → AllByRecursion (λ m. m < k) xs
none_equal k [] other below = tt
none_equal k (x ∷ xs) other below = (let ne = other.0 in let lt = below.0 in omega arith, none_equal k xs other.1 below.1)

-- the list without k, if it has k
without : (k : ℕ) (xs : List ℕ) → AreDistinct xs → AllByRecursion (λ m. m < suc k) xs
    → (rest : List ℕ) × AreDistinct rest × AllByRecursion (λ m. m < k) rest × (length xs ≤ length rest + 1) × ((x : ℕ) → AllByRecursion (λ m. m ≢ x) xs → AllByRecursion (λ m. m ≢ x) rest)
without k [] d below = ([], tt, tt, omega arith, λ x h. tt)
without k (x ∷ xs) d below = dite (ℕ_discrete x k)
    (λ e. (xs, d.1, none_equal k xs (subst (λ (z : ℕ). AllByRecursion (λ m. m ≢ z) xs) e d.0) below.1, omega arith, λ y h. h.1))
    (λ ne. let w = without k xs d.1 below.1 in (x ∷ w.0, (w.4 x d.0, w.1), ((let lt = below.0 in omega arith), w.2), (let l = w.3 in omega arith), (λ y h. (h.0, w.4 y h.1))))

at_most : (k : ℕ) (xs : List ℕ) → AreDistinct xs → AllByRecursion (λ m. m < k) xs → length xs ≤ k
at_most zero [] d below = omega arith
at_most zero (x ∷ xs) d below = let lt = below.0 in absurd (omega arith)
at_most (suc k) xs d below = let w = without k xs d below in let l = at_most k w.0 w.1 w.2 in let m = w.3 in omega arith

contains_or_not : (n : ℕ) (xs : List ℕ) → Contains xs n ⊎ AllByRecursion (λ m. m ≢ n) xs
contains_or_not n [] = inr tt
contains_or_not n (x ∷ xs) = dite (ℕ_discrete x n) (λ e. inl (0, omega arith, e))
    (λ ne. ⊎_elim (λ (c : Contains xs n). let r : Contains (x ∷ xs) n ⊎ AllByRecursion (λ m. m ≢ n) (x ∷ xs) = inl (suc c.0, (let lt = c.1 in omega arith), c.2) in r)
    (λ (a : AllByRecursion (λ m. m ≢ n) xs). let r : Contains (x ∷ xs) n ⊎ AllByRecursion (λ m. m ≢ n) (x ∷ xs) = inr (ne, a) in r) (contains_or_not n xs))

pub contains_each : (k n : ℕ) (xs : List ℕ) → AreDistinct xs → AllByRecursion (λ m. m < k) xs → length xs ≡ k → n < k → Contains xs n
contains_each k n xs d below long lt = ⊎_elim (λ (c : Contains xs n). c)
    (λ (a : AllByRecursion (λ m. m ≢ n) xs). let l = at_most k (n ∷ xs) (a, d) (lt, below) in absurd (omega arith)) (contains_or_not n xs)
