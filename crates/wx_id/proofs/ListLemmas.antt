-- Lists read at a place: one element set, one more at the end, and lists that are read alike.
use Rattle.std.proofs.Common.{◌≡◌, ◌≢◌, ◌⊎◌, inl, inr, ⊎_elim, ℕ, suc, zero, List, [], ◌∷◌, ◌++◌, length, set, refl, ap, sym, ◌∙◌}
use Rattle.std.specs.Prelude.{Option, Some, None, slice_get}
use Rattle.std.proofs.lemmas.Option.{none-some, same_Some}

-- the place that is set has the new element
pub set_here : {A : Type 0} (xs : List A) (k : ℕ) (x y : A) → slice_get xs k ≡ Some y → slice_get (set xs k x) k ≡ Some x
set_here [] k x y h = absurd (none-some y h)
set_here (z ∷ zs) zero x y h = refl
set_here (z ∷ zs) (suc k) x y h = set_here zs k x y h

-- another place is as before
pub set_there : {A : Type 0} (xs : List A) (k j : ℕ) (x : A) → j ≢ k → slice_get (set xs k x) j ≡ slice_get xs j
set_there [] k j x h = refl
set_there (y ∷ ys) zero zero x h = absurd (h refl)
set_there (y ∷ ys) zero (suc j) x h = refl
set_there (y ∷ ys) (suc k) zero x h = refl
set_there (y ∷ ys) (suc k) (suc j) x h = set_there ys k j x (λ same. h (ap suc same))

-- what stands at the place that was set is the new element
pub set_is : {A : Type 0} (xs : List A) (k : ℕ) (x y : A) → slice_get (set xs k x) k ≡ Some y → y ≡ x
set_is [] k x y h = absurd (none-some y h)
set_is (z ∷ zs) zero x y h = sym (same_Some x y h)
set_is (z ∷ zs) (suc k) x y h = set_is zs k x y h

-- an element that is set to what it is
pub set_same : {A : Type 0} (xs : List A) (k : ℕ) (x : A) → slice_get xs k ≡ Some x → set xs k x ≡ xs
set_same [] k x h = refl
set_same (y ∷ ys) zero x h = ap (λ z. z ∷ ys) (sym (same_Some y x h))
set_same (y ∷ ys) (suc k) x h = ap (λ l. y ∷ l) (set_same ys k x h)

-- an element that is set twice
pub set_twice : {A : Type 0} (xs : List A) (k : ℕ) (x y : A) → set (set xs k x) k y ≡ set xs k y
set_twice [] k x y = refl
set_twice (z ∷ zs) zero x y = refl
set_twice (z ∷ zs) (suc k) x y = ap (λ l. z ∷ l) (set_twice zs k x y)

-- an element of a list with one more at the end is one of before, or the new one
pub push_cases : {A : Type 0} (xs : List A) (x : A) (j : ℕ) (y : A) → slice_get (xs ++ x ∷ []) j ≡ Some y → (slice_get xs j ≡ Some y) ⊎ ((j ≡ length xs) × (y ≡ x))
push_cases [] x zero y h = inr (refl, sym (same_Some x y h))
push_cases [] x (suc j) y h = absurd (none-some y h)
push_cases (z ∷ zs) x zero y h = inl h
push_cases (z ∷ zs) x (suc j) y h = ⊎_elim (λ a. inl a) (λ b. inr (ap suc b.0, b.1)) (push_cases zs x j y h)

-- lists that are read alike are one
pub read_alike : {A : Type 0} (xs ys : List A) → ((j : ℕ) → slice_get xs j ≡ slice_get ys j) → xs ≡ ys
read_alike [] [] h = refl
read_alike [] (y ∷ ys) h = absurd (none-some y (h 0))
read_alike (x ∷ xs) [] h = absurd (none-some x (sym (h 0)))
read_alike (x ∷ xs) (y ∷ ys) h = let first : x ≡ y = same_Some x y (h 0) in rw (first, read_alike xs ys (λ j. h (suc j))) refl
