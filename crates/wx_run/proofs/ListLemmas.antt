-- Fronts of lists, what holds of each element, and sums.
use Rattle.std.proofs.Common.{◌≡◌, ℕ, zero, suc, ◌+◌, ◌<◌, length, take, set, arith, List, [], ◌∷◌, ◌++◌, Some, refl, ap, ◌∙◌, subst}
use Rattle.std.specs.Prelude.{slice_get}
use Rattle.std.specs.List.{All, sum_by}
use Rattle.std.proofs.lemmas.List.{get_or-take, length-take}
use Rattle.std.proofs.lemmas.List.Sums.{sum_by-set}
use Rattle.std.proofs.lemmas.Option.{get_or_from_slice_get, slice_get_within}

take_suc-snoc : {A : Type 0} (xs : List A) (i : ℕ) (x : A) → slice_get xs i ≡ Some x → take (suc i) xs ≡ take i xs ++ x ∷ []
take_suc-snoc [] i x is = absurd cc
take_suc-snoc (y ∷ xs) zero x is = let same : y ≡ x = cc in ap (λ y. y ∷ []) same
take_suc-snoc (y ∷ xs) (suc i) x is = ap (λ t. y ∷ t) (take_suc-snoc xs i x is)

pub take-snoc : {A : Type 0} (xs : List A) (i : ℕ) (x : A) → slice_get xs i ≡ Some x → take (i + 1) xs ≡ take i xs ++ x ∷ []
take-snoc xs i x is = let e : i + 1 ≡ suc i = omega arith in ap (λ n. take n xs) e ∙ take_suc-snoc xs i x is

pub length-take-at : {A : Type 0} (xs : List A) (i : ℕ) (x : A) → slice_get xs i ≡ Some x → i ≡ 0 + length (take i xs)
length-take-at [] i x is = absurd cc
length-take-at (y ∷ xs) zero x is = refl
length-take-at (y ∷ xs) (suc i) x is = omega (arith, length-take-at xs i x is)

pub element_at : {A : Type 0} (xs : List A) (i : ℕ) → i < length xs → (x : A) × (slice_get xs i ≡ Some x)
element_at [] i below = absurd (omega arith)
element_at (x ∷ xs) zero below = (x, refl)
element_at (x ∷ xs) (suc i) below = element_at xs i (omega arith)

-- what holds of each element holds of the one at a place
pub All-at : {A : Type 0} (P : A → Type 0) (xs : List A) (i : ℕ) (x : A) → All P xs → slice_get xs i ≡ Some x → P x
All-at P xs i x all at = subst P (get_or_from_slice_get xs i x x at) (all i x (slice_get_within xs i x at))

-- and so of one of the first n
pub All-take-at : {A : Type 0} (P : A → Type 0) (xs : List A) (n i : ℕ) (x : A) → All P (take n xs) → i < n → slice_get xs i ≡ Some x → P x
All-take-at P xs n i x all below at =
    let within : i < length (take n xs) = omega (arith, below, slice_get_within xs i x at, length-take n xs) in
    subst P (get_or-take n xs i x below ∙ get_or_from_slice_get xs i x x at) (all i x within)

-- where one element comes to less, all do
pub sum_by-less : {A : Type 0} (f : A → ℕ) (xs : List A) (i : ℕ) (x y : A) → slice_get xs i ≡ Some x → f y < f x → sum_by f (set xs i y) < sum_by f xs
sum_by-less f xs i x y at less =
    let was = ap f (get_or_from_slice_get xs i x x at) in
    omega (arith, sum_by-set f xs i y x (slice_get_within xs i x at), was, less)
