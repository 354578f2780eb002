-- Lists under tests.
use Rattle.std.proofs.Common.{◌≡◌, ℕ, zero, suc, ◌+◌, ◌<◌, List, [], ◌∷◌, ◌++◌, length, map, refl, ap, sym, ◌∙◌, Bool, true, false, cond, arith, zero-add, add-one, subst}
use Rattle.std.specs.Prelude.{filter, ◌&&◌, ◌||◌, slice_get, Some}
use Rattle.std.specs.List.{list_any, range_with_len}
use Rattle.std.proofs.Math.Path.{fun_ext}
use Rattle.std.proofs.lemmas.List.FromFn.{filter_of_map_range_with_len_more}

-- what passes two tests one after another passes both at once
pub filter_twice : {X : Type 0} (p q : X → Bool) (xs : List X) → filter p (filter q xs) ≡ filter (λ x. q x && p x) xs
filter_twice p q [] = refl
filter_twice p q (x ∷ xs) = by (filter_twice p q xs) (q x)
  where
    by : filter p (filter q xs) ≡ filter (λ y. q y && p y) xs → (b : Bool) → filter p (cond b (x ∷ filter q xs) (filter q xs)) ≡ cond (b && p x) (x ∷ filter (λ y. q y && p y) xs) (filter (λ y. q y && p y) xs)
    by rest true = ap (λ l. cond (p x) (x ∷ l) l) rest
    by rest false = rest

-- tests that agree keep the same
pub filter_same : {X : Type 0} (p q : X → Bool) → ((x : X) → p x ≡ q x) → (xs : List X) → filter p xs ≡ filter q xs
filter_same p q same xs = let e : p ≡ q = fun_ext same in ap (λ f. filter f xs) e

-- a test that what passes p passes too takes nothing from it
pub filter_narrow : {X : Type 0} (p q : X → Bool) → ((x : X) → p x ≡ (q x && p x)) → (xs : List X) → filter p xs ≡ filter p (filter q xs)
filter_narrow p q within xs = filter_same p (λ x. q x && p x) within xs ∙ sym (filter_twice p q xs)

-- where none passes nothing is kept
pub filter_none : {X : Type 0} (p : X → Bool) → ((x : X) → p x ≡ false) → (xs : List X) → filter p xs ≡ []
filter_none p none [] = refl
filter_none p none (x ∷ xs) = rw none (filter_none p none xs)

-- something is kept where something passes
pub some_kept : {X : Type 0} (p : X → Bool) (xs : List X) → list_any p xs ≡ list_any (λ _. true) (filter p xs)
some_kept p [] = refl
some_kept p (x ∷ xs) = by (some_kept p xs) (p x)
  where
    by : list_any p xs ≡ list_any (λ _. true) (filter p xs) → (b : Bool) → (b || list_any p xs) ≡ list_any (λ _. true) (cond b (x ∷ filter p xs) (filter p xs))
    by rest true = refl
    by rest false = rest

-- tests that agree below n keep the same of what is made of the numbers below n
pub filter_below : {X : Type 0} (p q : X → Bool) (f : ℕ → X) (n : ℕ) → ((i : ℕ) → i < n → p (f i) ≡ q (f i)) → filter p (map f (range_with_len 0 n)) ≡ filter q (map f (range_with_len 0 n))
filter_below p q f zero same = refl
filter_below p q f (suc n) same =
    let before : filter p (map f (range_with_len 0 n)) ≡ filter q (map f (range_with_len 0 n)) = filter_below p q f n (λ i h. same i (omega arith)) in
    let last : p (f n) ≡ q (f n) = same n (omega arith) in
    let one_more : filter p (map f (range_with_len 0 (n + 1))) ≡ filter q (map f (range_with_len 0 (n + 1))) =
    filter_of_map_range_with_len_more p f 0 n n (zero-add n)
    ∙ ap (λ l. l ++ cond (p (f n)) (f n ∷ []) []) before
    ∙ ap (λ b. filter q (map f (range_with_len 0 n)) ++ cond b (f n ∷ []) []) last
    ∙ sym (filter_of_map_range_with_len_more q f 0 n n (zero-add n)) in
    subst (λ k. filter p (map f (range_with_len 0 k)) ≡ filter q (map f (range_with_len 0 k))) (add-one n) one_more

-- what stood before one more is read as it was
pub read_before : {A : Type 0} (xs : List A) (y : A) (i : ℕ) → i < length xs → slice_get (xs ++ y ∷ []) i ≡ slice_get xs i
read_before [] y i h = absurd (omega (arith, h))
read_before (x ∷ xs) y zero h = refl
read_before (x ∷ xs) y (suc i) h = read_before xs y i (omega (arith, h))

-- and the one more is read at the end
pub read_last : {A : Type 0} (xs : List A) (y : A) → slice_get (xs ++ y ∷ []) (length xs) ≡ Some y
read_last [] y = refl
read_last (x ∷ xs) y = read_last xs y
