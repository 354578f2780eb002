-- The first element of a list that passes a test, as std's `position_from` has it.
use Rattle.std.proofs.Common.{◌≡◌, ℕ, zero, suc, ◌+◌, ◌<◌, ◌⊎◌, inl, inr, length, take, set, cond, arith, Bool, true, false, List, [], ◌∷◌, ◌++◌, Some, None, refl, ap, ◌∙◌}
use Rattle.std.specs.declared.option.Option.{Option}
use Rattle.std.specs.Prelude.{slice_get}
use Rattle.std.specs.List.{All, position_from}
use Rattle.std.specs.Option.{option_map}
use Rattle.std.proofs.lemmas.List.Elements.{All-nil, All-cons, All-head, All-tail, All-set, All-push}
use Rattle.wx_run.proofs.ListLemmas.{All-at}

none_split : (b : Bool) (n : ℕ) (o : Option ℕ) → cond b (Some n) o ≡ None → (b ≡ false) × (o ≡ None)
none_split true n o is = absurd cc
none_split false n o is = (refl, is)

-- where none is found, each element fails the test
pub none_pass : {A : Type 0} (test : A → Bool) (xs : List A) (n : ℕ) → position_from test n xs ≡ None → All (λ x. test x ≡ false) xs
none_pass test [] n none = All-nil (λ x. test x ≡ false)
none_pass test (x ∷ xs) n none =
    let rest = none_split (test x) n (position_from test (n + 1) xs) none in
    All-cons (λ x. test x ≡ false) x xs rest.0 (none_pass test xs (n + 1) rest.1)

pub none_found : {A : Type 0} (test : A → Bool) (xs : List A) (n : ℕ) → All (λ x. test x ≡ false) xs → position_from test n xs ≡ None
none_found test [] n all = refl
none_found test (x ∷ xs) n all =
    ap (λ b. cond b (Some n) (position_from test (n + 1) xs)) (All-head (λ x. test x ≡ false) x xs all)
    ∙ none_found test xs (n + 1) (All-tail (λ x. test x ≡ false) x xs all)

pub none_at : {A : Type 0} (test : A → Bool) (xs : List A) (n i : ℕ) (x : A) → position_from test n xs ≡ None → slice_get xs i ≡ Some x → test x ≡ false
none_at test xs n i x none at = All-at (λ x. test x ≡ false) xs i x (none_pass test xs n none) at

-- an element that fails the test is set, or is added behind the others
pub none-set : {A : Type 0} (test : A → Bool) (xs : List A) (n i : ℕ) (x : A) → position_from test n xs ≡ None → test x ≡ false → position_from test n (set xs i x) ≡ None
none-set test xs n i x none fails = none_found test (set xs i x) n (All-set (λ x. test x ≡ false) xs i x fails (none_pass test xs n none))

pub none-append : {A : Type 0} (test : A → Bool) (xs : List A) (n : ℕ) (x : A) → position_from test n xs ≡ None → test x ≡ false → position_from test n (xs ++ x ∷ []) ≡ None
none-append test xs n x none fails = none_found test (xs ++ x ∷ []) n (All-push (λ x. test x ≡ false) xs x (none_pass test xs n none) fails)

-- one that passes it is set, and it is the first
pub found-set : {A : Type 0} (test : A → Bool) (xs : List A) (n i m : ℕ) (x : A) → i < length xs → m ≡ n + i → position_from test n xs ≡ None → test x ≡ true → position_from test n (set xs i x) ≡ Some m
found-set test [] n i m x below at none passes = absurd (omega arith)
found-set test (y ∷ xs) n zero m x below at none passes =
    let here : n ≡ m = omega arith in
    ap (λ b. cond b (Some n) (position_from test (n + 1) xs)) passes ∙ ap Some here
found-set test (y ∷ xs) n (suc i) m x below at none passes =
    let rest = none_split (test y) n (position_from test (n + 1) xs) none in
    let next : m ≡ n + 1 + i = omega arith in
    ap (λ b. cond b (Some n) (position_from test (n + 1) (set xs i x))) rest.0 ∙ found-set test xs (n + 1) i m x (omega arith) next rest.1 passes

-- the element that was found is the first that passes the test
pub record IsFound {A : Type 0} (test : A → Bool) (n m : ℕ) (xs : List A) : Type 0 where
  pub i : ℕ
  pub element : A
  pub place : m ≡ n + i
  pub at : slice_get xs i ≡ Some element
  pub passes : test element ≡ true
  pub first : All (λ x. test x ≡ false) (take i xs)

some_split : (b : Bool) (n m : ℕ) (o : Option ℕ) → cond b (Some n) o ≡ Some m → ((b ≡ true) × (m ≡ n)) ⊎ ((b ≡ false) × (o ≡ Some m))
some_split true n m o is = inl (refl, (let same : m ≡ n = cc in same))
some_split false n m o is = inr (refl, is)

pub is_found : {A : Type 0} (test : A → Bool) (xs : List A) (n m : ℕ) → position_from test n xs ≡ Some m → IsFound test n m xs
is_found test [] n m is = absurd cc
is_found test (x ∷ xs) n m is = elim (some_split (test x) n m (position_from test (n + 1) xs) is) [
  | inl (passes, here) ↦ record { i = 0; element = x; place = omega (arith, here); at = refl; passes = passes; first = All-nil (λ x. test x ≡ false) }
  | inr (fails, found) ↦
      let later = is_found test xs (n + 1) m found in
      record {
        i = suc later.i;
        element = later.element;
        place = (let place = later.place in omega arith);
        at = later.at;
        passes = later.passes;
        first = All-cons (λ x. test x ≡ false) x (take later.i xs) fails later.first;
      }
]

-- ---- a place by another name

pub none_mapped : {A B : Type 0} (f : A → B) (o : Option A) → option_map f o ≡ None → o ≡ None
none_mapped f None none = refl
none_mapped f (Some x) none = absurd cc

pub option_map-cond : {A B : Type 0} (f : A → B) (b : Bool) (x : A) (o : Option A) → option_map f (cond b (Some x) o) ≡ cond b (Some (f x)) (option_map f o)
option_map-cond f true x o = refl
option_map-cond f false x o = refl
