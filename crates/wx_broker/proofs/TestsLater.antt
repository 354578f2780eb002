-- Lists under tests, and lists by place.
use Rattle.std.proofs.Common.{◌≡◌, ℕ, suc, zero, ◌+◌, ◌≤◌, List, [], ◌∷◌, ◌++◌, length, set, refl, ap, sym, ◌∙◌, Bool, true, false, cond, not, arith}
use Rattle.std.specs.Prelude.{Option, Some, None, IfSome, is_some, slice_get, filter, ◌&&◌, ◌||◌, ◌==◌}
use Rattle.std.specs.Option.{option_map}
use Rattle.std.specs.List.{list_all, list_any}
use Rattle.std.proofs.lemmas.Bool.{and_parts, true≢false, false≢true}
use Rattle.std.proofs.lemmas.Bool.Decides.{nat_tests, Decides-eqb}
use Rattle.std.proofs.lemmas.Option.{none-some, same_Some}
use Rattle.std.proofs.Math.Dec.{eqb-suc-suc, eqb-suc-zero, eqb-zero-suc}
use Rattle.wx_laws.proofs.ChannelsLater.{place_more}

pub or_false : (a : Bool) → (a || false) ≡ a
or_false true = refl
or_false false = refl

pub and_false : (a : Bool) → (a && false) ≡ false
and_false true = refl
and_false false = refl

pub and_true : (a : Bool) → (a && true) ≡ a
and_true true = refl
and_true false = refl

pub not_not : (a : Bool) → not (not a) ≡ a
not_not true = refl
not_not false = refl

pub same_back : (m n : ℕ) → (m == n) ≡ (n == m)
same_back m n = grind (arith, nat_tests)

pub same_self : (m : ℕ) → (m == m) ≡ true
same_self m = grind (arith, nat_tests)

pub same_is : (m n : ℕ) → (m == n) ≡ true → m ≡ n
same_is m n h = (Decides-eqb m n).0 h

-- what is at most k long with one more element, if it has one, is so without
pub shorter : (b : Bool) (m n k : ℕ) → n ≡ cond b (m + 1) m → n ≤ k → m ≤ k
shorter true m n k e h = omega (arith, e, h)
shorter false m n k e h = omega (arith, e, h)

pub grown_or_same : (b : Bool) (m n : ℕ) → n ≡ cond b (m + 1) m → m ≤ n
grown_or_same true m n e = omega (arith, e)
grown_or_same false m n e = omega (arith, e)

-- the list has an element
abbrev pub has_some : {X : Type 0} → List X → Bool
has_some [] = false
has_some (x ∷ xs) = true

pub nil_test : {X : Type 0} (xs : List X) → (length xs == 0) ≡ not (has_some xs)
nil_test [] = same_self 0
nil_test (x ∷ xs) = eqb-suc-zero (length xs)

-- some element passes exactly where the passing ones are some
pub any_passes : {X : Type 0} (p : X → Bool) (xs : List X) → list_any p xs ≡ has_some (filter p xs)
any_passes p [] = refl
any_passes p (x ∷ xs) = by (any_passes p xs) (p x)
  where
    by : list_any p xs ≡ has_some (filter p xs) → (b : Bool) → (b || list_any p xs) ≡ has_some (cond b (x ∷ filter p xs) (filter p xs))
    by rest true = refl
    by rest false = rest

-- two tests that agree on what passes a third keep the same of it
pub filter_where : {X : Type 0} (h f g : X → Bool) → ((x : X) → h x ≡ true → f x ≡ g x) → (xs : List X) → list_all h xs ≡ true → filter f xs ≡ filter g xs
filter_where h f g same [] all = refl
filter_where h f g same (x ∷ xs) all =
    let parts : (h x ≡ true) × (list_all h xs ≡ true) = and_parts _ _ all in
    rw (same x parts.0, filter_where h f g same xs parts.1) refl

-- a list of which each element passes stays whole
pub filter_whole : {X : Type 0} (p : X → Bool) (xs : List X) → list_all p xs ≡ true → filter p xs ≡ xs
filter_whole p [] all = refl
filter_whole p (x ∷ xs) all =
    let parts : (p x ≡ true) × (list_all p xs ≡ true) = and_parts _ _ all in
    rw (parts.0, filter_whole p xs parts.1) refl

-- what passes two tests one after another passes both at once
pub filter_twice : {X : Type 0} (p q : X → Bool) (xs : List X) → filter p (filter q xs) ≡ filter (λ x. q x && p x) xs
filter_twice p q [] = refl
filter_twice p q (x ∷ xs) = by (filter_twice p q xs) (q x)
  where
    by : filter p (filter q xs) ≡ filter (λ y. q y && p y) xs → (b : Bool) → filter p (cond b (x ∷ filter q xs) (filter q xs)) ≡ cond (b && p x) (x ∷ filter (λ y. q y && p y) xs) (filter (λ y. q y && p y) xs)
    by rest true = rw rest refl
    by rest false = rest

pub all_weaker : {X : Type 0} (p q : X → Bool) → ((x : X) → p x ≡ true → q x ≡ true) → (xs : List X) → list_all p xs ≡ true → list_all q xs ≡ true
all_weaker p q weaker [] all = refl
all_weaker p q weaker (x ∷ xs) all =
    let parts : (p x ≡ true) × (list_all p xs ≡ true) = and_parts _ _ all in
    rw (weaker x parts.0, all_weaker p q weaker xs parts.1) refl

pub all_filtered : {X : Type 0} (p : X → Bool) (xs : List X) → list_all p (filter p xs) ≡ true
all_filtered p [] = refl
all_filtered p (x ∷ xs) = by (all_filtered p xs) (p x) refl
  where
    by : list_all p (filter p xs) ≡ true → (b : Bool) → p x ≡ b → list_all p (cond b (x ∷ filter p xs) (filter p xs)) ≡ true
    by rest true e = rw (e, rest) refl
    by rest false e = rest

-- where none passes each fails
pub all_fail : {X : Type 0} (p : X → Bool) (xs : List X) → list_any p xs ≡ false → list_all (λ x. not (p x)) xs ≡ true
all_fail p [] h = refl
all_fail p (x ∷ xs) h = by (all_fail p xs) (p x) h
  where
    by : (list_any p xs ≡ false → list_all (λ y. not (p y)) xs ≡ true) → (b : Bool) → (b || list_any p xs) ≡ false → (not b && list_all (λ y. not (p y)) xs) ≡ true
    by rest true h = absurd (true≢false h)
    by rest false h = rest h

-- past the end nothing stands
pub outside : {X : Type 0} (xs : List X) (i : ℕ) → slice_get xs i ≡ None → length xs ≤ i
outside [] i e = omega arith
outside (x ∷ xs) zero e = absurd (none-some x (sym e))
outside (x ∷ xs) (suc i) e = let rest : length xs ≤ i = outside xs i e in omega (arith, rest)

-- Rows by number: each says what an element of a list is.

-- they are as many
pub rows_length : {A B : Type 0} (said : ℕ → A → B) (xs : List A) (rows : List B) → ((k : ℕ) → slice_get rows k ≡ option_map (said k) (slice_get xs k)) → length rows ≡ length xs
rows_length said [] [] h = refl
rows_length said [] (y ∷ rows) h = absurd (none-some y (sym (h 0)))
rows_length said (x ∷ xs) [] h = absurd (none-some (said 0 x) (h 0))
rows_length said (x ∷ xs) (y ∷ rows) h = ap suc (rows_length (λ k. said (suc k)) xs rows (λ k. h (suc k)))

-- each row is changed as its element is
pub rows_changed : {A B : Type 0} (old new : ℕ → A → B) (change : ℕ → B → B) (xs : List A) (rows rows' : List B) → ((k : ℕ) → slice_get rows' k ≡ option_map (change k) (slice_get rows k)) → ((k : ℕ) (x : A) → slice_get xs k ≡ Some x → change k (old k x) ≡ new k x) → ((k : ℕ) → slice_get rows k ≡ option_map (old k) (slice_get xs k)) → (k : ℕ) → slice_get rows' k ≡ option_map (new k) (slice_get xs k)
rows_changed {A} {B} old new change xs rows rows' changed each has k = changed k ∙ ap (option_map (change k)) (has k) ∙ by (slice_get xs k) refl
  where
    by : (o : Option A) → slice_get xs k ≡ o → option_map (change k) (option_map (old k) o) ≡ option_map (new k) o
    by None e = refl
    by (Some x) e = ap Some (each k x e)

-- one more row says what one more element is
pub rows_more : {A B : Type 0} (old new : ℕ → A → B) (xs : List A) (x : A) (rows rows' : List B) (row : B) → rows' ≡ rows ++ row ∷ [] → ((k : ℕ) (y : A) → slice_get xs k ≡ Some y → old k y ≡ new k y) → row ≡ new (length xs) x → ((k : ℕ) → slice_get rows k ≡ option_map (old k) (slice_get xs k)) → (k : ℕ) → slice_get rows' k ≡ option_map (new k) (slice_get (xs ++ x ∷ []) k)
rows_more {A} {B} old new xs x rows rows' row grown same last has k =
    ap (λ l. slice_get l k) grown
    ∙ place_more (λ o. o) rows (Some row) k
    ∙ ap (λ n. cond ((n == k) && true) (Some row) (slice_get rows k)) (rows_length old xs rows has)
    ∙ by (length xs == k) refl
    ∙ sym (place_more (option_map (new k)) xs (Some x) k)
  where
    at : (o : Option A) → slice_get xs k ≡ o → option_map (old k) o ≡ option_map (new k) o
    at None e = refl
    at (Some y) e = ap Some (same k y e)

    by : (b : Bool) → (length xs == k) ≡ b → cond (b && true) (Some row) (slice_get rows k) ≡ cond (b && true) (Some (new k x)) (option_map (new k) (slice_get xs k))
    by true e = ap Some (last ∙ ap (λ n. new n x) (same_is (length xs) k e))
    by false e = has k ∙ at (slice_get xs k) refl

pub map_whole : {X : Type 0} (o : Option X) → o ≡ option_map (λ x. x) o
map_whole None = refl
map_whole (Some x) = refl

-- one row is set
pub row_set : {B : Type 0} (change : B → B) (rows : List B) (k : ℕ) (row : B) (j : ℕ) → slice_get rows k ≡ Some row → slice_get (set rows k (change row)) j ≡ option_map (λ r. cond (k == j) (change r) r) (slice_get rows j)
row_set change [] k row j h = absurd (none-some row h)
row_set change (y ∷ ys) zero row zero h = ap (λ r. Some (change r)) (sym (same_Some y row h))
row_set change (y ∷ ys) zero row (suc j) h = rw (eqb-zero-suc j) (map_whole (slice_get ys j))
row_set change (y ∷ ys) (suc k) row zero h = rw (eqb-suc-zero k) refl
row_set change (y ∷ ys) (suc k) row (suc j) h = rw (eqb-suc-suc k j) (row_set change ys k row j h)

-- a row is changed where a test holds, as contracts say it
pub row_changed : {B : Type 0} (change : B → B) (rows rows' : List B) (k : ℕ) (b : Bool) → b ≡ true → is_some (slice_get rows k) ≡ true → IfSome (slice_get rows k) (λ row. rows' ≡ set rows k (change row)) → (j : ℕ) → slice_get rows' j ≡ option_map (λ r. cond (b && (k == j)) (change r) r) (slice_get rows j)
row_changed {B} change rows rows' k b h there changed j = rw h (by (slice_get rows k) refl there changed)
  where
    by : (o : Option B) → slice_get rows k ≡ o → is_some o ≡ true → IfSome o (λ row. rows' ≡ set rows k (change row)) → slice_get rows' j ≡ option_map (λ r. cond (k == j) (change r) r) (slice_get rows j)
    by None e there changed = absurd (false≢true there)
    by (Some row) e there changed = ap (λ l. slice_get l j) changed ∙ row_set change rows k row j e

-- and stays where it does not
pub row_stays : {B : Type 0} (change : B → B) (rows : List B) (k : ℕ) (b : Bool) → b ≡ false → (j : ℕ) → slice_get rows j ≡ option_map (λ r. cond (b && (k == j)) (change r) r) (slice_get rows j)
row_stays change rows k b h j = rw h (map_whole (slice_get rows j))

-- a row is changed where it passes a test
pub where_set : {B : Type 0} (test : B → Bool) (change : B → B) (rows rows' : List B) (k : ℕ) (row : B) → slice_get rows k ≡ Some row → test row ≡ true → rows' ≡ set rows k (change row) → (j : ℕ) → slice_get rows' j ≡ option_map (λ r. cond ((k == j) && test r) (change r) r) (slice_get rows j)
where_set {B} test change rows rows' k row at passes changed j =
    ap (λ l. slice_get l j) (changed ∙ ap (set rows k) (ap (λ b. cond b (change row) row) (sym passes)))
    ∙ row_set (λ r. cond (test r) (change r) r) rows k row j at
    ∙ both (k == j)
  where
    both : (b : Bool) → option_map (λ r. cond b (cond (test r) (change r) r) r) (slice_get rows j) ≡ option_map (λ r. cond (b && test r) (change r) r) (slice_get rows j)
    both true = refl
    both false = refl

-- and stays where it does not
pub where_stays : {B : Type 0} (test : B → Bool) (change : B → B) (rows : List B) (k : ℕ) → ((row : B) → slice_get rows k ≡ Some row → test row ≡ false) → (j : ℕ) → slice_get rows j ≡ option_map (λ r. cond ((k == j) && test r) (change r) r) (slice_get rows j)
where_stays {B} test change rows k fails j = by (k == j) refl (slice_get rows j) refl
  where
    by : (b : Bool) → (k == j) ≡ b → (o : Option B) → slice_get rows j ≡ o → o ≡ option_map (λ r. cond (b && test r) (change r) r) o
    by b same None at = refl
    by true same (Some row) at = ap (λ t. Some (cond t (change row) row)) (sym (fails row (ap (slice_get rows) (same_is k j same) ∙ at)))
    by false same (Some row) at = refl
