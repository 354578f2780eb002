-- What a loop over contexts has changed so far in a list that has an element for each context.
use Rattle.std.proofs.Common.{◌≡◌, ◌≢◌, ℕ, suc, zero, ◌+◌, ◌<◌, List, [], ◌∷◌, ◌++◌, length, set, get_or, take, refl, ap, sym, ◌∙◌, Bool, true, false, cond, not, arith}
use Rattle.std.specs.Prelude.{Option, Some, None, slice_get, ◌||◌, ◌&&◌, ◌==◌}
use Rattle.std.specs.Option.{option_map, IsSomeAnd}
use Rattle.std.proofs.lemmas.Option.{slice_get_read}
use Rattle.std.proofs.lemmas.Bool.{and_parts, not-true, false≢true, eqb-true, eq-eqb}
use Rattle.std.proofs.lemmas.List.{take_more}
use Rattle.std.proofs.lemmas.List.Folds.{list_any-append, list_any_at}
use Rattle.std.proofs.lemmas.Iterator.Adapters.{option_map_id}
use Rattle.wx_id.specs.declared.numbers.ContextNo.{ContextNo}
use Rattle.wx_id.specs.Contexts.{same_context, is_among, are_distinct}
use Rattle.wx_id.specs.ByContext.{EachHas, Changed}
use Rattle.wx_id.proofs.ListLemmas.{set_here, set_there}

-- numbers that are told apart differ
pub other_is : (m n : ℕ) → (m == n) ≡ false → n ≢ m
other_is m n h same = false≢true (sym h ∙ eq-eqb m n (sym same))

-- one that is read is among them
pub among_at : (to : List ContextNo) (i : ℕ) (d : ContextNo) → i < length to → is_among to (get_or to i d) ≡ true
among_at to i d h = list_any_at (λ e. same_context e (get_or to i d)) to i d h (eq-eqb (get_or to i d).0 (get_or to i d).0 refl)

-- one more is among them
pub among_more : (to : List ContextNo) (x d : ContextNo) → is_among (to ++ x ∷ []) d ≡ (is_among to d || same_context x d)
among_more to x d = list_any-append (λ e. same_context e d) to (x ∷ []) ∙ ap (λ b. is_among to d || b) (left (same_context x d))
  where
    left : (s : Bool) → (s || false) ≡ s
    left true = refl
    left false = refl

-- none of those before it is it
apart_at : (to : List ContextNo) (i : ℕ) (d : ContextNo) → are_distinct to ≡ true → i < length to → is_among (take i to) (get_or to i d) ≡ false
apart_at [] i d apart h = absurd (omega (arith, h))
apart_at (c ∷ cs) zero d apart h = refl
apart_at (c ∷ cs) (suc i) d apart h =
    let parts : (not (is_among cs c) ≡ true) × (are_distinct cs ≡ true) = and_parts _ _ apart in
    by (same_context c (get_or cs i d)) refl (not-true _ parts.0) (apart_at cs i d parts.1 (omega (arith, h)))
  where
    by : (b : Bool) → same_context c (get_or cs i d) ≡ b → is_among cs c ≡ false → is_among (take i cs) (get_or cs i d) ≡ false → (b || is_among (take i cs) (get_or cs i d)) ≡ false
    by false same alone rest = rest
    by true same alone rest = absurd (false≢true (sym alone ∙ ap (λ (n : ℕ). is_among cs (record { 0 = n })) (eqb-true c.0 (get_or cs i d).0 same) ∙ among_at cs i d (omega (arith, h))))

module _ {A : Type 0} where
  has_within : (xs : List A) (k : ℕ) (P : A → Type 0) → IsSomeAnd (slice_get xs k) P → k < length xs
  has_within [] k P h = absurd h
  has_within (x ∷ xs) zero P h = omega arith
  has_within (x ∷ xs) (suc k) P h = let rest : k < length xs = has_within xs k P h in omega (arith, rest)

  -- each of these is within the list
  pub each_within : (P : A → Type 0) (to : List ContextNo) (i : ℕ) (d : ContextNo) (xs : List A) → EachHas P to xs → i < length to → (get_or to i d).0 < length xs
  each_within P to i d xs has h = has_within xs (get_or to i d).0 P (has (get_or to i d) (among_at to i d h))

  -- the element that is read is the one that is there
  read_at : (xs : List A) (k : ℕ) (x : A) (P : A → Type 0) → IsSomeAnd (slice_get xs k) P → x ≡ get_or xs k x → slice_get xs k ≡ Some x
  read_at xs k x P has is = slice_get_read xs (length xs) k x refl (has_within xs k P has) is

  -- an element that is read has what it is known to have
  has_read : (xs : List A) (k : ℕ) (x : A) (P : A → Type 0) → IsSomeAnd (slice_get xs k) P → x ≡ get_or xs k x → P x
  has_read xs k x P has is = rw (read_at xs k x P has is) at has

  -- where none is changed the list is as it was
  pub changed_none : (change : A → A) (xs : List A) → Changed change [] xs xs
  changed_none change xs d = sym (option_map_id (slice_get xs d.0))

  -- one that the loop has not come to is as it was
  not_yet : (change : A → A) (to : List ContextNo) (c : ContextNo) (old mid : List A) → Changed change to old mid → is_among to c ≡ false → slice_get mid c.0 ≡ slice_get old c.0
  not_yet change to c old mid changed none = changed c ∙ rw none (option_map_id (slice_get old c.0))

  -- one more is changed
  changed_more : (change : A → A) (to : List ContextNo) (c : ContextNo) (old mid : List A) (x : A) → Changed change to old mid → is_among to c ≡ false → slice_get mid c.0 ≡ Some x → Changed change (to ++ c ∷ []) old (set mid c.0 (change x))
  changed_more change to c old mid x changed none at d = rw (among_more to c d) (by (same_context c d) refl)
    where
      was : slice_get old c.0 ≡ Some x
      was = sym (not_yet change to c old mid changed none) ∙ at

      all : (t : Bool) → (t || true) ≡ true
      all true = refl
      all false = refl

      same : (t : Bool) → (t || false) ≡ t
      same true = refl
      same false = refl

      by : (s : Bool) → same_context c d ≡ s → slice_get (set mid c.0 (change x)) d.0 ≡ option_map (λ y. cond (is_among to d || s) (change y) y) (slice_get old d.0)
      by true h = rw (← eqb-true c.0 d.0 h) (set_here mid c.0 (change x) x at ∙ sym (rw was (ap (λ t. Some (cond t (change x) x)) (all (is_among to (record { 0 = c.0 }))))))
      by false h = set_there mid c.0 d.0 (change x) (other_is c.0 d.0 h) ∙ changed d ∙ ap (λ t. option_map (λ y. cond t (change y) y) (slice_get old d.0)) (sym (same (is_among to d)))

  -- each that the loop comes to has what it had at the start
  comes_to : (change : A → A) (P : A → Type 0) (to : List ContextNo) (i : ℕ) (d : ContextNo) (old mid : List A) → are_distinct to ≡ true → EachHas P to old → Changed change (take i to) old mid → i < length to → IsSomeAnd (slice_get mid (get_or to i d).0) P
  comes_to change P to i d old mid apart has changed h =
      let c = get_or to i d in
      rw (not_yet change (take i to) c old mid changed (apart_at to i d apart h)) (has c (among_at to i d h))

  -- it is within the list
  pub comes_within : (change : A → A) (P : A → Type 0) (to : List ContextNo) (i : ℕ) (d : ContextNo) (old mid : List A) → are_distinct to ≡ true → EachHas P to old → Changed change (take i to) old mid → i < length to → (get_or to i d).0 < length mid
  comes_within change P to i d old mid apart has changed h =
      has_within mid (get_or to i d).0 P (comes_to change P to i d old mid apart has changed h)

  -- it has what the call asks
  pub comes_with : (change : A → A) (P : A → Type 0) (to : List ContextNo) (i : ℕ) (d : ContextNo) (old mid : List A) (x : A) → are_distinct to ≡ true → EachHas P to old → Changed change (take i to) old mid → i < length to → x ≡ get_or mid (get_or to i d).0 x → P x
  comes_with change P to i d old mid x apart has changed h is =
      has_read mid (get_or to i d).0 x P (comes_to change P to i d old mid apart has changed h) is

  -- and is changed by the call
  pub step : (change : A → A) (P : A → Type 0) (to : List ContextNo) (i : ℕ) (d : ContextNo) (old mid : List A) (x y : A) → are_distinct to ≡ true → EachHas P to old → Changed change (take i to) old mid → i < length to → x ≡ get_or mid (get_or to i d).0 x → y ≡ change x → Changed change (take (i + 1) to) old (set mid (get_or to i d).0 y)
  step change P to i d old mid x y apart has changed h is made =
      let at = read_at mid (get_or to i d).0 x P (comes_to change P to i d old mid apart has changed h) is in
      rw (take_more to i d h, made) (changed_more change (take i to) (get_or to i d) old mid x changed (apart_at to i d apart h) at)
