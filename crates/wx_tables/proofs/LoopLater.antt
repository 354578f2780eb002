-- A list as far as the leave of a context has come, and what is told of it: the same of channels and of requests.
use Rattle.std.proofs.Common.{◌≡◌, ℕ, suc, zero, ◌+◌, ◌-◌, ◌<◌, ◌≤◌, List, [], ◌∷◌, ◌++◌, length, set, map, refl, ap, sym, ◌∙◌, Bool, true, false, cond, arith, subst, append-nil, zero-add}
use Rattle.std.specs.Prelude.{Option, Some, None, IfSome, slice_get, flat_map, nat_lt, ◌==◌}
use Rattle.std.specs.Option.{option_map}
use Rattle.std.specs.List.{range_with_len}
use Rattle.std.proofs.lemmas.Option.{slice_get-map}
use Rattle.std.proofs.lemmas.List.{append_assoc, map-append, map-id, flat_map_more}
use Rattle.std.proofs.lemmas.List.FromFn.{map-range_with_len_more}
use Rattle.std.proofs.lemmas.Iterator.Adapters.{option_map_id}
use Rattle.std.proofs.lemmas.Bool.{false≢true, eqb-true}
use Rattle.std.proofs.lemmas.Bool.Decides.{nat_tests}
use Rattle.wx_id.proofs.ByContextLemmas.{other_is}
use Rattle.wx_id.proofs.ListLemmas.{set_here, set_there, read_alike}
use Rattle.wx_id.specs.declared.numbers.ContextNo.{ContextNo}
use Rattle.wx_id.specs.declared.numbers.EntryNo.{EntryNo}
use Rattle.wx_id.specs.declared.events.Event.{Event}
use Rattle.wx_id.specs.declared.events.EventKind.{EventKind}
use Rattle.wx_tables.specs.Ending.{heard, EachQueue}
use Rattle.wx_tables.specs.State.{in_entry}

-- a range with one more number
range_more : (n : ℕ) → range_with_len 0 (n + 1) ≡ range_with_len 0 n ++ n ∷ []
range_more n =
    sym (map-id (range_with_len 0 (n + 1)))
    ∙ map-range_with_len_more (λ (x : ℕ). x) 0 n n (zero-add n)
    ∙ ap (λ l. l ++ n ∷ []) (map-id (range_with_len 0 n))

over : (j from : ℕ) → nat_lt j from ≡ false → from ≤ j
over j from t = grind (arith, nat_tests)

module _ {B : Type 0} (concerned : Option B → Bool) (left : B → B) where
  -- the list as far as the leave has come
  abbrev pub LeftBelow : ℕ → List B → List B → Type 0
  LeftBelow from start xs = (j : ℕ) → slice_get xs j ≡ option_map (λ x. cond (nat_lt j from) (cond (concerned (Some x)) (left x) x) x) (slice_get start j)

  -- between these numbers none concerns it
  abbrev pub NoneBetween : ℕ → ℕ → List B → Type 0
  NoneBetween from k xs = (j : ℕ) → from ≤ j → j < k → concerned (slice_get xs j) ≡ false

  unseen : (from : ℕ) (start xs : List B) → LeftBelow from start xs → (j : ℕ) → from ≤ j → slice_get xs j ≡ slice_get start j
  unseen from start xs so_far j h = so_far j ∙ rw (past j from h) (option_map_id (slice_get start j))
    where
      past : (j from : ℕ) → from ≤ j → nat_lt j from ≡ false
      past j from h = grind (arith, nat_tests)

  stays : (o : Option B) → concerned o ≡ false → option_map (λ x. cond (concerned (Some x)) (left x) x) o ≡ o
  stays None h = refl
  stays (Some x) h = rw h refl

  -- one more is left
  pub left_more : concerned None ≡ false → (from k : ℕ) (start xs xs' : List B) → LeftBelow from start xs → from ≤ k → concerned (slice_get xs k) ≡ true → NoneBetween from k xs → IfSome (slice_get xs k) (λ x. xs' ≡ set xs k (left x)) → LeftBelow (k + 1) start xs'
  left_more absent from k start xs xs' so_far low live none made = by (slice_get xs k) refl live made
    where
      by : (o : Option B) → slice_get xs k ≡ o → concerned o ≡ true → IfSome o (λ x. xs' ≡ set xs k (left x)) → LeftBelow (k + 1) start xs'
      by None at live made = absurd (false≢true (sym absent ∙ live))
      by (Some x) at live made = λ j. ap (λ l. slice_get l j) made ∙ here j (k == j) refl
        where
          up : (k j : ℕ) → (k == j) ≡ true → nat_lt j (k + 1) ≡ true
          up k j h = grind (arith, nat_tests)

          more : (j from k : ℕ) → from ≤ k → nat_lt j from ≡ true → nat_lt j (k + 1) ≡ true
          more j from k h t = grind (arith, nat_tests)

          under : (j k : ℕ) → (k == j) ≡ false → nat_lt j (k + 1) ≡ true → j < k
          under j k s t = grind (arith, nat_tests)

          rest : (j : ℕ) → (k == j) ≡ false → (a : Bool) → nat_lt j from ≡ a → (b : Bool) → nat_lt j (k + 1) ≡ b → option_map (λ p. cond (nat_lt j from) (cond (concerned (Some p)) (left p) p) p) (slice_get start j) ≡ option_map (λ p. cond (nat_lt j (k + 1)) (cond (concerned (Some p)) (left p) p) p) (slice_get start j)
          rest j apart true a b e = rw (a, more j from k low a) refl
          rest j apart false a true e =
              rw (a, e) (option_map_id (slice_get start j) ∙ sym (stays (slice_get start j) (ap concerned (sym (unseen from start xs so_far j (over j from a))) ∙ none j (over j from a) (under j k apart e))))
          rest j apart false a false e = rw (a, e) refl

          here : (j : ℕ) (s : Bool) → (k == j) ≡ s → slice_get (set xs k (left x)) j ≡ option_map (λ p. cond (nat_lt j (k + 1)) (cond (concerned (Some p)) (left p) p) p) (slice_get start j)
          here j true same =
              let e : k ≡ j = eqb-true k j same in
              let was : slice_get start k ≡ Some x = sym (unseen from start xs so_far k low) ∙ at in
              rw (up k j same) (rw (← e) (set_here xs k (left x) x at ∙ sym (rw was (ap (λ b. Some (cond b (left x) x)) live))))
          here j false apart = set_there xs k j (left x) (other_is k j apart) ∙ so_far j ∙ rest j apart (nat_lt j from) refl (nat_lt j (k + 1)) refl

  -- where none is left over, all are left
  pub left_all : (from : ℕ) (start xs : List B) → LeftBelow from start xs → ((j : ℕ) → from ≤ j → concerned (slice_get xs j) ≡ false) → xs ≡ map (λ x. cond (concerned (Some x)) (left x) x) start
  left_all from start xs so_far none = read_alike xs (map (λ x. cond (concerned (Some x)) (left x) x) start) (λ j. so_far j ∙ by j (nat_lt j from) refl ∙ sym (slice_get-map (λ x. cond (concerned (Some x)) (left x) x) start j))
    where
      by : (j : ℕ) (a : Bool) → nat_lt j from ≡ a → option_map (λ p. cond (nat_lt j from) (cond (concerned (Some p)) (left p) p) p) (slice_get start j) ≡ option_map (λ p. cond (concerned (Some p)) (left p) p) (slice_get start j)
      by j true a = rw a refl
      by j false a = rw a (option_map_id (slice_get start j) ∙ sym (stays (slice_get start j) (ap concerned (sym (unseen from start xs so_far j (over j from a))) ∙ none j (over j from a))))

  -- what concerns it is within the list
  pub live_within : concerned None ≡ false → (from k : ℕ) (start xs : List B) → LeftBelow from start xs → concerned (slice_get xs k) ≡ true → k < length start
  live_within absent from k start xs so_far live = within start k (λ h. false≢true (sym absent ∙ sym (ap concerned (so_far k ∙ ap (option_map (λ p. cond (nat_lt k from) (cond (concerned (Some p)) (left p) p) p)) h)) ∙ live))
    where
      within : (xs : List B) (k : ℕ) → (slice_get xs k ≡ None → ⊥) → k < length xs
      within [] k h = absurd (h refl)
      within (x ∷ xs) zero h = omega arith
      within (x ∷ xs) (suc k) h = let r : k < length xs = within xs k h in omega (arith, r)

  module _ (hears : Option B → ContextNo → Bool) (kind : ℕ → EventKind) where
    abbrev one_told : List B → ContextNo → ℕ → List EventKind
    one_told xs d k = cond (hears (slice_get xs k) d) (kind k ∷ []) []

    abbrev all_told : List B → ContextNo → ℕ → List EventKind
    all_told xs d below = flat_map (one_told xs d) (range_with_len 0 below)

    -- what waits once those below that number are left
    abbrev pub told_below : List B → EntryNo → ℕ → ContextNo → List Event → List Event
    told_below xs n below d queue = queue ++ map (in_entry n) (all_told xs d below)

    told_step : (xs : List B) (d : ContextNo) (k : ℕ) → all_told xs d (k + 1) ≡ all_told xs d k ++ one_told xs d k
    told_step xs d k = ap (flat_map (one_told xs d)) (range_more k) ∙ sym (flat_map_more (one_told xs d) [] (range_with_len 0 k) k)

    told_skip : ((o : Option B) (d : ContextNo) → concerned o ≡ false → hears o d ≡ false) → (xs : List B) (d : ContextNo) (from n : ℕ) → NoneBetween from (from + n) xs → all_told xs d (from + n) ≡ all_told xs d from
    told_skip silent xs d from zero none = ap (all_told xs d) (plus from)
      where
        plus : (n : ℕ) → n + 0 ≡ n
        plus n = omega arith
    told_skip silent xs d from (suc n) none =
        ap (all_told xs d) (plus from n)
        ∙ told_step xs d (from + n)
        ∙ ap (λ b. all_told xs d (from + n) ++ cond b (kind (from + n) ∷ []) []) (silent (slice_get xs (from + n)) d (none (from + n) (omega arith) (omega arith)))
        ∙ append-nil (all_told xs d (from + n))
        ∙ told_skip silent xs d from n (λ j low high. none j low (omega (arith, high)))
      where
        plus : (from n : ℕ) → from + suc n ≡ (from + n) + 1
        plus from n = omega arith

    told_between : ((o : Option B) (d : ContextNo) → concerned o ≡ false → hears o d ≡ false) → (xs : List B) (d : ContextNo) (from k : ℕ) → from ≤ k → NoneBetween from k xs → all_told xs d k ≡ all_told xs d from
    told_between silent xs d from k low none =
        let n : ℕ = k - from in
        let e : k ≡ from + n = omega (arith, low) in
        ap (all_told xs d) e ∙ told_skip silent xs d from n (subst (λ (m : ℕ). NoneBetween from m xs) e none)

    -- at first nothing is told
    -- what is told of one more
    pub told_more : concerned None ≡ false → ((o : Option B) (d : ContextNo) → concerned o ≡ false → hears o d ≡ false) → (tells : B → ContextNo → Bool) → ((x : B) (d : ContextNo) → concerned (Some x) ≡ true → hears (Some x) d ≡ tells x d) → (start xs : List B) (n : EntryNo) (from k : ℕ) (old mid new : List (List Event)) → LeftBelow from start xs → from ≤ k → concerned (slice_get xs k) ≡ true → NoneBetween from k xs → EachQueue (told_below start n from) old mid → IfSome (slice_get xs k) (λ x. EachQueue (λ d queue. heard (tells x d) (in_entry n (kind k)) queue) mid new) → EachQueue (told_below start n (k + 1)) old new
    told_more absent silent tells agree start xs n from k old mid new so_far low live none before after = by (slice_get xs k) refl live after
      where
        between : NoneBetween from k start
        between j l h = ap concerned (sym (unseen from start xs so_far j l)) ∙ none j l h

        by : (o : Option B) → slice_get xs k ≡ o → concerned o ≡ true → IfSome o (λ x. EachQueue (λ d queue. heard (tells x d) (in_entry n (kind k)) queue) mid new) → EachQueue (told_below start n (k + 1)) old new
        by None at live after = absurd (false≢true (sym absent ∙ live))
        by (Some x) at live after = λ d. after d ∙ ap (option_map (λ queue. heard (tells x d) (in_entry n (kind k)) queue)) (before d) ∙ at_queue d (slice_get old d.0)
          where
            was : slice_get start k ≡ Some x
            was = sym (unseen from start xs so_far k low) ∙ at

            told : (d : ContextNo) → map (in_entry n) (one_told start d k) ≡ cond (tells x d) (in_entry n (kind k) ∷ []) []
            told d = ap (λ o. map (in_entry n) (cond (hears o d) (kind k ∷ []) [])) was ∙ ap (λ b. map (in_entry n) (cond b (kind k ∷ []) [])) (agree x d live) ∙ one (tells x d)
              where
                one : (a : Bool) → map (in_entry n) (cond a (kind k ∷ []) []) ≡ cond a (in_entry n (kind k) ∷ []) []
                one true = refl
                one false = refl

            at_queue : (d : ContextNo) (o : Option (List Event)) → option_map (λ queue. heard (tells x d) (in_entry n (kind k)) queue) (option_map (told_below start n from d) o) ≡ option_map (told_below start n (k + 1) d) o
            at_queue d None = refl
            at_queue d (Some q) = ap Some (
                append_assoc q (map (in_entry n) (all_told start d from)) (cond (tells x d) (in_entry n (kind k) ∷ []) [])
                ∙ ap (λ l. q ++ l) (ap (λ l. map (in_entry n) (all_told start d from) ++ l) (sym (told d))
                ∙ sym (map-append (in_entry n) (all_told start d from) (one_told start d k))
                ∙ ap (map (in_entry n)) (ap (λ l. l ++ one_told start d k) (sym (told_between silent start d from k low between)) ∙ sym (told_step start d k))))

    -- what is told of all
    pub told_all : ((o : Option B) (d : ContextNo) → concerned o ≡ false → hears o d ≡ false) → (start xs : List B) (n : EntryNo) (from : ℕ) (old new : List (List Event)) → LeftBelow from start xs → from ≤ length start → ((j : ℕ) → from ≤ j → concerned (slice_get xs j) ≡ false) → EachQueue (told_below start n from) old new → EachQueue (told_below start n (length start)) old new
    told_all silent start xs n from old new so_far low none before d =
        before d ∙ ap (λ l. option_map (λ queue. queue ++ map (in_entry n) l) (slice_get old d.0)) (sym (told_between silent start d from (length start) low (λ j l h. ap concerned (sym (unseen from start xs so_far j l)) ∙ none j l)))
