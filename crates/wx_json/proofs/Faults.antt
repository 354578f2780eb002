-- What the automaton's places and failures say of the bytes so far.
use Rattle.std.proofs.Common.{◌≡◌, ℕ, ◌+◌, ◌<◌, ◌≤◌, List, [], ◌∷◌, ◌++◌, length, take, Bool, true, false, refl, ap, ◌∙◌, sym, subst, arith, lit<, inl, inr, append_assoc, length-append, append-nil}
use Rattle.std.proofs.lemmas.Bool.{cases_lt}
use Rattle.std.proofs.lemmas.List.{take-append-le}
use Rattle.std.proofs.Math.Seq.{take-append_seam, take-append-add}
use Rattle.wx_json.specs.Json.{IsJson}
use Rattle.wx_json.specs.Utf8.{IsUtf8Text, no_char}
use Rattle.wx_json.specs.Text.{IsJsonText, IsPrefixOfJson, IsPrefixOfUtf8, IsPrefixOfDeeper, IsOfKind, IsFault}
use Rattle.wx_json.specs.Coding.{code, codes}
use Rattle.wx_json.specs.Coding.{Coding}
use Rattle.wx_json.specs.Coding.{whole, wants, broken}
use Rattle.wx_json.specs.Machine.{State, dead, at, next, step, run, start}
use Rattle.wx_json.specs.Mode.{Mode}
use Rattle.wx_json.specs.declared.JsonKind.{JsonKind}
use Rattle.wx_json.specs.declared.JsonKind.TheVariants.{Syntax, Utf8, TooDeep}
use Rattle.wx_json.specs.declared.JsonFault.{JsonFault}
use Rattle.wx_json.specs.Check.{Progress, running, failed, moved, coded, advance, advances, beginning}
use Rattle.wx_json.proofs.Bounded.{IsJsonWithin, IsJsonWithin-exact, exact-IsJsonWithin}
use Rattle.wx_json.proofs.Waits.{In, within}
use Rattle.wx_json.proofs.Back.{out}
use Rattle.wx_json.proofs.Whole.{In-run_back, In-run_forth}
use Rattle.wx_json.proofs.Bytes.{Coded, at_char, Coded-codes_back, Coded-codes_forth}
use Rattle.wx_json.proofs.Deeper.{Deeper, deeper, opened, failed as failed_deeper, next_deeper, run_deeper}
use Rattle.wx_json.proofs.Together.{Linked, linked_whole, linked_text, LinkedState, some_whole, some_broken, some_text, linked-step, common, Valid, code-Valid, Coded-fill, fill}

-- a text of the grammar, from the automata
text_of : (n : ℕ) (b t : List ℕ) (u : Coding) (s : State) → codes whole b ≡ u → run (start n) b ≡ s → Coded u t → In s t → IsUtf8Text (b ++ t) × IsJsonWithin n (b ++ t)
text_of n b t u s p q c i = (utf8_of (Coded-codes_back b t whole (rw p c)), out (In-run_back b t (start n) (rw q i)))
  where
    utf8_of : Coded whole (b ++ t) → IsUtf8Text (b ++ t)
    utf8_of (at_char h) = h

json_text_of : (b t : List ℕ) (u : Coding) (s : State) → codes whole b ≡ u → run (start 1024) b ≡ s → Coded u t → In s t → IsJsonText (b ++ t)
json_text_of b t u s p q c i =
    let x = text_of 1024 b t u s p q c i in
    let y = exact-IsJsonWithin 1024 (b ++ t) x.1 in
    record { utf8 = x.0; depth = y.0; json = y.2; within = y.1 }

-- and back
from_text : (b t : List ℕ) (n d : ℕ) → IsUtf8Text (b ++ t) → IsJson (b ++ t) d → d ≤ n → Coded (codes whole b) t × In (run (start n) b) t
from_text b t n d u j h = (Coded-codes_forth b t whole (at_char u), In-run_forth b t (start n) (within (IsJsonWithin-exact n d (b ++ t) j h)))

pub running-prefix : (b : List ℕ) (u : Coding) (m : Mode) (n : ℕ) (σ : List Bool) → codes whole b ≡ u → run (start 1024) b ≡ at m n σ → Linked u m → IsPrefixOfJson b
running-prefix b u m n σ p q l = let x = common l n σ in (x.0, json_text_of b x.0 u (at m n σ) p q x.1 x.2)

codes-snoc : (s : Coding) (b : List ℕ) (c : ℕ) → codes s (b ++ c ∷ []) ≡ code (codes s b) c
codes-snoc s [] c = refl
codes-snoc s (a ∷ b) c = codes-snoc (code s a) b c

run-snoc : (s : State) (b : List ℕ) (c : ℕ) → run s (b ++ c ∷ []) ≡ step (run s b) c
run-snoc s [] c = refl
run-snoc s (a ∷ b) c = run-snoc (step s a) b c

-- after these bytes, and then one more
module _ (b : List ℕ) (c : ℕ) where
  no_prefix_dead : (d : Bool) → run (start 1024) (b ++ c ∷ []) ≡ dead d → ¬ IsPrefixOfJson (b ++ c ∷ [])
  no_prefix_dead d p (t, j) = none (rw p at (from_text (b ++ c ∷ []) t 1024 j.depth j.utf8 j.json j.within).1)
    where
      none : In (dead d) t → ⊥
      none h = elim h [ ]

  no_prefix_broken : codes whole (b ++ c ∷ []) ≡ broken → ¬ IsPrefixOfUtf8 (b ++ c ∷ [])
  no_prefix_broken p (t, u) = none (rw p at (Coded-codes_forth (b ++ c ∷ []) t whole (at_char u)))
    where
      none : Coded broken t → ⊥
      none h = elim h [ ]

  fault_here : (k : JsonKind) → IsPrefixOfJson b → ¬ IsPrefixOfJson (b ++ c ∷ []) → IsOfKind k (b ++ c ∷ []) → IsFault (b ++ c ∷ []) (record { place = length b; kind = k })
  fault_here k p q o = record {
    inside = omega (arith, length-append b (c ∷ []));
    before = rw front p;
    faulty = rw all q;
    kind = rw all o;
  }
    where
      front : take (length b) (b ++ c ∷ []) ≡ b
      front = take-append_seam b (c ∷ [])

      all : take (length b + 1) (b ++ c ∷ []) ≡ b ++ c ∷ []
      all = take-append-add b (c ∷ []) 1

  -- the kinds of a fault at this byte, which the UTF-8 automaton takes
  module _ (n : ℕ) (m : Mode) (σ : List Bool) (ran : run (start 1024) b ≡ at m n σ) where
    is_utf8 : (x : Coding) → Valid x → codes whole (b ++ c ∷ []) ≡ x → (x ≡ broken → ⊥) → IsPrefixOfUtf8 (b ++ c ∷ [])
    is_utf8 x v p nb = (fill x ++ [], utf8_of (Coded-codes_back (b ++ c ∷ []) (fill x ++ []) whole (rw p (Coded-fill v [] no_char nb))))
      where
        utf8_of : Coded whole ((b ++ c ∷ []) ++ (fill x ++ [])) → IsUtf8Text ((b ++ c ∷ []) ++ (fill x ++ []))
        utf8_of (at_char h) = h

    -- with room for more
    deeper_run : (k : ℕ) → 1024 < k → (r : ℕ) × (n < r) × (run (start k) (b ++ c ∷ []) ≡ next m r σ c)
    deeper_run k h =
        let x = run_deeper b (start 1024) (start k) (deeper h) m n σ ran in
        (x.0, x.1, run-snoc (start k) b c ∙ ap (λ s. step s c) x.2)

    not_deeper : next m n σ c ≡ dead false → ¬ IsPrefixOfDeeper (b ++ c ∷ [])
    not_deeper p (t, d, u, j, lt) =
        let r = deeper_run d lt in
        none (next m r.0 σ c) (rw p at (next_deeper n r.0 r.1 σ c m)) (rw r.2 at (from_text (b ++ c ∷ []) t d d u j (omega arith)).1)
      where
        none : (s : State) → Deeper (dead false) s → In s t → ⊥
        none (dead false) failed_deeper h = elim h [ ]
        none (dead true) x h = elim x [ ]
        none (at _ _ _) x h = elim x [ ]

    is_deeper : next m n σ c ≡ dead true → codes whole (b ++ c ∷ []) ≡ whole → ¬ IsPrefixOfJson (b ++ c ∷ []) → IsPrefixOfDeeper (b ++ c ∷ [])
    is_deeper p w no_prefix =
        let r = deeper_run 1025 (lit< tt) in
        made (next m r.0 σ c) (rw p at (next_deeper n r.0 r.1 σ c m)) r.2
      where
        made : (s : State) → Deeper (dead true) s → run (start 1025) (b ++ c ∷ []) ≡ s → IsPrefixOfDeeper (b ++ c ∷ [])
        made (dead _) x e = elim x [ ]
        made (at m2 k2 τ) opened e =
            let x = common (linked_whole {m = m2}) k2 τ in
            let y = text_of 1025 (b ++ c ∷ []) x.0 whole (at m2 k2 τ) w e x.1 x.2 in
            let z = exact-IsJsonWithin 1025 ((b ++ c ∷ []) ++ x.0) y.1 in
            (x.0, z.0, y.0, z.2, elim (cases_lt 1024 z.0) [ inl h ↦ h | inr h ↦ absurd (no_prefix (x.0, record { utf8 = y.0; depth = z.0; json = z.2; within = h })) ])

-- what a check knows of its bytes
pub data Good (b : List ℕ) : Progress → Type 0 where
  good_running : {k n : ℕ} {u : Coding} {m : Mode} {σ : List Bool} → k ≡ length b → codes whole b ≡ u → run (start 1024) b ≡ at m n σ → Linked u m → Good b (running k u m n σ)
  good_failed : {f : JsonFault} → IsFault b f → Good b (failed f)

to_linked : {x : Coding} {m : Mode} {n : ℕ} {σ : List Bool} → LinkedState x (at m n σ) → (x ≡ broken → ⊥) → Linked x m
to_linked some_whole nb = linked_whole
to_linked some_broken nb = absurd (nb refl)
to_linked (some_text a b) nb = linked_text a b

fault-grows : (b t : List ℕ) (f : JsonFault) → IsFault b f → IsFault (b ++ t) f
fault-grows b t f h = record {
  inside = omega (arith, h.inside, length-append b t);
  before = rw (take-append-le f.place b t (omega (arith, h.inside))) h.before;
  faulty = rw (take-append-le (f.place + 1) b t (omega (arith, h.inside))) h.faulty;
  kind = rw (take-append-le (f.place + 1) b t (omega (arith, h.inside))) h.kind;
}

module _ (b : List ℕ) (c : ℕ) (u : Coding) (m : Mode) (n : ℕ) (σ : List Bool) (p : codes whole b ≡ u) (q : run (start 1024) b ≡ at m n σ) (l : Linked u m) where
  coded_at : (x : Coding) → code u c ≡ x → codes whole (b ++ c ∷ []) ≡ x
  coded_at x e = codes-snoc whole b c ∙ ap (λ s. code s c) p ∙ e

  ran_at : (s : State) → next m n σ c ≡ s → run (start 1024) (b ++ c ∷ []) ≡ s
  ran_at s e = run-snoc (start 1024) b c ∙ ap (λ s. step s c) q ∙ e

  prefix : IsPrefixOfJson b
  prefix = running-prefix b u m n σ p q l

  good-moved : (x : Coding) (s : State) → code u c ≡ x → next m n σ c ≡ s → LinkedState x s → Valid x → (x ≡ broken → ⊥) → Good (b ++ c ∷ []) (moved (length b) x s)
  good-moved x (dead true) e f (some_whole) v nb =
      let none = no_prefix_dead b c true (ran_at _ f) in
      good_failed (fault_here b c TooDeep prefix none (is_utf8 b c n m σ q whole v (coded_at _ e) nb, is_deeper b c n m σ q f (coded_at _ e) none))
  good-moved x (dead true) e f (some_broken) v nb = absurd (nb refl)
  good-moved x (dead false) e f h v nb =
      good_failed (fault_here b c Syntax prefix (no_prefix_dead b c false (ran_at _ f)) (is_utf8 b c n m σ q x v (coded_at _ e) nb, not_deeper b c n m σ q f))
  good-moved x (at m2 n2 τ) e f h v nb = good_running (omega (arith, length-append b (c ∷ []))) (coded_at _ e) (ran_at _ f) (to_linked h nb)

  good-coded : (x : Coding) (s : State) → code u c ≡ x → next m n σ c ≡ s → LinkedState x s → Valid x → Good (b ++ c ∷ []) (coded (length b) x s)
  good-coded whole s e f h v = good-moved whole s e f h v (λ e. cc)
  good-coded (wants low high i) s e f h v = good-moved (wants low high i) s e f h v (λ e. cc)
  good-coded broken s e f h v =
      let none = no_prefix_broken b c (coded_at _ e) in
      good_failed (fault_here b c Utf8 prefix (λ (t, j). none (t, j.utf8)) none)

pub good-advance : (b : List ℕ) (c : ℕ) (p : Progress) → Good b p → Good (b ++ c ∷ []) (advance p c)
good-advance b c (failed f) (good_failed h) = good_failed (fault-grows b (c ∷ []) f h)
good-advance b c (running k u m n σ) (good_running e p q l) =
    let P : ℕ → Type 0 = λ k. Good (b ++ c ∷ []) (coded k (code u c) (next m n σ c)) in
    subst P (sym e) (good-coded b c u m n σ p q l (code u c) (next m n σ c) refl refl (linked-step c l n σ) (code-Valid u c))

pub good-advances : (b t : List ℕ) (p : Progress) → Good b p → Good (b ++ t) (advances p t)
good-advances b [] p h = rw append-nil h
good-advances b (c ∷ t) p h = rw append_assoc at (good-advances (b ++ c ∷ []) t (advance p c) (good-advance b c p h))

pub good-beginning : Good [] beginning
good-beginning = good_running refl refl refl linked_whole
