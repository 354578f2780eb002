-- What a check that stands for bytes says of them.
use Rattle.std.proofs.Common.{◌≡◌, ℕ, ◌+◌, ◌<◌, ◌≤◌, List, [], ◌∷◌, ◌++◌, length, take, Bool, true, false, refl, ap, ◌∙◌, sym, subst, arith, append-nil, get_or, drop, take-add, ◌-◌}
use Rattle.std.proofs.lemmas.List.{take_more}
use Rattle.std.specs.Prelude.{Result, Ok, Err, MatchResult, Option, None}
use Rattle.wx_json.specs.View.{unless_failed}
use Rattle.wx_json.specs.Utf8.{IsUtf8Text, no_char}
use Rattle.wx_json.specs.Text.{IsJsonText, IsPrefixOfJson, IsFault, IsUnfinished, IsOfKind, IsFaultOrEnd, IsEndFault}
use Rattle.wx_json.specs.Coding.{code}
use Rattle.wx_json.specs.Coding.{Coding}
use Rattle.wx_json.specs.Coding.{whole, wants, broken}
use Rattle.wx_json.specs.Machine.{State, dead, at, next, accepts_at, accepts}
use Rattle.wx_json.specs.Mode.{Mode}
use Rattle.wx_json.specs.declared.JsonFault.{JsonFault}
use Rattle.wx_json.specs.declared.JsonKind.{JsonKind}
use Rattle.wx_json.specs.declared.JsonKind.TheVariants.{Syntax, Utf8, TooDeep, Ends}
use Rattle.wx_json.specs.Check.{Progress, running, failed, moved, coded, advance, advances, beginning, taken, Stands, IsRunning}
use Rattle.wx_json.proofs.Bounded.{IsJsonWithin-exact, exact-IsJsonWithin}
use Rattle.wx_json.proofs.Whole.{accepts-IsJson, IsJson-accepts}
use Rattle.wx_json.proofs.Bytes.{Coded, at_char, Coded-codes_back}
use Rattle.wx_json.proofs.Together.{Linked, linked_text}
use Rattle.wx_json.proofs.Faults.{Good, good_running, good_failed, good-advances, good-beginning, running-prefix}

advances-append : (p : Progress) (b t : List ℕ) → advances p (b ++ t) ≡ advances (advances p b) t
advances-append p [] t = refl
advances-append p (c ∷ b) t = advances-append (advance p c) b t

pub Stands-beginning : Stands beginning []
unfolding Stands
Stands-beginning = refl

pub Stands-advances : (p : Progress) (b t : List ℕ) → Stands p b → Stands (advances p t) (b ++ t)
unfolding Stands
Stands-advances p b t h = ap (λ p. advances p t) h ∙ sym (advances-append beginning b t)

pub Stands-Good : (p : Progress) (b : List ℕ) → Stands p b → Good b p
unfolding Stands
Stands-Good p b h = rw h (good-advances [] b beginning good-beginning)

pub running-IsPrefixOfJson : (b : List ℕ) (k n : ℕ) (u : Coding) (m : Mode) (σ : List Bool) → Stands (running k u m n σ) b → IsPrefixOfJson b
running-IsPrefixOfJson b k n u m σ h = from (Stands-Good _ b h)
  where
    from : Good b (running k u m n σ) → IsPrefixOfJson b
    from (good_running e p q l) = running-prefix b u m n σ p q l

pub failed-IsFault : (b : List ℕ) (f : JsonFault) → Stands (failed f) b → IsFault b f
failed-IsFault b f h = from (Stands-Good _ b h)
  where
    from : Good b (failed f) → IsFault b f
    from (good_failed h) = h

accepts-whole : (u : Coding) (m : Mode) (σ : List Bool) → Linked u m → accepts_at m σ ≡ true → u ≡ whole
accepts-whole whole m σ l a = refl
accepts-whole u m [] (linked_text p q) a = cc
accepts-whole u m (k ∷ σ) (linked_text p q) a = cc

pub accepts-IsJsonText : (b : List ℕ) (k n : ℕ) (u : Coding) (m : Mode) (σ : List Bool) → Stands (running k u m n σ) b → accepts_at m σ ≡ true → IsJsonText b
accepts-IsJsonText b k n u m σ h a = from (Stands-Good _ b h)
  where
    from : Good b (running k u m n σ) → IsJsonText b
    from (good_running e p q l) =
        let x = exact-IsJsonWithin 1024 b (IsJson-accepts 1024 b (ap accepts q ∙ a)) in
        record { utf8 = utf8_of (rw append-nil at (Coded-codes_back b [] whole (rw (p ∙ accepts-whole u m σ l a) (at_char no_char)))); depth = x.0; json = x.2; within = x.1 }
      where
        utf8_of : Coded whole b → IsUtf8Text b
        utf8_of (at_char h) = h

pub IsJsonText-accepts : (b : List ℕ) (k n : ℕ) (u : Coding) (m : Mode) (σ : List Bool) → Stands (running k u m n σ) b → IsJsonText b → accepts_at m σ ≡ true
IsJsonText-accepts b k n u m σ h j = from (Stands-Good _ b h)
  where
    from : Good b (running k u m n σ) → accepts_at m σ ≡ true
    from (good_running e p q l) = sym (ap accepts q) ∙ accepts-IsJson 1024 b (IsJsonWithin-exact 1024 j.depth b j.json j.within)

pub running-length : (b : List ℕ) (k n : ℕ) (u : Coding) (m : Mode) (σ : List Bool) → Stands (running k u m n σ) b → k ≡ length b
running-length b k n u m σ h = from (Stands-Good _ b h)
  where
    from : Good b (running k u m n σ) → k ≡ length b
    from (good_running e p q l) = e

pub taken-at_most : (b : List ℕ) (p : Progress) → Stands p b → taken p ≤ length b
taken-at_most b p h = from p (Stands-Good p b h)
  where
    from : (p : Progress) → Good b p → taken p ≤ length b
    from (running k u m n σ) (good_running e p q l) = omega arith
    from (failed f) (good_failed h) = omega (arith, h.inside)

pub IsRunning-IsPrefixOfJson : (b : List ℕ) (p : Progress) → Stands p b → IsRunning p → IsPrefixOfJson b
IsRunning-IsPrefixOfJson b (running k u m n σ) h r = running-IsPrefixOfJson b k n u m σ h
IsRunning-IsPrefixOfJson b (failed f) h r = absurd r

fault_or_end : (b : List ℕ) (f : JsonFault) (k : JsonKind) → k ≡ f.kind → IsFault b f → IsFaultOrEnd k b f
fault_or_end b f Syntax e h = h
fault_or_end b f Utf8 e h = h
fault_or_end b f TooDeep e h = h
fault_or_end b f Ends e h = let P : JsonKind → Type 0 = λ k. IsOfKind k (take (f.place + 1) b) in absurd (subst P (sym e) h.kind)

pub failed-IsEndFault : (b : List ℕ) (f : JsonFault) → Stands (failed f) b → IsEndFault b f
failed-IsEndFault b f h = fault_or_end b f f.kind refl (failed-IsFault b f h)

pub unfinished : (b : List ℕ) (k n : ℕ) (u : Coding) (m : Mode) (σ : List Bool) → Stands (running k u m n σ) b → accepts_at m σ ≡ false → IsUnfinished b (record { place = k; kind = Ends })
unfinished b k n u m σ h a = record {
  kind = refl;
  place = running-length b k n u m σ h;
  before = running-IsPrefixOfJson b k n u m σ h;
  faulty = λ j. let t = IsJsonText-accepts b k n u m σ h j in cc;
}

pub advances-snoc : (p : Progress) (b : List ℕ) (c : ℕ) → advances p (b ++ c ∷ []) ≡ advance (advances p b) c
advances-snoc p b c = advances-append p b (c ∷ [])

pub taken-advance : (p : Progress) (c : ℕ) → taken (advance p c) ≤ taken p + 1
taken-advance (failed f) c = omega arith
taken-advance (running k u m n σ) c = of_code (code u c) (next m n σ c)
  where
    of_state : (x : Coding) (s : State) → taken (moved k x s) ≤ k + 1
    of_state x (dead true) = omega arith
    of_state x (dead false) = omega arith
    of_state x (at m n σ) = omega arith

    of_code : (x : Coding) (s : State) → taken (coded k x s) ≤ k + 1
    of_code whole s = of_state whole s
    of_code (wants low high i) s = of_state (wants low high i) s
    of_code broken s = omega arith

-- what a byte adds to a run
pub run-more : (old now new : Progress) (piece : List ℕ) (i : ℕ) → i < length piece → now ≡ advances old (take i piece) → new ≡ advance now (get_or piece i 0) → new ≡ advances old (take (i + 1) piece)
run-more old now new piece i h e f = f ∙ ap (λ p. advance p (get_or piece i 0)) e ∙ sym (advances-snoc old (take i piece) (get_or piece i 0)) ∙ ap (advances old) (sym (take_more piece i 0 h))

pub step_answer : (old new : Progress) (b t : List ℕ) (r : Result (Unit {0}) JsonFault) → Stands old b → new ≡ advances old t
    → MatchResult r (λ _. IsRunning new) (λ f. new ≡ failed f) → MatchResult r (λ _. IsPrefixOfJson (b ++ t)) (IsFault (b ++ t))
step_answer old new b t (Ok x) h e a = IsRunning-IsPrefixOfJson (b ++ t) new (let P : Progress → Type 0 = λ p. Stands p (b ++ t) in subst P (sym e) (Stands-advances old b t h)) a
step_answer old new b t (Err f) h e a = failed-IsFault (b ++ t) f (let P : Progress → Type 0 = λ p. Stands p (b ++ t) in subst P (sym e ∙ a) (Stands-advances old b t h))

-- a check with no fault
pub opened : (f : Option JsonFault) (p old : Progress) (b : List ℕ) → f ≡ None → unless_failed f p ≡ old → Stands old b → Stands p b
opened f p old b e v h = let P : Progress → Type 0 = λ p. Stands p b in subst P (sym (sym (ap (λ f. unless_failed f p) e) ∙ v)) h

-- what a part of the piece adds to a run
pub run-joined : (old now new : Progress) (piece : List ℕ) (i e : ℕ) → i ≤ e → now ≡ advances old (take i piece) → new ≡ advances now (take (e - i) (drop i piece)) → new ≡ advances old (take e piece)
run-joined old now new piece i e le a b =
    let sum : i + (e - i) ≡ e = omega arith in
    b ∙ ap (λ p. advances p (take (e - i) (drop i piece))) a ∙ sym (advances-append old (take i piece) (take (e - i) (drop i piece))) ∙ ap (advances old) (sym (take-add i (e - i) piece) ∙ ap (λ n. take n piece) sum)
