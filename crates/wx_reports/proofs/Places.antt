-- What the first entry that passes a test tells, asked again by its number.
use Rattle.std.proofs.Common.{◌≡◌, ℕ, ◌<◌, List, [], ◌∷◌, length, refl, ap, sym, subst, ◌∙◌, Bool, true, false, cond, not, arith}
use Rattle.std.specs.Prelude.{Option, Some, None, ◌&&◌, is_some, ◌==◌, IfSome}
use Rattle.std.specs.Option.{option_or, option_map}
use Rattle.std.proofs.lemmas.Option.{same_Some, none-some}
use Rattle.std.proofs.lemmas.Bool.{and_parts}
use Rattle.wx_laws.proofs.Numbers.{eqb_refl, eqb_above}
use Rattle.wx_id.specs.declared.numbers.EntryNo.{EntryNo}
use Rattle.wx_machine.specs.declared.entries.Entry.{Entry}
use Rattle.wx_machine.specs.Words.{request, ends_channel, closed_at, is_closed, closes, ends_request, is_settled, settles}
use Rattle.wx_reports.specs.declared.requests.Settled.{Settled}
use Rattle.wx_id.specs.Numbers.{entry_no}
use Rattle.wx_reports.specs.Reports.{opens_channel, opened_at, makes_request, asked_at, way, settlement}
use Rattle.wx_reports.specs.Places.{entry_at, IsOpening, IsClosing, IsAsking, IsSettlement}
use Rattle.wx_reports.proofs.ReportsLater.{is_settled_there}

-- f tells a value of the first entry that passes the test, with its number; and there is one or not
record IsFirst {X : Type 0} (f : List Entry → Option X) (test : List Entry → Entry → Bool) (value : List Entry → Entry → X) (number : X → ℕ) (there : List Entry → Bool) : Type 0 where
  none : f [] ≡ None
  more : (e : Entry) (past : List Entry) → f (e ∷ past) ≡ option_or (f past) (cond (test past e) (Some (value past e)) None)
  numbered : (e : Entry) (past : List Entry) → number (value past e) ≡ length past
  told : (past : List Entry) → is_some (f past) ≡ there past

abbrev told_by : {X : Type 0} → (List Entry → Entry → Bool) → (List Entry → Entry → X) → (List Entry → Bool) → List Entry × Entry → Bool × X
told_by test value there p = (not (there p.0) && test p.0 p.1, value p.0 p.1)

-- the entry of x is the first that passes, and x its value
abbrev Found : {X : Type 0} → (List Entry → Entry → Bool) → (List Entry → Entry → X) → (X → ℕ) → (List Entry → Bool) → List Entry → X → Type 0
Found test value number there past x = (number x < length past) × (option_map (told_by test value there) (entry_at past (number x)) ≡ Some (true, x))

abbrev here_or : List Entry → Entry → Option (List Entry × Entry) → Bool → Option (List Entry × Entry)
here_or past e o b = cond b (Some (past, e)) o

abbrev with_value : {X : Type 0} → X → Bool → Option (Bool × X)
with_value x b = Some (b, x)

found_here : {X : Type 0} (f : List Entry → Option X) (test : List Entry → Entry → Bool) (value : List Entry → Entry → X) (number : X → ℕ) (there : List Entry → Bool) → IsFirst f test value number there → (e : Entry) (past : List Entry) → f past ≡ None → test past e ≡ true → Found test value number there (e ∷ past) (value past e)
found_here f test value number there law e past was now = (
  below,
  ap (λ b. option_map (told_by test value there) (here_or past e (entry_at past (number (value past e))) b)) here ∙ ap (with_value (value past e)) first,
)
  where
    below : number (value past e) < length (e ∷ past)
    below = let n : number (value past e) ≡ length past = law.numbered e past in omega arith

    here : (length past == number (value past e)) ≡ true
    here = ap (λ n. length past == n) (law.numbered e past) ∙ eqb_refl (length past)

    first : (not (there past) && test past e) ≡ true
    first = ap (λ b. not b && test past e) (sym (law.told past) ∙ ap is_some was) ∙ now

found_step : {X : Type 0} (f : List Entry → Option X) (test : List Entry → Entry → Bool) (value : List Entry → Entry → X) (number : X → ℕ) (there : List Entry → Bool) → IsFirst f test value number there → (e : Entry) (past : List Entry) (x : X) → (f past ≡ Some x → Found test value number there past x) → (o : Option X) → f past ≡ o → (b : Bool) → test past e ≡ b → option_or o (cond b (Some (value past e)) None) ≡ Some x → Found test value number there (e ∷ past) x
found_step f test value number there law e past x rest (Some y) was b now is = later (rest (was ∙ is))
  where
    later : Found test value number there past x → Found test value number there (e ∷ past) x
    later r = (
      let h : number x < length past = r.0 in omega arith,
      ap (λ b. option_map (told_by test value there) (here_or past e (entry_at past (number x)) b)) (eqb_above (length past) (number x) r.0) ∙ r.1,
    )
found_step f test value number there law e past x rest None was true now is =
    subst (λ y. Found test value number there (e ∷ past) y) (same_Some (value past e) x is) (found_here f test value number there law e past was now)
found_step f test value number there law e past x rest None was false now is = absurd (none-some x is)

found : {X : Type 0} (f : List Entry → Option X) (test : List Entry → Entry → Bool) (value : List Entry → Entry → X) (number : X → ℕ) (there : List Entry → Bool) → IsFirst f test value number there → (past : List Entry) (x : X) → f past ≡ Some x → Found test value number there past x
found f test value number there law [] x is = absurd (none-some x (sym law.none ∙ is))
found f test value number there law (e ∷ past) x is =
    found_step f test value number there law e past x (found f test value number there law past x) (f past) refl (test past e) refl (sym (law.more e past) ∙ is)

-- what is found, asked of its entry in another way
asked_of : {P A B : Type 0} (o : Option P) (g : P → A) (h : P → B) (a : A) (b : B) → ((p : P) → g p ≡ a → h p ≡ b) → option_map g o ≡ Some a → option_map h o ≡ Some b
asked_of None g h a b so is = absurd (none-some a is)
asked_of (Some p) g h a b so is = ap Some (so p (same_Some (g p) a is))

abbrev numbered_after : List Entry → Entry → EntryNo
numbered_after past e = entry_no (length past)

abbrev number_in : EntryNo → ℕ
number_in n = n.0

abbrev verdict : {X : Type 0} → Bool × X → Bool
verdict q = q.0

-- the entry of a number that the first entry which passes has
numbered_at : (f : List Entry → Option EntryNo) (test : List Entry → Entry → Bool) → f [] ≡ None → ((e : Entry) (past : List Entry) → f (e ∷ past) ≡ option_or (f past) (cond (test past e) (Some (entry_no (length past))) None)) → (past : List Entry) (n : EntryNo) → f past ≡ Some n → option_map (λ (p : List Entry × Entry). test p.0 p.1) (entry_at past n.0) ≡ Some true
numbered_at f test none more past n is =
    asked_of (entry_at past n.0) (told_by test numbered_after (λ past. is_some (f past))) (λ (p : List Entry × Entry). test p.0 p.1) (true, n) true
    (λ p so. (and_parts (not (is_some (f p.0))) (test p.0 p.1) (ap verdict so)).1)
    ((found f test numbered_after number_in (λ past. is_some (f past)) (record { none = none; more = more; numbered = λ e past. refl; told = λ past. refl }) past n is).1)

-- a channel's opening
pub opening_at : (past : List Entry) (k : ℕ) (n : EntryNo) → opened_at past k ≡ Some n → IsOpening past k n
opening_at past k n is = numbered_at (λ past. opened_at past k) (λ past e. opens_channel past e k) refl (λ e past. refl) past n is

-- a request's making
pub asking_at : (past : List Entry) (r : ℕ) (n : EntryNo) → asked_at past r ≡ Some n → IsAsking past r n
asking_at past r n is = numbered_at (λ past. asked_at past r) (λ past e. makes_request past e r) refl (λ e past. refl) past n is

abbrev length_after : List Entry → Entry → ℕ
length_after past e = length past

abbrev itself : ℕ → ℕ
itself n = n

-- a channel's closing, where there is one
pub closing_at : (past : List Entry) (k : ℕ) → IfSome (option_map entry_no (closed_at past k)) (IsClosing past k)
closing_at past k = at (closed_at past k) refl
  where
    law : IsFirst (λ past. closed_at past k) (λ past e. ends_channel past e k) length_after itself (λ past. is_closed past k)
    law = record { none = refl; more = λ e past. refl; numbered = λ e past. refl; told = λ past. refl }

    at : (o : Option ℕ) → closed_at past k ≡ o → IfSome (option_map entry_no o) (IsClosing past k)
    at None is = tt
    at (Some n) is =
        asked_of (entry_at past n) (told_by (λ past e. ends_channel past e k) length_after (λ past. is_closed past k)) (λ (p : List Entry × Entry). closes p.0 p.1 k) (true, n) true (λ p so. ap verdict so)
        ((found (λ past. closed_at past k) (λ past e. ends_channel past e k) length_after itself (λ past. is_closed past k) law past n is).1)

some_map : {A B : Type 0} (g : A → B) (o : Option A) → is_some (option_map g o) ≡ is_some o
some_map g None = refl
some_map g (Some a) = refl

abbrev settled_after : ℕ → List Entry → Entry → EntryNo × Settled
settled_after r past e = (entry_no (length past), way (request past r) e.who e.call)

abbrev settled_number : EntryNo × Settled → ℕ
settled_number s = s.0.0

abbrev settled_way : Bool × (EntryNo × Settled) → Bool × Settled
settled_way q = (q.0, q.1.1)

abbrev settles_way : ℕ → List Entry × Entry → Bool × Settled
settles_way r p = (settles p.0 p.1 r, way (request p.0 r) p.1.who p.1.call)

-- a request's settlement, where there is one
pub settlement_at : (past : List Entry) (r : ℕ) → IfSome (settlement past r) (IsSettlement past r)
settlement_at past r = at (settlement past r) refl
  where
    told : (past : List Entry) → is_some (settlement past r) ≡ is_settled past r
    told past = sym (some_map settled_number (settlement past r)) ∙ ap is_some (is_settled_there past r)

    law : IsFirst (λ past. settlement past r) (λ past e. ends_request past e r) (settled_after r) settled_number (λ past. is_settled past r)
    law = record { none = refl; more = λ e past. refl; numbered = λ e past. refl; told = told }

    at : (o : Option (EntryNo × Settled)) → settlement past r ≡ o → IfSome o (IsSettlement past r)
    at None is = tt
    at (Some s) is =
        asked_of (entry_at past s.0.0) (told_by (λ past e. ends_request past e r) (settled_after r) (λ past. is_settled past r)) (settles_way r) (true, s) (true, s.1) (λ p so. ap settled_way so)
        ((found (λ past. settlement past r) (λ past e. ends_request past e r) (settled_after r) settled_number (λ past. is_settled past r) law past s is).1)
