-- The calls of an endpoint that carry out its script fall into parts.
use Rattle.std.proofs.Common.{◌≡◌, ℕ, zero, suc, ◌+◌, ◌-◌, ◌<◌, ◌≤◌, List, [], ◌∷◌, ◌++◌, Bool, true, false, cond, Option, Some, None, replicate, IsTrue, ◌⊎◌, inl, inr, refl, ap, sym, subst, ◌∙◌, arith, append_assoc}
use Rattle.std.specs.Prelude.{is_none, nat_le, reverse, slice_get, if◌then◌else◌}
use Rattle.std.specs.Option.{option_map}
use Rattle.std.proofs.lemmas.Bool.{eqb-true, leb-false, leb-true, true≢false}
use Rattle.std.proofs.lemmas.List.{append-nil}
use Rattle.wx_id.specs.declared.numbers.ContextNo.{ContextNo}
use Rattle.wx_id.specs.declared.numbers.ChannelNo.{ChannelNo}
use Rattle.wx_id.specs.declared.numbers.RequestNo.{RequestNo}
use Rattle.wx_id.specs.declared.numbers.EntryNo.{EntryNo}
use Rattle.wx_id.specs.declared.events.Event.{Event}
use Rattle.wx_id.specs.declared.events.EventKind.{EventKind}
use Rattle.wx_id.specs.declared.events.EventKind.TheVariants as kind
use Rattle.wx_machine.specs.declared.entries.Who.{Who}
use Rattle.wx_machine.specs.declared.entries.Call.{Call}
use Rattle.wx_machine.specs.declared.entries.Entry.{Entry}
use Rattle.wx_machine.specs.Words.{text_of, is_by, is_enter, EachAfter}
use Rattle.wx_machine.specs.declared.entries.Who.TheVariants.{Context as ByContext, Host as ByHost}
use Rattle.wx_machine.specs.declared.entries.Call.TheVariants as call
use Rattle.wx_script.specs.declared.script.Act.{Act}
use Rattle.wx_script.specs.declared.script.Act.TheVariants as act
use Rattle.wx_script.specs.declared.script.Command.{Command}
use Rattle.wx_script.specs.declared.script.Heard.{Heard}
use Rattle.wx_script.specs.declared.script.Heard.TheVariants as heard
use Rattle.wx_script.specs.declared.script.Received.{Received}
use Rattle.wx_script.specs.Acts.{acts_of}
use Rattle.wx_script.specs.Places.{Variables, value_of, Next, Beginning, calls, awaits, answers as by_text, begins_with, unskipped, Progress, unbegun, echoing, answering, Place, outside, within, left, asks_answer, next_or_end, asks_first, next_at, event_in, is_wanted, set_by, behind_await, behind_kind, behind_event, behind_first, behind_answer, place_behind, behind_entry, place_of, next_of}
use Rattle.wx_script.specs.Carries.{MayCome, IsAskedOf, AskedOf, FollowsScript, CarriesOut}
use Rattle.wx_script_laws.specs.Parts.{calls_by, UsesVariable, IsAnswer, Echoes, none, takes, answers, AreTakes, IsPart, IsBegunPart, IsBegun, MadeOf, entered, passed, with_part, HasParts}
use Rattle.wx_script_laws.specs.Parts as parts
use Rattle.wx_script.proofs.LeftLemmas.{asked_of}

-- What was made where an endpoint stands

abbrev IsAwait : Act → Type 0
IsAwait (act.AwaitConnect v) = Unit {0}
IsAwait (act.AwaitMessage v) = Unit {0}
IsAwait (act.AwaitRequest v) = Unit {0}
IsAwait (act.AwaitReply v) = Unit {0}
IsAwait (act.AwaitClose v) = Unit {0}
IsAwait _ = ⊥

-- an await that has begun
record Awaits (variables : Variables) (a : Act) (part : List Call) : Type 0 where
  pub await : IsAwait a
  pub begins : is_none (begins_with variables a) ≡ false
  pub are_takes : AreTakes part

abbrev Awaited : List Call → Variables → List Act → Type 0
Awaited [] variables acts = Unit {0}
Awaited (x ∷ begun) variables [] = ⊥
Awaited (x ∷ begun) variables (a ∷ acts) = Awaits variables a (x ∷ begun)

-- an echo with so many answers to come
record Echoed (k n : ℕ) (part : List Call) : Type 0 where
  pub made : ℕ
  pub echoes : Echoes made part
  pub all : made + k ≡ n
  pub more : 0 < n → 0 < k

abbrev EchoOf : List Act → ℕ → List Call → Type 0
EchoOf (act.Echo n ∷ acts) k part = Echoed k n part
EchoOf _ k part = ⊥

-- one that is to answer
abbrev Answering : List Act → ℕ → List Call → Type 0
Answering acts k part = (before : List Call) × (part ≡ call.Take ∷ before) × EchoOf acts k part

record At (script : List Command) (acts : List Act) (B : List Call → Type 0) (made : List Call) : Type 0 where
  pub done : List Act
  pub whole : List Call
  pub begun : List Call
  pub split : acts_of script ≡ done ++ acts
  pub made_of : MadeOf done whole
  pub has_begun : B begun
  pub made_is : made ≡ begun ++ whole

abbrev Shape : List Command → Place → List Call → Type 0
Shape script outside made = made ≡ []
Shape script (within unbegun acts variables) made = At script acts (λ b. Awaited b variables acts) made
Shape script (within (echoing k) acts variables) made = At script acts (EchoOf acts k) made
Shape script (within (answering k came e) acts variables) made = At script acts (Answering acts k) made
Shape script left made = (whole : List Call) × MadeOf (acts_of script) whole × (made ≡ call.Leave ∷ whole)

-- An act is done

done_with : (script : List Command) (a : Act) (acts done : List Act) (part whole made : List Call) (variables : Variables) → acts_of script ≡ done ++ a ∷ acts → MadeOf done whole → IsPart a part → made ≡ part ++ whole
    → At script acts (λ b. Awaited b variables acts) made
done_with script a acts done part whole made variables split made_of is made_is = record {
  done = done ++ a ∷ [];
  whole = part ++ whole;
  begun = [];
  split = split ∙ sym (append_assoc done (a ∷ []) acts);
  made_of = with_part a part is made_of;
  has_begun = tt;
  made_is = made_is;
}

-- An act is passed over

none_uses : (variables : Variables) (a : Act) → begins_with variables a ≡ None → UsesVariable a
none_uses variables (act.Post v text) is = tt
none_uses variables (act.Disconnect v) is = tt
none_uses variables (act.Reply v text) is = tt
none_uses variables (act.ReplySame v) is = tt
none_uses variables (act.Decline v) is = tt
none_uses variables (act.AwaitMessage v) is = tt
none_uses variables (act.AwaitReply v) is = tt
none_uses variables (act.AwaitClose v) is = tt
none_uses variables (act.Listen l) is = absurd cc
none_uses variables (act.Connect v target name) is = absurd cc
none_uses variables (act.Send v target text) is = absurd cc
none_uses variables (act.Native v name) is = absurd cc
none_uses variables (act.Ask v name text) is = absurd cc
none_uses variables act.Take is = absurd cc
none_uses variables (act.AwaitConnect v) is = absurd cc
none_uses variables (act.AwaitRequest v) is = absurd cc
none_uses variables (act.Echo n) is = absurd cc

not_begun : (variables : Variables) (a : Act) (acts : List Act) (begun : List Call) → begins_with variables a ≡ None → Awaited begun variables (a ∷ acts) → begun ≡ []
not_begun variables a acts [] is begins = refl
not_begun variables a acts (x ∷ begun) is begins = absurd (true≢false (sym (ap is_none is) ∙ begins.begins))

pass_over : (script : List Command) (variables : Variables) (acts : List Act) (made : List Call) → At script acts (λ b. Awaited b variables acts) made
    → At script (unskipped variables acts) (λ b. Awaited b variables (unskipped variables acts)) made
pass_over script variables [] made at = at
pass_over script variables (a ∷ acts) made at = by (λ over. pass_over script variables acts made over) (begins_with variables a) refl
  where
    by : (At script acts (λ b. Awaited b variables acts) made → At script (unskipped variables acts) (λ b. Awaited b variables (unskipped variables acts)) made) → (o : Option Beginning) → begins_with variables a ≡ o → At script (unskipped variables (a ∷ acts)) (λ b. Awaited b variables (unskipped variables (a ∷ acts))) made
    by later (Some beginning) is = subst (λ xs. At script xs (λ b. Awaited b variables xs) made) (sym (ap (λ (b : Bool). if b then unskipped variables acts else a ∷ acts) (ap is_none is))) at
    by later None is =
        let none_begun : at.begun ≡ [] = not_begun variables a acts at.begun is at.has_begun in
        let over : At script acts (λ b. Awaited b variables acts) made = record {
          done = at.done ++ a ∷ [];
          whole = at.whole;
          begun = [];
          split = at.split ∙ sym (append_assoc at.done (a ∷ []) acts);
          made_of = passed a (none_uses variables a is) at.made_of;
          has_begun = tt;
          made_is = at.made_is ∙ ap (λ b. b ++ at.whole) none_begun;
        } in
        subst (λ xs. At script xs (λ b. Awaited b variables xs) made) (sym (ap (λ (b : Bool). if b then unskipped variables acts else a ∷ acts) (ap is_none is))) (later over)

-- What an act makes

called : {A : Type 0} (past : List Entry) (c : ContextNo) (e : Entry) (f : A → Call) (o : Option A) → MayCome past c (next_or_end past (option_map (λ x. calls (f x)) o)) e → (x : A) × (e.call ≡ f x)
called past c e f None asked = absurd asked
called past c e f (Some x) asked = (x, asked)

awaited : {A : Type 0} (past : List Entry) (c : ContextNo) (e : Entry) (o : Option A) → MayCome past c (next_or_end past (option_map (λ x. awaits) o)) e → (e.call ≡ call.Take) × (is_none (option_map (λ (x : A). awaits) o) ≡ false)
awaited past c e None asked = absurd asked
awaited past c e (Some x) asked = (asked.0, refl)

by_a_text : (past : List Entry) (c : ContextNo) (e : Entry) (came : Heard) (o : Option (List ℕ)) → MayCome past c (asks_answer came o) e → IsAnswer came e.call
by_a_text past c e came None asked = inr asked.0
by_a_text past c e came (Some text) asked = inl (text, asked)

same_text : (past : List Entry) (c : ContextNo) (e : Entry) (o : Option Received) → MayCome past c (next_or_end past (option_map (λ (r : Received). by_text (heard.Request r.request) r.entry) o)) e
    → (r : RequestNo) × IsAnswer (heard.Request r) e.call
same_text past c e None asked = absurd asked
same_text past c e (Some r) asked = (r.request, by_a_text past c e (heard.Request r.request) (text_of past r.entry) asked)

-- nothing of an act was begun that is no await
none_begun : (variables : Variables) (a : Act) (acts : List Act) (begun whole made : List Call) → (IsAwait a → ⊥) → Awaited begun variables (a ∷ acts) → made ≡ begun ++ whole → made ≡ whole
none_begun variables a acts [] whole made never begins made_is = made_is
none_begun variables a acts (x ∷ begun) whole made never begins made_is = absurd (never begins.await)

-- one call is the whole part
one_call : (script : List Command) (a : Act) (acts : List Act) (variables next : Variables) (made : List Call) (x : Call) → (IsAwait a → ⊥) → IsPart a (x ∷ []) → At script (a ∷ acts) (λ b. Awaited b variables (a ∷ acts)) made
    → At script acts (λ b. Awaited b next acts) (x ∷ made)
one_call script a acts variables next made x never is at =
    done_with script a acts at.done (x ∷ []) at.whole (x ∷ made) next at.split at.made_of is (ap (λ xs. x ∷ xs) (none_begun variables a acts at.begun at.whole made never at.has_begun at.made_is))

-- a take more
takes_more : (variables : Variables) (a : Act) (acts : List Act) (begun : List Call) (x : Call) → x ≡ call.Take → Awaited begun variables (a ∷ acts) → AreTakes (x ∷ begun)
takes_more variables a acts [] x is begins = (0, ap (λ y. y ∷ []) is)
takes_more variables a acts (y ∷ begun) x is begins = let (n, are) = begins.are_takes in (suc n, ap (λ z. z ∷ y ∷ begun) is ∙ ap (λ xs. call.Take ∷ xs) are)

await_step : (script : List Command) (a : Act) (acts : List Act) (variables : Variables) (made : List Call) (x : Call) (o : Option Event) → IsAwait a → ((part : List Call) → AreTakes part → IsPart a part) → is_none (begins_with variables a) ≡ false → x ≡ call.Take
    → At script (a ∷ acts) (λ b. Awaited b variables (a ∷ acts)) made → Shape script (behind_await variables a acts o) (x ∷ made)
await_step script a acts variables made x o await whole_part begins is at = by o
  where
    are : AreTakes (x ∷ at.begun)
    are = takes_more variables a acts at.begun x is at.has_begun

    on : At script (a ∷ acts) (λ b. Awaited b variables (a ∷ acts)) (x ∷ made)
    on = record { done = at.done; whole = at.whole; begun = x ∷ at.begun; split = at.split; made_of = at.made_of; has_begun = record { await = await; begins = begins; are_takes = are }; made_is = ap (λ xs. x ∷ xs) at.made_is }

    by : (o : Option Event) → Shape script (behind_await variables a acts o) (x ∷ made)
    by None = on
    by (Some event) = elim (is_wanted variables a event.kind) as (λ b. Shape script (if b then within unbegun acts (set_by variables a event.entry event.kind) else within unbegun (a ∷ acts) variables) (x ∷ made)) [
      | true ↦ done_with script a acts at.done (x ∷ at.begun) at.whole (x ∷ made) (set_by variables a event.entry event.kind) at.split at.made_of (whole_part (x ∷ at.begun) are) (ap (λ xs. x ∷ xs) at.made_is)
      | false ↦ on
    ]

-- Echoes

-- an echo takes once more
echo_takes : (script : List Command) (n : ℕ) (acts : List Act) (k : ℕ) (variables : Variables) (made : List Call) (x : Call) (o : Option Event) → x ≡ call.Take → At script (act.Echo n ∷ acts) (EchoOf (act.Echo n ∷ acts) k) made
    → Shape script (within (behind_event k o) (act.Echo n ∷ acts) variables) (x ∷ made)
echo_takes script n acts k variables made x o is at = by o
  where
    on : EchoOf (act.Echo n ∷ acts) k (x ∷ at.begun)
    on = let e = at.has_begun in record { made = e.made; echoes = subst (λ y. Echoes e.made (y ∷ at.begun)) (sym is) (takes e.echoes); all = e.all; more = e.more }

    goes : At script (act.Echo n ∷ acts) (EchoOf (act.Echo n ∷ acts) k) (x ∷ made)
    goes = record { done = at.done; whole = at.whole; begun = x ∷ at.begun; split = at.split; made_of = at.made_of; has_begun = on; made_is = ap (λ xs. x ∷ xs) at.made_is }

    answer : At script (act.Echo n ∷ acts) (Answering (act.Echo n ∷ acts) k) (x ∷ made)
    answer = record { done = at.done; whole = at.whole; begun = x ∷ at.begun; split = at.split; made_of = at.made_of; has_begun = (at.begun, ap (λ y. y ∷ at.begun) is, on); made_is = ap (λ xs. x ∷ xs) at.made_is }

    by_kind : (i : EntryNo) (w : EventKind) → Shape script (within (behind_kind k i w) (act.Echo n ∷ acts) variables) (x ∷ made)
    by_kind i (kind.Message j) = answer
    by_kind i (kind.Asked r) = answer
    by_kind i (kind.Connected j) = goes
    by_kind i (kind.Disconnected j) = goes
    by_kind i (kind.Replied r) = goes
    by_kind i (kind.Closed r) = goes

    by : (o : Option Event) → Shape script (within (behind_event k o) (act.Echo n ∷ acts) variables) (x ∷ made)
    by None = goes
    by (Some event) = by_kind event.entry event.kind

-- it answers
echo_answers : (script : List Command) (n : ℕ) (acts : List Act) (k : ℕ) (variables : Variables) (made : List Call) (came : Heard) (x : Call) → IsAnswer came x → At script (act.Echo n ∷ acts) (Answering (act.Echo n ∷ acts) k) made
    → Shape script (behind_answer k (act.Echo n ∷ acts) variables) (x ∷ made)
echo_answers script n acts k variables made came x is at =
    elim (nat_le k 1) as (λ b. nat_le k 1 ≡ b → Shape script (if b then within unbegun acts variables else within (echoing (k - 1)) (act.Echo n ∷ acts) variables) (x ∷ made)) [
      | true ↦ λ last. done_with script (act.Echo n) acts at.done (x ∷ at.begun) at.whole (x ∷ made) variables at.split at.made_of (λ some. subst (λ m. Echoes m (x ∷ at.begun)) (all_made some last) more_echoes) (ap (λ xs. x ∷ xs) at.made_is)
      | false ↦ λ more. record { done = at.done; whole = at.whole; begun = x ∷ at.begun; split = at.split; made_of = at.made_of; has_begun = goes_on more; made_is = ap (λ xs. x ∷ xs) at.made_is }
    ] refl
  where
    echo : Echoed k n at.begun
    echo = at.has_begun.2

    more_echoes : Echoes (echo.made + 1) (x ∷ at.begun)
    more_echoes =
        let (before, begun_is, whole) = at.has_begun in
        subst (λ b. Echoes (echo.made + 1) (x ∷ b)) (sym begun_is) (answers came x is (subst (λ b. Echoes echo.made b) begun_is echo.echoes))

    all_made : 0 < n → nat_le k 1 ≡ true → echo.made + 1 ≡ n
    all_made some last = let few = leb-true k 1 last in let left = echo.more some in omega (arith, few, left, echo.all)

    goes_on : nat_le k 1 ≡ false → Echoed (k - 1) n (x ∷ at.begun)
    goes_on more = let many = leb-false k 1 more in record { made = echo.made + 1; echoes = more_echoes; all = omega (arith, many, echo.all); more = λ some. omega (arith, many) }

-- One step

first_step : (script : List Command) (past : List Entry) (c : ContextNo) (variables : Variables) (acts : List Act) (e : Entry) (made : List Call) → At script acts (λ b. Awaited b variables acts) made → MayCome past c (asks_first past variables acts) e
    → Shape script (behind_first variables e.answer acts) (e.call ∷ made)
first_step script past c variables [] e made at asked = by at.begun at.has_begun at.made_is
  where
    by : (begun : List Call) → Awaited begun variables [] → made ≡ begun ++ at.whole → (whole : List Call) × MadeOf (acts_of script) whole × (e.call ∷ made ≡ call.Leave ∷ whole)
    by [] begins made_is = (at.whole, subst (λ done. MadeOf done at.whole) (sym (at.split ∙ append-nil at.done)) at.made_of, ap (λ x. x ∷ made) asked ∙ ap (λ xs. call.Leave ∷ xs) made_is)
    by (x ∷ begun) begins made_is = absurd begins
first_step script past c variables (act.Listen l ∷ acts) e made at asked = one_call script (act.Listen l) acts variables _ made e.call (λ a. a) (ap (λ x. x ∷ []) asked) at
first_step script past c variables (act.Connect v target name ∷ acts) e made at asked = one_call script (act.Connect v target name) acts variables _ made e.call (λ a. a) (ap (λ x. x ∷ []) asked) at
first_step script past c variables (act.Post v text ∷ acts) e made at asked =
    let (k, is) = called past c e (λ k. call.Post k text) (value_of variables.channels v) asked in
    one_call script (act.Post v text) acts variables _ made e.call (λ a. a) (k, ap (λ x. x ∷ []) is) at
first_step script past c variables (act.Disconnect v ∷ acts) e made at asked =
    let (k, is) = called past c e (λ k. call.Disconnect k) (value_of variables.channels v) asked in
    one_call script (act.Disconnect v) acts variables _ made e.call (λ a. a) (k, ap (λ x. x ∷ []) is) at
first_step script past c variables (act.Send v target text ∷ acts) e made at asked = one_call script (act.Send v target text) acts variables _ made e.call (λ a. a) (ap (λ x. x ∷ []) asked) at
first_step script past c variables (act.Reply v text ∷ acts) e made at asked =
    let (r, is) = called past c e (λ (r : Received). call.Reply r.request text) (value_of variables.received v) asked in
    one_call script (act.Reply v text) acts variables _ made e.call (λ a. a) (r.request, ap (λ x. x ∷ []) is) at
first_step script past c variables (act.ReplySame v ∷ acts) e made at asked =
    let (r, is) = same_text past c e (value_of variables.received v) asked in
    one_call script (act.ReplySame v) acts variables _ made e.call (λ a. a) (r, e.call, is, refl) at
first_step script past c variables (act.Decline v ∷ acts) e made at asked =
    let (r, is) = called past c e (λ (r : Received). call.Decline r.request) (value_of variables.received v) asked in
    one_call script (act.Decline v) acts variables _ made e.call (λ a. a) (r.request, ap (λ x. x ∷ []) is) at
first_step script past c variables (act.Native v name ∷ acts) e made at asked = one_call script (act.Native v name) acts variables _ made e.call (λ a. a) (ap (λ x. x ∷ []) asked) at
first_step script past c variables (act.Ask v name text ∷ acts) e made at asked = one_call script (act.Ask v name text) acts variables _ made e.call (λ a. a) (ap (λ x. x ∷ []) asked) at
first_step script past c variables (act.Take ∷ acts) e made at asked = one_call script act.Take acts variables _ made e.call (λ a. a) (ap (λ x. x ∷ []) asked) at
first_step script past c variables (act.AwaitConnect v ∷ acts) e made at asked = await_step script (act.AwaitConnect v) acts variables made e.call (event_in e.answer) tt (λ part are. are) refl asked.0 at
first_step script past c variables (act.AwaitMessage v ∷ acts) e made at asked =
    let (is, begins) = awaited past c e (value_of variables.channels v) asked in
    await_step script (act.AwaitMessage v) acts variables made e.call (event_in e.answer) tt (λ part are. are) begins is at
first_step script past c variables (act.AwaitRequest v ∷ acts) e made at asked = await_step script (act.AwaitRequest v) acts variables made e.call (event_in e.answer) tt (λ part are. are) refl asked.0 at
first_step script past c variables (act.AwaitReply v ∷ acts) e made at asked =
    let (is, begins) = awaited past c e (value_of variables.asked v) asked in
    await_step script (act.AwaitReply v) acts variables made e.call (event_in e.answer) tt (λ part are. are) begins is at
first_step script past c variables (act.AwaitClose v ∷ acts) e made at asked =
    let (is, begins) = awaited past c e (value_of variables.channels v) asked in
    await_step script (act.AwaitClose v) acts variables made e.call (event_in e.answer) tt (λ part are. are) begins is at
first_step script past c variables (act.Echo n ∷ acts) e made at asked =
    let begins : At script (act.Echo n ∷ acts) (EchoOf (act.Echo n ∷ acts) n) made = record {
      done = at.done;
      whole = at.whole;
      begun = [];
      split = at.split;
      made_of = at.made_of;
      has_begun = record { made = 0; echoes = none; all = omega arith; more = λ some. some };
      made_is = none_begun variables (act.Echo n) acts at.begun at.whole made (λ a. a) at.has_begun at.made_is;
    } in
    echo_takes script n acts n variables made e.call (event_in e.answer) asked.0 begins

echo_step : (script : List Command) (past : List Entry) (c : ContextNo) (k : ℕ) (variables : Variables) (acts : List Act) (e : Entry) (made : List Call) → At script acts (EchoOf acts k) made → MayCome past c (next_at past (within (echoing k) acts variables)) e
    → Shape script (within (behind_event k (event_in e.answer)) acts variables) (e.call ∷ made)
echo_step script past c k variables (act.Echo n ∷ acts) e made at asked = echo_takes script n acts k variables made e.call (event_in e.answer) asked.0 at
echo_step script past c k variables _ e made at asked = absurd at.has_begun

answer_step : (script : List Command) (past : List Entry) (c : ContextNo) (k : ℕ) (came : Heard) (i : EntryNo) (variables : Variables) (acts : List Act) (e : Entry) (made : List Call) → At script acts (Answering acts k) made → MayCome past c (asks_answer came (text_of past i)) e
    → Shape script (behind_answer k acts variables) (e.call ∷ made)
answer_step script past c k came i variables (act.Echo n ∷ acts) e made at asked = echo_answers script n acts k variables made came e.call (by_a_text past c e came (text_of past i) asked) at
answer_step script past c k came i variables _ e made at asked = absurd at.has_begun.2

step : (script : List Command) (past : List Entry) (c : ContextNo) (place : Place) (e : Entry) (made : List Call) → Shape script place made → MayCome past c (next_at past place) e → Shape script (place_behind script place e.answer) (e.call ∷ made)
step script past c outside e made shape asked = record { done = []; whole = e.call ∷ []; begun = []; split = refl; made_of = entered e.call asked; has_begun = tt; made_is = ap (λ xs. e.call ∷ xs) shape }
step script past c (within unbegun acts variables) e made shape asked = first_step script past c variables (unskipped variables acts) e made (pass_over script variables acts made shape) asked
step script past c (within (echoing k) acts variables) e made shape asked = echo_step script past c k variables acts e made shape asked
step script past c (within (answering k came i) acts variables) e made shape asked = answer_step script past c k came i variables acts e made shape asked
step script past c left e made shape asked = absurd asked

-- A journal

shape_of : (scripts : List (List Command)) (script : List Command) (c : ContextNo) (past : List Entry) → slice_get scripts c.0 ≡ Some script → EachAfter (FollowsScript scripts) past → Shape script (place_of script c past) (calls_by c past)
unfolding place_of
shape_of scripts script c [] is carries = refl
shape_of scripts script c (e ∷ past) is (before, follows) =
    elim (is_by e.who c) as (λ b. is_by e.who c ≡ b → Shape script (if b then place_behind script (place_of script c past) e.answer else place_of script c past) (cond b (e.call ∷ []) [] ++ calls_by c past)) [
      | true ↦ λ own. step script past c (place_of script c past) e (calls_by c past) (shape_of scripts script c past is before) (asked_of scripts past script c e e.who follows own is).1
      | false ↦ λ other. shape_of scripts script c past is before
    ] refl

-- What stands in the parts

begun_await : (a : Act) (part : List Call) → IsAwait a → AreTakes part → IsBegunPart a part
begun_await (act.AwaitConnect v) part await are = are
begun_await (act.AwaitMessage v) part await are = are
begun_await (act.AwaitRequest v) part await are = are
begun_await (act.AwaitReply v) part await are = are
begun_await (act.AwaitClose v) part await are = are
begun_await _ part await are = absurd await

is_begun : (begun : List Call) (variables : Variables) (acts : List Act) → Awaited begun variables acts → IsBegun begun acts
is_begun [] variables acts begins = tt
is_begun (x ∷ begun) variables [] begins = absurd begins
is_begun (x ∷ begun) variables (a ∷ acts) begins = begun_await a (x ∷ begun) begins.await begins.are_takes

echo_begun : (begun : List Call) (acts : List Act) (k : ℕ) → EchoOf acts k begun → IsBegun begun acts
echo_begun [] acts k echo = tt
echo_begun (x ∷ begun) (act.Echo n ∷ acts) k echo = (echo.made, echo.echoes, omega (arith, echo.all))
echo_begun (x ∷ begun) _ k echo = absurd echo

parts_at : (script : List Command) (acts : List Act) (B : List Call → Type 0) (made : List Call) → ((begun : List Call) → B begun → IsBegun begun acts) → At script acts B made → HasParts script made
parts_at script acts B made begins at = subst (HasParts script) (sym at.made_is) (parts.within at.done acts at.begun at.whole at.split at.made_of (begins at.begun at.has_begun))

parts_of : (script : List Command) (place : Place) (made : List Call) → Shape script place made → HasParts script made
parts_of script outside made shape = subst (HasParts script) (sym shape) parts.outside
parts_of script (within unbegun acts variables) made shape = parts_at script acts (λ b. Awaited b variables acts) made (λ begun begins. is_begun begun variables acts begins) shape
parts_of script (within (echoing k) acts variables) made shape = parts_at script acts (EchoOf acts k) made (λ begun echo. echo_begun begun acts k echo) shape
parts_of script (within (answering k came e) acts variables) made shape = parts_at script acts (Answering acts k) made (λ begun answer. echo_begun begun acts k answer.2) shape
parts_of script left made (whole, all, made_is) = subst (HasParts script) (sym made_is) (parts.has_left whole all)

pub parts_in_order : (scripts : List (List Command)) (journal : List Entry) (c : ContextNo) (script : List Command) → slice_get scripts c.0 ≡ Some script → CarriesOut scripts journal → HasParts script (calls_by c (reverse journal))
parts_in_order scripts journal c script is carries = parts_of script (place_of script c (reverse journal)) (calls_by c (reverse journal)) (shape_of scripts script c (reverse journal) is carries)
