-- An endpoint has ended exactly where its context has left.
use Rattle.std.proofs.Common.{◌≡◌, ℕ, zero, suc, cond, true, false, Bool, List, [], ◌∷◌, Option, Some, None, refl, sym, ap, ◌∙◌, subst, eqb}
use Rattle.std.specs.Prelude.{slice_get, IsTrue, ◌&&◌, ◌||◌, not, is_none}
use native.Mathlib.Omega.{arith}
use Rattle.std.proofs.lemmas.Bool.{eqb-true, or_left, or_right}
use Rattle.wx_id.specs.declared.numbers.ContextNo.{ContextNo}
use Rattle.wx_id.specs.declared.events.Event.{Event}
use Rattle.wx_external.specs.World.{WorldLists}
use Rattle.wx_machine.specs.declared.entries.Who.{Who}
use Rattle.wx_machine.specs.declared.entries.Call.{Call}
use Rattle.wx_machine.specs.declared.entries.Answer.{Answer}
use Rattle.wx_machine.specs.declared.entries.Entry.{Entry}
use Rattle.wx_machine.specs.Words.{is_by, is_leave, is_enter, is_there, context_of, has_left, enters, if_numbered}
use Rattle.wx_machine.specs.Words.{brought, text_of, FollowsMachine, may_make, answer_after, EachAfter}
use Rattle.wx_machine.specs.declared.entries.Who.TheVariants.{Context as ByContext, Host as ByHost}
use Rattle.wx_machine.specs.declared.entries.Call.TheVariants as call
use Rattle.wx_context.specs.declared.contexts.Context.{Context}
use Rattle.std.specs.Option.{option_or}
use Rattle.wx_script.specs.declared.script.Act.{Act}
use Rattle.wx_script.specs.declared.script.Act.TheVariants as act
use Rattle.wx_script.specs.declared.script.Command.{Command}
use Rattle.wx_script.specs.declared.script.Heard.{Heard}
use Rattle.wx_script.specs.declared.script.Heard.TheVariants as heard
use Rattle.wx_script.specs.Places.{Place, outside, within, left, is_left, unbegun, echoing, answering, Beginning, calls, awaits, answers, Variables, begins_with, unskipped, asks_first, next_or_end, next_from, asks_answer, next_at, next_of, place_of, place_behind, behind_first, behind_act, behind_await, behind_answer, is_wanted, set_by, event_in}
use Rattle.wx_script.specs.Carries.{MayCome, AskedOf, FollowsScript, IsAskedOf}
use Rattle.wx_script.specs.Ends.{is_end, script_has_ended}
use Rattle.wx_script.proofs.ByLemmas.{is_by-own}
use Rattle.wx_machine.proofs.Lists.{there_or}

unended_answer : (came : Heard) (text : Option (List ℕ)) → is_end (asks_answer came text) ≡ false
unended_answer came None = refl
unended_answer came (Some text) = refl

unended_next : (past : List Entry) (b : Beginning) → is_end (next_from past b) ≡ false
unended_next past (calls x) = refl
unended_next past awaits = refl
unended_next past (answers came e) = unended_answer came (text_of past e)

-- what is left in front is not passed over
unended_first : (past : List Entry) (variables : Variables) (acts : List Act) → is_end (asks_first past variables (unskipped variables acts)) ≡ false
unended_first past variables [] = refl
unended_first past variables (a ∷ acts) =
    elim (begins_with variables a) as (λ (b : Option Beginning). begins_with variables a ≡ b → is_end (asks_first past variables (cond (is_none b) (unskipped variables acts) (a ∷ acts))) ≡ false) [
      | None ↦ λ is. unended_first past variables acts
      | Some b ↦ λ is. ap (λ b. is_end (next_or_end past b)) is ∙ unended_next past b
    ] refl

-- nothing comes next only after the `leave`
pub end_is_left : (past : List Entry) (p : Place) → is_end (next_at past p) ≡ is_left p
end_is_left past outside = refl
end_is_left past (within unbegun acts variables) = unended_first past variables acts
end_is_left past (within (echoing n) acts variables) = refl
end_is_left past (within (answering n came e) acts variables) = unended_answer came (text_of past e)
end_is_left past left = refl

-- an act that begins with something is not left after by one entry
await_stays : (variables : Variables) (a : Act) (acts : List Act) (event : Option Event) → is_left (behind_await variables a acts event) ≡ false
await_stays variables a acts None = refl
await_stays variables a acts (Some event) =
    elim (is_wanted variables a event.kind) as (λ b. is_left (cond b (within unbegun acts (set_by variables a event.entry event.kind)) (within unbegun (a ∷ acts) variables)) ≡ false) [ true ↦ refl | false ↦ refl ]

stays_within : (variables : Variables) (answer : Answer) (a : Act) (acts : List Act) → is_left (behind_act variables answer a acts) ≡ false
stays_within variables answer (act.AwaitConnect v) acts = await_stays variables (act.AwaitConnect v) acts (event_in answer)
stays_within variables answer (act.AwaitMessage v) acts = await_stays variables (act.AwaitMessage v) acts (event_in answer)
stays_within variables answer (act.AwaitRequest v) acts = await_stays variables (act.AwaitRequest v) acts (event_in answer)
stays_within variables answer (act.AwaitReply v) acts = await_stays variables (act.AwaitReply v) acts (event_in answer)
stays_within variables answer (act.AwaitClose v) acts = await_stays variables (act.AwaitClose v) acts (event_in answer)
stays_within variables answer _ acts = refl

stays_in_echo : (n : ℕ) (acts : List Act) (variables : Variables) → is_left (behind_answer n acts variables) ≡ false
stays_in_echo n acts variables = grind arith

-- one more entry leaves what is ended so
ended_still : (past : List Entry) (e : Entry) (p : Place) → is_end (next_at (e ∷ past) p) ≡ is_end (next_at past p)
ended_still past e p = end_is_left (e ∷ past) p ∙ sym (end_is_left past p)

-- ---- which calls are no leave

enter_no_leave : (x : Call) → is_enter x ≡ true → is_leave x ≡ false
enter_no_leave x is = grind arith

take_no_leave : (x : Call) → x ≡ call.Take → is_leave x ≡ false
take_no_leave x is = ap is_leave is

-- the call that an act begins with is none
call_no_leave : (variables : Variables) (a : Act) (x : Call) → begins_with variables a ≡ Some (calls x) → is_leave x ≡ false
call_no_leave variables a x is = grind arith

answer_no_leave : (past : List Entry) (c : ContextNo) (e : Entry) (came : Heard) (text : Option (List ℕ)) → MayCome past c (asks_answer came text) e → is_leave e.call ≡ false
answer_no_leave past c e came None may = take_no_leave e.call may.0
answer_no_leave past c e (heard.Message k) (Some text) may = ap is_leave may
answer_no_leave past c e (heard.Request r) (Some text) may = ap is_leave may

first_no_leave : (past : List Entry) (c : ContextNo) (e : Entry) (variables : Variables) (a : Act) (b : Option Beginning) → begins_with variables a ≡ b → MayCome past c (next_or_end past b) e → is_leave e.call ≡ false
first_no_leave past c e variables a None is may = absurd may
first_no_leave past c e variables a (Some (calls x)) is may = ap is_leave may ∙ call_no_leave variables a x is
first_no_leave past c e variables a (Some awaits) is may = take_no_leave e.call may.0
first_no_leave past c e variables a (Some (answers came n)) is may = answer_no_leave past c e came (text_of past n) may

-- ---- one own entry

abbrev pub is_in : Place → Bool
is_in outside = false
is_in (within progress acts variables) = true
is_in left = true

-- a leave or none, where it was not left before
pub record StepsOn (script : List Command) (p : Place) (e : Entry) : Type 0 where
  pub entered : is_leave e.call ≡ true → is_in p ≡ true
  pub leaves : is_left (place_behind script p e.answer) ≡ is_leave e.call
  pub before : is_left p ≡ false

contra : (b d : Bool) → b ≡ false → b ≡ true → d ≡ true
contra b d is_not is_so = grind arith

no_leave : (script : List Command) (p : Place) (e : Entry) → is_leave e.call ≡ false → is_left (place_behind script p e.answer) ≡ false → is_left p ≡ false → StepsOn script p e
no_leave script p e none after before = record { entered = λ is. contra (is_leave e.call) (is_in p) none is; leaves = after ∙ sym none; before = before }

steps_first : (script : List Command) (past : List Entry) (c : ContextNo) (e : Entry) (variables : Variables) (acts u : List Act) → unskipped variables acts ≡ u
    → MayCome past c (asks_first past variables u) e → is_left (behind_first variables e.answer u) ≡ is_leave e.call
steps_first script past c e variables acts [] is may = sym (ap is_leave may)
steps_first script past c e variables acts (a ∷ rest) is may = stays_within variables e.answer a rest ∙ sym (first_no_leave past c e variables a (begins_with variables a) refl may)

steps : (script : List Command) (past : List Entry) (c : ContextNo) (p : Place) (e : Entry) → MayCome past c (next_at past p) e → StepsOn script p e
steps script past c outside e may = no_leave script outside e (enter_no_leave e.call may) refl refl
steps script past c (within unbegun acts variables) e may =
    record { entered = λ is. refl; leaves = steps_first script past c e variables acts (unskipped variables acts) refl may; before = refl }
steps script past c (within (echoing n) acts variables) e may = no_leave script (within (echoing n) acts variables) e (take_no_leave e.call may.0) refl refl
steps script past c (within (answering n came m) acts variables) e may =
    no_leave script (within (answering n came m) acts variables) e (answer_no_leave past c e came (text_of past m) may) (stays_in_echo n acts variables) refl
steps script past c left e may = absurd may

-- ---- after all entries

-- a script has ended where its context has left, and one that was begun came in
pub record Agrees (script : List Command) (c : ContextNo) (past : List Entry) : Type 0 where
  pub entered : is_in (place_of script c past) ≡ true → is_there (context_of past c) ≡ true
  pub same : is_left (place_of script c past) ≡ has_left past c

came_in : (world : WorldLists) (past : List Entry) (c : ContextNo) (x : Call) (answer : Answer) → is_enter x ≡ true → may_make past (ByContext c) x ≡ true
    → answer ≡ answer_after world past (ByContext c) x → is_there (if_numbered c (brought (ByContext c) x answer)) ≡ true
came_in world past c x answer is may answered = grind arith

left_now : (l t v b : Bool) → l ≡ false → b ≡ true → (v ≡ true → t ≡ true) → v ≡ (l || (t && v && b))
left_now l t v b none own there = grind arith

left_before : (l t v b : Bool) → b ≡ false → l ≡ (l || (t && v && b))
left_before l t v b other = grind arith

still_there : (past : List Entry) (e : Entry) (c : ContextNo) → is_there (context_of past c) ≡ true → is_there (context_of (e ∷ past) c) ≡ true
still_there past e c is = there_or (context_of past c) _ ∙ or_left (is_there (context_of past c)) _ is

agrees_other : (script : List Command) (c : ContextNo) (past : List Entry) (e : Entry) → Agrees script c past → is_by e.who c ≡ false → Agrees script c (e ∷ past)
unfolding place_of
agrees_other script c past e before other =
    let same : place_of script c (e ∷ past) ≡ place_of script c past = ap (λ b. cond b (place_behind script (place_of script c past) e.answer) (place_of script c past)) other in
    record {
      entered = λ is. still_there past e c (before.entered (ap is_in (sym same) ∙ is));
      same = ap is_left same ∙ before.same ∙ left_before (has_left past c) (is_there (context_of past c)) (is_leave e.call) (is_by e.who c) other;
    }

-- the place before was outside, or its context came in
came_first : (world : WorldLists) (script : List Command) (c : ContextNo) (past : List Entry) (e : Entry) (p : Place) → e.who ≡ ByContext c → MayCome past c (next_at past p) e
    → FollowsMachine world past e → (is_in p ≡ true → is_there (context_of past c) ≡ true) → is_there (context_of (e ∷ past) c) ≡ true
came_first world script c past e outside own may follows there =
    let makes : may_make past (ByContext c) e.call ≡ true = subst (λ w. may_make past w e.call ≡ true) own follows.may in
    let says : e.answer ≡ answer_after world past (ByContext c) e.call = subst (λ w. e.answer ≡ answer_after world past w e.call) own follows.answered in
    let here : is_there (if_numbered c (brought (ByContext c) e.call e.answer)) ≡ true = came_in world past c e.call e.answer may makes says in
    let now : is_there (if_numbered c (enters e)) ≡ true = subst (λ w. is_there (if_numbered c (brought w e.call e.answer)) ≡ true) (sym own) here in
    there_or (context_of past c) _ ∙ or_right (is_there (context_of past c)) _ now
came_first world script c past e (within progress acts variables) own may follows there = still_there past e c (there refl)
came_first world script c past e left own may follows there = still_there past e c (there refl)

agrees_own : (world : WorldLists) (script : List Command) (c : ContextNo) (past : List Entry) (e : Entry) → Agrees script c past → e.who ≡ ByContext c
    → MayCome past c (next_of script c past) e → FollowsMachine world past e → Agrees script c (e ∷ past)
unfolding place_of
agrees_own world script c past e before own may follows =
    let mine : is_by e.who c ≡ true = is_by-own e.who c own in
    let p : Place = place_of script c past in
    let here : place_of script c (e ∷ past) ≡ place_behind script p e.answer = ap (λ b. cond b (place_behind script p e.answer) p) mine in
    let on : StepsOn script p e = steps script past c p e may in
    let none : has_left past c ≡ false = sym before.same ∙ on.before in
    record {
      entered = λ is. came_first world script c past e p own may follows before.entered;
      same = ap is_left here ∙ on.leaves ∙ left_now (has_left past c) (is_there (context_of past c)) (is_leave e.call) (is_by e.who c) none mine (λ v. before.entered (on.entered v));
    }

same_script : (scripts : List (List Command)) (n : ℕ) (s t : List Command) → slice_get scripts n ≡ Some s → slice_get scripts n ≡ Some t → s ≡ t
same_script scripts n s t is at = cc

same_number : (d c : ContextNo) → (eqb d.0 c.0) ≡ true → d ≡ c
same_number d c is = let number : d.0 ≡ c.0 = eqb-true d.0 c.0 is in let make : ℕ → ContextNo = λ n. record { 0 = n } in ap make number

-- what an endpoint's script asks for, where its number is known
pub asked_of : (scripts : List (List Command)) (past : List Entry) (script : List Command) (c : ContextNo) (e : Entry) (who : Who) → AskedOf scripts past who e → is_by who c ≡ true
    → slice_get scripts c.0 ≡ Some script → (who ≡ ByContext c) × MayCome past c (next_of script c past) e
asked_of scripts past script c e (ByContext d) asked mine at =
    let same : d ≡ c = same_number d c mine in
    let of_c : IsAskedOf scripts past c e = subst (λ d. IsAskedOf scripts past d e) same asked in
    (ap ByContext same, subst (λ s. MayCome past c (next_of s c past) e) (same_script scripts c.0 of_c.script script of_c.is_endpoint at) of_c.asked)
asked_of scripts past script c e (ByHost h) asked mine at = absurd cc

agrees : (world : WorldLists) (scripts : List (List Command)) (script : List Command) (c : ContextNo) (past : List Entry)
    → EachAfter (FollowsMachine world) past → EachAfter (FollowsScript scripts) past → slice_get scripts c.0 ≡ Some script → Agrees script c past
unfolding place_of
agrees world scripts script c [] legal follows at = record { entered = λ is. contra false _ refl is; same = refl }
agrees world scripts script c (e ∷ past) legal follows at =
    let before : Agrees script c past = agrees world scripts script c past legal.0 follows.0 at in
    elim (is_by e.who c) as (λ (b : Bool). is_by e.who c ≡ b → Agrees script c (e ∷ past)) [
      | true ↦ λ is. let asked = asked_of scripts past script c e e.who follows.1 is at in agrees_own world script c past e before asked.0 asked.1 legal.1
      | false ↦ λ is. agrees_other script c past e before is
    ] refl

pub ended_left : (world : WorldLists) (scripts : List (List Command)) (script : List Command) (c : ContextNo) (past : List Entry)
    → EachAfter (FollowsMachine world) past → EachAfter (FollowsScript scripts) past → slice_get scripts c.0 ≡ Some script → script_has_ended script c past ≡ has_left past c
ended_left world scripts script c past legal follows at = end_is_left past (place_of script c past) ∙ (agrees world scripts script c past legal follows at).same
