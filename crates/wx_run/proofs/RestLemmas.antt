-- An endpoint that waits, or has ended, can do nothing until an event is pending for it.
use Rattle.std.proofs.Common.{◌≡◌, true, false, List, [], ◌∷◌, Some, None, refl, sym, ap, ◌∙◌}
use Rattle.std.specs.Prelude.{Option, All, not}
use Rattle.wx_id.specs.declared.numbers.ContextNo.{ContextNo}
use Rattle.wx_machine.specs.declared.entries.Entry.{Entry}
use Rattle.wx_machine.specs.Words.{has_pending}
use Rattle.wx_script.specs.declared.script.Act.{Act}
use Rattle.wx_script.specs.Places.{Variables, Place, outside, within, left, unbegun, echoing, answering, Beginning, calls, awaits, answers, begins_with, next_from, next_or_end, unskipped, asks_first, next_at, asks_answer, waits}
use Rattle.wx_script.specs.Ends.{is_idle}
use Rattle.wx_desk.specs.Desks.{ContextDeskState, past_of, IsSound}
use Rattle.wx_endpoint.specs.Turn.{CursorState, StandsBehind}
use Rattle.wx_endpoint.specs.Performed.{HasText}
use Rattle.wx_endpoint.proofs.TextLemmas.{CameWithText, HasNoGap, place_whole, begun_text}
use Rattle.wx_run.specs.Step.{IsIdleUnlessPending}

-- where an answer's text stands in the journal, it is no wait
text_asks : (past : List Entry) (b : Beginning) → HasText past b → next_from past b ≡ waits → b ≡ awaits
text_asks past (calls x) text wait = absurd cc
text_asks past awaits text wait = refl
text_asks past (answers came e) text wait =
    let never = ap (asks_answer came) (sym text.1) ∙ wait in
    absurd cc

idle_first : (before past : List Entry) (c : ContextNo) (variables : Variables) (a : Act) (o : Option Beginning) → begins_with variables a ≡ o → All (CameWithText before) variables.received → next_or_end before o ≡ waits
    → has_pending past c ≡ false → is_idle past c (next_or_end past o) ≡ true
idle_first before past c variables a None is all wait none = refl
idle_first before past c variables a (Some b) is all wait none =
    ap (λ b. is_idle past c (next_from past b)) (text_asks before b (begun_text before variables a b is all) wait) ∙ ap not none

idle_within : (before past : List Entry) (c : ContextNo) (variables : Variables) (acts : List Act) → All (CameWithText before) variables.received → asks_first before variables acts ≡ waits
    → has_pending past c ≡ false → is_idle past c (asks_first past variables acts) ≡ true
idle_within before past c variables [] all wait none = absurd cc
idle_within before past c variables (a ∷ acts) all wait none = idle_first before past c variables a (begins_with variables a) refl all wait none

idle_at : (before past : List Entry) (c : ContextNo) (place : Place) → HasNoGap before place → next_at before place ≡ waits → has_pending past c ≡ false → is_idle past c (next_at past place) ≡ true
idle_at before past c outside whole wait none = absurd cc
idle_at before past c (within unbegun acts variables) whole wait none = idle_within before past c variables (unskipped variables acts) whole.1 wait none
idle_at before past c (within (echoing n) acts variables) whole wait none = ap not none
idle_at before past c (within (answering n came e) acts variables) whole wait none =
    let never = ap (asks_answer came) (sym whole.0.1) ∙ wait in
    absurd cc
idle_at before past c left whole wait none = refl

-- one that waits
pub waits_on : (cursor : CursorState) (desk : ContextDeskState) → IsSound desk → StandsBehind cursor desk → next_at (past_of desk) cursor.place ≡ waits → IsIdleUnlessPending cursor
waits_on cursor desk sound behind wait past c none =
    let whole : HasNoGap (past_of desk) cursor.place = rw behind.place (place_whole desk.world cursor.script desk.who desk.history sound.legal behind.carries) in
    idle_at (past_of desk) past c cursor.place whole wait none

-- one that has ended
pub ended_on : (cursor : CursorState) → cursor.place ≡ left → IsIdleUnlessPending cursor
ended_on cursor ended past c none = ap (λ place. is_idle past c (next_at past place)) ended
