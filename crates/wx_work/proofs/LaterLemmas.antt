-- A desk after steps, one after the other.
use Rattle.std.proofs.Common.{◌≡◌, ◌∷◌, ◌++◌, ap, sym, subst, ◌∙◌, append_assoc}
use Rattle.wx_machine.specs.declared.entries.Call.{Call}
use Rattle.wx_machine.specs.declared.entries.Answer.{Answer}
use Rattle.wx_desk.specs.Desks.{ContextDeskState, MakesNone, MakesOne, own_entry}
use Rattle.wx_endpoint.specs.Turn.{CursorState, IsTurn}
use Rattle.wx_endpoint.specs.declared.cursor.Turned.{Turned}
use Rattle.wx_endpoint.specs.declared.cursor.Turned.TheVariants.{Moved, Waits, Ended, Spent, NoMemory}
use Rattle.wx_work.specs.Work.{IsLater}

pub later_none : (old desk new : ContextDeskState) → IsLater old desk → MakesNone desk new → IsLater old new
later_none old desk new later none = record {
  came = none.others ++ later.came;
  seen = none.seen ∙ ap (λ h. none.others ++ h) later.seen ∙ sym (append_assoc none.others later.came old.history);
  same_who = none.same_who ∙ later.same_who;
  same_world = none.same_world ∙ later.same_world;
  same_alone = none.same_alone ∙ later.same_alone;
}

later_one : (old desk new : ContextDeskState) (call : Call) (answer : Answer) → IsLater old desk → MakesOne desk new call answer → IsLater old new
later_one old desk new call answer later one =
    let then = later_none old desk one.between later one.others in
    let e = own_entry one.between call answer in
    record {
      came = e ∷ then.came;
      seen = ap (λ (d : ContextDeskState). d.history) one.made ∙ ap (λ h. e ∷ h) then.seen;
      same_who = ap (λ (d : ContextDeskState). d.who) one.made ∙ then.same_who;
      same_world = ap (λ (d : ContextDeskState). d.world) one.made ∙ then.same_world;
      same_alone = ap (λ (d : ContextDeskState). d.alone) one.made ∙ then.same_alone;
    }

later_same : (old desk new : ContextDeskState) → IsLater old desk → new ≡ desk → IsLater old new
later_same old desk new later same = subst (IsLater old) (sym same) later

-- after a turn, whatever it came to
pub later_turn : (old desk new : ContextDeskState) (cursor after : CursorState) (turned : Turned) → IsLater old desk → IsTurn cursor after desk new turned → IsLater old new
later_turn old desk new cursor after Moved later is = later_one old desk new is.call is.answer later is.one
later_turn old desk new cursor after Waits later is = later_none old desk new later is.0.none_pending.others
later_turn old desk new cursor after Ended later is = later_same old desk new later is.0.same
later_turn old desk new cursor after Spent later is = later_same old desk new later is.0.same
later_turn old desk new cursor after NoMemory later is = later_none old desk new later is.0.none_made
