use Rattle.std.proofs.Common.{sym, subst}
use Rattle.std.specs.Prelude.{reverse}
use Rattle.wx_endpoint.specs.Turn.{CursorState}
use Rattle.wx_run.specs.Step.{IsReady}
use Rattle.wx_run.proofs.OpeningLemmas.{ready_opened, lent_entered}
use Rattle.wx_run.proofs.opening.open_one.Goals as goal

pub make_turn-requires : goal.make_turn-requires
make_turn-requires c =
    subst (λ (p : CursorState). IsReady c.enter.new.broker.world c.in_ok-desk.field-0 p (reverse c.enter.new.broker.entries)) (sym c.in_ok-opened.ensures)
    (ready_opened c.args.desk.now.broker c.enter.new.broker c.in_ok-desk.field-0 c.args.endpoint.now.script c.args.endpoint.now.context c.requires.legal c.requires.all_in c.in_ok-desk.ensures.entered)

pub invariant_of-desk : goal.invariant_of-desk
invariant_of-desk c = record { kept = lent_entered c.args.desk.now.broker c.enter.new.broker c.args.desk.now.lent c.args.endpoint.now.context c.enter.result c.enter.ensures.entered c.enter.ensures.refused c.args.desk.now.kept }
