use Rattle.std.proofs.Common.{rules, ◌≡◌, ap, ◌∙◌}
use Rattle.wx_turn.specs.declared.view.Stage.TheVariants.{Waits}
use Rattle.wx_turn.proofs.SeatSteps.{look_last_keeps, lasts}
use Rattle.wx_turn.proofs.ends.wait_for_last.Goals as goal

pub load-requires : goal.load-requires
load-requires g c = (search rules, search rules, look_last_keeps g.S.Stands.stands g.S.Stands.fixed _ _ _ _ c.args.ticket (search rules))

pub returns-then-load-ticket : goal.returns-then-load-ticket
returns-then-load-ticket g c =
    let waits : c.loop.place.me.0.stage ≡ Waits c.args.ticket = ap (λ m. m.0.stage) c.loop.invariant.2 ∙ c.requires.ready.1 in
    record { same = (search rules, search rules); last = lasts _ _ _ c.args.ticket c.loop.invariant.2 c.requires.ready.0 ((c.load.ensures.2 c.args.ticket waits).0 c.if-load-ticket.true) }
