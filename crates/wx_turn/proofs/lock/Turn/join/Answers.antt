use Rattle.std.proofs.Common.{rules, ap, ◌∙◌}
use Rattle.wx_turn.proofs.SeatSteps.{join_keeps, learn_keeps}
use Rattle.wx_turn.proofs.lock.Turn.join.Goals as goal

pub join_seat-requires : goal.join_seat-requires
join_seat-requires g c = (search rules, search rules, search rules, search rules, join_keeps g.S.Stands.stands g.S.Stands.fixed _ _ _ _ _ c.args.seat.now.rests c.args.other.rests)

pub load-requires : goal.load-requires
load-requires g c = (search rules, search rules, learn_keeps g.S.Stands.stands g.S.Stands.fixed _ _ _ _ (ap (λ m. m.0.stage) c.join_seat.ensures.2 ∙ c.args.seat.now.rests))
