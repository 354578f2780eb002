use Rattle.std.proofs.Common.{rules, arith, ap, ◌∙◌, refl}
use Rattle.wx_turn.proofs.SeatSteps.{split_keeps, number_keeps, count_keeps}
use Rattle.wx_turn.proofs.lock.Turn.split.Goals as goal

pub split_seat-place-requires : goal.split_seat-place-requires
split_seat-place-requires g c = (search rules, search rules, split_keeps g.S.Stands.stands g.S.Stands.fixed _ _ _)

pub load-count-requires : goal.load-count-requires
load-count-requires g c = (search rules, search rules, count_keeps g.S.Stands.stands g.S.Stands.fixed _ _ _ _ c.loop.seat.rests)

pub compare_exchange-requires : goal.compare_exchange-requires
compare_exchange-requires g c =
    let same = c.loop.invariant.1 ∙ c.split_seat-place.ensures.4 in
    let few = c.load-count.ensures.2.0 in
    (search rules, search rules, number_keeps g.S.Stands.stands g.S.Stands.fixed _ _ _ _ _ _ (ap (λ m. m.0.number) same) (ap (λ m. m.0.joins) same) (ap (λ m. m.0.stage) same) (omega arith) refl)
