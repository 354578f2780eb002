use Rattle.std.proofs.Common.{rules, refl, ap, sym, ◌∙◌, subst}
use mathlib.Core.Option.{some, some-injective}
use Rattle.std.specs.Option.{IsSome}
use Rattle.wx_turn.proofs.TurnSteps.{draw_keeps, some_of}
use Rattle.wx_turn.proofs.SeatSteps.{closed_facts, last_view, ended}
use Rattle.wx_turn.proofs.lock.Turn.close.Goals as goal

pub fetch_add-ticket-requires : goal.fetch_add-ticket-requires
fetch_add-ticket-requires g c = (search rules, search rules, draw_keeps g.S.Stands.stands g.S.Stands.fixed _ _ _ _ c.args.seat.number c.args.seat.numbered c.args.seat.rests (search rules))

pub unwrap-state-requires : goal.unwrap-state-requires
unwrap-state-requires g c =
    let fixed = g.S.Stands.fixed c.args.self.table.shared.key.value in
    let v = last_view g.S.Stands.stands g.S.Stands.fixed fixed c.args.seat.place.me _ _ c.args.seat.number c.fetch_add-ticket.result c.fetch_add-ticket.ensures.2 c.wait_for_last.ensures.last.0 c.args.seat.numbered in
    let shut = closed_facts g.S.Stands.stands g.S.Stands.fixed fixed _ _ _ _ c.args.seat.number c.fetch_add-ticket.result c.word-count.result v.0 v.1 c.word-count.ensures c.close_with-closed.ensures.values.2 in
    let is = some-injective _ _ (sym shut.there ∙ c.take.ensures.value) in
    subst IsSome is refl

pub returns : goal.returns
returns g c =
    let fixed = g.S.Stands.fixed c.args.self.table.shared.key.value in
    let f = some_of c.args.seat.place.me.0.fixed c.args.seat.alive in
    let v = last_view g.S.Stands.stands g.S.Stands.fixed fixed c.args.seat.place.me _ _ c.args.seat.number c.fetch_add-ticket.result c.fetch_add-ticket.ensures.2 c.wait_for_last.ensures.last.0 c.args.seat.numbered in
    let shut = closed_facts g.S.Stands.stands g.S.Stands.fixed fixed _ _ _ _ c.args.seat.number c.fetch_add-ticket.result c.word-count.result v.0 v.1 c.word-count.ensures c.close_with-closed.ensures.values.2 in
    let all = ended g.S.Stands.stands g.S.Stands.fixed fixed c.args.seat.place.me _ _ c.args.seat.number c.fetch_add-ticket.result c.word-count.result f.0 _ c.unwrap-state.result c.fetch_add-ticket.ensures.2 c.wait_for_last.ensures.last c.args.seat.numbered f.1 shut
    (c.take.ensures.value ∙ ap some c.unwrap-state.ensures) in
    record { fixed = all.2; history = (all.0, all.1, all.3) }
