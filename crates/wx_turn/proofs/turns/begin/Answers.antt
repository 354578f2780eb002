use Rattle.std.proofs.Common.{rules, ◌≡◌, ◌∷◌, ap, sym, ◌∙◌, subst, refl, Some}
use Rattle.std.specs.Option.{IsSome}
use Rattle.atomic_table.specs.Table.{rest}
use Rattle.wx_turn.specs.declared.view.Stage.TheVariants.{Waits}
use Rattle.wx_turn.proofs.TurnSteps.{look_keeps, taken, begun}
use Rattle.wx_turn.proofs.turns.begin.Goals as goal

pub load-requires : goal.load-requires
load-requires g c = (search rules, search rules, look_keeps g.S.Stands.stands g.S.Stands.fixed _ _ _ _ c.args.ticket (search rules))

pub exchange-requires : goal.exchange-requires
exchange-requires g c =
    let same = c.loop.invariant.2 in
    let waits : c.loop.place.me.0.stage ≡ Waits c.args.ticket = ap (λ m. m.0.stage) same ∙ c.requires.ready.1 in
    let got = (c.load.ensures.2 c.args.ticket waits).0 c.if-load-ticket.true in
    let carried = got.1.slots in
    (search rules, (Some got.0, carried ∙ ap (λ cs. (0, Some got.0) ∷ rest cs) (sym carried)))

pub unwrap-requires : goal.unwrap-requires
unwrap-requires g c =
    let waits : c.loop.place.me.0.stage ≡ Waits c.args.ticket = ap (λ m. m.0.stage) c.loop.invariant.2 ∙ c.requires.ready.1 in
    let got = (c.load.ensures.2 c.args.ticket waits).0 c.if-load-ticket.true in
    let is = taken g.S.Stands.stands g.S.Stands.fixed _ _ _ got.0 _ got.1 c.exchange.ensures.2 in
    subst IsSome (sym is) refl

pub returns-then-load-ticket : goal.returns-then-load-ticket
returns-then-load-ticket g c =
    let waits : c.loop.place.me.0.stage ≡ Waits c.args.ticket = ap (λ m. m.0.stage) c.loop.invariant.2 ∙ c.requires.ready.1 in
    let got = (c.load.ensures.2 c.args.ticket waits).0 c.if-load-ticket.true in
    let all = begun g.S.Stands.stands g.S.Stands.fixed _ _ _ _ c.args.ticket got.0 c.unwrap.result _ c.unwrap.ensures c.loop.invariant.2 c.requires.ready.0 got.1 c.exchange.ensures.2 c.exchange.ensures.3 in
    record { same = (search rules, search rules); vacant = all.0; begun = all.1 }
