use Rattle.std.proofs.Common.{rules, ◌≡◌, [], ◌∷◌, ◌++◌, ap, sym, ◌∙◌, subst, refl, Some}
use Rattle.atomic_table.specs.Table.{rest}
use Rattle.wx_turn.specs.History.{marks}
use Rattle.wx_turn.proofs.TurnSteps.{serve_keeps, finished}
use Rattle.wx_turn.proofs.turns.finish.Goals as goal

pub swap-requires : goal.swap-requires
swap-requires g c =
    let now = c.exchange-vacant.ensures.3 in
    let r = c.requires.stands in
    let slot : c.exchange-vacant.new.seat.me.1 ≡ (0, Some c.args.state) ∷ [] = ap (λ m. m.1) now ∙ ap (λ l. (0, Some c.args.state) ∷ rest l) c.requires.ready.0 in (
      search rules,
      search rules,
      serve_keeps g.S.Stands.stands g.S.Stands.fixed _ _ _ _ r.0 c.args.ticket c.args.state r.1 _ (ap (λ m. m.0.number) now ∙ r.2) (ap (λ m. m.0.stage) now ∙ c.requires.ready.1) slot
          (subst (λ m. g.S.Stands.stands c.args.state (marks m.0.history ++ r.1 ∷ [])) (sym now) r.3) (ap (λ m. m.0.fixed) now ∙ r.4) refl,
    )

pub returns-clause-served : goal.returns-clause-served
returns-clause-served g c = finished g.S.Stands.stands g.S.Stands.fixed g.met.S.Stands.last _ _ _ c.args.state c.exchange-vacant.ensures.3 c.requires.ready.0 c.swap.ensures.2
