use Rattle.std.proofs.Common.{rules, ◌≡◌, ◌∷◌, [], sym, subst, Some}
use Rattle.atomic_table.specs.Table.{opening}
use Rattle.wx_turn.specs.Rule.{LockRule}
use Rattle.wx_turn.specs.Turns.{first_view}
use Rattle.wx_turn.proofs.SeatSteps.{first_keeps}
use Rattle.wx_turn.proofs.lock.Turn.new.Goals as goal

pub new-requires-2 : goal.new-requires-2
new-requires-2 g c =
    let same : c.of-key.result.value ≡ c.args.state = search rules in
    let items : c.push_reserved.new.self.items ≡ Some c.args.state ∷ [] = search rules in
    let stands = g.S.Stands.stands in
    let fixed_of = g.S.Stands.fixed in
    let all = first_keeps stands fixed_of c.args.state c.requires in
    let first = subst (λ (z : g.row.S.Denot). LockRule stands fixed_of (fixed_of z) (opening (0 ∷ 0 ∷ 1 ∷ []) (Some c.args.state ∷ []) (first_view (fixed_of z)))) (sym same) all in
    subst (λ l. LockRule stands fixed_of (fixed_of c.of-key.result.value) (opening (0 ∷ 0 ∷ 1 ∷ []) l (first_view (fixed_of c.of-key.result.value)))) (sym items) first
