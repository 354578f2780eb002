use Rattle.std.proofs.Common.{◌≡◌, ◌∙◌, sym, length}
use Rattle.std.specs.Prelude.{reverse}
use Rattle.wx_machine.specs.Words.{requests}
use Rattle.wx_broker.proofs.RequestsLater.{requests_counted}
use Rattle.wx_broker.proofs.broker.Broker.send_answer.Goals as goal

pub returns : goal.returns
returns c =
    let i = c.self.inside in
    let next : length (requests (reverse c.args.self.now.entries)) ≡ c.requests.result = rw (← c.self.view_is) (sym (requests_counted (reverse i.journal.entries) i.tables.requests c.self.invariant.kept.requests) ∙ sym c.requests.ensures) in
    rw (next, ← c.where_short-asked.ensures) c.to_target.ensures
