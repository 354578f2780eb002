use Rattle.std.proofs.Common.{◌∙◌, sym, true, false}
use Rattle.std.specs.Prelude.{reverse}
use Rattle.wx_broker.proofs.ReceiversLater.{heard_as}
use Rattle.wx_broker.proofs.broker.Broker.where_heard.Goals as goal

pub returns-then-has_receiver : goal.returns-then-has_receiver
returns-then-has_receiver c =
    let i = c.self.inside in
    let told = c.self.invariant in
    rw (← c.self.view_is) (heard_as i.world (reverse i.journal.entries) i.roster c.args.c c.args.target.now c.args.sort told.kept.legal told.came told.count true (sym c.if-has_receiver.true ∙ c.has_receiver.ensures) c.args.answer)

pub returns-else-has_receiver : goal.returns-else-has_receiver
returns-else-has_receiver c =
    let i = c.self.inside in
    let told = c.self.invariant in
    rw (← c.self.view_is) (heard_as i.world (reverse i.journal.entries) i.roster c.args.c c.args.target.now c.args.sort told.kept.legal told.came told.count false (sym c.if-has_receiver.false ∙ c.has_receiver.ensures) c.args.answer)
