use Rattle.std.proofs.Common.{◌≡◌, List, subst}
use Rattle.std.specs.Prelude.{reverse, IfOk}
use Rattle.wx_id.specs.declared.numbers.ContextNo.{ContextNo}
use Rattle.wx_broker.proofs.ReceiversLater.{receivers_are}
use Rattle.wx_broker.proofs.broker.Broker.receivers.Goals as goal

pub returns : goal.returns
returns c =
    let i = c.self.inside in
    let told = c.self.invariant in
    rw (← c.self.view_is) (subst (λ (xs : List ContextNo). IfOk c.receivers.result (λ found. found.items ≡ xs)) (receivers_are i.world (reverse i.journal.entries) i.roster c.args.c c.args.target.now c.args.sort told.kept.legal told.came told.count) c.receivers.ensures)
