use Rattle.std.proofs.Common.{◌∙◌}
use Rattle.std.specs.Prelude.{reverse}
use Rattle.wx_broker.proofs.HostReadings.{rows_ended}
use Rattle.wx_broker.proofs.broker.Broker.has_ended.Goals as goal

pub returns : goal.returns
returns c =
    let i = c.self.inside in
    rw (← c.self.view_is) (c.has_ended.ensures ∙ rows_ended i.world (reverse i.journal.entries) i.hosts.hosts c.args.h c.self.invariant.kept.legal c.self.invariant.started)
