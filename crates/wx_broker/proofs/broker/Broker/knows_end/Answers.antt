use Rattle.std.proofs.Common.{◌∙◌}
use Rattle.std.specs.Prelude.{reverse}
use Rattle.wx_broker.proofs.HostReadings.{rows_know}
use Rattle.wx_broker.proofs.broker.Broker.knows_end.Goals as goal

pub returns : goal.returns
returns c =
    let i = c.self.inside in
    rw (← c.self.view_is) (c.knows_end.ensures ∙ rows_know i.world (reverse i.journal.entries) i.hosts.hosts c.args.h c.self.invariant.kept.legal c.self.invariant.started)
