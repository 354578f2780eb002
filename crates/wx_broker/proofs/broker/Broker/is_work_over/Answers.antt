use Rattle.std.proofs.Common.{◌∙◌, ap}
use Rattle.std.specs.Prelude.{reverse}
use Rattle.wx_broker.specs.Tables.{is_over_at}
use Rattle.wx_broker.proofs.HostsLater.{over_is, work_within_tables}
use Rattle.wx_broker.proofs.broker.Broker.is_work_over.Goals as goal

pub is_over-requires : goal.is_over-requires
is_over-requires c =
    let i = c.self.inside in
    rw (c.work.ensures, ← c.self.view_is) (work_within_tables (reverse i.journal.entries) i.tables.ports i.tables.requests c.args.h c.self.invariant.kept.channels c.self.invariant.kept.requests)

pub returns : goal.returns
returns c =
    let i = c.self.inside in
    rw (← c.self.view_is) (c.is_over.ensures
    ∙ ap (is_over_at i.tables.ports i.tables.requests) (rw (← c.self.view_is) at c.work.ensures)
    ∙ over_is (reverse i.journal.entries) i.tables.ports i.tables.requests c.args.h c.self.invariant.kept.channels c.self.invariant.kept.requests)
