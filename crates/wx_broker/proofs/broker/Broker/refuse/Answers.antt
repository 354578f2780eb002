use Rattle.std.proofs.Common.{sym}
use Rattle.std.specs.Prelude.{reverse}
use Rattle.wx_broker.proofs.KeptLater.{may_say}
use Rattle.wx_broker.proofs.HostCallsLater.{told_refused}
use Rattle.wx_broker.proofs.broker.Broker.refuse.Goals as goal

pub invariant_of-self : goal.invariant_of-self
invariant_of-self c =
    let i = c.self.inside in
    told_refused i.world i.journal.entries c.push_reserved.new.self.entries c.args.h c.args.text i.roster i.tables i.hosts.hosts c.refuse.new.self.hosts c.self.invariant
    (record { may = may_say (reverse i.journal.entries) c.args.h c.args.text (rw (← c.self.view_is) at c.requires.host) c.requires.short; answered = sym (rw (← c.self.view_is) at c.requires.refused) })
    c.push_reserved.ensures.entries c.refuse.ensures.hosts c.refuse.ensures.count
