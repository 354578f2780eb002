use Rattle.std.proofs.Common.{◌∙◌, sym}
use Rattle.std.specs.Prelude.{reverse}
use Rattle.wx_broker.proofs.KeptLater.{may_say, ok_holds}
use Rattle.wx_broker.proofs.HostCallsLater.{passed_open, told_heard}
use Rattle.wx_broker.proofs.broker.Broker.said_on_channel.Goals as goal

pub hear-requires : goal.hear-requires
hear-requires c =
    let i = c.self.inside in
    passed_open (reverse i.journal.entries) i.tables.ports i.tables.requests c.args.h c.args.k c.self.invariant.kept.channels c.self.invariant.kept.requests
    (rw (← c.self.view_is) at c.requires.works) (sym (rw (← c.self.view_is) at c.requires.passed))

pub invariant_of-self-2 : goal.invariant_of-self-2
invariant_of-self-2 c =
    let i = c.self.inside in
    told_heard i.world i.journal.entries c.push_reserved.new.self.entries c.args.h c.args.k c.args.text (record { 0 = c.len.result }) i.roster i.tables c.hear.new.self i.hosts.hosts
    c.len.ensures c.self.invariant
    (record { may = may_say (reverse i.journal.entries) c.args.h c.args.text (rw (← c.self.view_is) at c.requires.host) c.requires.short; answered = sym (rw (← c.self.view_is) at c.requires.passed) })
    c.push_reserved.ensures.entries (rw (← c.self.view_is) at c.requires.works)
    c.hear.ensures.ports c.hear.ensures.requests (ok_holds c.hear.result c.hear.ensures.queues (sym c.is_err.ensures.value ∙ c.if-is_err.false))
