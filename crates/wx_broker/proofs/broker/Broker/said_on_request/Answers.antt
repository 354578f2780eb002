use Rattle.std.proofs.Common.{sym}
use Rattle.std.specs.Prelude.{reverse}
use Rattle.wx_broker.proofs.KeptLater.{may_say}
use Rattle.wx_broker.proofs.HostCallsLater.{told_answered}
use Rattle.wx_broker.proofs.RepliedLater.{passed_unsettled}
use Rattle.wx_broker.proofs.broker.Broker.said_on_request.Goals as goal

pub reply-requires : goal.reply-requires
reply-requires c =
    let i = c.self.inside in
    passed_unsettled (reverse i.journal.entries) c.args.h c.args.r i.tables.requests (sym (rw (← c.self.view_is) at c.requires.passed)) c.self.invariant.kept.requests (rw (← c.self.view_is) at c.requires.works)

pub invariant_of-self : goal.invariant_of-self
invariant_of-self c =
    let i = c.self.inside in
    told_answered i.world i.journal.entries c.push_reserved.new.self.entries c.args.h c.args.r c.args.text (record { 0 = c.len.result }) i.roster i.tables c.reply.new.self i.hosts.hosts
    c.len.ensures c.self.invariant
    (record { may = may_say (reverse i.journal.entries) c.args.h c.args.text (rw (← c.self.view_is) at c.requires.host) c.requires.short; answered = sym (rw (← c.self.view_is) at c.requires.passed) })
    c.push_reserved.ensures.entries (rw (← c.self.view_is) at c.requires.works)
    c.reply.ensures.ports c.reply.ensures.requests c.reply.ensures.queues
