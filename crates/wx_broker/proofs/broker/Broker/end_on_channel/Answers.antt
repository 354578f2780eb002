use Rattle.std.proofs.Common.{◌≡◌, sym, ap, cond, true}
use Rattle.std.specs.Prelude.{reverse, slice_get}
use Rattle.wx_machine.specs.declared.entries.Answer.TheVariants.{Already, Done}
use Rattle.wx_port.specs.Port.{is_open_port}
use Rattle.wx_broker.proofs.KeptLater.{may_end}
use Rattle.wx_broker.proofs.HostCallsLater.{goes_on_open, told_channel_ended}
use Rattle.wx_broker.proofs.broker.Broker.end_on_channel.Goals as goal

pub end_native-requires : goal.end_native-requires
end_native-requires c =
    let i = c.self.inside in
    goes_on_open (reverse i.journal.entries) i.tables.ports i.tables.requests c.args.h c.args.k c.self.invariant.kept.channels c.self.invariant.kept.requests
    (rw (← c.self.view_is) at c.requires.works) (rw (← c.self.view_is) at c.requires.goes_on)

pub invariant_of-self : goal.invariant_of-self
invariant_of-self c =
    let i = c.self.inside in
    let opened : is_open_port (slice_get i.tables.ports c.args.k.0) ≡ true =
    goes_on_open (reverse i.journal.entries) i.tables.ports i.tables.requests c.args.h c.args.k c.self.invariant.kept.channels c.self.invariant.kept.requests
    (rw (← c.self.view_is) at c.requires.works) (rw (← c.self.view_is) at c.requires.goes_on) in
    told_channel_ended i.world i.journal.entries c.push_reserved.new.self.entries c.args.h c.args.k c.args.reason (record { 0 = c.len.result }) i.roster i.tables c.end_native.new.self i.hosts.hosts c.end.new.self.hosts
    c.len.ensures c.self.invariant
    (record { may = may_end (reverse i.journal.entries) c.args.h c.args.reason (rw (← c.self.view_is) at c.requires.host); answered = sym (ap (λ b. cond b Already Done) (rw (← c.self.view_is) at c.requires.runs)) })
    c.push_reserved.ensures.entries (rw (← c.self.view_is) at c.requires.works) opened
    c.end_native.ensures.ports c.end_native.ensures.requests c.end_native.ensures.queues c.end.ensures.hosts c.end.ensures.count
