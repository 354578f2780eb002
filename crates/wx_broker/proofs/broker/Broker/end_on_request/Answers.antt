use Rattle.std.proofs.Common.{◌≡◌, sym, ap, cond, true}
use Rattle.std.specs.Prelude.{reverse, slice_get}
use Rattle.wx_machine.specs.declared.entries.Answer.TheVariants.{Already, Done}
use Rattle.wx_one_shot.specs.Requests.{is_unsettled_at}
use Rattle.wx_broker.proofs.KeptLater.{may_end}
use Rattle.wx_broker.proofs.HostCallsLater.{goes_on_unsettled, told_request_ended}
use Rattle.wx_broker.proofs.broker.Broker.end_on_request.Goals as goal

pub fail_native-requires : goal.fail_native-requires
fail_native-requires c =
    let i = c.self.inside in
    goes_on_unsettled (reverse i.journal.entries) c.args.h c.args.r i.tables.requests c.self.invariant.kept.requests
    (rw (← c.self.view_is) at c.requires.works) (rw (← c.self.view_is) at c.requires.goes_on)

pub invariant_of-self : goal.invariant_of-self
invariant_of-self c =
    let i = c.self.inside in
    let there : is_unsettled_at (slice_get i.tables.requests c.args.r.0) ≡ true =
    goes_on_unsettled (reverse i.journal.entries) c.args.h c.args.r i.tables.requests c.self.invariant.kept.requests
    (rw (← c.self.view_is) at c.requires.works) (rw (← c.self.view_is) at c.requires.goes_on) in
    told_request_ended i.world i.journal.entries c.push_reserved.new.self.entries c.args.h c.args.r c.args.reason (record { 0 = c.len.result }) i.roster i.tables c.fail_native.new.self i.hosts.hosts c.end.new.self.hosts
    c.len.ensures c.self.invariant
    (record { may = may_end (reverse i.journal.entries) c.args.h c.args.reason (rw (← c.self.view_is) at c.requires.host); answered = sym (ap (λ b. cond b Already Done) (rw (← c.self.view_is) at c.requires.runs)) })
    c.push_reserved.ensures.entries (rw (← c.self.view_is) at c.requires.works) there
    c.fail_native.ensures.ports c.fail_native.ensures.requests c.fail_native.ensures.queues c.end.ensures.hosts c.end.ensures.count
