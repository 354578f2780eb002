use Rattle.std.proofs.Common.{sym, ap, cond}
use Rattle.std.specs.Prelude.{reverse}
use Rattle.wx_machine.specs.declared.entries.Answer.TheVariants.{Already, Done}
use Rattle.wx_broker.proofs.KeptLater.{may_end}
use Rattle.wx_broker.proofs.HostCallsLater.{told_idle}
use Rattle.wx_broker.proofs.broker.Broker.end_idle.Goals as goal

pub invariant_of-self : goal.invariant_of-self
invariant_of-self c =
    let i = c.self.inside in
    told_idle i.world i.journal.entries c.push_reserved.new.self.entries c.args.h c.args.reason i.roster i.tables i.hosts.hosts c.end.new.self.hosts c.self.invariant
    (record { may = may_end (reverse i.journal.entries) c.args.h c.args.reason (rw (← c.self.view_is) at c.requires.host); answered = sym (ap (λ b. cond b Already Done) (rw (← c.self.view_is) at c.requires.runs)) })
    c.push_reserved.ensures.entries (rw (← c.self.view_is) at c.requires.over) c.end.ensures.hosts c.end.ensures.count
