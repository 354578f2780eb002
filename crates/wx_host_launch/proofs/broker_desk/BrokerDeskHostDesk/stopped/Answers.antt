use Rattle.std.proofs.Common.{sym, ap, ◌∙◌}
use Rattle.wx_machine.specs.declared.entries.Who.TheVariants.{Host}
use Rattle.wx_machine.specs.Words.{has_ended}
use Rattle.wx_desk.proofs.OverLemmas.{past_over}
use Rattle.wx_host_launch.proofs.broker_desk.BrokerDeskHostDesk.stopped.Goals as goal

pub returns-clause-going : goal.returns-clause-going
returns-clause-going c = λ goes.
    ap (λ past. has_ended past c.args.self.now.host) (past_over Host c.args.self.now.host c.args.self.now.broker)
    ∙ sym c.has_ended-ended.ensures
    ∙ goes
