use Rattle.std.proofs.Common.{sym, ap, ◌∙◌}
use Rattle.wx_machine.specs.declared.entries.Who.TheVariants.{Host}
use Rattle.wx_machine.specs.Words.{said_closed}
use Rattle.wx_desk.proofs.OverLemmas.{past_over}
use Rattle.wx_host_launch.proofs.broker_desk.BrokerDeskHostDesk.said_closed.Goals as goal

pub returns-clause-told : goal.returns-clause-told
returns-clause-told c = c.said_closed.ensures ∙ ap (λ past. said_closed past c.args.self.now.host) (sym (past_over Host c.args.self.now.host c.args.self.now.broker))
