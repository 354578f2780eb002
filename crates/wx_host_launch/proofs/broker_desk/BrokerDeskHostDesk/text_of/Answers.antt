use Rattle.std.proofs.Common.{sym, ap, ◌∙◌}
use Rattle.wx_machine.specs.declared.entries.Who.TheVariants.{Host}
use Rattle.wx_machine.specs.Words.{text_of}
use Rattle.wx_desk.proofs.OverLemmas.{past_over, text_found}
use Rattle.wx_host_launch.proofs.BrokerLemmas.{if_carried}
use Rattle.wx_host_launch.proofs.broker_desk.BrokerDeskHostDesk.text_of.Goals as goal

pub returns-clause-carried : goal.returns-clause-carried
returns-clause-carried c =
    if_carried c.text_of.result _
    (text_found c.args.self.now.broker c.args.e c.journal.result.now.entries _ c.journal.ensures.entries c.text_of.ensures ∙ ap (λ past. text_of past c.args.e) (sym (past_over Host c.args.self.now.host c.args.self.now.broker)))
