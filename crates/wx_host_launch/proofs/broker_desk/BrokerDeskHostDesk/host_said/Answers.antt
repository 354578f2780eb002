use Rattle.std.specs.Prelude.{reverse}
use Rattle.wx_machine.specs.declared.entries.Call.TheVariants.{HostSaid}
use Rattle.wx_broker.proofs.KeptLater.{may_say}
use Rattle.wx_host_launch.proofs.BrokerLemmas.{started, makes, stays_sound, lends_on}
use Rattle.wx_host_launch.proofs.broker_desk.BrokerDeskHostDesk.host_said.Goals as goal

pub host_said-requires-clause-host : goal.host_said-requires-clause-host
host_said-requires-clause-host c = started c.args.self.now c.requires.sound

pub invariant_of-self : goal.invariant_of-self
invariant_of-self c = record { kept = lends_on c.args.self.now c.host_said.new.self (HostSaid c.args.text) c.host_said.result c.host_said.ensures.ok c.host_said.ensures.err }

pub returns-clause-made : goal.returns-clause-made
returns-clause-made c = makes c.args.self.now c.host_said.new.self (HostSaid c.args.text) c.host_said.result c.host_said.ensures.ok

pub returns-clause-sound : goal.returns-clause-sound
returns-clause-sound c =
    let may = may_say (reverse c.args.self.now.broker.entries) c.args.self.now.host c.args.text (started c.args.self.now c.requires.sound) c.requires.short in
    stays_sound c.args.self.now c.host_said.new.self (HostSaid c.args.text) c.host_said.result may c.requires.sound c.host_said.ensures.ok c.host_said.ensures.err
