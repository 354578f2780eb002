use Rattle.std.specs.Prelude.{reverse}
use Rattle.wx_machine.specs.declared.entries.Call.TheVariants.{HostEnded}
use Rattle.wx_broker.proofs.KeptLater.{may_end}
use Rattle.wx_host_launch.proofs.BrokerLemmas.{started, makes, stays_sound, lends_on}
use Rattle.wx_host_launch.proofs.broker_desk.BrokerDeskHostDesk.host_ended.Goals as goal

pub host_ended-requires : goal.host_ended-requires
host_ended-requires c = started c.args.self.now c.requires.sound

pub invariant_of-self : goal.invariant_of-self
invariant_of-self c = record { kept = lends_on c.args.self.now c.host_ended.new.self (HostEnded c.args.reason) c.host_ended.result c.host_ended.ensures.ok c.host_ended.ensures.err }

pub returns-clause-made : goal.returns-clause-made
returns-clause-made c = makes c.args.self.now c.host_ended.new.self (HostEnded c.args.reason) c.host_ended.result c.host_ended.ensures.ok

pub returns-clause-sound : goal.returns-clause-sound
returns-clause-sound c =
    let may = may_end (reverse c.args.self.now.broker.entries) c.args.self.now.host c.args.reason (started c.args.self.now c.requires.sound) in
    stays_sound c.args.self.now c.host_ended.new.self (HostEnded c.args.reason) c.host_ended.result may c.requires.sound c.host_ended.ensures.ok c.host_ended.ensures.err
