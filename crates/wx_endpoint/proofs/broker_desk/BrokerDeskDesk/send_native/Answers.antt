use Rattle.std.proofs.Common.{refl}
use Rattle.wx_machine.specs.declared.entries.Call.TheVariants.{SendNative}
use Rattle.wx_endpoint.proofs.BrokerLemmas.{came_in, makes, stays_sound, lends_on}
use Rattle.wx_endpoint.proofs.broker_desk.BrokerDeskDesk.send_native.Goals as goal

pub send_native-requires : goal.send_native-requires
send_native-requires c = came_in c.args.self.now c.requires.sound

pub invariant_of-self : goal.invariant_of-self
invariant_of-self c = record { kept = lends_on c.args.self.now c.send_native.new.self (SendNative c.args.name c.args.text) c.send_native.result c.send_native.ensures.ok c.send_native.ensures.err }

pub returns-clause-made : goal.returns-clause-made
returns-clause-made c = makes c.args.self.now c.send_native.new.self (SendNative c.args.name c.args.text) c.send_native.result c.send_native.ensures.ok

pub returns-clause-sound : goal.returns-clause-sound
returns-clause-sound c = stays_sound c.args.self.now c.send_native.new.self (SendNative c.args.name c.args.text) c.send_native.result refl c.requires.sound c.send_native.ensures.ok c.send_native.ensures.err
