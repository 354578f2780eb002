use Rattle.std.proofs.Common.{refl}
use Rattle.wx_machine.specs.declared.entries.Call.TheVariants.{ConnectNative}
use Rattle.wx_endpoint.proofs.BrokerLemmas.{came_in, makes, stays_sound, lends_on}
use Rattle.wx_endpoint.proofs.broker_desk.BrokerDeskDesk.connect_native.Goals as goal

pub connect_native-requires : goal.connect_native-requires
connect_native-requires c = came_in c.args.self.now c.requires.sound

pub invariant_of-self : goal.invariant_of-self
invariant_of-self c = record { kept = lends_on c.args.self.now c.connect_native.new.self (ConnectNative c.args.name) c.connect_native.result c.connect_native.ensures.ok c.connect_native.ensures.err }

pub returns-clause-made : goal.returns-clause-made
returns-clause-made c = makes c.args.self.now c.connect_native.new.self (ConnectNative c.args.name) c.connect_native.result c.connect_native.ensures.ok

pub returns-clause-sound : goal.returns-clause-sound
returns-clause-sound c = stays_sound c.args.self.now c.connect_native.new.self (ConnectNative c.args.name) c.connect_native.result refl c.requires.sound c.connect_native.ensures.ok c.connect_native.ensures.err
