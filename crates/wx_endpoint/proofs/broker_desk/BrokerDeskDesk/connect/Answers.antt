use Rattle.std.proofs.Common.{refl}
use Rattle.wx_machine.specs.declared.entries.Call.TheVariants.{Connect}
use Rattle.wx_endpoint.proofs.BrokerLemmas.{came_in, makes, stays_sound, lends_on}
use Rattle.wx_endpoint.proofs.broker_desk.BrokerDeskDesk.connect.Goals as goal

pub connect-requires : goal.connect-requires
connect-requires c = came_in c.args.self.now c.requires.sound

pub invariant_of-self : goal.invariant_of-self
invariant_of-self c = record { kept = lends_on c.args.self.now c.connect.new.self (Connect c.args.target c.args.name) c.connect.result c.connect.ensures.ok c.connect.ensures.err }

pub returns-clause-made : goal.returns-clause-made
returns-clause-made c = makes c.args.self.now c.connect.new.self (Connect c.args.target c.args.name) c.connect.result c.connect.ensures.ok

pub returns-clause-sound : goal.returns-clause-sound
returns-clause-sound c = stays_sound c.args.self.now c.connect.new.self (Connect c.args.target c.args.name) c.connect.result refl c.requires.sound c.connect.ensures.ok c.connect.ensures.err
