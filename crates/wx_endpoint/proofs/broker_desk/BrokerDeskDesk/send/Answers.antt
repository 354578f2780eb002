use Rattle.std.proofs.Common.{refl}
use Rattle.wx_machine.specs.declared.entries.Call.TheVariants.{Send}
use Rattle.wx_endpoint.proofs.BrokerLemmas.{came_in, makes, stays_sound, lends_on}
use Rattle.wx_endpoint.proofs.broker_desk.BrokerDeskDesk.send.Goals as goal

pub send-requires : goal.send-requires
send-requires c = came_in c.args.self.now c.requires.sound

pub invariant_of-self : goal.invariant_of-self
invariant_of-self c = record { kept = lends_on c.args.self.now c.send.new.self (Send c.args.target c.args.text) c.send.result c.send.ensures.ok c.send.ensures.err }

pub returns-clause-made : goal.returns-clause-made
returns-clause-made c = makes c.args.self.now c.send.new.self (Send c.args.target c.args.text) c.send.result c.send.ensures.ok

pub returns-clause-sound : goal.returns-clause-sound
returns-clause-sound c = stays_sound c.args.self.now c.send.new.self (Send c.args.target c.args.text) c.send.result refl c.requires.sound c.send.ensures.ok c.send.ensures.err
