use Rattle.std.proofs.Common.{refl}
use Rattle.wx_machine.specs.declared.entries.Call.TheVariants.{Listen}
use Rattle.wx_endpoint.proofs.BrokerLemmas.{came_in, makes, stays_sound, lends_on}
use Rattle.wx_endpoint.proofs.broker_desk.BrokerDeskDesk.listen.Goals as goal

pub listen-requires : goal.listen-requires
listen-requires c = came_in c.args.self.now c.requires.sound

pub invariant_of-self : goal.invariant_of-self
invariant_of-self c = record { kept = lends_on c.args.self.now c.listen.new.self (Listen c.args.l) c.listen.result c.listen.ensures.ok c.listen.ensures.err }

pub returns-clause-made : goal.returns-clause-made
returns-clause-made c = makes c.args.self.now c.listen.new.self (Listen c.args.l) c.listen.result c.listen.ensures.ok

pub returns-clause-sound : goal.returns-clause-sound
returns-clause-sound c = stays_sound c.args.self.now c.listen.new.self (Listen c.args.l) c.listen.result refl c.requires.sound c.listen.ensures.ok c.listen.ensures.err
