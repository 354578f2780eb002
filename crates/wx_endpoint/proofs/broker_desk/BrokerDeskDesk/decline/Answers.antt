use Rattle.std.proofs.Common.{refl}
use Rattle.wx_machine.specs.declared.entries.Call.TheVariants.{Decline}
use Rattle.wx_endpoint.proofs.BrokerLemmas.{came_in, makes, stays_sound, lends_on}
use Rattle.wx_endpoint.proofs.broker_desk.BrokerDeskDesk.decline.Goals as goal

pub decline-requires : goal.decline-requires
decline-requires c = came_in c.args.self.now c.requires.sound

pub invariant_of-self : goal.invariant_of-self
invariant_of-self c = record { kept = lends_on c.args.self.now c.decline.new.self (Decline c.args.r) c.decline.result c.decline.ensures.ok c.decline.ensures.err }

pub returns-clause-made : goal.returns-clause-made
returns-clause-made c = makes c.args.self.now c.decline.new.self (Decline c.args.r) c.decline.result c.decline.ensures.ok

pub returns-clause-sound : goal.returns-clause-sound
returns-clause-sound c = stays_sound c.args.self.now c.decline.new.self (Decline c.args.r) c.decline.result refl c.requires.sound c.decline.ensures.ok c.decline.ensures.err
