use Rattle.std.proofs.Common.{refl}
use Rattle.wx_machine.specs.declared.entries.Call.TheVariants.{Post}
use Rattle.wx_endpoint.proofs.BrokerLemmas.{came_in, makes, stays_sound, lends_on}
use Rattle.wx_endpoint.proofs.broker_desk.BrokerDeskDesk.post.Goals as goal

pub post-requires : goal.post-requires
post-requires c = came_in c.args.self.now c.requires.sound

pub invariant_of-self : goal.invariant_of-self
invariant_of-self c = record { kept = lends_on c.args.self.now c.post.new.self (Post c.args.k c.args.text) c.post.result c.post.ensures.ok c.post.ensures.err }

pub returns-clause-made : goal.returns-clause-made
returns-clause-made c = makes c.args.self.now c.post.new.self (Post c.args.k c.args.text) c.post.result c.post.ensures.ok

pub returns-clause-sound : goal.returns-clause-sound
returns-clause-sound c = stays_sound c.args.self.now c.post.new.self (Post c.args.k c.args.text) c.post.result refl c.requires.sound c.post.ensures.ok c.post.ensures.err
