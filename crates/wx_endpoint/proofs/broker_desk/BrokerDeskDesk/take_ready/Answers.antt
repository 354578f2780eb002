use Rattle.std.proofs.Common.{refl, sym}
use Rattle.wx_machine.specs.declared.entries.Call.TheVariants.{Take}
use Rattle.wx_endpoint.proofs.BrokerLemmas.{came_in, takes_ready, finds_none, stays_sound, lends_on}
use Rattle.wx_endpoint.proofs.broker_desk.BrokerDeskDesk.take_ready.Goals as goal

pub ready-requires : goal.ready-requires
ready-requires c = came_in c.args.self.now c.requires.sound

pub returns-then-not-ready-clause-taken : goal.returns-then-not-ready-clause-taken
returns-then-not-ready-clause-taken c = finds_none c.args.self.now (sym c.if-not-ready.ensures.pending)

pub take-requires : goal.take-requires
take-requires c = came_in c.args.self.now c.requires.sound

pub invariant_of-self-2 : goal.invariant_of-self-2
invariant_of-self-2 c = record { kept = lends_on c.args.self.now c.take.new.self Take c.take.result c.take.ensures.ok c.take.ensures.err }

pub returns-clause-taken : goal.returns-clause-taken
returns-clause-taken c = takes_ready c.args.self.now c.take.new.self _ (sym c.if-not-ready.ensures.pending) c.in_ok-take.ensures.ok

pub returns-clause-sound : goal.returns-clause-sound
returns-clause-sound c = stays_sound c.args.self.now c.take.new.self Take c.take.result refl c.requires.sound c.take.ensures.ok c.take.ensures.err
