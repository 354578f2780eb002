use Rattle.wx_machine.specs.declared.entries.Who.TheVariants.{Context}
use Rattle.wx_shared.proofs.SeatLemmas.{marked_none, finds_none, takes_ready, sound_then, one_step}
use Rattle.wx_shared.proofs.desk.SeatDeskDesk.take_ready.Goals as goal

pub returns-in-Ok-Nothing-clause-taken : goal.returns-in-Ok-Nothing-clause-taken
returns-in-Ok-Nothing-clause-taken g c =
    let t = rw c.in-Ok-Nothing.field-0-is at c.in-Ok-Nothing.ensures.turn in
    rw (c.with_turn.ensures.same.1) (finds_none c.args.self.now.opening c.args.self.now.context c.args.self.now.opened t)

pub returns-in-Ok-Took-clause-taken : goal.returns-in-Ok-Took-clause-taken
returns-in-Ok-Took-clause-taken g c =
    let t = rw c.in-Ok-Took.field-0-is at c.in-Ok-Took.ensures.turn in
    rw (c.with_turn.ensures.same.1) (takes_ready c.args.self.now.opening c.args.self.now.context c.args.self.now.opened c.in-Ok-Took.answer t)

pub returns-in-Ok-Refused-clause-refused : goal.returns-in-Ok-Refused-clause-refused
returns-in-Ok-Refused-clause-refused g c =
    let t = rw c.in-Ok-Refused.field-0-is at c.in-Ok-Refused.ensures.turn in
    rw (c.with_turn.ensures.same.1) (marked_none Context c.args.self.now.opening c.args.self.now.context c.args.self.now.opened t t.related.is)

pub returns-in-Ok-Nothing-clause-sound : goal.returns-in-Ok-Nothing-clause-sound
returns-in-Ok-Nothing-clause-sound g c =
    let t = c.in-Ok-Nothing.ensures.turn in
    rw (c.with_turn.ensures.same.1) (sound_then Context c.args.self.now.opening c.args.self.now.context c.args.self.now.opened t t.related.legal c.requires.sound)

pub returns-in-Ok-Nothing-clause-one_step : goal.returns-in-Ok-Nothing-clause-one_step
returns-in-Ok-Nothing-clause-one_step g c = rw (c.with_turn.ensures.same.1) (one_step c.in-Ok-Nothing.ensures.turn)

pub returns-in-Ok-Took-clause-sound : goal.returns-in-Ok-Took-clause-sound
returns-in-Ok-Took-clause-sound g c =
    let t = c.in-Ok-Took.ensures.turn in
    rw (c.with_turn.ensures.same.1) (sound_then Context c.args.self.now.opening c.args.self.now.context c.args.self.now.opened t t.related.legal c.requires.sound)

pub returns-in-Ok-Took-clause-one_step : goal.returns-in-Ok-Took-clause-one_step
returns-in-Ok-Took-clause-one_step g c = rw (c.with_turn.ensures.same.1) (one_step c.in-Ok-Took.ensures.turn)

pub returns-in-Ok-Refused-clause-sound : goal.returns-in-Ok-Refused-clause-sound
returns-in-Ok-Refused-clause-sound g c =
    let t = c.in-Ok-Refused.ensures.turn in
    rw (c.with_turn.ensures.same.1) (sound_then Context c.args.self.now.opening c.args.self.now.context c.args.self.now.opened t t.related.legal c.requires.sound)

pub returns-in-Ok-Refused-clause-one_step : goal.returns-in-Ok-Refused-clause-one_step
returns-in-Ok-Refused-clause-one_step g c = rw (c.with_turn.ensures.same.1) (one_step c.in-Ok-Refused.ensures.turn)
