use Rattle.wx_machine.specs.declared.entries.Who.TheVariants.{Context}
use Rattle.wx_shared.proofs.SeatLemmas.{marked_none, marked_one, sound_then, one_step}
use Rattle.wx_shared.proofs.desk.SeatDesk.make.Goals as goal

pub returns-in-Ok-Some-clause-made : goal.returns-in-Ok-Some-clause-made
returns-in-Ok-Some-clause-made g c =
    let t = rw c.in-Ok-Some.field-0-is at c.in-Ok-Some.ensures.turn in
    rw (c.with_turn.ensures.same.1) (marked_one Context c.args.self.now.opening c.args.self.now.context c.args.self.now.opened t c.args.call c.in-Ok-Some.answer t.related.is)

pub returns-in-Ok-None-clause-refused : goal.returns-in-Ok-None-clause-refused
returns-in-Ok-None-clause-refused g c =
    let t = rw c.in-Ok-None.field-0-is at c.in-Ok-None.ensures.turn in
    rw (c.with_turn.ensures.same.1) (marked_none Context c.args.self.now.opening c.args.self.now.context c.args.self.now.opened t t.related.is.0)

pub returns-in-Ok-Some-clause-sound : goal.returns-in-Ok-Some-clause-sound
returns-in-Ok-Some-clause-sound g c =
    let t = c.in-Ok-Some.ensures.turn in
    rw (c.with_turn.ensures.same.1) (sound_then Context c.args.self.now.opening c.args.self.now.context c.args.self.now.opened t t.related.legal c.requires.sound)

pub returns-in-Ok-Some-clause-one_step : goal.returns-in-Ok-Some-clause-one_step
returns-in-Ok-Some-clause-one_step g c = rw (c.with_turn.ensures.same.1) (one_step c.in-Ok-Some.ensures.turn)

pub returns-in-Ok-None-clause-sound : goal.returns-in-Ok-None-clause-sound
returns-in-Ok-None-clause-sound g c =
    let t = c.in-Ok-None.ensures.turn in
    rw (c.with_turn.ensures.same.1) (sound_then Context c.args.self.now.opening c.args.self.now.context c.args.self.now.opened t t.related.legal c.requires.sound)

pub returns-in-Ok-None-clause-one_step : goal.returns-in-Ok-None-clause-one_step
returns-in-Ok-None-clause-one_step g c = rw (c.with_turn.ensures.same.1) (one_step c.in-Ok-None.ensures.turn)
