use Rattle.wx_machine.specs.declared.entries.Who.TheVariants.{Context}
use Rattle.wx_shared.proofs.SeatLemmas.{marked_none, sound_then, one_step}
use Rattle.wx_shared.proofs.desk.SeatDesk.is_told_to_stop.Goals as goal

pub returns-in-Ok-clause-none : goal.returns-in-Ok-clause-none
returns-in-Ok-clause-none g c = let t = c.in-Ok.ensures.turn in rw (c.with_turn.ensures.same.1) (marked_none Context c.args.self.now.opening c.args.self.now.context c.args.self.now.opened t t.related.is.0)

pub returns-in-Ok-clause-sound : goal.returns-in-Ok-clause-sound
returns-in-Ok-clause-sound g c =
    let t = c.in-Ok.ensures.turn in
    rw (c.with_turn.ensures.same.1) (sound_then Context c.args.self.now.opening c.args.self.now.context c.args.self.now.opened t t.related.legal c.requires.sound)

pub returns-in-Ok-clause-one_step : goal.returns-in-Ok-clause-one_step
returns-in-Ok-clause-one_step g c = rw (c.with_turn.ensures.same.1) (one_step c.in-Ok.ensures.turn)
