use Rattle.std.proofs.Common.{Some, refl, ap, ◌∙◌}
use Rattle.wx_pump.proofs.PumpInLemmas.{in_begins, in_asked, in_next, in_turned, in_waits, in_moved, in_stopped, in_closed, in_ended, in_refused}
use Rattle.wx_pump.proofs.pumps.pump_in.Goals as goal

pub loop-init : goal.loop-init
loop-init g c = record { sound = c.requires; so_far = (0, in_begins _ _ _); same_key = refl }

pub returns-then-stopped-clause-pump : goal.returns-then-stopped-clause-pump
returns-then-stopped-clause-pump g c =
    let (n, so_far) = c.loop.invariant.so_far in
    in_stopped g.D.HostDesk.going n _ _ _ _ _ (in_asked _ n _ _ _ _ _ so_far c.loop.invariant.sound c.stopped.ensures.no_entry) c.stopped.ensures.sound (c.stopped.ensures.told ∙ ap Some c.if-stopped.true)

pub loop-preserved-in-Moved : goal.loop-preserved-in-Moved
loop-preserved-in-Moved g c = record {
  sound = c.in_turn.ensures.sound;
  so_far = (1, in_moved _ _ _ _ _ _ _ (in_next g.D.HostDesk.going _ _ _ _ _ c.loop.invariant.so_far c.loop.invariant.sound c.stopped.ensures.no_entry (c.stopped.ensures.going c.if-stopped.false)) c.stopped.ensures.sound (in_turned _ _ _ _ _ _ c.in-Moved.is c.in_turn.ensures.turn) c.in_turn.ensures.later);
  same_key = c.in_turn.ensures.same_key ∙ c.stopped.ensures.same_key ∙ c.loop.invariant.same_key;
}

pub loop-preserved : goal.loop-preserved
loop-preserved g c = record {
  sound = c.in_turn.ensures.sound;
  so_far = (2, in_waits _ _ _ _ _ _ _ (in_next g.D.HostDesk.going _ _ _ _ _ c.loop.invariant.so_far c.loop.invariant.sound c.stopped.ensures.no_entry (c.stopped.ensures.going c.if-stopped.false)) c.stopped.ensures.sound (in_turned _ _ _ _ _ _ c.in-Waits.is c.in_turn.ensures.turn) c.in_turn.ensures.later);
  same_key = c.in_turn.ensures.same_key ∙ c.stopped.ensures.same_key ∙ c.loop.invariant.same_key;
}

pub returns-in-Closed-clause-pump : goal.returns-in-Closed-clause-pump
returns-in-Closed-clause-pump g c = in_closed g.D.HostDesk.going _ _ _ _ _ _ _ (in_next g.D.HostDesk.going _ _ _ _ _ c.loop.invariant.so_far c.loop.invariant.sound c.stopped.ensures.no_entry (c.stopped.ensures.going c.if-stopped.false)) c.stopped.ensures.sound c.in_turn.ensures.sound (in_turned _ _ _ _ _ _ c.in-Closed.is c.in_turn.ensures.turn) (c.in_turn.ensures.same_told ∙ c.stopped.ensures.told ∙ ap Some c.if-stopped.false) c.in_turn.ensures.later

pub returns-in-Ended-clause-pump : goal.returns-in-Ended-clause-pump
returns-in-Ended-clause-pump g c = in_ended g.D.HostDesk.going _ _ _ _ _ _ _ (in_next g.D.HostDesk.going _ _ _ _ _ c.loop.invariant.so_far c.loop.invariant.sound c.stopped.ensures.no_entry (c.stopped.ensures.going c.if-stopped.false)) c.stopped.ensures.sound c.in_turn.ensures.sound (in_turned _ _ _ _ _ _ c.in-Ended.is c.in_turn.ensures.turn) (c.in_turn.ensures.same_told ∙ c.stopped.ensures.told ∙ ap Some c.if-stopped.false) c.in_turn.ensures.later

pub returns-in-NoMemory-clause-pump : goal.returns-in-NoMemory-clause-pump
returns-in-NoMemory-clause-pump g c = in_refused g.D.HostDesk.going _ _ _ _ _ _ _ (in_next g.D.HostDesk.going _ _ _ _ _ c.loop.invariant.so_far c.loop.invariant.sound c.stopped.ensures.no_entry (c.stopped.ensures.going c.if-stopped.false)) c.stopped.ensures.sound c.in_turn.ensures.sound (in_turned _ _ _ _ _ _ c.in-NoMemory.is c.in_turn.ensures.turn) (c.in_turn.ensures.same_told ∙ c.stopped.ensures.told ∙ ap Some c.if-stopped.false) c.in_turn.ensures.later
