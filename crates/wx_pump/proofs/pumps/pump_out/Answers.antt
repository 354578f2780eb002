use Rattle.std.proofs.Common.{Some, refl, ap, ◌∙◌}
use Rattle.wx_pump.proofs.PumpOutLemmas.{out_begins, out_asked, out_next, out_turned, out_waits, out_moved, out_stopped, out_ended, out_refused}
use Rattle.wx_host_launch.proofs.ReadingLemmas.{in_hand}
use Rattle.wx_pump.proofs.pumps.pump_out.Goals as goal

pub loop-init : goal.loop-init
loop-init g c =
    let w = c.wanted-wanted in
    let (no_frame, keeps) = in_hand c.args.reader.now w.result c.requires.limit w.ensures.zero w.ensures.under_way w.ensures.first in
    record { sound = c.requires.sound; limit = c.requires.limit; so_far = (0, out_begins _ _ _ _ no_frame keeps); same_key = refl }

pub returns-then-stopped-clause-pump : goal.returns-then-stopped-clause-pump
returns-then-stopped-clause-pump g c =
    let (n, so_far) = c.loop.invariant.so_far in
    out_stopped g.D.HostDesk.going n _ _ _ _ _ _ _ (out_asked _ n _ _ _ _ _ _ _ so_far c.stopped.ensures.no_entry) (c.stopped.ensures.told ∙ ap Some c.if-stopped.true)

pub loop-preserved-in-Moved : goal.loop-preserved-in-Moved
loop-preserved-in-Moved g c = record {
  sound = c.out_turn.ensures.sound;
  limit = c.out_turn.ensures.limit;
  so_far = (0, out_moved _ _ _ _ _ _ _ _ _ _ (out_next g.D.HostDesk.going _ _ _ _ _ _ _ c.loop.invariant.so_far c.stopped.ensures.no_entry (c.stopped.ensures.going c.if-stopped.false)) (out_turned _ _ _ _ _ _ _ _ c.in-Moved.is c.out_turn.ensures.turn) c.out_turn.ensures.later);
  same_key = c.out_turn.ensures.same_key ∙ c.stopped.ensures.same_key ∙ c.loop.invariant.same_key;
}

pub loop-preserved : goal.loop-preserved
loop-preserved g c = record {
  sound = c.out_turn.ensures.sound;
  limit = c.out_turn.ensures.limit;
  so_far = (1, out_waits _ _ _ _ _ _ _ _ _ _ (out_next g.D.HostDesk.going _ _ _ _ _ _ _ c.loop.invariant.so_far c.stopped.ensures.no_entry (c.stopped.ensures.going c.if-stopped.false)) (out_turned _ _ _ _ _ _ _ _ c.in-Waits.is c.out_turn.ensures.turn) c.out_turn.ensures.later);
  same_key = c.out_turn.ensures.same_key ∙ c.stopped.ensures.same_key ∙ c.loop.invariant.same_key;
}

pub returns-in-Ended-clause-pump : goal.returns-in-Ended-clause-pump
returns-in-Ended-clause-pump g c = out_ended g.D.HostDesk.going _ _ _ _ _ _ _ _ _ _ (out_next g.D.HostDesk.going _ _ _ _ _ _ _ c.loop.invariant.so_far c.stopped.ensures.no_entry (c.stopped.ensures.going c.if-stopped.false)) (out_turned _ _ _ _ _ _ _ _ c.in-Ended.is c.out_turn.ensures.turn) (c.out_turn.ensures.same_told ∙ c.stopped.ensures.told ∙ ap Some c.if-stopped.false) c.out_turn.ensures.later

pub returns-in-NoMemory-clause-pump : goal.returns-in-NoMemory-clause-pump
returns-in-NoMemory-clause-pump g c = out_refused g.D.HostDesk.going _ _ _ _ _ _ _ _ _ _ (out_next g.D.HostDesk.going _ _ _ _ _ _ _ c.loop.invariant.so_far c.stopped.ensures.no_entry (c.stopped.ensures.going c.if-stopped.false)) (out_turned _ _ _ _ _ _ _ _ c.in-NoMemory.is c.out_turn.ensures.turn) (c.out_turn.ensures.same_told ∙ c.stopped.ensures.told ∙ ap Some c.if-stopped.false) c.out_turn.ensures.later
