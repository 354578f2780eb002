use Rattle.std.proofs.Common.{◌∙◌}
use Rattle.wx_endpoint.proofs.HistoryLemmas.{stays_behind}
use Rattle.wx_work.proofs.LaterLemmas.{later_none, later_turn}
use Rattle.wx_work.proofs.work.work_endpoint.Goals as goal

pub returns-then-stopped-clause-behind : goal.returns-then-stopped-clause-behind
returns-then-stopped-clause-behind g c = stays_behind _ _ _ c.loop.invariant.behind c.stopped.ensures.no_entry

pub returns-then-stopped-clause-later : goal.returns-then-stopped-clause-later
returns-then-stopped-clause-later g c = later_none _ _ _ c.loop.invariant.later c.stopped.ensures.no_entry

pub turn-requires-clause-behind : goal.turn-requires-clause-behind
turn-requires-clause-behind g c = λ lifetimes bounds. stays_behind _ _ _ c.loop.invariant.behind c.stopped.ensures.no_entry

pub loop-preserved-in-Moved : goal.loop-preserved-in-Moved
loop-preserved-in-Moved g c = record {
  sound = c.turn.ensures.sound;
  behind = c.turn.ensures.behind;
  later = later_turn _ _ _ _ _ c.turn.result (later_none _ _ _ c.loop.invariant.later c.stopped.ensures.no_entry) c.turn.ensures.turn;
  same_script = c.turn.ensures.same_script ∙ c.loop.invariant.same_script;
  same_key = c.turn.ensures.same_key ∙ (c.stopped.ensures.same_key ∙ c.loop.invariant.same_key);
}

pub loop-preserved : goal.loop-preserved
loop-preserved g c = record {
  sound = c.turn.ensures.sound;
  behind = c.turn.ensures.behind;
  later = later_turn _ _ _ _ _ c.turn.result (later_none _ _ _ c.loop.invariant.later c.stopped.ensures.no_entry) c.turn.ensures.turn;
  same_script = c.turn.ensures.same_script ∙ c.loop.invariant.same_script;
  same_key = c.turn.ensures.same_key ∙ (c.stopped.ensures.same_key ∙ c.loop.invariant.same_key);
}

pub returns-in-Ended-clause-later : goal.returns-in-Ended-clause-later
returns-in-Ended-clause-later g c = later_turn _ _ _ _ _ c.turn.result (later_none _ _ _ c.loop.invariant.later c.stopped.ensures.no_entry) c.turn.ensures.turn

pub returns-in-Spent-clause-later : goal.returns-in-Spent-clause-later
returns-in-Spent-clause-later g c = later_turn _ _ _ _ _ c.turn.result (later_none _ _ _ c.loop.invariant.later c.stopped.ensures.no_entry) c.turn.ensures.turn

pub returns-in-NoMemory-clause-later : goal.returns-in-NoMemory-clause-later
returns-in-NoMemory-clause-later g c = later_turn _ _ _ _ _ c.turn.result (later_none _ _ _ c.loop.invariant.later c.stopped.ensures.no_entry) c.turn.ensures.turn
