use Rattle.std.proofs.Common.{◌≡◌, ℕ, List}
use Rattle.std.specs.Prelude.{reverse}
use Rattle.wx_broker.specs.State.{BrokerState}
use Rattle.wx_host_launch.specs.Records.{StarterState}
use Rattle.wx_host_slot.specs.Slots.{SlotState, slots_of}
use Rattle.wx_endpoint.specs.Turn.{CursorState}
use Rattle.wx_run.specs.Cursors.{scripts_in}
use Rattle.wx_run.specs.Slots.{WereStartedBelow}
use Rattle.wx_run.specs.Running.{AreReady, RoundsSoFar, KeepsPlaces, turns_in}
use Rattle.wx_run.proofs.rounds.run_rounds.Given as goal

pub record Invariant (cursors now : List CursorState) (old_slots slots : List SlotState) (old new : BrokerState) (before after : StarterState) : Type 0 where
  pub same_world : new.world ≡ old.world
  pub kept : KeepsPlaces old_slots slots before after
  pub ready : AreReady before.writing old.world (scripts_in cursors) now slots (reverse new.entries)
  pub so_far : (known : ℕ) → WereStartedBelow known old_slots → RoundsSoFar known (scripts_in cursors) slots (reverse old.entries) (reverse new.entries)

abbrev pub invariant-loop-endpoints : goal.invariant-loop-endpoints
invariant-loop-endpoints g l = Invariant l.fn.endpoints.items l.endpoints.items (slots_of g.P.Starter.state l.fn.slots.items) (slots_of g.P.Starter.state l.slots.items) l.fn.desk.broker l.desk.broker (g.P.Starter.state l.fn.starter) (g.P.Starter.state l.starter)

abbrev pub decreases-loop-endpoints : goal.decreases-loop-endpoints
decreases-loop-endpoints g l = turns_in l.endpoints.items (slots_of g.P.Starter.state l.slots.items)
