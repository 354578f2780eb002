use Rattle.std.proofs.Common.{◌≡◌, ℕ, Bool, List, length, vec_len}
use Rattle.std.specs.Prelude.{reverse}
use Rattle.wx_broker.specs.State.{BrokerState}
use Rattle.wx_machine.specs.Words.{IsLegal}
use Rattle.wx_host_launch.specs.Records.{StarterState}
use Rattle.wx_host_slot.specs.Slots.{SlotView, slots_of}
use Rattle.wx_run.proofs.ServeLemmas.{ServedSoFar}
use Rattle.wx_run.proofs.hosts.serve_hosts.Given as goal

pub record Invariant {P : Type 0} (state : P → StarterState) (i count last : ℕ) (before now : List (SlotView P)) (old new : BrokerState) (moved : Bool) : Type 0 where
  pub same_length : count ≡ last
  pub same_size : length now ≡ length before
  pub same_world : new.world ≡ old.world
  pub legal : IsLegal old.world new.entries
  pub so_far : ServedSoFar old.world i (slots_of state before) (slots_of state now) (reverse old.entries) (reverse new.entries) moved

abbrev pub invariant-loop-i : goal.invariant-loop-i
invariant-loop-i g l = Invariant g.P.Starter.state l.i (vec_len l.slots) l.i-end l.fn.slots.items l.slots.items l.fn.desk.broker l.desk.broker l.moved
