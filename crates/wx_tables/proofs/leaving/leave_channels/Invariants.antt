use Rattle.std.proofs.Common.{◌≡◌, ◌≤◌, ◌-◌, ℕ, slice_get, length, cond}
use Rattle.std.specs.Prelude.{nat_lt}
use Rattle.std.specs.Option.{option_map}
use Rattle.wx_tables.specs.State.{AreOwed, queues_in}
use Rattle.wx_tables.specs.Ending.{EachQueue}
use Rattle.wx_tables.specs.Leaving.{left_at, told_ends}
use Rattle.wx_tables.proofs.leaving.leave_channels.Given as goal

abbrev pub invariant-loop-k : goal.invariant-loop-k
invariant-loop-k l = record {
  owed : AreOwed l.ports l.requests l.boxes.items;
  counted : l.count ≡ length l.initial.ports;
  within : l.from ≤ l.count;
  ports : (j : ℕ) → slice_get l.ports j ≡ option_map (λ port. cond (nat_lt j l.from) (left_at l.c port) port) (slice_get l.initial.ports j);
  queues : EachQueue (told_ends l.initial.ports l.c l.n l.from) (queues_in l.initial.boxes.items) (queues_in l.boxes.items);
}

abbrev pub decreases-loop-k : goal.decreases-loop-k
decreases-loop-k l = l.count - l.from
