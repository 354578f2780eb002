use Rattle.std.proofs.Common.{◌≡◌, ◌≤◌, ◌-◌, ℕ, slice_get, length, cond}
use Rattle.std.specs.Prelude.{nat_lt}
use Rattle.std.specs.Option.{option_map}
use Rattle.wx_tables.specs.State.{AreOwed, queues_in}
use Rattle.wx_tables.specs.Ending.{EachQueue}
use Rattle.wx_tables.specs.Asking.{request_left_at, told_outcomes}
use Rattle.wx_tables.proofs.asking.leave_requests.Given as goal

abbrev pub invariant-loop-r : goal.invariant-loop-r
invariant-loop-r l = record {
  owed : AreOwed l.ports l.requests l.boxes.items;
  counted : l.count ≡ length l.initial.requests;
  within : l.from ≤ l.count;
  requests : (j : ℕ) → slice_get l.requests j ≡ option_map (λ request. cond (nat_lt j l.from) (request_left_at l.c request) request) (slice_get l.initial.requests j);
  queues : EachQueue (told_outcomes l.initial.requests l.c l.n l.from) (queues_in l.initial.boxes.items) (queues_in l.boxes.items);
}

abbrev pub decreases-loop-r : goal.decreases-loop-r
decreases-loop-r l = l.count - l.from
