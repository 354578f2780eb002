use Rattle.std.proofs.Common.{◌≡◌}
use Rattle.wx_turn.specs.Seats.{lock_of}
use Rattle.wx_turn_bench.proofs.ticketed.make_turns.Given as goal

abbrev pub invariant-loop : goal.invariant-loop
invariant-loop g l = lock_of l.seat ≡ lock_of l.fn.seat
