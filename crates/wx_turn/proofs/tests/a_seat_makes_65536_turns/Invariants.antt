use Rattle.std.proofs.Common.{◌≡◌}
use Rattle.wx_turn.specs.Seats.{lock_of, id}
use Rattle.wx_turn.proofs.tests.a_seat_makes_65536_turns.Given as goal

abbrev pub invariant-loop : goal.invariant-loop
invariant-loop g l = lock_of l.seat ≡ id l.lock
