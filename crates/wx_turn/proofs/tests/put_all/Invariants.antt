use Rattle.std.proofs.Common.{◌≡◌}
use Rattle.wx_turn.specs.Seats.{lock_of}
use Rattle.wx_turn.proofs.tests.put_all.Given as goal

abbrev pub invariant-loop-k : goal.invariant-loop-k
invariant-loop-k g l = lock_of l.seat ≡ lock_of l.fn.seat
