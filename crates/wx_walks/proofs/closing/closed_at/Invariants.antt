use Rattle.std.proofs.Common.{◌≡◌, take}
use Rattle.std.specs.Prelude.{reverse}
use Rattle.wx_machine.specs.Words.{closed_at}
use Rattle.wx_walks.proofs.closing.closed_at.Given as goal

abbrev pub invariant-loop-i : goal.invariant-loop-i
invariant-loop-i l = l.closed ≡ closed_at (reverse (take l.i l.entries)) l.k.0
