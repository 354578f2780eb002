use Rattle.std.proofs.Common.{◌≡◌, take}
use Rattle.std.specs.Prelude.{reverse}
use Rattle.wx_machine.specs.Words.{has_declined}
use Rattle.wx_walks.proofs.requests.has_declined.Given as goal

abbrev pub invariant-loop-i : goal.invariant-loop-i
invariant-loop-i l = l.declined ≡ has_declined (reverse (take l.i l.entries)) l.r.0 l.c
