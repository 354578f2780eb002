use Rattle.std.proofs.Common.{◌≡◌, ◌≤◌, take, length}
use Rattle.std.specs.Prelude.{reverse}
use Rattle.wx_machine.specs.Words.{requests, request, is_asked}
use Rattle.wx_walks.proofs.requests.is_asked.Given as goal

abbrev pub invariant-loop-i : goal.invariant-loop-i
invariant-loop-i l = (l.count ≡ length (requests (reverse (take l.i l.entries)))) × (l.count ≤ l.i) × (l.is ≡ is_asked (request (reverse (take l.i l.entries)) l.r.0) l.c)
