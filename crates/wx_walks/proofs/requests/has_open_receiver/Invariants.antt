use Rattle.std.proofs.Common.{◌≡◌, ◌≤◌, ◌∷◌, take, length}
use Rattle.std.specs.Prelude.{reverse}
use Rattle.wx_machine.specs.Words.{requests, request, has_open}
use Rattle.wx_walks.proofs.requests.has_open_receiver.Given as goal

abbrev pub invariant-loop-i : goal.invariant-loop-i
invariant-loop-i l = (l.count ≡ length (requests (reverse (take l.i l.before)))) × (l.count ≤ l.i) × (l.open ≡ has_open (l.e ∷ reverse l.before) l.r.0 (request (reverse (take l.i l.before)) l.r.0))
