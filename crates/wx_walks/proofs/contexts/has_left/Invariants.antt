use Rattle.std.proofs.Common.{◌≡◌, take}
use Rattle.std.specs.Prelude.{reverse}
use Rattle.wx_machine.specs.Words.{is_there, context_of, has_left}
use Rattle.wx_walks.proofs.contexts.has_left.Given as goal

abbrev pub invariant-loop-e : goal.invariant-loop-e
invariant-loop-e l =
    (l.there ≡ is_there (context_of (reverse (take l.e-index l.entries)) l.c)) × (l.left ≡ has_left (reverse (take l.e-index l.entries)) l.c)
