use Rattle.std.proofs.Common.{◌≡◌, length}
use Rattle.wx_pipe.specs.Pipe.{posted_texts}
use Rattle.wx_pipe.proofs.next_posted.Given as goal

-- no entry before the rest posted a text
abbrev pub invariant-loop-e : goal.invariant-loop-e
invariant-loop-e l = posted_texts l.c l.k.0 l.entries ≡ posted_texts l.c l.k.0 l.rest

abbrev pub decreases-loop-e : goal.decreases-loop-e
decreases-loop-e l = length l.rest
