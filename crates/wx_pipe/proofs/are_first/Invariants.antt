use Rattle.std.proofs.Common.{◌≡◌, length}
use Rattle.wx_pipe.specs.Pipe.{are_first, messages_taken, posted_texts}
use Rattle.wx_pipe.proofs.are_first.Given as goal

-- the same is asked of the rest and the posts that are left
abbrev pub invariant-loop-e : goal.invariant-loop-e
invariant-loop-e l =
    are_first l.journal.entries (messages_taken l.c l.k.0 l.journal.entries) (posted_texts l.c l.k.0 l.journal.entries)
    ≡ are_first l.journal.entries (messages_taken l.c l.k.0 l.rest) (posted_texts l.c l.k.0 l.posts)

abbrev pub decreases-loop-e : goal.decreases-loop-e
decreases-loop-e l = length l.rest
