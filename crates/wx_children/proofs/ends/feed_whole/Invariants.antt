use Rattle.std.proofs.Common.{length, ◌-◌}
use Rattle.wx_children.proofs.FeedLemmas.{SentSoFar}
use Rattle.wx_children.proofs.ends.feed_whole.Given as goal

-- what was sent so far
abbrev pub invariant-loop-at : goal.invariant-loop-at
invariant-loop-at g l = SentSoFar (g.F.Feed.sent l.initial.feed) (g.F.Feed.sent l.feed) l.bytes l.at

abbrev pub decreases-loop-at : goal.decreases-loop-at
decreases-loop-at g l = length l.bytes - l.at
