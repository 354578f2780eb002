use Rattle.wx_children.proofs.FeedLemmas.{sends_rest}
use Rattle.wx_children.proofs.ends.feed_whole.Goals as goal

pub loop-at-preserved : goal.loop-at-preserved
loop-at-preserved g c = sends_rest _ _ _ c.args.bytes.now c.loop-at.at c.in-Some.count c.feed.result c.loop-at.invariant c.in-Some.is c.feed.ensures
