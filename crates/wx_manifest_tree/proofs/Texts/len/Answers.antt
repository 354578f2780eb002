use Rattle.wx_manifest_tree.proofs.TreeLemmas.{length-texts}
use Rattle.wx_manifest_tree.proofs.Texts.len.Goals as goal

pub returns : goal.returns
returns c = rw (← c.self.view_is) (length-texts _ c.self.invariant)
