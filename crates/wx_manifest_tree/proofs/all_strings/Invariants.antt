use Rattle.std.proofs.Common.{◌≡◌, drop}
use Rattle.std.specs.Prelude.{is_some}
use Rattle.serde_json.specs.View.{items_view}
use Rattle.wx_manifest_tree.specs.Tree.{texts_of}
use Rattle.wx_manifest_tree.proofs.all_strings.Given as goal

abbrev pub invariant-loop-member : goal.invariant-loop-member
invariant-loop-member l = is_some (texts_of (items_view l.members)) ≡ is_some (texts_of (items_view (drop l.member-index l.members)))
