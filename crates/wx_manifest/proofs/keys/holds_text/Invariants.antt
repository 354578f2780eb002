use Rattle.std.proofs.Common.{◌≡◌, drop}
use Rattle.serde_json.specs.View.{items_view}
use Rattle.wx_manifest.specs.ExtensionManifests.{holds_text}
use Rattle.wx_manifest.proofs.keys.holds_text.Given as goal

abbrev pub invariant-loop-member : goal.invariant-loop-member
invariant-loop-member l = holds_text l.text (items_view l.members) ≡ holds_text l.text (items_view (drop l.member-index l.members))
