use Rattle.std.proofs.Common.{◌≡◌, drop, map}
use Rattle.wx_manifest.specs.ExtensionManifests.{lists_id}
use Rattle.wx_manifest.specs.IdEntries.{id_text}
use Rattle.wx_manifest.proofs.ids.any_admits.Given as goal

abbrev pub invariant-loop-entry : goal.invariant-loop-entry
invariant-loop-entry l = lists_id (map id_text l.entries) l.id ≡ lists_id (map id_text (drop l.entry-index l.entries)) l.id
