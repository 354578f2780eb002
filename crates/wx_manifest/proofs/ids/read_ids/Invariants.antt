use Rattle.std.proofs.Common.{◌≡◌, drop, map, take}
use Rattle.std.specs.Prelude.{not}
use Rattle.std.specs.List.{position_from}
use Rattle.wx_manifest.specs.ExtensionManifests.{is_id_entry}
use Rattle.wx_manifest.specs.IdEntries.{id_text}
use Rattle.wx_manifest.proofs.ids.read_ids.Given as goal

abbrev pub invariant-loop-place : goal.invariant-loop-place
invariant-loop-place l =
    (map id_text l.ids.items ≡ take l.place l.texts)
    × (position_from (λ text. not (is_id_entry text)) 0 l.texts ≡ position_from (λ text. not (is_id_entry text)) l.place (drop l.place l.texts))
