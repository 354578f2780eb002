-- Keys and answers of an extension's manifest.
use Rattle.std.specs.Prelude.{ℕ, List, Result, codes}
use Rattle.wx_id.specs.Results.{told_as}
use Rattle.wx_manifest_tree.specs.declared.KeyFault.{KeyFault}
use Rattle.wx_manifest_tree.specs.declared.KeyFault.TheVariants as at
use Rattle.wx_manifest.specs.declared.faults.Key.{Key}
use Rattle.wx_manifest.specs.declared.faults.Key.TheVariants as key
use Rattle.wx_manifest.specs.declared.faults.ManifestFault.{ManifestFault}
use Rattle.wx_manifest.specs.declared.faults.ManifestFault.TheVariants.{Missing, WrongKind}

abbrev pub key_name : Key → List ℕ
key_name key.ManifestVersion = codes "manifest_version"
key_name key.Name = codes "name"
key_name key.Version = codes "version"
key_name key.Permissions = codes "permissions"
key_name key.External = codes "externally_connectable"
key_name key.Ids = codes "ids"
key_name key.Matches = codes "matches"

abbrev pub fault_at : Key → KeyFault → ManifestFault
fault_at key at.Missing = Missing key
fault_at key at.WrongKind = WrongKind key

-- what stands under the key, or its fault
abbrev pub under : {A : Type 0} → Key → Result A KeyFault → Result A ManifestFault
under key = told_as (fault_at key)
