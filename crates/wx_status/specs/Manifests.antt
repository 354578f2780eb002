-- The line that says why a manifest is refused.
use Rattle.std.specs.Prelude.{ℕ, List, ◌++◌, decimal, codes}
use Rattle.wx_match_pattern.specs.declared.fault.PatternFault.{PatternFault}
use Rattle.wx_manifest.specs.declared.faults.Key.{Key}
use Rattle.wx_manifest.specs.declared.faults.Key.TheVariants as key
use Rattle.wx_manifest.specs.declared.faults.ManifestFault.{ManifestFault}
use Rattle.wx_manifest.specs.declared.faults.ManifestFault.TheVariants as extension
use Rattle.wx_host_manifest.specs.declared.faults.HostKey.{HostKey}
use Rattle.wx_host_manifest.specs.declared.faults.HostKey.TheVariants as host_key
use Rattle.wx_host_manifest.specs.declared.faults.HostFault.{HostFault}
use Rattle.wx_host_manifest.specs.declared.faults.HostFault.TheVariants as host
use Rattle.wx_world.specs.declared.faults.FileKind.{FileKind}
use Rattle.wx_world.specs.declared.faults.FileKind.TheVariants as file
use Rattle.wx_status.specs.Lines.{pattern_word}

-- a key of an extension's manifest, with the key that it stands under
abbrev pub key_word : Key → List ℕ
key_word key.ManifestVersion = codes "manifest_version"
key_word key.Name = codes "name"
key_word key.Version = codes "version"
key_word key.Permissions = codes "permissions"
key_word key.External = codes "externally_connectable"
key_word key.Ids = codes "externally_connectable.ids"
key_word key.Matches = codes "externally_connectable.matches"

-- a key of a host's manifest
abbrev pub host_key_word : HostKey → List ℕ
host_key_word host_key.Name = codes "name"
host_key_word host_key.Description = codes "description"
host_key_word host_key.Path = codes "path"
host_key_word host_key.Kind = codes "type"
host_key_word host_key.Origins = codes "allowed_origins"

-- a word, and what it is about
abbrev pub about : List ℕ → List ℕ → List ℕ
about word what = word ++ (codes " " ++ what)

-- where a pattern is faulty: its place in `matches`, the fault's place in it, and the part
abbrev pub pattern_text : ℕ → PatternFault → List ℕ
pattern_text n fault = decimal n ++ (codes " " ++ (decimal fault.place ++ (codes " " ++ pattern_word fault.kind)))

-- why an extension's manifest is refused; it is never for want of memory
abbrev pub extension_text : ManifestFault → List ℕ
extension_text extension.NotJson = codes "not_json"
extension_text (extension.Missing key) = about (codes "missing_key") (key_word key)
extension_text (extension.WrongKind key) = about (codes "wrong_kind") (key_word key)
extension_text (extension.BadId n) = about (codes "bad_id") (decimal n)
extension_text (extension.BadPattern n fault) = about (codes "bad_pattern") (pattern_text n fault)
extension_text (extension.TooBroad n) = about (codes "too_broad") (decimal n)
extension_text extension.NoMemory = codes "no_memory"

-- why a host's manifest is refused; it is never for want of memory
abbrev pub host_text : HostFault → List ℕ
host_text host.NotJson = codes "not_json"
host_text (host.Missing key) = about (codes "missing_key") (host_key_word key)
host_text (host.WrongKind key) = about (codes "wrong_kind") (host_key_word key)
host_text (host.BadName place) = about (codes "bad_name") (decimal place)
host_text host.NameDiffers = codes "name_differs"
host_text host.NotAbsolute = codes "not_absolute"
host_text host.NotStdio = codes "not_stdio"
host_text (host.BadOrigin n) = about (codes "bad_origin") (decimal n)
host_text host.NoMemory = codes "no_memory"

-- why a manifest's file is refused
abbrev pub kind_text : FileKind → List ℕ
kind_text file.Missing = codes "missing"
kind_text file.Large = codes "large"
kind_text (file.Extension fault) = extension_text fault
kind_text (file.Host fault) = host_text fault

-- the file is named as the scene writes it
abbrev pub manifest_line : List ℕ → FileKind → List ℕ
manifest_line file kind = codes "wx: manifest refused: " ++ (file ++ (codes ": " ++ (kind_text kind ++ codes "\n")))
