-- What a native host's manifest holds (Chrome's "Native messaging", "Native messaging host").
use Rattle.std.specs.Prelude.{ℕ, Bool, true, false, not, ◌==◌, List, [], ◌∷◌, ◌++◌, Result, Ok, Err, codes, ⊤}
use Rattle.std.specs.List.{list_any, position_from}
use Rattle.std.specs.Option.{ok_or}
use Rattle.std.specs.Str.{bytes_eq}
use Rattle.serde_json.specs.Data.{Data}
use Rattle.serde_json.specs.Find.{get, as_str}
use Rattle.wx_id.specs.HostNames.{host_name_fault}
use Rattle.wx_id.specs.Results.{◌>>=◌, told_as}
use Rattle.wx_manifest_tree.specs.Tree.{object_of, required, as_texts, no_place}
use Rattle.wx_manifest_tree.specs.declared.KeyFault.{KeyFault}
use Rattle.wx_manifest_tree.specs.declared.KeyFault.TheVariants as at
use Rattle.wx_host_manifest.specs.Origins.{origin_of, is_origin}
use Rattle.wx_host_manifest.specs.declared.faults.HostKey.{HostKey}
use Rattle.wx_host_manifest.specs.declared.faults.HostKey.TheVariants.{Name, Description, Path, Kind, Origins}
use Rattle.wx_host_manifest.specs.declared.faults.HostFault.{HostFault}
use Rattle.wx_host_manifest.specs.declared.faults.HostFault.TheVariants.{NotJson, Missing, WrongKind, BadName, NameDiffers, NotAbsolute, NotStdio, BadOrigin}

-- what a manifest holds: its host's name, the program's path and the origins that may call it
pub record Host : Type 0 where
  pub name : List ℕ
  pub path : List ℕ
  pub origins : List (List ℕ)

abbrev pub test : Bool → HostFault → Result ⊤ HostFault
test true fault = Ok tt
test false fault = Err fault

abbrev pub key_name : HostKey → List ℕ
key_name Name = codes "name"
key_name Description = codes "description"
key_name Path = codes "path"
key_name Kind = codes "type"
key_name Origins = codes "allowed_origins"

abbrev pub fault_at : HostKey → KeyFault → HostFault
fault_at key at.Missing = Missing key
fault_at key at.WrongKind = WrongKind key

-- what stands under the key, or its fault
abbrev pub under : {A : Type 0} → HostKey → Result A KeyFault → Result A HostFault
under key = told_as (fault_at key)

-- there and a string
unfoldable pub text_of : HostKey → Data → Result (List ℕ) HostFault
text_of key d = under key (required as_str (get (key_name key) d))

-- `name`: a string, a host name, and the file is `NAME.json`
unfoldable pub name_of : List ℕ → Data → Result (List ℕ) HostFault
name_of file d = do
  name ← text_of Name d
  _ ← no_place (host_name_fault name) BadName
  _ ← test (bytes_eq file (name ++ codes ".json")) NameDiffers
  Ok name

abbrev pub is_absolute : List ℕ → Bool
is_absolute [] = false
is_absolute (b ∷ rest) = b == 47

-- `path`: a string that begins with `/`
unfoldable pub path_of : Data → Result (List ℕ) HostFault
path_of d = do
  path ← text_of Path d
  _ ← test (is_absolute path) NotAbsolute
  Ok path

-- `type`: the string `stdio`
unfoldable pub kind_of : Data → Result ⊤ HostFault
kind_of d = do
  kind ← text_of Kind d
  test (bytes_eq kind (codes "stdio")) NotStdio

-- `allowed_origins`: an array of strings, each an extension's origin
unfoldable pub origins_of : Data → Result (List (List ℕ)) HostFault
origins_of d = do
  origins ← under Origins (required as_texts (get (key_name Origins) d))
  _ ← no_place (position_from (λ text. not (is_origin text)) 0 origins) BadOrigin
  Ok origins

-- the object's tests in their order
unfoldable pub host_in : List ℕ → Data → Result Host HostFault
host_in file d = do
  name ← name_of file d
  _ ← text_of Description d
  path ← path_of d
  _ ← kind_of d
  origins ← origins_of d
  Ok record { name = name; path = path; origins = origins }

-- what the manifest in the file of that name holds, or the first test that fails
unfoldable pub host_of : List ℕ → List ℕ → Result Host HostFault
host_of file bytes = do
  d ← ok_or (object_of bytes) NotJson
  host_in file d

-- the extension with this id may start the host
abbrev pub admits : Host → List ℕ → Bool
admits host id = list_any (λ origin. bytes_eq origin (origin_of id)) host.origins

-- the words that a host is started with after its path
abbrev pub arguments_of : List ℕ → List (List ℕ)
arguments_of id = origin_of id ∷ []
