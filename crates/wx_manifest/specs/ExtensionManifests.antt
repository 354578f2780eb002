-- What an extension's manifest holds (Chrome's "Manifest file format"; MDN's "externally_connectable").
use Rattle.std.specs.Prelude.{ℕ, suc, Bool, true, false, not, ◌==◌, ◌&&◌, ◌||◌, nat_lt, List, [], ◌∷◌, length, Option, Some, None, option_and_then, unwrap_or, Result, Ok, Err, codes, if◌then◌else◌, ◌⊎◌}
use Rattle.std.specs.List.{list_any, list_all, position_from}
use Rattle.std.specs.Option.{option_map_or, ok_or}
use Rattle.std.specs.Str.{bytes_eq}
use Rattle.url.specs.Parts as url
use Rattle.serde_json.specs.Data.{Data, Items, no_items, item}
use Rattle.serde_json.specs.Find.{get, as_str, as_array, as_number, as_u64}
use Rattle.wx_id.specs.Ids.{is_extension_id}
use Rattle.wx_id.specs.Results.{◌>>=◌}
use Rattle.wx_match_pattern.specs.Pattern.{PatternParts, all_urls, parts, HostPart, no_host, any_host, below, named, is_label_byte}
use Rattle.wx_match_pattern.specs.Meets.{Meets}
use Rattle.wx_match_pattern.specs.Reading.{pattern_of}
use Rattle.wx_match_pattern.specs.declared.fault.PatternFault.{PatternFault}
use Rattle.wx_manifest_tree.specs.Tree.{object_of, only_object, required, optional, as_texts, no_place}
use Rattle.wx_manifest.specs.Keys.{key_name, under}
use Rattle.wx_manifest.specs.declared.faults.Key.{Key}
use Rattle.wx_manifest.specs.declared.faults.Key.TheVariants as key
use Rattle.wx_manifest.specs.declared.faults.ManifestFault.{ManifestFault}
use Rattle.wx_manifest.specs.declared.faults.ManifestFault.TheVariants.{NotJson, BadId, BadPattern, TooBroad}

-- who may call from outside: other extensions by `ids`, web pages by the patterns of `matches`
pub record Connectable : Type 0 where
  pub ids : List (List ℕ)
  pub patterns : List PatternParts

-- what a manifest holds
pub record Manifest : Type 0 where
  pub manifest_version : ℕ
  pub name : List ℕ
  pub version : List ℕ
  pub native : Bool
  pub external : Option Connectable

-- there and a string
unfoldable pub text_of : Key → Data → Result (List ℕ) ManifestFault
text_of key d = under key (required as_str (get (key_name key) d))

abbrev pub two_or_three : ℕ → Option ℕ
two_or_three n = if n == 2 || n == 3 then Some n else None

-- the whole number 2 or 3, written without fraction and exponent
abbrev pub as_version : Data → Option ℕ
as_version d = option_and_then two_or_three (option_and_then as_u64 (as_number d))

unfoldable pub manifest_version_of : Data → Result ℕ ManifestFault
manifest_version_of d = under key.ManifestVersion (required as_version (get (key_name key.ManifestVersion) d))

abbrev pub is_text : List ℕ → Data → Bool
is_text text d = option_map_or (bytes_eq text) (as_str d) false

-- a member of the array is this text
abbrev pub holds_text : List ℕ → Items → Bool
holds_text text no_items = false
holds_text text (item d ds) = is_text text d || holds_text text ds

-- `permissions`, where there, is an array; does it hold `nativeMessaging`?
unfoldable pub native_of : Data → Result Bool ManifestFault
native_of d = do
  members ← under key.Permissions (optional as_array (get (key_name key.Permissions) d))
  Ok (option_map_or (holds_text (codes "nativeMessaging")) members false)

-- where there, an array of strings
unfoldable pub texts_of : Key → Data → Result (List (List ℕ)) ManifestFault
texts_of key d = do
  texts ← under key (optional as_texts (get (key_name key) d))
  Ok (unwrap_or texts [])

-- `*` or an extension's id
abbrev pub is_id_entry : List ℕ → Bool
is_id_entry text = bytes_eq text (codes "*") || is_extension_id text

-- each is `*` or an extension's id
abbrev pub judged_ids : List (List ℕ) → Result (List (List ℕ)) ManifestFault
judged_ids ids = do
  _ ← no_place (position_from (λ text. not (is_id_entry text)) 0 ids) BadId
  Ok ids

-- `ids`, where there, is an array of strings, each `*` or an extension's id
unfoldable pub ids_of : Data → Result (List (List ℕ)) ManifestFault
ids_of d = do
  texts ← texts_of key.Ids d
  judged_ids texts

abbrev pub is_broad_host : HostPart → Bool
is_broad_host no_host = false
is_broad_host any_host = true
is_broad_host (below name) = nat_lt 0 (length name) && list_all is_label_byte name
is_broad_host (named name) = false

-- the host is `*`, or `*.` and a name of one label
abbrev pub is_too_broad : PatternParts → Bool
is_too_broad all_urls = false
is_too_broad (parts scheme host path) = is_broad_host host

abbrev pub not_too_broad : ℕ → PatternParts → Result PatternParts ManifestFault
not_too_broad n pattern = if is_too_broad pattern then Err (TooBroad n) else Ok pattern

-- the n-th text is a pattern, and that is not too broad
abbrev pub judged : ℕ → Result PatternParts PatternFault → Result PatternParts ManifestFault
judged n (Ok pattern) = not_too_broad n pattern
judged n (Err fault) = Err (BadPattern n fault)

-- the texts as patterns, judged one by one from the n-th on
abbrev pub patterns_from : ℕ → List (List ℕ) → Result (List PatternParts) ManifestFault
patterns_from n [] = Ok []
patterns_from n (text ∷ rest) = do
  pattern ← judged n (pattern_of text)
  patterns ← patterns_from (suc n) rest
  Ok (pattern ∷ patterns)

-- `matches`, where there, is an array of strings, each a pattern that is not too broad
unfoldable pub patterns_of : Data → Result (List PatternParts) ManifestFault
patterns_of d = do
  texts ← texts_of key.Matches d
  patterns_from 0 texts

-- `ids`, then `matches`
unfoldable pub connectable_in : Data → Result Connectable ManifestFault
connectable_in d = do
  ids ← ids_of d
  patterns ← patterns_of d
  Ok record { ids = ids; patterns = patterns }

abbrev pub connectable_of : Option Data → Result (Option Connectable) ManifestFault
connectable_of None = Ok None
connectable_of (Some d) = do
  connectable ← connectable_in d
  Ok (Some connectable)

-- `externally_connectable`, where there, is an object
unfoldable pub external_of : Data → Result (Option Connectable) ManifestFault
external_of d = do
  external ← under key.External (optional only_object (get (key_name key.External) d))
  connectable_of external

-- the object's tests in their order
unfoldable pub manifest_in : Data → Result Manifest ManifestFault
manifest_in d = do
  manifest_version ← manifest_version_of d
  name ← text_of key.Name d
  version ← text_of key.Version d
  native ← native_of d
  external ← external_of d
  Ok record {
    manifest_version = manifest_version;
    name = name;
    version = version;
    native = native;
    external = external;
  }

-- what the manifest holds, or the first test that fails
unfoldable pub extension_of : List ℕ → Result Manifest ManifestFault
extension_of bytes = do
  d ← ok_or (object_of bytes) NotJson
  manifest_in d

-- the member of `ids` is `*` or the id
abbrev pub admits_entry : List ℕ → List ℕ → Bool
admits_entry entry id = bytes_eq entry (codes "*") || bytes_eq entry id

-- the id is listed, or `*` is
abbrev pub lists_id : List (List ℕ) → List ℕ → Bool
lists_id ids id = list_any (λ entry. admits_entry entry id) ids

-- another extension with this id may call: each may, where `externally_connectable` is absent
abbrev pub admits_id_of : Option Connectable → List ℕ → Bool
admits_id_of None id = true
admits_id_of (Some external) id = lists_id external.ids id

abbrev pub admits_id : Manifest → List ℕ → Bool
admits_id manifest id = admits_id_of manifest.external id

-- some pattern matches
abbrev pub SomeMeets : List PatternParts → url.Parts → Type 0
SomeMeets [] page = ⊥
SomeMeets (pattern ∷ patterns) page = Meets pattern page ⊎ SomeMeets patterns page

abbrev pub patterns_in : Option Connectable → List PatternParts
patterns_in None = []
patterns_in (Some external) = external.patterns

-- a web page at this URL may call
abbrev pub AdmitsUrl : Manifest → url.Parts → Type 0
AdmitsUrl manifest page = SomeMeets (patterns_in manifest.external) page
