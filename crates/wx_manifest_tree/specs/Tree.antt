-- The tree of a manifest, and what stands under its keys (MDN's "manifest.json", "Native manifests").
use Rattle.std.specs.Prelude.{ℕ, List, [], ◌∷◌, Option, Some, None, is_some, Result, Ok, Err, option_map, option_and_then, if◌then◌else◌, ⊤}
use Rattle.std.specs.Str.{is_utf8}
use Rattle.std.specs.Borrow.{Bor}
use Rattle.std.specs.Option.{ok_or}
use Rattle.serde_json.specs.Data.{Data, Items, no_items, item}
use Rattle.serde_json.specs.Read.{read}
use Rattle.serde_json.specs.Find.{as_str, as_array, as_object}
use Rattle.wx_manifest_tree.specs.declared.KeyFault.{KeyFault}
use Rattle.wx_manifest_tree.specs.declared.KeyFault.TheVariants.{Missing, WrongKind}

abbrev pub only_object : Data → Option Data
only_object d = if is_some (as_object d) then Some d else None

-- the object that the bytes are, as `serde_json` reads them (RFC 8259): of a repeated key the last value stays
unfoldable pub object_of : List ℕ → Option Data
object_of bytes = if is_utf8 bytes then option_and_then only_object (read bytes) else None

-- what has to be there and to be of one kind
abbrev pub required : {A : Type 0} → (Data → Option A) → Option Data → Result A KeyFault
required as_kind None = Err Missing
required as_kind (Some d) = ok_or (as_kind d) WrongKind

-- what may be absent, and else has to be of one kind
abbrev pub optional : {A : Type 0} → (Data → Option A) → Option Data → Result (Option A) KeyFault
optional as_kind None = Ok None
optional as_kind (Some d) = ok_or (option_map Some (as_kind d)) WrongKind

-- the texts of members that are all strings
abbrev pub texts_of : Items → Option (List (List ℕ))
texts_of no_items = Some []
texts_of (item d ds) = option_and_then (λ text. option_map (λ texts. text ∷ texts) (texts_of ds)) (as_str d)

-- an array of strings, as its texts
abbrev pub as_texts : Data → Option (List (List ℕ))
as_texts d = option_and_then texts_of (as_array d)

-- no place is a fault
abbrev pub no_place : {F : Type 0} → Option ℕ → (ℕ → F) → Result ⊤ F
no_place None fault = Ok tt
no_place (Some place) fault = Err (fault place)

-- an answer that lends a text, as that text
abbrev pub lent : {E : Type 0} → Result (Bor (List ℕ)) E → Result (List ℕ) E
lent (Ok text) = Ok text.now
lent (Err e) = Err e
