-- Match patterns, after "Match patterns in extension manifests" of MDN and "Match patterns" of Chrome.
use Rattle.std.specs.Prelude.{◌≡◌, ℕ, ◌<◌, Bool, true, ◌||◌, ◌==◌, List, [], ◌∷◌, ◌++◌, length, slice_index, codes}
use Rattle.std.specs.Char.{is_ascii_alphanumeric}
use Rattle.std.specs.List.{list_all}
use Rattle.url.specs.Ascii.{dot, hyphen, slash}
use Rattle.wx_match_pattern.specs.declared.parts.SchemePart.{SchemePart}
use Rattle.wx_match_pattern.specs.declared.parts.SchemePart.TheVariants.{Any, Http, Https, File}

-- `b'_'`
abbrev pub underscore : ℕ
underscore = 95

-- an ASCII letter, a digit, `-` or `_`
abbrev pub is_label_byte : ℕ → Bool
is_label_byte b = is_ascii_alphanumeric b || b == hyphen || b == underscore

-- a label: one or more such bytes
pub record IsLabel (text : List ℕ) : Type 0 where
  pub nonempty : 0 < length text
  pub each : list_all is_label_byte text ≡ true

-- a name: labels joined by single dots
pub data IsName : List ℕ → Type 0 where
  label : {l : List ℕ} → IsLabel l → IsName l
  dotted : {l n : List ℕ} → IsLabel l → IsName n → IsName (l ++ dot ∷ n)

-- the host of a pattern: none, `*`, `*.` and a name, or a name
pub data HostPart : Type 0 where
  no_host : HostPart
  any_host : HostPart
  below : List ℕ → HostPart
  named : List ℕ → HostPart

-- a pattern: `<all_urls>`, or a scheme, a host and a path
pub data PatternParts : Type 0 where
  all_urls : PatternParts
  parts : SchemePart → HostPart → List ℕ → PatternParts

-- the scheme as a pattern writes it
abbrev pub scheme_text : SchemePart → List ℕ
scheme_text Any = codes "*"
scheme_text Http = codes "http"
scheme_text Https = codes "https"
scheme_text File = codes "file"

-- the host as a pattern writes it
abbrev pub host_text : HostPart → List ℕ
host_text no_host = []
host_text any_host = codes "*"
host_text (below name) = codes "*." ++ name
host_text (named name) = name

-- `scheme://`
abbrev pub scheme_head : SchemePart → List ℕ
scheme_head scheme = scheme_text scheme ++ codes "://"

-- the pattern `<all_urls>`
abbrev pub all_urls_text : List ℕ
all_urls_text = codes "<all_urls>"

-- the pattern's text: `scheme://host/path`, where the path begins with its `/`
abbrev pub pattern_text : PatternParts → List ℕ
pattern_text all_urls = all_urls_text
pattern_text (parts scheme host path) = scheme_head scheme ++ (host_text host ++ path)

-- the host of `*`, `http` and `https`: `*`, `*.` and a name, or a name
abbrev pub IsWebHost : HostPart → Type 0
IsWebHost no_host = ⊥
IsWebHost any_host = Unit {0}
IsWebHost (below name) = IsName name
IsWebHost (named name) = IsName name

-- the host that a scheme may have: `file` has none
abbrev pub IsHostOf : SchemePart → HostPart → Type 0
IsHostOf Any host = IsWebHost host
IsHostOf Http host = IsWebHost host
IsHostOf Https host = IsWebHost host
IsHostOf File host = host ≡ no_host

-- the host is one of its scheme, and the path is `/` and any text
abbrev pub IsWellFormed : PatternParts → Type 0
IsWellFormed all_urls = Unit {0}
IsWellFormed (parts scheme host path) = IsHostOf scheme host × (slice_index path 0 ≡ slash)

-- the text is that of this pattern
pub record IsTextOf (pattern : PatternParts) (text : List ℕ) : Type 0 where
  pub formed : IsWellFormed pattern
  pub spelled : pattern_text pattern ≡ text

-- the text is a pattern
abbrev pub IsPattern : List ℕ → Type 0
IsPattern text = (pattern : PatternParts) × IsTextOf pattern text

-- the host is `*`, or `*.` and a name of one label
abbrev pub IsBroadHost : HostPart → Type 0
IsBroadHost no_host = ⊥
IsBroadHost any_host = Unit {0}
IsBroadHost (below name) = IsLabel name
IsBroadHost (named name) = ⊥

-- the pattern covers a whole top-level domain or more; `<all_urls>` does not count as that
abbrev pub IsTooBroad : PatternParts → Type 0
IsTooBroad all_urls = ⊥
IsTooBroad (parts scheme host path) = IsBroadHost host
