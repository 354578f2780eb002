-- Whether a match pattern meets a URL, as a test that computes. The law `match_test` says that it is exactly the match
-- relation.
use Rattle.std.specs.Prelude.{ℕ, Bool, true, false, ◌&&◌, ◌||◌, ◌==◌, List, [], ◌∷◌, codes, bytes_eq, Option, Some, None, if◌then◌else◌}
use Rattle.std.specs.List.{list_any}
use Rattle.url.specs.Ascii.{dot}
use Rattle.url.specs.Input.{lowercase}
use Rattle.url.specs.Parts.{Parts}
use Rattle.wx_match_pattern.specs.declared.parts.SchemePart.{SchemePart}
use Rattle.wx_match_pattern.specs.declared.parts.SchemePart.TheVariants.{Any, Http, Https, File}
use Rattle.wx_match_pattern.specs.Globs.{star}
use Rattle.wx_match_pattern.specs.Meets.{host_of, path_and_query}
use Rattle.wx_match_pattern.specs.Pattern.{HostPart, no_host, any_host, below, named, PatternParts, all_urls, parts}
use Rattle.wx_manifest.specs.ExtensionManifests.{Manifest, patterns_in}
use Rattle.wx_context.specs.WebUrls.{is_web_scheme}

-- some suffix of the text passes, also the whole and the empty one
unfoldable pub some_suffix : (List ℕ → Bool) → List ℕ → Bool
some_suffix passes [] = passes []
some_suffix passes (b ∷ text) = passes (b ∷ text) || some_suffix passes text

-- the text begins with the character, and its rest passes
abbrev pub rest_passes : ℕ → (List ℕ → Bool) → List ℕ → Bool
rest_passes c passes [] = false
rest_passes c passes (b ∷ text) = b == c && passes text

abbrev pub is_empty : List ℕ → Bool
is_empty [] = true
is_empty (b ∷ text) = false

-- the text is what the pattern spells, in which each `*` stands for any run of characters
unfoldable pub globs : List ℕ → List ℕ → Bool
globs [] text = is_empty text
globs (c ∷ pattern) text =
    if c == star then some_suffix (globs pattern) text else rest_passes c (globs pattern) text

abbrev pub scheme_agrees : SchemePart → List ℕ → Bool
scheme_agrees Any scheme = is_web_scheme scheme
scheme_agrees Http scheme = bytes_eq scheme (codes "http")
scheme_agrees Https scheme = bytes_eq scheme (codes "https")
scheme_agrees File scheme = bytes_eq scheme (codes "file")

abbrev pub is_same_name : List ℕ → List ℕ → Bool
is_same_name name host = bytes_eq (lowercase host) (lowercase name)

-- the host ends in `.` and the name, whatever the case of its letters
abbrev pub is_below : List ℕ → List ℕ → Bool
is_below name host = some_suffix (λ suffix. bytes_eq suffix (dot ∷ lowercase name)) (lowercase host)

abbrev pub name_agrees : HostPart → List ℕ → Bool
name_agrees no_host host = false
name_agrees any_host host = true
name_agrees (below name) host = is_same_name name host || is_below name host
name_agrees (named name) host = is_same_name name host

abbrev pub host_agrees : HostPart → Option (List ℕ) → Bool
host_agrees no_host None = true
host_agrees any_host None = true
host_agrees (below name) None = false
host_agrees (named name) None = false
host_agrees host (Some text) = name_agrees host text

-- the pattern matches the URL
unfoldable pub meets : PatternParts → Parts → Bool
meets all_urls url = is_web_scheme url.scheme || bytes_eq url.scheme (codes "file")
meets (parts scheme host path) url =
    scheme_agrees scheme url.scheme && (host_agrees host (host_of url) && globs path (path_and_query url))

-- some pattern of `externally_connectable.matches` matches the URL
abbrev pub admits_url : Manifest → Parts → Bool
admits_url manifest url = list_any (λ pattern. meets pattern url) (patterns_in manifest.external)
