-- The origin of an extension, as a host's manifest and a host's command line write it (Chrome's "Native messaging").
use Rattle.std.specs.Prelude.{ℕ, Bool, ◌&&◌, List, ◌++◌, take, drop, Option, Some, None, if◌then◌else◌, codes}
use Rattle.std.specs.Str.{bytes_eq}
use Rattle.wx_id.specs.Ids.{is_extension_id}

-- `chrome-extension://ID/`
abbrev pub origin_of : List ℕ → List ℕ
origin_of id = codes "chrome-extension://" ++ (id ++ codes "/")

-- the 32 bytes after the scheme
abbrev pub id_in : List ℕ → List ℕ
id_in text = take 32 (drop 19 text)

-- the text is the origin of the id that stands in it
unfoldable pub is_origin : List ℕ → Bool
is_origin text = is_extension_id (id_in text) && bytes_eq text (origin_of (id_in text))

-- whose origin a text is
abbrev pub caller_of : List ℕ → Option (List ℕ)
caller_of text = if is_origin text then Some (id_in text) else None
