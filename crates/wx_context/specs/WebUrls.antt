-- The addresses of web pages and of the documents that content scripts stand in, over the URL Standard as the crate
-- `url` states it.
use Rattle.std.specs.Prelude.{ℕ, Bool, false, ◌&&◌, ◌||◌, nat_le, List, length, codes, bytes_eq, Option, Some, None, Ok, Err, if◌then◌else◌}
use Rattle.std.specs.Option.{option_map_or}
use Rattle.url.specs.Parts.{Parts, serialize}
use Rattle.url.specs.Parser.{Parsed, parse_url}

-- how many bytes a text and the URL's own text may have
abbrev pub url_limit : ℕ
url_limit = 67108864

-- `http` or `https`
abbrev pub is_web_scheme : List ℕ → Bool
is_web_scheme scheme = bytes_eq scheme (codes "http") || bytes_eq scheme (codes "https")

-- an http or https URL whose own text is not too long
unfoldable pub is_web : Parts → Bool
is_web url = is_web_scheme url.scheme && nat_le (length (serialize url)) url_limit

-- the own text of what was parsed, where that is the URL of a web page
abbrev pub web_text : Parsed Parts → Option (List ℕ)
web_text (Ok url) = if is_web url then Some (serialize url) else None
web_text (Err error) = None

-- the own text of the web URL that a text is read as; none where it is read as none
unfoldable pub web_url_of : List ℕ → Option (List ℕ)
web_url_of text = if nat_le (length text) url_limit then web_text (parse_url None text) else None

-- a text is a web URL's own: it is read as a web URL whose own text it is
unfoldable pub is_web_url : List ℕ → Bool
is_web_url text = option_map_or (bytes_eq text) (web_url_of text) false
