-- The pattern that a text is, or its fault, computed from the left.
use Rattle.std.specs.Prelude.{ℕ, suc, ◌+◌, max, Bool, true, false, ◌&&◌, ◌==◌, List, [], ◌∷◌, length, take, drop, slice_index, codes, nat_eq, bytes_eq, Option, Some, None, Result, Ok, Err, if◌then◌else◌}
use Rattle.std.specs.List.{starts_with}
use Rattle.url.specs.Ascii.{dot, slash}
use Rattle.wx_match_pattern.specs.declared.parts.SchemePart.{SchemePart}
use Rattle.wx_match_pattern.specs.declared.parts.SchemePart.TheVariants.{Any, Http, Https, File}
use Rattle.wx_match_pattern.specs.declared.fault.PatternFault.{PatternFault}
use Rattle.wx_match_pattern.specs.declared.fault.PatternKind.TheVariants.{Scheme, Host, Path}
use Rattle.wx_match_pattern.specs.declared.reading.HostFront.{HostFront}
use Rattle.wx_match_pattern.specs.Pattern.{is_label_byte, HostPart, no_host, any_host, below, named, PatternParts, all_urls, parts, scheme_head, all_urls_text}

-- how many bytes at the front of the text are those of the head
unfoldable pub agreement : List ℕ → List ℕ → ℕ
agreement [] head = 0
agreement (b ∷ text) [] = 0
agreement (b ∷ text) (h ∷ head) = if b == h then suc (agreement text head) else 0

-- the scheme whose `scheme://` stands at the front
abbrev pub scheme_of : List ℕ → Option SchemePart
scheme_of text =
    if starts_with nat_eq text (codes "*://") then Some Any
    else (if starts_with nat_eq text (codes "http://") then Some Http
    else (if starts_with nat_eq text (codes "https://") then Some Https
    else (if starts_with nat_eq text (codes "file://") then Some File
    else None)))

-- how far the text goes along with some beginning of a pattern
abbrev pub scheme_place : List ℕ → ℕ
scheme_place text =
    max (agreement text all_urls_text)
    (max (agreement text (scheme_head Any))
    (max (agreement text (scheme_head Http))
    (max (agreement text (scheme_head Https)) (agreement text (scheme_head File)))))

-- how many bytes begin a name; `inside` says that a byte of a label stands before them
unfoldable pub name_len : Bool → List ℕ → ℕ
name_len inside [] = 0
name_len inside (b ∷ bytes) =
    if is_label_byte b then suc (name_len true bytes)
    else (if inside && b == dot then suc (name_len false bytes) else 0)

-- those bytes end in a byte of a label
unfoldable pub name_whole : Bool → List ℕ → Bool
name_whole inside [] = inside
name_whole inside (b ∷ bytes) =
    if is_label_byte b then name_whole true bytes
    else (if inside && b == dot then name_whole false bytes else inside)

-- how many bytes begin a host, and whether they are a whole one
abbrev pub web_host_front : List ℕ → HostFront
web_host_front bytes =
    if starts_with nat_eq bytes (codes "*.")
    then record { len = 2 + name_len false (drop 2 bytes); whole = name_whole false (drop 2 bytes) }
    else (if starts_with nat_eq bytes (codes "*") then record { len = 1; whole = true }
    else record { len = name_len false bytes; whole = name_whole false bytes })

-- the same for any scheme: the host of `file` is empty
abbrev pub host_front : SchemePart → List ℕ → HostFront
host_front Any bytes = web_host_front bytes
host_front Http bytes = web_host_front bytes
host_front Https bytes = web_host_front bytes
host_front File bytes = record { len = 0; whole = true }

-- the host that is written so
abbrev pub host_part : List ℕ → HostPart
host_part text =
    if bytes_eq text [] then no_host
    else (if bytes_eq text (codes "*") then any_host
    else (if starts_with nat_eq text (codes "*.") then below (drop 2 text)
    else named text))

-- the pattern, where a whole host and then `/` stand after `scheme://`
abbrev pub pattern_behind : SchemePart → List ℕ → HostFront → Result PatternParts PatternFault
pattern_behind scheme bytes front =
    if front.whole && slice_index bytes front.len == slash
    then Ok (parts scheme (host_part (take front.len bytes)) (drop front.len bytes))
    else Err (record {
      place = length (scheme_head scheme) + front.len;
      kind = if front.whole && front.len == length bytes then Path else Host;
    })

-- the pattern by its scheme, or the fault before there is one
abbrev pub pattern_by : Option SchemePart → List ℕ → Result PatternParts PatternFault
pattern_by None text = Err (record { place = scheme_place text; kind = Scheme })
pattern_by (Some scheme) text =
    let bytes = drop (length (scheme_head scheme)) text in
    pattern_behind scheme bytes (host_front scheme bytes)

-- the pattern that the text is, or its fault
unfoldable pub pattern_of : List ℕ → Result PatternParts PatternFault
pattern_of text = if bytes_eq text all_urls_text then Ok all_urls else pattern_by (scheme_of text) text
