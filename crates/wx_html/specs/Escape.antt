-- How a text stands in a page of HTML, between tags or within the quotes of an attribute, and how it is read there (the
-- HTML Standard's "Character references").
use Rattle.std.specs.Prelude.{ℕ, List, [], ◌∷◌, ◌++◌, Option, Some, None, Bool, codes, flat_map, ◌==◌, not, ◌&&◌, if◌then◌else◌}
use Rattle.std.specs.Str.{bytes_eq}

-- what stands for a byte: a reference where the byte would end the text, or would not be read as itself
abbrev pub entity : ℕ → List ℕ
entity b =
    if b == 38 then codes "&amp;"
    else if b == 60 then codes "&lt;"
    else if b == 62 then codes "&gt;"
    else if b == 34 then codes "&quot;"
    else if b == 39 then codes "&#39;"
    else if b == 13 then codes "&#13;"
    else if b == 0 then codes "&#9216;"
    else (b ∷ [])

-- what stands for a text
abbrev pub escaped : List ℕ → List ℕ
escaped text = flat_map entity text

-- a byte that opens or closes no tag and no quotes, and that a reader of pages keeps as it is
abbrev pub is_tame : ℕ → Bool
is_tame b = not (b == 60) && not (b == 62) && not (b == 34) && not (b == 39) && not (b == 13) && not (b == 0)

-- what the reference of this name stands for. A page cannot hold the byte 0: its picture, U+2400, is named in its place.
abbrev pub named : List ℕ → List ℕ
named name =
    if bytes_eq name (codes "amp") then (38 ∷ [])
    else if bytes_eq name (codes "lt") then (60 ∷ [])
    else if bytes_eq name (codes "gt") then (62 ∷ [])
    else if bytes_eq name (codes "quot") then (34 ∷ [])
    else if bytes_eq name (codes "#39") then (39 ∷ [])
    else if bytes_eq name (codes "#13") then (13 ∷ [])
    else if bytes_eq name (codes "#9216") then (0 ∷ [])
    else []

-- The text that stands there: each reference, from `&` to `;`, is what it names, and every other byte is itself. The
-- first argument is the name so far, within a reference.
abbrev pub read_from : Option (List ℕ) → List ℕ → List ℕ
read_from name [] = []
read_from None (b ∷ page) = if b == 38 then read_from (Some []) page else b ∷ read_from None page
read_from (Some name) (b ∷ page) =
    if b == 59 then named name ++ read_from None page else read_from (Some (name ++ b ∷ [])) page

abbrev pub read_back : List ℕ → List ℕ
read_back page = read_from None page
