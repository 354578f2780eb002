-- The words of a line, and which bytes each sort of word has.
use Rattle.std.specs.Prelude.{ℕ, Bool, true, false, ◌&&◌, ◌||◌, not, List, [], ◌∷◌, length, Option, Some, None, ◌==◌, nat_lt, nat_le, codes, if◌then◌else◌}
use Rattle.std.specs.List.{list_all}
use Rattle.std.specs.Option.{option_or, unwrap_or}
use Rattle.std.specs.Str.{bytes_eq}
use Rattle.wx_context.specs.Paths.{is_printable}
use Rattle.wx_id.specs.HostNames.{is_word_byte}

-- the bytes up to the first space
abbrev pub word : List ℕ → List ℕ
word [] = []
word (b ∷ bs) = if b == 32 then [] else b ∷ word bs

-- what stands after the first space, if there is one
abbrev pub rest : List ℕ → Option (List ℕ)
rest [] = None
rest (b ∷ bs) = if b == 32 then Some bs else rest bs

-- a space and what stands after it, if there is something
abbrev pub behind : Option (List ℕ) → List ℕ
behind None = []
behind (Some text) = 32 ∷ text

abbrev pub is_digit : ℕ → Bool
is_digit b = nat_le 48 b && nat_le b 57

-- at least one byte
abbrev pub is_given : List ℕ → Bool
is_given [] = false
is_given (b ∷ bs) = true

-- `a` to `z`
abbrev pub is_letter : ℕ → Bool
is_letter b = nat_le 97 b && nat_le b 122

-- a letter, and up to 31 bytes more
abbrev pub is_identifier : List ℕ → Bool
is_identifier [] = false
is_identifier (b ∷ bs) = is_letter b && list_all is_word_byte bs && nat_lt (length bs) 32

-- the name of an extension, an endpoint or a variable: `same` is none
abbrev pub is_name : List ℕ → Bool
is_name text = is_identifier text && not (bytes_eq text (codes "same"))

-- an id, a file, a path, a URL, a port name or a host's name: one or more printable bytes
abbrev pub is_word : List ℕ → Bool
is_word [] = false
is_word (b ∷ bs) = is_printable (b ∷ bs)

-- decimal digits without a leading zero
abbrev pub is_number : List ℕ → Bool
is_number [] = false
is_number (b ∷ bs) = list_all is_digit (b ∷ bs) && (not (b == 48) || not (is_given bs))

-- at most 4,294,967,295
abbrev pub is_small : ℕ → Bool
is_small n = nat_lt n 4294967296

-- how often something is done: from 1 to 1,000,000
abbrev pub is_count : ℕ → Bool
is_count n = nat_le 1 n && nat_le n 1000000

-- a line that counts for nothing but its number: it is empty, or begins with `#`
abbrev pub is_comment : List ℕ → Bool
is_comment [] = true
is_comment (b ∷ bs) = b == 35

-- what stands after the last `/`, if there is one
abbrev pub behind_slash : List ℕ → Option (List ℕ)
behind_slash [] = None
behind_slash (b ∷ bs) = option_or (behind_slash bs) (if b == 47 then Some bs else None)

-- a file's own name: the part after the last `/`, which is the whole where there is none
abbrev pub file_name : List ℕ → List ℕ
file_name file = unwrap_or (behind_slash file) file
