-- The automaton over UTF-8, RFC 3629 section 4.
use Rattle.std.specs.Prelude.{ℕ, zero, suc, List, [], ◌∷◌, cond}
use Rattle.wx_json.specs.Json.{is_between}

-- Between two characters; or inside one, where the next byte is to lie from the first number to the second and so many
-- follow it; or after a byte that no UTF-8 text has there.
pub data Coding : Type 0 where
  whole : Coding
  wants : ℕ → ℕ → ℕ → Coding
  broken : Coding

-- after the first byte of a character
abbrev pub lead : ℕ → Coding
lead c =
    cond (is_between 0x00 0x7F c) whole
    (cond (is_between 0xC2 0xDF c) (wants 0x80 0xBF 0)
    (cond (is_between 0xE0 0xE0 c) (wants 0xA0 0xBF 1)
    (cond (is_between 0xE1 0xEC c) (wants 0x80 0xBF 1)
    (cond (is_between 0xED 0xED c) (wants 0x80 0x9F 1)
    (cond (is_between 0xEE 0xEF c) (wants 0x80 0xBF 1)
    (cond (is_between 0xF0 0xF0 c) (wants 0x90 0xBF 2)
    (cond (is_between 0xF1 0xF3 c) (wants 0x80 0xBF 2)
    (cond (is_between 0xF4 0xF4 c) (wants 0x80 0x8F 2)
    broken))))))))

-- after one more byte
unfoldable pub code : Coding → ℕ → Coding
code whole c = lead c
code (wants low high zero) c = cond (is_between low high c) whole broken
code (wants low high (suc n)) c = cond (is_between low high c) (wants 0x80 0xBF n) broken
code broken c = broken

abbrev pub codes : Coding → List ℕ → Coding
codes s [] = s
codes s (c ∷ t) = codes (code s c) t
