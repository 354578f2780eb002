-- The paths of pages.
use Rattle.std.specs.Prelude.{ℕ, Bool, false, ◌&&◌, List, [], ◌∷◌, ◌==◌, nat_le}
use Rattle.std.specs.List.{list_all}

-- a printable byte of ASCII but the space: `21` to `7e` in hexadecimal
abbrev pub is_printable_byte : ℕ → Bool
is_printable_byte b = nat_le 33 b && nat_le b 126

abbrev pub is_printable : List ℕ → Bool
is_printable text = list_all is_printable_byte text

-- the path of a page: `/` and printable bytes
abbrev pub is_page_path : List ℕ → Bool
is_page_path [] = false
is_page_path (b ∷ bs) = (b == 47) && is_printable bs
