-- The ids of extensions.
use Rattle.std.specs.Prelude.{ℕ, Bool, ◌&&◌, min, List, length, ◌==◌, nat_le}
use Rattle.std.specs.List.{list_all, prefix_len}

-- `a` to `p`
abbrev pub is_id_letter : ℕ → Bool
is_id_letter b = nat_le 97 b && nat_le b 112

-- an extension id: 32 letters from `a` to `p`
abbrev pub is_extension_id : List ℕ → Bool
is_extension_id text = list_all is_id_letter text && (length text == 32)

-- the place of the first byte that is no such letter or stands at 32; a shorter text of such letters has its length
abbrev pub bad_place : List ℕ → ℕ
bad_place text = min 32 (prefix_len is_id_letter text)
