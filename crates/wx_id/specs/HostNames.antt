-- The names of native hosts (Chrome's "Native messaging", key `name` of a host's manifest).
use Rattle.std.specs.Prelude.{◌≡◌, ℕ, suc, ◌+◌, ◌<◌, ◌≤◌, Bool, true, ◌&&◌, ◌||◌, not, List, [], ◌∷◌, ◌++◌, length, take, ◌==◌, nat_le, nat_lt, Option, Some, None, if◌then◌else◌, IsTrue}
use Rattle.std.specs.List.{list_all}

-- a lower-case letter, a digit or `_`
abbrev pub is_word_byte : ℕ → Bool
is_word_byte b = (nat_le 97 b && nat_le b 122) || (nat_le 48 b && nat_le b 57) || b == 95

abbrev pub is_dot : ℕ → Bool
is_dot b = b == 46

-- each dot has a byte that is none before it and after it; `edge`: the start or a dot stands just ahead
abbrev pub dots_stand_apart : Bool → List ℕ → Bool
dots_stand_apart edge [] = not edge
dots_stand_apart edge (b ∷ rest) = not (edge && is_dot b) && dots_stand_apart (is_dot b) rest

-- a host name: 1 to 250 bytes, each a lower-case letter, a digit, `_` or a dot; no dot first or last, no two together
abbrev pub is_host_name : List ℕ → Bool
is_host_name text =
    nat_le 1 (length text) && nat_le (length text) 250 && list_all (λ b. is_word_byte b || is_dot b) text
    && dots_stand_apart true text

-- the text begins a host name
abbrev pub BeginsHostName : List ℕ → Type 0
BeginsHostName text = (rest : List ℕ) × IsTrue (is_host_name (text ++ rest))

-- the least p such that the first p + 1 bytes begin no host name, or the length of a text that begins one and is none
pub record IsHostNameFault (text : List ℕ) (p : ℕ) : Type 0 where
  pub within : p ≤ length text
  pub least : (q : ℕ) → q ≤ p → BeginsHostName (take q text)
  pub begins_none : p < length text → ¬ (BeginsHostName (take (p + 1) text))
  pub is_none : p ≡ length text → ¬ (IsTrue (is_host_name text))

-- a byte that may stand at place n of a host name: none at 250, and no dot at 249, where the name would end
abbrev pub may_stand : ℕ → Bool → ℕ → Bool
may_stand n edge b = (is_word_byte b && nat_lt n 250) || (is_dot b && not edge && nat_lt n 249)

-- the place of the first byte that may not stand, from place n on; else the length of a text that ends at an edge
abbrev pub fault_from : ℕ → Bool → List ℕ → Option ℕ
fault_from n edge [] = if edge then Some n else None
fault_from n edge (b ∷ rest) = if may_stand n edge b then fault_from (suc n) (is_dot b) rest else Some n

-- where a text goes wrong as a host name
abbrev pub host_name_fault : List ℕ → Option ℕ
host_name_fault text = fault_from 0 true text
