-- What may follow at a place of the automaton, in the grammar's terms.
use Rattle.std.specs.Prelude.{ℕ, suc, List, [], ◌∷◌, Bool, true, false, ◌⊎◌}
use Rattle.wx_json.specs.Json.{White, Word, Digits, Digits1, Power, Exponent, Fraction, Unsigned, Hexes, Chars, Escaped}
use Rattle.wx_json.proofs.Bounded.{Value, MoreElements, MoreMembers}
use Rattle.wx_json.specs.Machine.{State, at}
use Rattle.wx_json.specs.Mode.{Mode}
use Rattle.wx_json.specs.Mode.{value, array_start, object_start, key, colon, after, text, escape, hex, minus, zero_digit, digits, point, decimals, e, e_sign, power, t1, t2, t3, f1, f2, f3, f4, n1, n2, n3}

-- after a value in these containers
abbrev pub After : ℕ → List Bool → List ℕ → Type 0
After n [] t = White t []
After n (false ∷ σ) t = (r : List ℕ) × MoreElements t n r × After (suc n) σ r
After n (true ∷ σ) t = (r : List ℕ) × MoreMembers t n r × After (suc n) σ r

abbrev pub Popped : ℕ → List Bool → List ℕ → Type 0
Popped n [] t = ⊥
Popped n (k ∷ σ) t = After (suc n) σ t

abbrev pub ValueNext : ℕ → List Bool → List ℕ → Type 0
ValueNext n σ t = (s : List ℕ) × (r : List ℕ) × White t s × Value s n r × After n σ r

abbrev pub ColonNext : ℕ → List Bool → List ℕ → Type 0
ColonNext n σ t = (s : List ℕ) × White t (0x3A ∷ s) × ValueNext n σ s

abbrev pub KeyNext : ℕ → List Bool → List ℕ → Type 0
KeyNext n σ t = (s : List ℕ) × (r : List ℕ) × White t (0x22 ∷ s) × Chars s r × ColonNext n σ r

abbrev pub Follows : Bool → ℕ → List Bool → List ℕ → Type 0
Follows true n σ t = ColonNext n σ t
Follows false n σ t = After n σ t

abbrev pub Waits : Mode → ℕ → List Bool → List ℕ → Type 0
Waits value n σ t = ValueNext n σ t
Waits array_start n σ t = ((r : List ℕ) × White t (0x5D ∷ r) × Popped n σ r) ⊎ ValueNext n σ t
Waits object_start n σ t = ((r : List ℕ) × White t (0x7D ∷ r) × Popped n σ r) ⊎ KeyNext n σ t
Waits key n σ t = KeyNext n σ t
Waits colon n σ t = ColonNext n σ t
Waits after n σ t = After n σ t
Waits (text k) n σ t = (r : List ℕ) × Chars t r × Follows k n σ r
Waits (escape k) n σ t = (r : List ℕ) × Escaped t r × Follows k n σ r
Waits (hex m k) n σ t = (s : List ℕ) × (r : List ℕ) × Hexes (suc m) t s × Chars s r × Follows k n σ r
Waits minus n σ t = (r : List ℕ) × Unsigned t r × After n σ r
Waits zero_digit n σ t = (r : List ℕ) × Fraction t r × After n σ r
Waits digits n σ t = (s : List ℕ) × (r : List ℕ) × Digits t s × Fraction s r × After n σ r
Waits point n σ t = (s : List ℕ) × (r : List ℕ) × Digits1 t s × Exponent s r × After n σ r
Waits decimals n σ t = (s : List ℕ) × (r : List ℕ) × Digits t s × Exponent s r × After n σ r
Waits e n σ t = (r : List ℕ) × Power t r × After n σ r
Waits e_sign n σ t = (r : List ℕ) × Digits1 t r × After n σ r
Waits power n σ t = (r : List ℕ) × Digits t r × After n σ r
Waits t1 n σ t = (r : List ℕ) × Word (0x72 ∷ 0x75 ∷ 0x65 ∷ []) t r × After n σ r
Waits t2 n σ t = (r : List ℕ) × Word (0x75 ∷ 0x65 ∷ []) t r × After n σ r
Waits t3 n σ t = (r : List ℕ) × Word (0x65 ∷ []) t r × After n σ r
Waits f1 n σ t = (r : List ℕ) × Word (0x61 ∷ 0x6C ∷ 0x73 ∷ 0x65 ∷ []) t r × After n σ r
Waits f2 n σ t = (r : List ℕ) × Word (0x6C ∷ 0x73 ∷ 0x65 ∷ []) t r × After n σ r
Waits f3 n σ t = (r : List ℕ) × Word (0x73 ∷ 0x65 ∷ []) t r × After n σ r
Waits f4 n σ t = (r : List ℕ) × Word (0x65 ∷ []) t r × After n σ r
Waits n1 n σ t = (r : List ℕ) × Word (0x75 ∷ 0x6C ∷ 0x6C ∷ []) t r × After n σ r
Waits n2 n σ t = (r : List ℕ) × Word (0x6C ∷ 0x6C ∷ []) t r × After n σ r
Waits n3 n σ t = (r : List ℕ) × Word (0x6C ∷ []) t r × After n σ r

pub data In : State → List ℕ → Type 0 where
  within : {m : Mode} {n : ℕ} {σ : List Bool} {t : List ℕ} → Waits m n σ t → In (at m n σ) t
