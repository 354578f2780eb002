-- The automaton over RFC 8259's grammar. It knows nothing of UTF-8. No contract cites it but through Stands of
-- specs/Check.antt.
use Rattle.std.specs.Prelude.{ℕ, zero, suc, List, [], ◌∷◌, Bool, true, false, ◌==◌, cond}
use Rattle.wx_json.specs.Json.{is_white, is_digit, is_digit1-9, is_e, is_sign, is_unescaped, is_escape, is_hex}
use Rattle.wx_json.specs.Mode.{Mode}
use Rattle.wx_json.specs.Mode.{value, array_start, object_start, key, colon, after, text, escape, hex, minus, zero_digit, digits, point, decimals, e, e_sign, power, t1, t2, t3, f1, f2, f3, f4, n1, n2, n3}

-- A place has its mode, how many levels may still be opened, and the open containers, the innermost first (true is an
-- object). A text that has failed says whether it was too deep.
pub data State : Type 0 where
  dead : Bool → State
  at : Mode → ℕ → List Bool → State

abbrev pub push : Mode → Bool → ℕ → List Bool → State
push m k zero σ = dead true
push m k (suc n) σ = at m n (k ∷ σ)

abbrev pub pop : ℕ → List Bool → State
pop n [] = dead false
pop n (k ∷ σ) = at after (suc n) σ

abbrev pub pop_array : ℕ → List Bool → State
pop_array n [] = dead false
pop_array n (false ∷ σ) = at after (suc n) σ
pop_array n (true ∷ σ) = dead false

abbrev pub pop_object : ℕ → List Bool → State
pop_object n [] = dead false
pop_object n (false ∷ σ) = dead false
pop_object n (true ∷ σ) = at after (suc n) σ

abbrev pub comma : ℕ → List Bool → State
comma n [] = dead false
comma n (false ∷ σ) = at value n (false ∷ σ)
comma n (true ∷ σ) = at key n (true ∷ σ)

abbrev pub begin : ℕ → List Bool → ℕ → State
begin n σ c =
    cond (is_digit1-9 c) (at digits n σ)
    (cond (c == 0x22) (at (text false) n σ)
    (cond (c == 0x5B) (push array_start false n σ)
    (cond (c == 0x7B) (push object_start true n σ)
    (cond (c == 0x2D) (at minus n σ)
    (cond (c == 0x30) (at zero_digit n σ)
    (cond (c == 0x74) (at t1 n σ)
    (cond (c == 0x66) (at f1 n σ)
    (cond (c == 0x6E) (at n1 n σ)
    (dead false)))))))))

abbrev pub end : ℕ → List Bool → ℕ → State
end n σ c =
    cond (is_white c) (at after n σ)
    (cond (c == 0x2C) (comma n σ)
    (cond (c == 0x5D) (pop_array n σ)
    (cond (c == 0x7D) (pop_object n σ)
    (dead false))))

abbrev pub exponent_or_end : ℕ → List Bool → ℕ → State
exponent_or_end n σ c = cond (is_e c) (at e n σ) (end n σ c)

abbrev pub follow : Bool → Mode
follow true = colon
follow false = after

-- what a byte does
unfoldable pub next : Mode → ℕ → List Bool → ℕ → State
next value n σ c = cond (is_white c) (at value n σ) (begin n σ c)
next array_start n σ c = cond (is_white c) (at array_start n σ) (cond (c == 0x5D) (pop n σ) (begin n σ c))
next object_start n σ c = cond (is_white c) (at object_start n σ)
    (cond (c == 0x7D) (pop n σ) (cond (c == 0x22) (at (text true) n σ) (dead false)))
next key n σ c = cond (is_white c) (at key n σ) (cond (c == 0x22) (at (text true) n σ) (dead false))
next colon n σ c = cond (is_white c) (at colon n σ) (cond (c == 0x3A) (at value n σ) (dead false))
next after n σ c = end n σ c
next (text k) n σ c = cond (is_unescaped c) (at (text k) n σ)
    (cond (c == 0x22) (at (follow k) n σ) (cond (c == 0x5C) (at (escape k) n σ) (dead false)))
next (escape k) n σ c = cond (is_escape c) (at (text k) n σ) (cond (c == 0x75) (at (hex 3 k) n σ) (dead false))
next (hex zero k) n σ c = cond (is_hex c) (at (text k) n σ) (dead false)
next (hex (suc m) k) n σ c = cond (is_hex c) (at (hex m k) n σ) (dead false)
next minus n σ c = cond (is_digit1-9 c) (at digits n σ) (cond (c == 0x30) (at zero_digit n σ) (dead false))
next zero_digit n σ c = cond (c == 0x2E) (at point n σ) (exponent_or_end n σ c)
next digits n σ c = cond (is_digit c) (at digits n σ) (cond (c == 0x2E) (at point n σ) (exponent_or_end n σ c))
next point n σ c = cond (is_digit c) (at decimals n σ) (dead false)
next decimals n σ c = cond (is_digit c) (at decimals n σ) (exponent_or_end n σ c)
next e n σ c = cond (is_digit c) (at power n σ) (cond (is_sign c) (at e_sign n σ) (dead false))
next e_sign n σ c = cond (is_digit c) (at power n σ) (dead false)
next power n σ c = cond (is_digit c) (at power n σ) (end n σ c)
next t1 n σ c = cond (c == 0x72) (at t2 n σ) (dead false)
next t2 n σ c = cond (c == 0x75) (at t3 n σ) (dead false)
next t3 n σ c = cond (c == 0x65) (at after n σ) (dead false)
next f1 n σ c = cond (c == 0x61) (at f2 n σ) (dead false)
next f2 n σ c = cond (c == 0x6C) (at f3 n σ) (dead false)
next f3 n σ c = cond (c == 0x73) (at f4 n σ) (dead false)
next f4 n σ c = cond (c == 0x65) (at after n σ) (dead false)
next n1 n σ c = cond (c == 0x75) (at n2 n σ) (dead false)
next n2 n σ c = cond (c == 0x6C) (at n3 n σ) (dead false)
next n3 n σ c = cond (c == 0x6C) (at after n σ) (dead false)

abbrev pub step : State → ℕ → State
step (dead d) c = dead d
step (at m n σ) c = next m n σ c

abbrev pub run : State → List ℕ → State
run s [] = s
run s (c ∷ t) = run (step s c) t

abbrev pub start : ℕ → State
start n = at value n []

-- at which places a text may end
abbrev pub may_end : Mode → Bool
may_end value = false
may_end array_start = false
may_end object_start = false
may_end key = false
may_end colon = false
may_end after = true
may_end (text k) = false
may_end (escape k) = false
may_end (hex m k) = false
may_end minus = false
may_end zero_digit = true
may_end digits = true
may_end point = false
may_end decimals = true
may_end e = false
may_end e_sign = false
may_end power = true
may_end t1 = false
may_end t2 = false
may_end t3 = false
may_end f1 = false
may_end f2 = false
may_end f3 = false
may_end f4 = false
may_end n1 = false
may_end n2 = false
may_end n3 = false

abbrev pub accepts_at : Mode → List Bool → Bool
accepts_at m [] = may_end m
accepts_at m (k ∷ σ) = false

abbrev pub accepts : State → Bool
accepts (dead d) = false
accepts (at m n σ) = accepts_at m σ
