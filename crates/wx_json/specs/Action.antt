-- What a byte asks in a mode, apart from the containers that are open. No public contract cites this.
use Rattle.std.specs.Prelude.{ℕ, zero, suc, List, Bool, true, false, ◌==◌, cond}
use Rattle.wx_json.specs.Json.{is_white, is_digit, is_digit1-9, is_e, is_sign, is_unescaped, is_escape, is_hex}
use Rattle.wx_json.specs.Mode.{Mode, value, array_start, object_start, key, colon, after, text, escape, hex, minus, zero_digit, digits, point, decimals, e, e_sign, power, t1, t2, t3, f1, f2, f3, f4, n1, n2, n3}
use Rattle.wx_json.specs.Machine.{State, dead, at, push, pop, pop_array, pop_object, comma, follow}

pub data Action : Type 0 where
  goes : Mode → Action
  opens_array : Action
  opens_object : Action
  -- the container that has just been opened, an array, an object
  closes_empty : Action
  closes_array : Action
  closes_object : Action
  separates : Action
  fails : Action

unfoldable pub begin_action : ℕ → Action
begin_action c =
    cond (is_digit1-9 c) (goes digits)
    (cond (c == 0x22) (goes (text false))
    (cond (c == 0x5B) opens_array
    (cond (c == 0x7B) opens_object
    (cond (c == 0x2D) (goes minus)
    (cond (c == 0x30) (goes zero_digit)
    (cond (c == 0x74) (goes t1)
    (cond (c == 0x66) (goes f1)
    (cond (c == 0x6E) (goes n1)
    fails))))))))

unfoldable pub end_action : ℕ → Action
end_action c =
    cond (is_white c) (goes after)
    (cond (c == 0x2C) separates
    (cond (c == 0x5D) closes_array
    (cond (c == 0x7D) closes_object
    fails)))

unfoldable pub exponent_action : ℕ → Action
exponent_action c = cond (is_e c) (goes e) (end_action c)

unfoldable pub action_of : Mode → ℕ → Action
action_of value c = cond (is_white c) (goes value) (begin_action c)
action_of array_start c = cond (is_white c) (goes array_start) (cond (c == 0x5D) closes_empty (begin_action c))
action_of object_start c = cond (is_white c) (goes object_start)
    (cond (c == 0x7D) closes_empty (cond (c == 0x22) (goes (text true)) fails))
action_of key c = cond (is_white c) (goes key) (cond (c == 0x22) (goes (text true)) fails)
action_of colon c = cond (is_white c) (goes colon) (cond (c == 0x3A) (goes value) fails)
action_of after c = end_action c
action_of (text k) c = cond (is_unescaped c) (goes (text k))
    (cond (c == 0x22) (goes (follow k)) (cond (c == 0x5C) (goes (escape k)) fails))
action_of (escape k) c = cond (is_escape c) (goes (text k)) (cond (c == 0x75) (goes (hex 3 k)) fails)
action_of (hex zero k) c = cond (is_hex c) (goes (text k)) fails
action_of (hex (suc m) k) c = cond (is_hex c) (goes (hex m k)) fails
action_of minus c = cond (is_digit1-9 c) (goes digits) (cond (c == 0x30) (goes zero_digit) fails)
action_of zero_digit c = cond (c == 0x2E) (goes point) (exponent_action c)
action_of digits c = cond (is_digit c) (goes digits) (cond (c == 0x2E) (goes point) (exponent_action c))
action_of point c = cond (is_digit c) (goes decimals) fails
action_of decimals c = cond (is_digit c) (goes decimals) (exponent_action c)
action_of e c = cond (is_digit c) (goes power) (cond (is_sign c) (goes e_sign) fails)
action_of e_sign c = cond (is_digit c) (goes power) fails
action_of power c = cond (is_digit c) (goes power) (end_action c)
action_of t1 c = cond (c == 0x72) (goes t2) fails
action_of t2 c = cond (c == 0x75) (goes t3) fails
action_of t3 c = cond (c == 0x65) (goes after) fails
action_of f1 c = cond (c == 0x61) (goes f2) fails
action_of f2 c = cond (c == 0x6C) (goes f3) fails
action_of f3 c = cond (c == 0x73) (goes f4) fails
action_of f4 c = cond (c == 0x65) (goes after) fails
action_of n1 c = cond (c == 0x75) (goes n2) fails
action_of n2 c = cond (c == 0x6C) (goes n3) fails
action_of n3 c = cond (c == 0x6C) (goes after) fails

abbrev pub perform : Action → ℕ → List Bool → State
perform (goes m) n σ = at m n σ
perform opens_array n σ = push array_start false n σ
perform opens_object n σ = push object_start true n σ
perform closes_empty n σ = pop n σ
perform closes_array n σ = pop_array n σ
perform closes_object n σ = pop_object n σ
perform separates n σ = comma n σ
perform fails n σ = dead false
