-- The states of the table in src/transitions.rt, and what each of its entries does. Private contracts alone cite this.
use Rattle.std.specs.Prelude.{ℕ, suc, ◌+◌, ◌-◌, ◌≡◌, ◌≤◌, List, [], ◌∷◌, Bool, true, false, ◌==◌, ◌||◌, cond, nat_le, get_or}
use Rattle.wx_json.specs.Json.{is_between}
use Rattle.wx_json.specs.Mode.{Mode, value, array_start, object_start, key, colon, after, text, escape, hex, minus, zero_digit, digits, point, decimals, e, e_sign, power, t1, t2, t3, f1, f2, f3, f4, n1, n2, n3}
use Rattle.wx_json.specs.Coding.{Coding, whole, wants}
use Rattle.wx_json.specs.Machine.{push, pop, pop_array, pop_object, comma}
use Rattle.wx_json.specs.Check.{Progress, running, failed, moved, advance, advances}
use Rattle.wx_json.specs.declared.JsonKind.{JsonKind}
use Rattle.wx_json.specs.declared.JsonKind.TheVariants.{Syntax, Utf8}

-- A state is a letter, A to Z or b to z.
unfoldable pub is_state : ℕ → Bool
is_state s = is_between 0x41 0x5A s || is_between 0x62 0x7A s

-- the modes of @ to O, P to _, ` to o and p to DEL (what is no state has the mode value)
abbrev pub modes : List Mode
modes =
    value ∷ array_start ∷ escape true ∷ colon ∷ text true ∷ text true ∷ text true ∷ text true ∷ hex 3 true ∷ hex 2 true
    ∷ hex 1 true ∷ hex 0 true ∷ f1 ∷ f2 ∷ key ∷ object_start ∷
    t1 ∷ t2 ∷ t3 ∷ text true ∷ text true ∷ text true ∷ text true ∷ value ∷ f3 ∷ f4 ∷ after ∷ value ∷ value ∷ value
    ∷ value ∷ value ∷
    value ∷ value ∷ escape false ∷ decimals ∷ text false ∷ text false ∷ text false ∷ text false ∷ hex 3 false
    ∷ hex 2 false ∷ hex 1 false ∷ hex 0 false ∷ n1 ∷ minus ∷ digits ∷ value ∷
    point ∷ n2 ∷ n3 ∷ text false ∷ text false ∷ text false ∷ text false ∷ power ∷ e ∷ e_sign ∷ zero_digit ∷ value
    ∷ value ∷ value ∷ value ∷ value ∷ []

unfoldable pub mode_of : ℕ → Mode
mode_of s = get_or modes (s - 0x40) value

-- T, U and V are inside a character of which one, two and three bytes are left, E, D, F and G after E0, ED, F0 and F4.
-- Small letters are for the same places in a string that is no name.
unfoldable pub coding_of : ℕ → Coding
coding_of s =
    cond (s == 0x54 || s == 0x74) (wants 0x80 0xBF 0)
    (cond (s == 0x55 || s == 0x75) (wants 0x80 0xBF 1)
    (cond (s == 0x56 || s == 0x76) (wants 0x80 0xBF 2)
    (cond (s == 0x45 || s == 0x65) (wants 0xA0 0xBF 1)
    (cond (s == 0x44 || s == 0x64) (wants 0x80 0x9F 1)
    (cond (s == 0x46 || s == 0x66) (wants 0x90 0xBF 2)
    (cond (s == 0x47 || s == 0x67) (wants 0x80 0x8F 2)
    whole))))))

-- the states in a string, between two characters
abbrev pub is_in_string : ℕ → Bool
is_in_string s = s == 0x73 || s == 0x53

-- the states between two tokens, where white space changes nothing
abbrev pub is_between_tokens : ℕ → Bool
is_between_tokens s = s == 0x41 || s == 0x4F || s == 0x57 || s == 0x4E || s == 0x43 || s == 0x5A

-- the states in a number where a digit changes nothing
abbrev pub is_in_digits : ℕ → Bool
is_in_digits s = s == 0x6E || s == 0x63 || s == 0x77

-- the states where a text may end, outside of all containers
abbrev pub is_end : ℕ → Bool
is_end s = s == 0x5A || s == 0x7A || s == 0x6E || s == 0x63 || s == 0x77

-- What an entry asks, at a check that has found no fault: the next state, ..
abbrev pub went : ℕ → Progress → Progress
went s (running k u m n σ) = running (suc k) (coding_of s) (mode_of s) n σ
went s (failed f) = failed f

-- .. the same state, ..
abbrev pub stayed : Progress → Progress
stayed (running k u m n σ) = running (suc k) u m n σ
stayed (failed f) = failed f

-- .. a container that opens, ..
abbrev pub opened : ℕ → Bool → Progress → Progress
opened s object (running k u m n σ) = moved k whole (push (mode_of s) object n σ)
opened s object (failed f) = failed f

-- .. the end of the container that has just been opened, of an object or an array, ..
abbrev pub closed_empty : Progress → Progress
closed_empty (running k u m n σ) = moved k whole (pop n σ)
closed_empty (failed f) = failed f

abbrev pub closed : Bool → Progress → Progress
closed true (running k u m n σ) = moved k whole (pop_object n σ)
closed false (running k u m n σ) = moved k whole (pop_array n σ)
closed object (failed f) = failed f

-- .. a comma, ..
abbrev pub separated : Progress → Progress
separated (running k u m n σ) = moved k whole (comma n σ)
separated (failed f) = failed f

-- .. or a fault.
abbrev pub refused : JsonKind → Progress → Progress
refused kind (running k u m n σ) = failed (record { place = k; kind = kind })
refused kind (failed f) = failed f

-- what an entry does: a letter is the next state, + and * are s and S, = is the state itself
unfoldable pub entered : ℕ → Progress → Progress
entered x p =
    cond (nat_le 0x40 x) (went x p)
    (cond (x == 0x2B) (went 0x73 p)
    (cond (x == 0x2A) (went 0x53 p)
    (cond (x == 0x3D) (stayed p)
    (cond (x == 0x2C) (separated p)
    (cond (x == 0x28) (opened 0x41 false p)
    (cond (x == 0x3C) (opened 0x4F true p)
    (cond (x == 0x2D) (closed_empty p)
    (cond (x == 0x29) (closed false p)
    (cond (x == 0x3E) (closed true p)
    (cond (x == 0x21) (refused Utf8 p)
    (refused Syntax p)))))))))))

-- the state to which an entry leads from a state, if it asks for no more than that, or 0
abbrev pub next_of : ℕ → ℕ → ℕ → ℕ
next_of x s after_comma = cond (x == 0x2B) 0x73 (cond (x == 0x2A) 0x53
    (cond (x == 0x3D) s (cond (x == 0x2C) after_comma 0)))

-- These bytes, so many, lead from one state to another, with these containers open; with any.
abbrev pub LeadsAt : List Bool → ℕ → ℕ → List ℕ → ℕ → Type 0
LeadsAt σ from to bytes count = (k n : ℕ) → advances (running k (coding_of from) (mode_of from) n σ) bytes
    ≡ running (k + count) (coding_of to) (mode_of to) n σ

abbrev pub Leads : ℕ → ℕ → List ℕ → ℕ → Type 0
Leads from to bytes count = (σ : List Bool) → LeadsAt σ from to bytes count

-- At this state an entry does what the byte does.
abbrev pub Asks : ℕ → ℕ → ℕ → Type 0
Asks x s c = (k n : ℕ) (σ : List Bool) → entered x (running k (coding_of s) (mode_of s) n σ)
    ≡ advance (running k (coding_of s) (mode_of s) n σ) c

-- Where this is a state, it is that after a comma with these containers open.
abbrev pub CommaLeads : ℕ → List Bool → Type 0
CommaLeads s σ = 64 ≤ s → (k n : ℕ) (u : Coding) (m : Mode) → separated (running k u m n σ) ≡ went s (running k u m n σ)
