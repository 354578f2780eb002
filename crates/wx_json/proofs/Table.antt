-- A table is held to the two automata at each state and byte, by a test that computes.
use Rattle.std.proofs.Common.{◌≡◌, ℕ, zero, suc, ◌+◌, ◌-◌, ◌<◌, ◌≤◌, List, [], ◌∷◌, length, get_or, Bool, true, false, refl, ap, ◌∙◌, sym, subst, arith, lit<, inl, inr}
use Rattle.std.specs.Prelude.{◌==◌, ◌&&◌, nat_le, nat_lt, cond}
use Rattle.std.proofs.lemmas.Bool.{eqb-true, and_parts, or_cases, leb-true, le-leb, ltb-true, ne_eqb, cond-true, agree_below, agree_below_at}
use Rattle.wx_json.specs.Mode.{Mode, value, array_start, object_start, key, colon, after, text, escape, hex, minus, zero_digit, digits, point, decimals, e, e_sign, power, t1, t2, t3, f1, f2, f3, f4, n1, n2, n3}
use Rattle.wx_json.specs.Coding.{Coding, whole, wants, broken, code}
use Rattle.wx_json.specs.Action.{Action, goes, opens_array, opens_object, closes_empty, closes_array, closes_object, separates, fails, action_of, perform}
use Rattle.wx_json.specs.Check.{Progress, running, coded, advance}
use Rattle.wx_json.specs.States.{is_state, mode_of, coding_of, went, entered}
use Rattle.wx_json.proofs.Actions.{perform-action_of}

-- the state of a mode between two characters, 0 for a mode that has none
abbrev pub state_of : Mode → ℕ
state_of value = 0x57
state_of array_start = 0x41
state_of object_start = 0x4F
state_of key = 0x4E
state_of colon = 0x43
state_of after = 0x5A
state_of (text true) = 0x53
state_of (text false) = 0x73
state_of (escape true) = 0x42
state_of (escape false) = 0x62
state_of (hex zero true) = 0x4B
state_of (hex zero false) = 0x6B
state_of (hex (suc zero) true) = 0x4A
state_of (hex (suc zero) false) = 0x6A
state_of (hex (suc (suc zero)) true) = 0x49
state_of (hex (suc (suc zero)) false) = 0x69
state_of (hex (suc (suc (suc zero))) true) = 0x48
state_of (hex (suc (suc (suc zero))) false) = 0x68
state_of (hex (suc (suc (suc (suc n)))) k) = 0
state_of minus = 0x6D
state_of zero_digit = 0x7A
state_of digits = 0x6E
state_of point = 0x70
state_of decimals = 0x63
state_of e = 0x78
state_of e_sign = 0x79
state_of power = 0x77
state_of t1 = 0x50
state_of t2 = 0x51
state_of t3 = 0x52
state_of f1 = 0x4C
state_of f2 = 0x4D
state_of f3 = 0x58
state_of f4 = 0x59
state_of n1 = 0x6C
state_of n2 = 0x71
state_of n3 = 0x72

mode_of-state_of : (m : Mode) → nat_le 1 (state_of m) ≡ true → mode_of (state_of m) ≡ m
unfolding mode_of
mode_of-state_of value h = refl
mode_of-state_of array_start h = refl
mode_of-state_of object_start h = refl
mode_of-state_of key h = refl
mode_of-state_of colon h = refl
mode_of-state_of after h = refl
mode_of-state_of (text true) h = refl
mode_of-state_of (text false) h = refl
mode_of-state_of (escape true) h = refl
mode_of-state_of (escape false) h = refl
mode_of-state_of (hex zero true) h = refl
mode_of-state_of (hex zero false) h = refl
mode_of-state_of (hex (suc zero) true) h = refl
mode_of-state_of (hex (suc zero) false) h = refl
mode_of-state_of (hex (suc (suc zero)) true) h = refl
mode_of-state_of (hex (suc (suc zero)) false) h = refl
mode_of-state_of (hex (suc (suc (suc zero))) true) h = refl
mode_of-state_of (hex (suc (suc (suc zero))) false) h = refl
mode_of-state_of (hex (suc (suc (suc (suc n)))) k) h = let no : false ≡ true = h in cc
mode_of-state_of minus h = refl
mode_of-state_of zero_digit h = refl
mode_of-state_of digits h = refl
mode_of-state_of point h = refl
mode_of-state_of decimals h = refl
mode_of-state_of e h = refl
mode_of-state_of e_sign h = refl
mode_of-state_of power h = refl
mode_of-state_of t1 h = refl
mode_of-state_of t2 h = refl
mode_of-state_of t3 h = refl
mode_of-state_of f1 h = refl
mode_of-state_of f2 h = refl
mode_of-state_of f3 h = refl
mode_of-state_of f4 h = refl
mode_of-state_of n1 h = refl
mode_of-state_of n2 h = refl
mode_of-state_of n3 h = refl

abbrev pub same_mode : Mode → Mode → Bool
same_mode m l = nat_le 1 (state_of m) && (state_of m == state_of l)

same_mode-true : (m l : Mode) → same_mode m l ≡ true → m ≡ l
same_mode-true m l h =
    let parts = and_parts (nat_le 1 (state_of m)) (state_of m == state_of l) h in
    let same = eqb-true (state_of m) (state_of l) parts.1 in
    sym (mode_of-state_of m parts.0) ∙ ap mode_of same ∙ mode_of-state_of l (ap (nat_le 1) (sym same) ∙ parts.0)

abbrev pub same_coding : Coding → Coding → Bool
same_coding whole whole = true
same_coding (wants low high i) (wants low2 high2 i2) = (low == low2) && ((high == high2) && (i == i2))
same_coding u v = false

same_coding-true : (u v : Coding) → same_coding u v ≡ true → u ≡ v
same_coding-true whole whole h = refl
same_coding-true (wants low high i) (wants low2 high2 i2) h =
    let a = and_parts (low == low2) ((high == high2) && (i == i2)) h in
    let b = and_parts (high == high2) (i == i2) a.1 in
    ap (λ x. wants x high i) (eqb-true low low2 a.0) ∙ ap (λ x. wants low2 x i) (eqb-true high high2 b.0) ∙ ap (wants low2 high2) (eqb-true i i2 b.1)
same_coding-true whole (wants low high i) h = cc
same_coding-true whole broken h = cc
same_coding-true (wants low high i) whole h = cc
same_coding-true (wants low high i) broken h = cc
same_coding-true broken v h = cc

-- the state that an entry leads to from the state s
abbrev pub settled : ℕ → ℕ → ℕ
settled s x = cond (x == 0x2B) 0x73 (cond (x == 0x2A) 0x53 (cond (x == 0x3D) s x))

abbrev pub says_goes : ℕ → ℕ → Coding → Mode → Bool
says_goes s x u m = is_state (settled s x) && (same_coding (coding_of (settled s x)) u && same_mode (mode_of (settled s x)) m)

-- whether an entry at the state s says what the automata do
abbrev pub says : ℕ → ℕ → Coding → Action → Bool
says s x broken a = x == 0x21
says s x whole (goes m) = says_goes s x whole m
says s x whole opens_array = x == 0x28
says s x whole opens_object = x == 0x3C
says s x whole closes_empty = x == 0x2D
says s x whole closes_array = x == 0x29
says s x whole closes_object = x == 0x3E
says s x whole separates = x == 0x2C
says s x whole fails = x == 0x2E
says s x (wants low high n) (goes m) = says_goes s x (wants low high n) m
says s x (wants low high n) fails = x == 0x2E
says s x (wants low high n) a = false

pub state_bounds : (s : ℕ) → is_state s ≡ true → (64 ≤ s) × (s < 128)
unfolding is_state
state_bounds s h = elim (or_cases _ _ h) [
  | inl a ↦ let p = and_parts (nat_le 0x41 s) (nat_le s 0x5A) a in let x = leb-true 0x41 s p.0 in let y = leb-true s 0x5A p.1 in (omega arith, omega arith)
  | inr b ↦ let p = and_parts (nat_le 0x62 s) (nat_le s 0x7A) b in let x = leb-true 0x62 s p.0 in let y = leb-true s 0x7A p.1 in (omega arith, omega arith)
]

settled-high : (s x : ℕ) → 64 ≤ x → settled s x ≡ x
settled-high s x h =
    let a : (x == 0x2B) ≡ false = ne_eqb x 0x2B (λ e. omega arith) in
    let b : (x == 0x2A) ≡ false = ne_eqb x 0x2A (λ e. omega arith) in
    let d : (x == 0x3D) ≡ false = ne_eqb x 0x3D (λ e. omega arith) in
    rw (a, b, d) refl

module _ (k n s : ℕ) (σ : List Bool) where
  abbrev here : Progress
  here = running k (coding_of s) (mode_of s) n σ

  entered-settled : (x : ℕ) → is_state (settled s x) ≡ true → entered x here ≡ went (settled s x) here
  unfolding entered
  entered-settled x h = by_plus (x == 0x2B) refl
    where
      P : ℕ → Type 0
      P x = entered x here ≡ went (settled s x) here

      by_run : (x == 0x2B) ≡ false → (x == 0x2A) ≡ false → (b : Bool) → (x == 0x3D) ≡ b → P x
      by_run p q true found = subst P (sym (eqb-true x 0x3D found)) refl
      by_run p q false other =
          let same : settled s x ≡ x = rw (p, q, other) refl in
          let le = (state_bounds x (sym (ap is_state same) ∙ h)).0 in
          rw (le-leb 0x40 x le, p, q, other) refl

      by_star : (x == 0x2B) ≡ false → (b : Bool) → (x == 0x2A) ≡ b → P x
      by_star p true found = subst P (sym (eqb-true x 0x2A found)) refl
      by_star p false q = by_run p q (x == 0x3D) refl

      by_plus : (b : Bool) → (x == 0x2B) ≡ b → P x
      by_plus true found = subst P (sym (eqb-true x 0x2B found)) refl
      by_plus false p = by_star p (x == 0x2A) refl

  goes-entered : (x : ℕ) (v : Coding) (l : Mode) → says_goes s x v l ≡ true → entered x here ≡ running (suc k) v l n σ
  goes-entered x v l h =
      let a = and_parts (is_state (settled s x)) (same_coding (coding_of (settled s x)) v && same_mode (mode_of (settled s x)) l) h in
      let b = and_parts (same_coding (coding_of (settled s x)) v) (same_mode (mode_of (settled s x)) l) a.1 in
      entered-settled x a.0
      ∙ ap (λ w. running (suc k) w (mode_of (settled s x)) n σ) (same_coding-true _ v b.0)
      ∙ ap (λ w. running (suc k) v w n σ) (same_mode-true _ l b.1)

  at_entry : (x y : ℕ) (q : Progress) → (x == y) ≡ true → entered y here ≡ q → entered x here ≡ q
  at_entry x y q h there = ap (λ x. entered x here) (eqb-true x y h) ∙ there

  says-entered : (x : ℕ) (v : Coding) (a : Action) → says s x v a ≡ true → entered x here ≡ coded k v (perform a n σ)
  unfolding entered mode_of
  says-entered x broken a h = at_entry x 0x21 _ h refl
  says-entered x whole (goes l) h = goes-entered x whole l h
  says-entered x whole opens_array h = at_entry x 0x28 _ h refl
  says-entered x whole opens_object h = at_entry x 0x3C _ h refl
  says-entered x whole closes_empty h = at_entry x 0x2D _ h refl
  says-entered x whole closes_array h = at_entry x 0x29 _ h refl
  says-entered x whole closes_object h = at_entry x 0x3E _ h refl
  says-entered x whole separates h = at_entry x 0x2C _ h refl
  says-entered x whole fails h = at_entry x 0x2E _ h refl
  says-entered x (wants low high i) (goes l) h = goes-entered x (wants low high i) l h
  says-entered x (wants low high i) fails h = at_entry x 0x2E _ h refl
  says-entered x (wants low high i) opens_array h = cc
  says-entered x (wants low high i) opens_object h = cc
  says-entered x (wants low high i) closes_empty h = cc
  says-entered x (wants low high i) closes_array h = cc
  says-entered x (wants low high i) closes_object h = cc
  says-entered x (wants low high i) separates h = cc

  pub says-advance : (x c : ℕ) → says s x (code (coding_of s) c) (action_of (mode_of s) c) ≡ true → entered x here ≡ advance here c
  says-advance x c h = says-entered x (code (coding_of s) c) (action_of (mode_of s) c) h ∙ ap (coded k (code (coding_of s) c)) (perform-action_of (mode_of s) c n σ)

-- an entry that is as great as a state is one
not_low : (x y : ℕ) → y < 64 → 64 ≤ x → (x == y) ≡ true → ⊥
not_low x y low high h = let e = eqb-true x y h in omega arith

goes-state : (s x : ℕ) (u : Coding) (m : Mode) → 64 ≤ x → says_goes s x u m ≡ true → is_state x ≡ true
goes-state s x u m high h =
    sym (ap is_state (settled-high s x high)) ∙ (and_parts (is_state (settled s x)) (same_coding (coding_of (settled s x)) u && same_mode (mode_of (settled s x)) m) h).0

pub says-state : (s x : ℕ) (v : Coding) (a : Action) → 64 ≤ x → says s x v a ≡ true → is_state x ≡ true
says-state s x broken a le h = absurd (not_low x 0x21 (lit< tt) le h)
says-state s x whole (goes l) le h = goes-state s x whole l le h
says-state s x whole opens_array le h = absurd (not_low x 0x28 (lit< tt) le h)
says-state s x whole opens_object le h = absurd (not_low x 0x3C (lit< tt) le h)
says-state s x whole closes_empty le h = absurd (not_low x 0x2D (lit< tt) le h)
says-state s x whole closes_array le h = absurd (not_low x 0x29 (lit< tt) le h)
says-state s x whole closes_object le h = absurd (not_low x 0x3E (lit< tt) le h)
says-state s x whole separates le h = absurd (not_low x 0x2C (lit< tt) le h)
says-state s x whole fails le h = absurd (not_low x 0x2E (lit< tt) le h)
says-state s x (wants low high i) (goes l) le h = goes-state s x (wants low high i) l le h
says-state s x (wants low high i) fails le h = absurd (not_low x 0x2E (lit< tt) le h)
says-state s x (wants low high i) opens_array le h = cc
says-state s x (wants low high i) opens_object le h = cc
says-state s x (wants low high i) closes_empty le h = cc
says-state s x (wants low high i) closes_array le h = cc
says-state s x (wants low high i) closes_object le h = cc
says-state s x (wants low high i) separates le h = cc

-- the entries of a byte from a state on
abbrev pub row_ok : ℕ → ℕ → List ℕ → Bool
row_ok c s [] = true
row_ok c s (x ∷ row) = cond (is_state s) (says s x (code (coding_of s) c) (action_of (mode_of s) c)) true && row_ok c (suc s) row

row_at : (c s : ℕ) (row : List ℕ) (i : ℕ) → row_ok c s row ≡ true → i < length row → is_state (s + i) ≡ true → says (s + i) (get_or row i 0) (code (coding_of (s + i)) c) (action_of (mode_of (s + i)) c) ≡ true
row_at c s [] i h lt state = absurd (omega arith)
row_at c s (x ∷ row) zero h lt state =
    let P : ℕ → Type 0 = λ t. is_state t ≡ true → says t x (code (coding_of t) c) (action_of (mode_of t) c) ≡ true in
    let here = (and_parts _ (row_ok c (suc s) row) h).0 in
    subst P (add-zero' s) (λ yes. sym (cond-true (is_state s) _ true yes) ∙ here) state
  where
    add-zero' : (s : ℕ) → s ≡ s + 0
    add-zero' s = omega arith
row_at c s (x ∷ row) (suc i) h lt state =
    let P : ℕ → Type 0 = λ t. is_state t ≡ true → says t (get_or row i 0) (code (coding_of t) c) (action_of (mode_of t) c) ≡ true in
    let sum : suc s + i ≡ s + suc i = omega arith in
    subst P sum (row_at c (suc s) row i (and_parts _ (row_ok c (suc s) row) h).1 (omega arith)) state

-- the entries of a byte, one for each of the 64 columns
abbrev pub columns_ok : ℕ → List ℕ → Bool
columns_ok c row = (length row == 64) && row_ok c 64 row

-- the class and the row of a byte
abbrev pub byte_ok : List ℕ → List (List ℕ) → ℕ → Bool
byte_ok classes table c =
    nat_le 48 (get_or classes c 0) && (nat_lt (get_or classes c 0) 89 && columns_ok c (get_or table (get_or classes c 0 - 48) []))

abbrev pub table_ok : List ℕ → List (List ℕ) → Bool
table_ok classes table = agree_below (byte_ok classes table) (λ c. true) 256

module _ (classes : List ℕ) (table : List (List ℕ)) (ok : table_ok classes table ≡ true) (c : ℕ) (byte : c < 256) where
  byte_at : byte_ok classes table c ≡ true
  byte_at = agree_below_at (byte_ok classes table) (λ c. true) 256 c ok byte

  pub class_bounds : (48 ≤ get_or classes c 0) × (get_or classes c 0 < 89)
  class_bounds =
      let a = and_parts _ _ byte_at in let b = and_parts _ _ a.1 in
      (leb-true 48 (get_or classes c 0) a.0, ltb-true (get_or classes c 0) 89 b.0)

  abbrev row : List ℕ
  row = get_or table (get_or classes c 0 - 48) []

  pub entry_at : (s : ℕ) → is_state s ≡ true → says s (get_or row (s - 64) 0) (code (coding_of s) c) (action_of (mode_of s) c) ≡ true
  entry_at s h =
      let a = and_parts _ _ byte_at in let b = and_parts _ _ a.1 in
      let parts = and_parts (length row == 64) (row_ok c 64 row) b.1 in
      let long = eqb-true (length row) 64 parts.0 in
      let bounds = state_bounds s h in
      let P : ℕ → Type 0 = λ t. is_state t ≡ true → says t (get_or row (s - 64) 0) (code (coding_of t) c) (action_of (mode_of t) c) ≡ true in
      let sum : 64 + (s - 64) ≡ s = omega (arith, bounds.0) in
      subst P sum (row_at c 64 row (s - 64) parts.1 (omega (arith, bounds.1, long))) h
