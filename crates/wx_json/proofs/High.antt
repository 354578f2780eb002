-- A byte from 128 on stands in a string alone, and leaves the automaton where it is.
use Rattle.std.proofs.Common.{◌≡◌, ℕ, zero, suc, ◌<◌, ◌≤◌, List, Bool, true, false, refl, arith, lit<, inl, inr}
use Rattle.std.specs.Prelude.{cond, ◌⊎◌, ◌==◌, ◌||◌, nat_le}
use Rattle.std.proofs.lemmas.Bool.{eqb-true, le-leb}
use Rattle.wx_json.specs.Json.{is_white, is_digit, is_digit1-9, is_e, is_sign, is_unescaped, is_escape, is_hex, is_between}
use Rattle.wx_json.specs.Machine.{State, dead, at, begin, end, exponent_or_end, next}
use Rattle.wx_json.specs.Mode.{Mode}
use Rattle.wx_json.specs.Mode.{value, array_start, object_start, key, colon, after, text, escape, hex, minus, zero_digit, digits, point, decimals, e, e_sign, power, t1, t2, t3, f1, f2, f3, f4, n1, n2, n3}
use Rattle.wx_json.proofs.Bytes.{bounds, unless}

skip : {s : State} (b : Bool) (x y : State) → b ≡ false → y ≡ s → cond b x y ≡ s
skip true x y p q = cc
skip false x y p q = q

or_false : (a b : Bool) → a ≡ false → b ≡ false → (a || b) ≡ false
or_false true b p q = cc
or_false false b p q = q

module _ (c : ℕ) (h : 0x80 ≤ c) where
  not_byte : (k : ℕ) → k < 0x80 → (c == k) ≡ false
  not_byte k lt = unless (c == k) (λ p. let e = eqb-true c k p in absurd (omega arith))

  not_between : (low high : ℕ) → high < 0x80 → is_between low high c ≡ false
  not_between low high lt = unless (is_between low high c) (λ p. let q = bounds low high c p in absurd (omega arith))

  not_white : is_white c ≡ false
  not_white = or_false _ _ (or_false _ _ (or_false _ _ (not_byte 0x20 (lit< tt)) (not_byte 0x09 (lit< tt))) (not_byte 0x0A (lit< tt))) (not_byte 0x0D (lit< tt))

  not_e : is_e c ≡ false
  not_e = or_false _ _ (not_byte 0x65 (lit< tt)) (not_byte 0x45 (lit< tt))

  not_sign : is_sign c ≡ false
  not_sign = or_false _ _ (not_byte 0x2D (lit< tt)) (not_byte 0x2B (lit< tt))

  not_hex : is_hex c ≡ false
  not_hex = or_false _ _ (or_false _ _ (not_between 0x30 0x39 (lit< tt)) (not_between 0x41 0x46 (lit< tt))) (not_between 0x61 0x66 (lit< tt))

  not_escape : is_escape c ≡ false
  not_escape = or_false _ _ (or_false _ _ (or_false _ _ (or_false _ _ (or_false _ _ (or_false _ _ (or_false _ _ (not_byte 0x22 (lit< tt)) (not_byte 0x5C (lit< tt))) (not_byte 0x2F (lit< tt))) (not_byte 0x62 (lit< tt))) (not_byte 0x66 (lit< tt))) (not_byte 0x6E (lit< tt))) (not_byte 0x72 (lit< tt))) (not_byte 0x74 (lit< tt))

  pub unescaped_high : is_unescaped c ≡ true
  unescaped_high = or_right (is_between 0x20 0x21 c || is_between 0x23 0x5B c) (nat_le 0x5D c) (le-leb 0x5D c (omega arith))
    where
      or_right : (a b : Bool) → b ≡ true → (a || b) ≡ true
      or_right true b p = refl
      or_right false b p = p

  pub text_high : (k : Bool) (n : ℕ) (σ : List Bool) → next (text k) n σ c ≡ at (text k) n σ
  unfolding next
  text_high k n σ = rw unescaped_high refl

  module _ (n : ℕ) (σ : List Bool) where
    byte_ : (k : ℕ) → k < 0x80 → (x : State) {y s : State} → y ≡ s → cond (c == k) x y ≡ s
    byte_ k lt x q = skip (c == k) x _ (not_byte k lt) q

    white_ : (x : State) {y s : State} → y ≡ s → cond (is_white c) x y ≡ s
    white_ x q = skip (is_white c) x _ not_white q

    digit_ : (x : State) {y s : State} → y ≡ s → cond (is_digit c) x y ≡ s
    digit_ x q = skip (is_digit c) x _ (not_between 0x30 0x39 (lit< tt)) q

    digit19_ : (x : State) {y s : State} → y ≡ s → cond (is_digit1-9 c) x y ≡ s
    digit19_ x q = skip (is_digit1-9 c) x _ (not_between 0x31 0x39 (lit< tt)) q

    end_ : end n σ c ≡ dead false
    end_ = white_ _ (byte_ 0x2C (lit< tt) _ (byte_ 0x5D (lit< tt) _ (byte_ 0x7D (lit< tt) _ refl)))

    begin_ : begin n σ c ≡ dead false
    begin_ = digit19_ _ (byte_ 0x22 (lit< tt) _ (byte_ 0x5B (lit< tt) _ (byte_ 0x7B (lit< tt) _ (byte_ 0x2D (lit< tt) _ (byte_ 0x30 (lit< tt) _ (byte_ 0x74 (lit< tt) _ (byte_ 0x66 (lit< tt) _ (byte_ 0x6E (lit< tt) _ refl))))))))

    exponent_ : exponent_or_end n σ c ≡ dead false
    exponent_ = skip _ _ _ not_e end_

    -- in a string, or it fails
    abbrev IsText : Mode → Type 0
    IsText m = (k : Bool) × (m ≡ text k)

    pub high : (m : Mode) → (next m n σ c ≡ dead false) ⊎ IsText m
    unfolding next
    high value = inl (white_ _ begin_)
    high array_start = inl (white_ _ (byte_ 0x5D (lit< tt) _ begin_))
    high object_start = inl (white_ _ (byte_ 0x7D (lit< tt) _ (byte_ 0x22 (lit< tt) _ refl)))
    high key = inl (white_ _ (byte_ 0x22 (lit< tt) _ refl))
    high colon = inl (white_ _ (byte_ 0x3A (lit< tt) _ refl))
    high after = inl end_
    high (escape j) = inl (skip _ _ _ not_escape (byte_ 0x75 (lit< tt) _ refl))
    high (hex zero j) = inl (skip _ _ _ not_hex refl)
    high (hex (suc i) j) = inl (skip _ _ _ not_hex refl)
    high minus = inl (digit19_ _ (byte_ 0x30 (lit< tt) _ refl))
    high zero_digit = inl (byte_ 0x2E (lit< tt) _ exponent_)
    high digits = inl (digit_ _ (byte_ 0x2E (lit< tt) _ exponent_))
    high point = inl (digit_ _ refl)
    high decimals = inl (digit_ _ exponent_)
    high e = inl (digit_ _ (skip _ _ _ not_sign refl))
    high e_sign = inl (digit_ _ refl)
    high power = inl (digit_ _ end_)
    high t1 = inl (byte_ 0x72 (lit< tt) _ refl)
    high t2 = inl (byte_ 0x75 (lit< tt) _ refl)
    high t3 = inl (byte_ 0x65 (lit< tt) _ refl)
    high f1 = inl (byte_ 0x61 (lit< tt) _ refl)
    high f2 = inl (byte_ 0x6C (lit< tt) _ refl)
    high f3 = inl (byte_ 0x73 (lit< tt) _ refl)
    high f4 = inl (byte_ 0x65 (lit< tt) _ refl)
    high n1 = inl (byte_ 0x75 (lit< tt) _ refl)
    high n2 = inl (byte_ 0x6C (lit< tt) _ refl)
    high n3 = inl (byte_ 0x6C (lit< tt) _ refl)
    high (text j) = inr (j, refl)
