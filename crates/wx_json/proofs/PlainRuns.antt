-- Plain bytes leave a check inside a string where it is.
use Rattle.std.proofs.Common.{◌≡◌, ◌≢◌, ℕ, zero, suc, ◌+◌, ◌<◌, ◌≤◌, List, [], ◌∷◌, take, Bool, true, false, not, refl, ap, ◌∙◌, sym, arith, add-zero, inl, inr}
use Rattle.std.specs.Prelude.{◌==◌, ◌||◌, ◌&&◌, nat_lt, nat_le, cond}
use Rattle.std.specs.List.{prefix_len}
use Rattle.std.proofs.lemmas.Bool.{le-leb, or_left, or_right, eqb-false, leb-false, cases_lt}
use Rattle.wx_json.specs.Json.{is_between, is_unescaped}
use Rattle.wx_json.specs.Plain.{is_plain}
use Rattle.wx_json.specs.Coding.{code}
use Rattle.wx_json.specs.Machine.{next}
use Rattle.wx_json.specs.Coding.{whole}
use Rattle.wx_json.specs.Mode.{Mode}
use Rattle.wx_json.specs.Coding.{Coding}
use Rattle.wx_json.specs.Mode.{text}
use Rattle.wx_json.specs.Check.{running, advance, advances}

none_of : (a b : Bool) → not (a || b) ≡ true → (a ≡ false) × (b ≡ false)
none_of true b h = cc
none_of false true h = cc
none_of false false h = (refl, refl)

not_true : (a : Bool) → a ≡ false → not a ≡ true
not_true a e = ap not e

both : (a b : Bool) → a ≡ true → b ≡ true → (a && b) ≡ true
both true b p q = q
both false b p q = cc

pub between : (low high c : ℕ) → low ≤ c → c ≤ high → is_between low high c ≡ true
between low high c p q = both _ _ (le-leb low c p) (le-leb c high q)

record Plain (c : ℕ) : Type 0 where
  no_quote : c ≢ 34
  no_escape : c ≢ 92
  high : 32 ≤ c
  low : c < 128

plain : (c : ℕ) → is_plain c ≡ true → Plain c
plain c h =
    let a = none_of ((c == 34) || (c == 92) || nat_lt c 32) (nat_le 128 c) h in
    let b = none_of ((c == 34) || (c == 92)) (nat_lt c 32) (not_true _ a.0) in
    let d = none_of (c == 34) (c == 92) (not_true _ b.0) in
    record { no_quote = eqb-false c 34 d.0; no_escape = eqb-false c 92 d.1; high = omega (arith, leb-false (suc c) 32 b.1); low = leb-false 128 c a.1 }

unescaped : (c : ℕ) → Plain c → is_unescaped c ≡ true
unescaped c p = elim (cases_lt c 34) [
  | inl lt ↦ or_left _ _ (or_left _ _ (between 0x20 0x21 c p.high (omega arith)))
  | inr ge ↦ elim (cases_lt c 92) [
    | inl lt ↦ or_left _ _ (or_right _ _ (between 0x23 0x5B c (omega (arith, p.no_quote)) (omega arith)))
    | inr ge2 ↦ or_right _ _ (le-leb 0x5D c (omega (arith, p.no_escape)))
  ]
]

plain-advance : (k c n : ℕ) (j : Bool) (σ : List Bool) → is_plain c ≡ true → advance (running k whole (text j) n σ) c ≡ running (suc k) whole (text j) n σ
unfolding next code
plain-advance k c n j σ h =
    let p = plain c h in
    rw (between 0x00 0x7F c (omega arith) (omega (arith, p.low)), unescaped c p) refl

-- bytes that pass a test leave a place as it is
module _ (q : ℕ → Bool) (u : Coding) (m : Mode) (stays : (c : ℕ) → q c ≡ true → (k n : ℕ) (σ : List Bool) → advance (running k u m n σ) c ≡ running (suc k) u m n σ) where
  pub run-same : (xs : List ℕ) (i k n : ℕ) (σ : List Bool) → i ≤ prefix_len q xs → advances (running k u m n σ) (take i xs) ≡ running (k + i) u m n σ
  run-same xs zero k n σ h = ap (λ i. running i u m n σ) (sym (add-zero k))
  run-same [] (suc i) k n σ h = absurd (omega arith)
  run-same (x ∷ xs) (suc i) k n σ h = by_test (q x) refl h (run-same xs i (suc k) n σ)
    where
      by_test : (b : Bool) → q x ≡ b → suc i ≤ cond b (1 + prefix_len q xs) 0 → (i ≤ prefix_len q xs → advances (running (suc k) u m n σ) (take i xs) ≡ running (suc k + i) u m n σ)
          → advances (running k u m n σ) (take (suc i) (x ∷ xs)) ≡ running (k + suc i) u m n σ
      by_test false e le rest = absurd (omega arith)
      by_test true e le rest =
          let sum : suc k + i ≡ k + suc i = omega arith in
          ap (λ p. advances p (take i xs)) (stays x e k n σ) ∙ rest (omega arith) ∙ ap (λ k. running k u m n σ) sum

pub run-plain : (j : Bool) (xs : List ℕ) (i k n : ℕ) (σ : List Bool) → i ≤ prefix_len is_plain xs → advances (running k whole (text j) n σ) (take i xs) ≡ running (k + i) whole (text j) n σ
run-plain j = run-same is_plain whole (text j) (λ c h k n σ. plain-advance k c n j σ h)
