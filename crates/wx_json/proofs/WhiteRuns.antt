-- White space between two tokens, and digits in a number, leave a check where it is.
use Rattle.std.proofs.Common.{◌≡◌, ℕ, suc, ◌+◌, ◌<◌, ◌≤◌, List, length, drop, take, get_or, Bool, true, false, refl, sym, subst, arith, inl, inr}
use Rattle.std.specs.Prelude.{◌==◌, ◌||◌, nat_le}
use Rattle.std.specs.List.{prefix_len}
use Rattle.std.proofs.lemmas.List.{drop_more}
use Rattle.std.proofs.lemmas.Bool.{eqb-true, or_cases, and_parts, leb-true, ne_eqb}
use Rattle.wx_json.specs.Json.{is_white, is_digit, is_between}
use Rattle.wx_json.specs.Coding.{code}
use Rattle.wx_json.specs.Machine.{next}
use Rattle.wx_json.specs.Check.{running, advance, advances}
use Rattle.wx_json.specs.States.{mode_of, coding_of, is_between_tokens, is_in_digits}
use Rattle.wx_json.proofs.PlainRuns.{run-same, between}

abbrev Stays : ℕ → ℕ → Type 0
Stays s c = (k n : ℕ) (σ : List Bool) → advance (running k (coding_of s) (mode_of s) n σ) c ≡ running (suc k) (coding_of s) (mode_of s) n σ

white-each : (P : ℕ → Type 0) → P 0x20 → P 0x09 → P 0x0A → P 0x0D → (c : ℕ) → is_white c ≡ true → P c
white-each P a b d e c h = elim (or_cases (c == 0x20 || c == 0x09 || c == 0x0A) (c == 0x0D) h) [
  | inl abd ↦ elim (or_cases (c == 0x20 || c == 0x09) (c == 0x0A) abd) [
    | inl ab ↦ elim (or_cases (c == 0x20) (c == 0x09) ab) [ inl x ↦ subst P (sym (eqb-true c 0x20 x)) a | inr x ↦ subst P (sym (eqb-true c 0x09 x)) b ]
    | inr x ↦ subst P (sym (eqb-true c 0x0A x)) d
  ]
  | inr x ↦ subst P (sym (eqb-true c 0x0D x)) e
]

state-each : (P : ℕ → Type 0) → P 0x41 → P 0x4F → P 0x57 → P 0x4E → P 0x43 → P 0x5A → (s : ℕ) → is_between_tokens s ≡ true → P s
state-each P a b d e f g s h = elim (or_cases (s == 0x41 || s == 0x4F || s == 0x57 || s == 0x4E || s == 0x43) (s == 0x5A) h) [
  | inl abdef ↦ elim (or_cases (s == 0x41 || s == 0x4F || s == 0x57 || s == 0x4E) (s == 0x43) abdef) [
    | inl abde ↦ elim (or_cases (s == 0x41 || s == 0x4F || s == 0x57) (s == 0x4E) abde) [
      | inl abd ↦ elim (or_cases (s == 0x41 || s == 0x4F) (s == 0x57) abd) [
        | inl ab ↦ elim (or_cases (s == 0x41) (s == 0x4F) ab) [ inl x ↦ subst P (sym (eqb-true s 0x41 x)) a | inr x ↦ subst P (sym (eqb-true s 0x4F x)) b ]
        | inr x ↦ subst P (sym (eqb-true s 0x57 x)) d
      ]
      | inr x ↦ subst P (sym (eqb-true s 0x4E x)) e
    ]
    | inr x ↦ subst P (sym (eqb-true s 0x43 x)) f
  ]
  | inr x ↦ subst P (sym (eqb-true s 0x5A x)) g
]

white-stays : (s : ℕ) → is_between_tokens s ≡ true → (c : ℕ) → is_white c ≡ true → Stays s c
unfolding next code mode_of coding_of
white-stays = state-each (λ s. (c : ℕ) → is_white c ≡ true → Stays s c)
    (white-each (Stays 0x41) (λ k n σ. refl) (λ k n σ. refl) (λ k n σ. refl) (λ k n σ. refl))
    (white-each (Stays 0x4F) (λ k n σ. refl) (λ k n σ. refl) (λ k n σ. refl) (λ k n σ. refl))
    (white-each (Stays 0x57) (λ k n σ. refl) (λ k n σ. refl) (λ k n σ. refl) (λ k n σ. refl))
    (white-each (Stays 0x4E) (λ k n σ. refl) (λ k n σ. refl) (λ k n σ. refl) (λ k n σ. refl))
    (white-each (Stays 0x43) (λ k n σ. refl) (λ k n σ. refl) (λ k n σ. refl) (λ k n σ. refl))
    (white-each (Stays 0x5A) (λ k n σ. refl) (λ k n σ. refl) (λ k n σ. refl) (λ k n σ. refl))

pub run-white : (s : ℕ) → is_between_tokens s ≡ true → (xs : List ℕ) (i k n : ℕ) (σ : List Bool) → i ≤ prefix_len is_white xs → advances (running k (coding_of s) (mode_of s) n σ) (take i xs) ≡ running (k + i) (coding_of s) (mode_of s) n σ
run-white s h = run-same is_white (coding_of s) (mode_of s) (white-stays s h)

number-each : (P : ℕ → Type 0) → P 0x6E → P 0x63 → P 0x77 → (s : ℕ) → is_in_digits s ≡ true → P s
number-each P a b d s h = elim (or_cases (s == 0x6E || s == 0x63) (s == 0x77) h) [
  | inl ab ↦ elim (or_cases (s == 0x6E) (s == 0x63) ab) [ inl x ↦ subst P (sym (eqb-true s 0x6E x)) a | inr x ↦ subst P (sym (eqb-true s 0x63 x)) b ]
  | inr x ↦ subst P (sym (eqb-true s 0x77 x)) d
]

-- a digit is ASCII
digit-low : (c : ℕ) → is_digit c ≡ true → is_between 0x00 0x7F c ≡ true
digit-low c h =
    let p = and_parts (nat_le 0x30 c) (nat_le c 0x39) h in
    let high = leb-true c 0x39 p.1 in
    between 0x00 0x7F c (omega arith) (omega (arith, high))

digit-stays : (s : ℕ) → is_in_digits s ≡ true → (c : ℕ) → is_digit c ≡ true → Stays s c
unfolding next code mode_of coding_of
digit-stays = number-each (λ s. (c : ℕ) → is_digit c ≡ true → Stays s c)
    (λ c h k n σ. rw (digit-low c h, h) refl)
    (λ c h k n σ. rw (digit-low c h, h) refl)
    (λ c h k n σ. rw (digit-low c h, h) refl)

pub run-digits : (s : ℕ) → is_in_digits s ≡ true → (xs : List ℕ) (i k n : ℕ) (σ : List Bool) → i ≤ prefix_len is_digit xs → advances (running k (coding_of s) (mode_of s) n σ) (take i xs) ≡ running (k + i) (coding_of s) (mode_of s) n σ
run-digits s h = run-same is_digit (coding_of s) (mode_of s) (digit-stays s h)
