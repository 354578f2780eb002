-- The states in a string, and those where a text may end, by their modes.
use Rattle.std.proofs.Common.{◌≡◌, ℕ, Bool, true, false, refl, ap, inl, inr}
use Rattle.std.proofs.lemmas.Bool.{agree_below, agree_below_at, eqb-true, or_cases}
use Rattle.std.specs.Prelude.{◌==◌}
use Rattle.wx_json.specs.Machine.{may_end}
use Rattle.wx_json.specs.Mode.{text}
use Rattle.wx_json.specs.Coding.{whole}
use Rattle.wx_json.specs.States.{is_state, mode_of, coding_of, is_in_string, is_end}
use Rattle.wx_json.proofs.Table.{state_bounds}

ends_ok : agree_below is_end (λ s. may_end (mode_of s)) 128 ≡ true
unfolding mode_of
ends_ok = refl

pub is_end-may_end : (s : ℕ) → is_state s ≡ true → is_end s ≡ may_end (mode_of s)
is_end-may_end s h = agree_below_at is_end (λ s. may_end (mode_of s)) 128 s ends_ok (state_bounds s h).1

pub string-mode : (s : ℕ) → is_in_string s ≡ true → (k : Bool) × (mode_of s ≡ text k)
unfolding mode_of
string-mode s h = elim (or_cases (s == 0x73) (s == 0x53) h) [
  | inl small ↦ (false, ap mode_of (eqb-true s 0x73 small))
  | inr great ↦ (true, ap mode_of (eqb-true s 0x53 great))
]

pub string-coding : (s : ℕ) → is_in_string s ≡ true → coding_of s ≡ whole
unfolding coding_of
string-coding s h = elim (or_cases (s == 0x73) (s == 0x53) h) [
  | inl small ↦ ap coding_of (eqb-true s 0x73 small)
  | inr great ↦ ap coding_of (eqb-true s 0x53 great)
]
