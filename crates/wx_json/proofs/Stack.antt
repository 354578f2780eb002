-- A level put on the stack leaves those below it.
use Rattle.std.proofs.Common.{◌≡◌, ◌≢◌, ℕ, zero, suc, ◌+◌, ◌*◌, ◌-◌, ◌/◌, ◌%◌, ◌<◌, ◌≤◌, List, [], ◌∷◌, length, get_or, set, Bool, refl, ap, ◌∙◌, sym, arith, inl, inr, get_or-set_same, get_or-set_other, add-one}
use Rattle.std.specs.Prelude.{◌==◌}
use Rattle.std.specs.Int.{bit_at}
use Rattle.std.proofs.lemmas.Bool.Decides.{eqb_tells}
use Rattle.wx_json.specs.Levels.{kind_of, kinds_of}

module _ (words : List ℕ) (at v : ℕ) (inside : at < 64 * length words)
    (others : (i : ℕ) → i < 64 → i ≢ at % 64 → bit_at v i ≡ bit_at (get_or words (at / 64) 0) i) where
  kind_below : (d : ℕ) → d < at → kind_of (set words (at / 64) v) d ≡ kind_of words d
  kind_below d lt = elim (eqb_tells (d / 64) (at / 64)) [ inl p ↦ same p.1 | inr p ↦ other p.1 ]
    where
      in_words : at / 64 < length words
      in_words = omega arith

      same : d / 64 ≡ at / 64 → kind_of (set words (at / 64) v) d ≡ kind_of words d
      same p = let q : d % 64 ≢ at % 64 = omega arith in let r : d % 64 < 64 = omega arith in
          ap (λ x. bit_at x (d % 64) == 1) (ap (λ i. get_or (set words (at / 64) v) i 0) p ∙ get_or-set_same words (at / 64) v 0 in_words) ∙ ap (λ x. x == 1) (others (d % 64) r q) ∙ ap (λ i. bit_at (get_or words i 0) (d % 64) == 1) (sym p)

      other : d / 64 ≢ at / 64 → kind_of (set words (at / 64) v) d ≡ kind_of words d
      other p = ap (λ x. bit_at x (d % 64) == 1) (get_or-set_other words (at / 64) (d / 64) v 0 p)

  kinds_below : (d : ℕ) → d ≤ at → kinds_of (set words (at / 64) v) d ≡ kinds_of words d
  kinds_below zero le = refl
  kinds_below (suc d) le = ap (λ k. k ∷ kinds_of (set words (at / 64) v) d) (kind_below d (omega arith)) ∙ ap (λ ks. kind_of words d ∷ ks) (kinds_below d (omega arith))

  pub kinds_put : (k : Bool) → (bit_at v (at % 64) == 1) ≡ k → kinds_of (set words (at / 64) v) (at + 1) ≡ k ∷ kinds_of words at
  kinds_put k e = rw add-one (ap (λ j. j ∷ kinds_of (set words (at / 64) v) at) (here ∙ e) ∙ ap (λ ks. k ∷ ks) (kinds_below at (omega arith)))
    where
      in_words : at / 64 < length words
      in_words = omega arith

      here : kind_of (set words (at / 64) v) at ≡ (bit_at v (at % 64) == 1)
      here = ap (λ x. bit_at x (at % 64) == 1) (get_or-set_same words (at / 64) v 0 in_words)

-- the stack and its top
pub kinds_top : (words : List ℕ) (depth : ℕ) → (depth ≡ 0 → ⊥) → kinds_of words depth ≡ kind_of words (depth - 1) ∷ kinds_of words (depth - 1)
kinds_top words zero h = absurd (h refl)
kinds_top words (suc d) h = let e : d ≡ suc d - 1 = omega arith in ap (λ i. kind_of words i ∷ kinds_of words i) e

pub kinds_none : (words : List ℕ) (depth : ℕ) → depth ≡ 0 → kinds_of words depth ≡ []
kinds_none words depth e = ap (kinds_of words) e
