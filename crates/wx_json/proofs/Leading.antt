-- How bytes that lead from state to state are joined.
use Rattle.std.proofs.Common.{◌≡◌, ℕ, suc, ◌+◌, ◌-◌, ◌<◌, ◌≤◌, List, length, take, drop, get_or, Bool, true, false, refl, ap, ◌∙◌, sym, subst, arith}
use Rattle.std.specs.Prelude.{◌==◌}
use Rattle.std.proofs.lemmas.Bool.{eqb-true}
use Rattle.wx_json.specs.Check.{running}
use Rattle.wx_json.specs.States.{is_state, mode_of, coding_of, went, entered, next_of, LeadsAt, Asks, CommaLeads}
use Rattle.wx_json.proofs.Parts.{joined, one_more}

module _ (σ : List Bool) (piece : List ℕ) (i : ℕ) (s t : ℕ) where
  -- from i to j, then from j to e
  pub leads-joined : (u : ℕ) (j e : ℕ) → i ≤ j → j ≤ e → LeadsAt σ s t (take (j - i) (drop i piece)) (j - i) → LeadsAt σ t u (take (e - j) (drop j piece)) (e - j) → LeadsAt σ s u (take (e - i) (drop i piece)) (e - i)
  leads-joined u j e a b first second = λ k n.
      let far : k + (j - i) + (e - j) ≡ k + (e - i) = omega arith in
      sym (joined (running k (coding_of s) (mode_of s) n σ) (running (k + (j - i)) (coding_of t) (mode_of t) n σ) (running (k + (e - i)) (coding_of u) (mode_of u) n σ) piece i j e a b (sym (first k n))
      (ap (λ k. running k (coding_of u) (mode_of u) n σ) (sym far) ∙ sym (second (k + (j - i)) n)))

  -- from i to e, then the byte at e, by an entry that is a state or leads to one
  pub leads-more : (u x : ℕ) (e : ℕ) → i ≤ e → e < length piece → LeadsAt σ s t (take (e - i) (drop i piece)) (e - i) → Asks x t (get_or piece e 0)
      → ((k n : ℕ) → entered x (running k (coding_of t) (mode_of t) n σ) ≡ went u (running k (coding_of t) (mode_of t) n σ))
      → LeadsAt σ s u (take (e + 1 - i) (drop i piece)) (e + 1 - i)
  leads-more u x e a b first asks goes = λ k n.
      let far : suc (k + (e - i)) ≡ k + (e + 1 - i) = omega arith in
      sym (one_more (running k (coding_of s) (mode_of s) n σ) (running (k + (e - i)) (coding_of t) (mode_of t) n σ) (running (k + (e + 1 - i)) (coding_of u) (mode_of u) n σ) piece i e a b (sym (first k n))
      (ap (λ k. running k (coding_of u) (mode_of u) n σ) (sym far) ∙ sym (goes (k + (e - i)) n) ∙ asks (k + (e - i)) n σ))

-- an entry that leads to a state from the state s
pub next_of-entered : (x s after_comma k n : ℕ) (σ : List Bool) → 64 ≤ next_of x s after_comma → CommaLeads after_comma σ
    → entered x (running k (coding_of s) (mode_of s) n σ) ≡ went (next_of x s after_comma) (running k (coding_of s) (mode_of s) n σ)
unfolding entered
next_of-entered x s after_comma k n σ high leads = by_string (x == 0x2B) refl
  where
    P : ℕ → Type 0
    P x = 64 ≤ next_of x s after_comma → entered x (running k (coding_of s) (mode_of s) n σ) ≡ went (next_of x s after_comma) (running k (coding_of s) (mode_of s) n σ)

    at_string : P 0x2B
    at_string high = refl

    at_name : P 0x2A
    at_name high = refl

    at_run : P 0x3D
    at_run high = refl

    at_comma : P 0x2C
    at_comma high = leads high k n (coding_of s) (mode_of s)

    Goal : Type 0
    Goal = entered x (running k (coding_of s) (mode_of s) n σ) ≡ went (next_of x s after_comma) (running k (coding_of s) (mode_of s) n σ)

    by_comma : (x == 0x2B) ≡ false → (x == 0x2A) ≡ false → (x == 0x3D) ≡ false → (b : Bool) → (x == 0x2C) ≡ b → Goal
    by_comma p q r true found = subst P (sym (eqb-true x 0x2C found)) at_comma high
    by_comma p q r false other = let low : 64 ≤ 0 = rw (p, q, r, other) at high in absurd (omega arith)

    by_run : (x == 0x2B) ≡ false → (x == 0x2A) ≡ false → (b : Bool) → (x == 0x3D) ≡ b → Goal
    by_run p q true found = subst P (sym (eqb-true x 0x3D found)) at_run high
    by_run p q false r = by_comma p q r (x == 0x2C) refl

    by_name : (x == 0x2B) ≡ false → (b : Bool) → (x == 0x2A) ≡ b → Goal
    by_name p true found = subst P (sym (eqb-true x 0x2A found)) at_name high
    by_name p false q = by_run p q (x == 0x3D) refl

    by_string : (b : Bool) → (x == 0x2B) ≡ b → Goal
    by_string true found = subst P (sym (eqb-true x 0x2B found)) at_string high
    by_string false p = by_name p (x == 0x2A) refl

pub next_of-state : (x s after_comma : ℕ) → is_state s ≡ true → (64 ≤ after_comma → is_state after_comma ≡ true) → 64 ≤ next_of x s after_comma → is_state (next_of x s after_comma) ≡ true
unfolding is_state
next_of-state x s after_comma here comma high = by_string (x == 0x2B) (x == 0x2A) (x == 0x3D) (x == 0x2C) refl refl refl refl
  where
    by_string : (a b d f : Bool) → (x == 0x2B) ≡ a → (x == 0x2A) ≡ b → (x == 0x3D) ≡ d → (x == 0x2C) ≡ f → is_state (next_of x s after_comma) ≡ true
    by_string true b d f p q r t = rw p refl
    by_string false true d f p q r t = rw (p, q) refl
    by_string false false true f p q r t = rw (p, q, r) here
    by_string false false false true p q r t = rw (p, q, r, t) (comma (rw (p, q, r, t) at high))
    by_string false false false false p q r t = let low : 64 ≤ 0 = rw (p, q, r, t) at high in absurd (omega arith)
