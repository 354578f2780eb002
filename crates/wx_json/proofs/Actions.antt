-- The automaton's step, by actions.
use Rattle.std.proofs.Common.{◌≡◌, ℕ, zero, suc, List, Bool, true, false, refl}
use Rattle.std.specs.Prelude.{cond}
use Rattle.wx_json.specs.Machine.{begin, end, exponent_or_end, next}
use Rattle.wx_json.specs.Action.{Action, begin_action, end_action, exponent_action, action_of, perform}
use Rattle.wx_json.specs.Mode.{Mode, after, hex}

perform-cond : (b : Bool) (x y : Action) (n : ℕ) (σ : List Bool) → perform (cond b x y) n σ ≡ cond b (perform x n σ) (perform y n σ)
perform-cond true x y n σ = refl
perform-cond false x y n σ = refl

perform-begin : (c n : ℕ) (σ : List Bool) → perform (begin_action c) n σ ≡ begin n σ c
unfolding begin_action
perform-begin c n σ = simp perform-cond

perform-end : (c n : ℕ) (σ : List Bool) → perform (end_action c) n σ ≡ end n σ c
unfolding end_action
perform-end c n σ = simp perform-cond

perform-exponent : (c n : ℕ) (σ : List Bool) → perform (exponent_action c) n σ ≡ exponent_or_end n σ c
unfolding exponent_action
perform-exponent c n σ = simp (perform-cond, perform-end)

pub perform-action_of : (m : Mode) (c n : ℕ) (σ : List Bool) → perform (action_of m c) n σ ≡ next m n σ c
unfolding action_of next
perform-action_of after c n σ = perform-end c n σ
perform-action_of (hex zero k) c n σ = simp (perform-cond, perform-begin, perform-end, perform-exponent)
perform-action_of (hex (suc i) k) c n σ = simp (perform-cond, perform-begin, perform-end, perform-exponent)
perform-action_of m c n σ = simp (perform-cond, perform-begin, perform-end, perform-exponent)
