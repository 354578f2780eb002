-- The last endpoint and its commands.
use Rattle.std.proofs.Common.{◌≡◌, ℕ, zero, suc, ◌+◌, length, set, get_or, arith, List, [], ◌∷◌, ◌++◌, Result, Ok, Err, ap}
use Rattle.std.specs.Prelude.{OnOk}
use Rattle.wx_script.specs.declared.script.Command.{Command}
use Rattle.wx_script.specs.declared.scene.SceneEndpoint.{SceneEndpoint}
use Rattle.wx_script.specs.Draft.{with_command}

pub with_command-set : (c : Command) (es : List SceneEndpoint) (n : ℕ) (x : SceneEndpoint) → n + 1 ≡ length es → x ≡ get_or es n x
    → set es n (record x { script = x.script ++ c ∷ [] }) ≡ with_command c es
with_command-set c [] n x at is = absurd (omega arith)
with_command-set c (e ∷ []) zero x at is = let f : SceneEndpoint → List SceneEndpoint = λ x. record x { script = x.script ++ c ∷ [] } ∷ [] in ap f is
with_command-set c (e ∷ []) (suc n) x at is = absurd (omega arith)
with_command-set c (e ∷ f ∷ es) zero x at is = absurd (omega arith)
with_command-set c (e ∷ f ∷ es) (suc n) x at is = ap (λ t. e ∷ t) (with_command-set c (f ∷ es) n x (omega arith) is)

pub on_ok : {A E : Type 0} (r : Result A E) (P Q : Type 0) → (P → Q) → OnOk r P → OnOk r Q
on_ok (Ok x) P Q f h = f h
on_ok (Err e) P Q f h = tt
