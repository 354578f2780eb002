-- The lines of one more endpoint.
use Rattle.std.proofs.Common.{◌≡◌, ℕ, zero, suc, ◌+◌, ◌<◌, length, take, get_or, arith, List, [], ◌∷◌, ◌++◌, sym, ap, ◌∙◌, append_assoc, append-nil}
use Rattle.wx_machine.specs.declared.entries.Entry.{Entry}
use Rattle.wx_machine.specs.Words.{has_left}
use Rattle.wx_script.specs.declared.scene.SceneEndpoint.{SceneEndpoint}
use Rattle.wx_script.specs.Ends.{numbered}
use Rattle.wx_cmd.specs.Endings.{stalled_unless, stalled_from}

stalled_more : (past : List Entry) (endpoints : List SceneEndpoint) (n m i : ℕ) (e : SceneEndpoint) → i < length endpoints → e ≡ get_or endpoints i e → m ≡ n + i
    → stalled_from past n (take (suc i) endpoints) ≡ stalled_from past n (take i endpoints) ++ stalled_unless (has_left past (numbered m)) e.name
stalled_more past [] n m i e within is at = absurd (omega (arith, within))
stalled_more past (x ∷ endpoints) n m zero e within is at =
    let here : n ≡ m = omega arith in
    append-nil _ ∙ ap (λ (y : SceneEndpoint). stalled_unless (has_left past (numbered n)) y.name) (sym is) ∙ ap (λ k. stalled_unless (has_left past (numbered k)) e.name) here
stalled_more past (x ∷ endpoints) n m (suc i) e within is at =
    ap (λ t. stalled_unless (has_left past (numbered n)) x.name ++ t) (stalled_more past endpoints (n + 1) m i e (omega (arith, within)) is (omega arith))
    ∙ sym (append_assoc (stalled_unless (has_left past (numbered n)) x.name) (stalled_from past (n + 1) (take i endpoints)) _)

pub stalled_next : (past : List Entry) (endpoints : List SceneEndpoint) (i : ℕ) (e : SceneEndpoint) → i < length endpoints → e ≡ get_or endpoints i e
    → stalled_from past 0 (take (i + 1) endpoints) ≡ stalled_from past 0 (take i endpoints) ++ stalled_unless (has_left past (numbered i)) e.name
stalled_next past endpoints i e within is =
    let step : i + 1 ≡ suc i = omega arith in
    ap (λ n. stalled_from past 0 (take n endpoints)) step ∙ stalled_more past endpoints 0 i i e within is (omega arith)
