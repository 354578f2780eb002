-- What stands after a word, by the test of a front.
use Rattle.std.proofs.Common.{◌≡◌, ℕ, true, false, ◌&&◌, cond, List, [], ◌∷◌, length, drop, Some, None, refl, nat_eq}
use Rattle.std.specs.List.{starts_with}
use Rattle.std.specs.Prelude.{◌==◌}
use Rattle.wx_journal_read.specs.Reading.{behind}

pub behind_is : (word bytes : List ℕ) → behind word bytes ≡ cond (starts_with nat_eq bytes word) (Some (drop (length word) bytes)) None
unfolding behind
behind_is [] bytes = refl
behind_is (w ∷ ws) [] = refl
behind_is (w ∷ ws) (b ∷ bs) =
    elim (w == b) as (λ t. cond t (behind ws bs) None ≡ cond (t && starts_with nat_eq bs ws) (Some (drop (length ws) bs)) None) [
      | true ↦ behind_is ws bs
      | false ↦ refl
    ]
