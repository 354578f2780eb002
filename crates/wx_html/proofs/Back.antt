-- What stands for a text is read as that text.
use Rattle.std.proofs.Common.{◌≡◌, ◌∙◌, ap, refl, ℕ, List, [], ◌∷◌, ◌++◌, arith}
use Rattle.std.specs.Prelude.{None}
use Rattle.wx_html.specs.Escape.{entity, escaped, read_from, read_back}

-- what stands for a byte is read as that byte, and then what follows
entity_back : (b : ℕ) (page : List ℕ) → read_from None (entity b ++ page) ≡ b ∷ read_from None page
entity_back b page = grind arith

pub back : (text : List ℕ) → read_back (escaped text) ≡ text
back [] = refl
back (b ∷ text) = entity_back b (escaped text) ∙ ap (λ (t : List ℕ). b ∷ t) (back text)
