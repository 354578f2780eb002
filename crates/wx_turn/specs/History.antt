-- Histories of turns. An element is one turn: the number of the seat that made it, and its mark, an entry or nothing.
use Rattle.std.specs.Prelude.{◌≡◌, ℕ, ◌==◌, cond, List, [], ◌∷◌, map, Option}
use Rattle.std.specs.List.{AllByRecursion}
use Rattle.wx_turn.specs.declared.view.Element.{Element}

module _ {E : Type 0} where
  abbrev pub element : ℕ → Option E → Element E
  element n mark = record { by = n; entry = mark }

  -- the marks of a history, without the numbers of the seats
  abbrev pub marks : List (Element E) → List (Option E)
  marks es = map (λ e. e.entry) es

  -- the marks of the elements with this number, in order
  abbrev pub own : ℕ → List (Element E) → List (Option E)
  own n [] = []
  own n (e ∷ es) = cond (e.by == n) (e.entry ∷ own n es) (own n es)

  -- of each number that was taken over the history has just the elements that are kept for it
  abbrev pub Keeps : List (Element E) → List (ℕ × List (Option E)) → Type 0
  Keeps history joins = AllByRecursion (λ p. own p.0 history ≡ p.1) joins
