-- A list that another begins with.
use Rattle.std.specs.Prelude.{List, ◌++◌, ◌≡◌}

-- ys begins with xs
abbrev pub IsPrefix : {X : Type 0} → List X → List X → Type 0
IsPrefix {X} xs ys = (rest : List X) × (ys ≡ xs ++ rest)
