-- What a child's output has at once.
use Rattle.std.specs.Prelude.{ℕ, ◌≤◌}
use Rattle.wx_children.specs.declared.line.Now.{Now}
use Rattle.wx_children.specs.declared.line.Now.TheVariants.{Came, Nothing, Failed}

-- bytes that came have places in this room
abbrev pub IsWithin : Now → ℕ → Type 0
IsWithin (Came n) room = n ≤ room
IsWithin Nothing room = Unit {0}
IsWithin Failed room = Unit {0}
