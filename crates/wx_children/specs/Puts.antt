-- What a write to a child came to.
use Rattle.std.specs.Prelude.{ℕ, ◌≤◌}
use Rattle.wx_children.specs.declared.pipes.Put.{Put}
use Rattle.wx_children.specs.declared.pipes.Put.TheVariants.{Taken, Again, Gone}

-- no more was taken than there is
abbrev pub IsWithinPiece : Put → ℕ → Type 0
IsWithinPiece (Taken n) count = n ≤ count
IsWithinPiece Again count = Unit {0}
IsWithinPiece Gone count = Unit {0}
