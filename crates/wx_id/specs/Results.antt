-- Steps of which the first that fails tells its fault.
use Rattle.std.specs.Prelude.{Result, Ok, Err}

infixl 10 ◌>>=◌
abbrev pub ◌>>=◌ : {A B F : Type 0} → Result A F → (A → Result B F) → Result B F
(Ok x) >>= f = f x
(Err fault) >>= f = Err fault

-- the answer, with its fault in the words of another sort of faults
abbrev pub told_as : {A F G : Type 0} → (F → G) → Result A F → Result A G
told_as words (Ok x) = Ok x
told_as words (Err fault) = Err (words fault)
