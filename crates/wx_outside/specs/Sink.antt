-- What a sink was written, where it tells.
use Rattle.std.specs.Prelude.{◌≡◌, ℕ, ◌≤◌, List, ◌++◌, length, take, Option, OnErr, Result}
use Rattle.std.specs.Option.{option_map}
use Rattle.wx_outside.specs.Causes.{Rose}

-- what a sink tells: what it was written, where it tells that; and how many writes have failed
pub record SinkState : Type 0 where
  pub written : Option (List ℕ)
  pub faults : ℕ

-- what was written, and these bytes after it
abbrev pub added : Option (List ℕ) → List ℕ → Option (List ℕ)
added written bytes = option_map (λ before. before ++ bytes) written

-- a front of these bytes was added
abbrev pub AddsFront : Option (List ℕ) → Option (List ℕ) → List ℕ → Type 0
AddsFront old new bytes = (n : ℕ) × (n ≤ length bytes) × (new ≡ added old (take n bytes))

-- The count never falls, and a failure is answered only where it has risen.
pub record HasCause {T E : Type 0} (before now : ℕ) (result : Result T E) : Type 0 where
  pub later : before ≤ now
  pub failed : OnErr result (Rose before now)
