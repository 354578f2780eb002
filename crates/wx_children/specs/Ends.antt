-- What the two ends of a child's pipe stand on.
use Rattle.std.specs.Prelude.{◌≡◌, ℕ, ◌≤◌, Bool, false, List, length, take, Option, Some, None}
use Rattle.wx_outside.specs.Sink.{added}

-- some of the first bytes were added to what was sent, as far as that is told, and their number is answered; else none
abbrev pub Feeds : Option (List ℕ) → Option (List ℕ) → List ℕ → Option ℕ → Type 0
Feeds old new bytes (Some n) = (n ≤ length bytes) × (new ≡ added old (take n bytes))
Feeds old new bytes None = new ≡ old

-- two ends of which nothing was used: whether the input is closed, its count, whether the output is over, and its count
abbrev pub IsNew : Bool → ℕ → Bool → ℕ → Type 0
IsNew closed failed_writes over failed_reads = (closed ≡ false) × (failed_writes ≡ 0) × (over ≡ false)
    × (failed_reads ≡ 0)
