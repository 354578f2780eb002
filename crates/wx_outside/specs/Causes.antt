-- Counts of reads and of faults.
use Rattle.std.specs.Prelude.{ℕ, ◌+◌, ◌-◌, ◌^◌, ◌≤◌, min}

-- the count has risen, or stands at the end of its type
abbrev pub Rose : ℕ → ℕ → Type 0
Rose before now = min (before + 1) (2 ^ 64 - 1) ≤ now

-- one more was counted, unless the count stood at the end of its type
abbrev pub counted : ℕ → ℕ
counted before = min (before + 1) (2 ^ 64 - 1)
