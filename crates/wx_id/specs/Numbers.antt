-- Numbers of entries.
use Rattle.std.specs.Prelude.{ℕ}
use Rattle.wx_id.specs.declared.numbers.EntryNo.{EntryNo}

-- the entry with that number
abbrev pub entry_no : ℕ → EntryNo
entry_no n = record { 0 = n }
