use Rattle.std.proofs.Common.{◌≡◌, length}
use Rattle.wx_journal_read.specs.Grammar.{entries_at}
use Rattle.wx_journal_read.proofs.Runs.{joined}
use Rattle.wx_journal_read.proofs.whole.entries.Given as goal

-- what was read, with what is read from here on, is what is read of all
abbrev pub invariant-loop-e : goal.invariant-loop-e
invariant-loop-e l = joined l.list.items (entries_at (length l.rest) l.rest) ≡ entries_at (length l.bytes) l.bytes

abbrev pub decreases-loop-e : goal.decreases-loop-e
decreases-loop-e l = length l.rest
