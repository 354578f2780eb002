use Rattle.std.proofs.Common.{length}
use Rattle.wx_journal_read.specs.Fits.{JournalFits}
use Rattle.wx_journal_read.proofs.fits.journal.Given as goal

-- where the others fit, all do
abbrev pub invariant-loop-first : goal.invariant-loop-first
invariant-loop-first l = JournalFits l.rest → JournalFits l.entries

abbrev pub decreases-loop-first : goal.decreases-loop-first
decreases-loop-first l = length l.rest
