use Rattle.wx_journal_read.proofs.Examples.{line_feed, leading_zero, head_line}
use Rattle.wx_journal_read.proofs.laws.worked_faults.Goals as goal

pub returns-clause-line_feed : goal.returns-clause-line_feed
returns-clause-line_feed c = line_feed

pub returns-clause-leading_zero : goal.returns-clause-leading_zero
returns-clause-leading_zero c = leading_zero

pub returns-clause-head_line : goal.returns-clause-head_line
returns-clause-head_line c = head_line
