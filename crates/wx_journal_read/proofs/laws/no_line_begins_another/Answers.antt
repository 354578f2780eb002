use Rattle.wx_journal_read.proofs.Journals.{no_prefix}
use Rattle.wx_journal_read.proofs.laws.no_line_begins_another.Goals as goal

pub returns : goal.returns
returns c = no_prefix
