use Rattle.wx_journal_read.proofs.Journals.{one_text}
use Rattle.wx_journal_read.proofs.laws.different_texts.Goals as goal

pub returns : goal.returns
returns c = one_text
