use Rattle.wx_journal_read.proofs.Sorts.{no_path}
use Rattle.wx_journal_read.proofs.sort.path_text.Goals as goal

pub returns-in-Err : goal.returns-in-Err
returns-in-Err c = no_path c.args.bytes.now c.in-Err.ensures.cases.0
