use Rattle.std.proofs.Common.{sym}
use Rattle.wx_journal_read.proofs.Journals.{left_short}
use Rattle.wx_journal_read.proofs.whole.whole.Goals as goal

pub overflow_sub-result : goal.overflow_sub-result
overflow_sub-result c = left_short c.args.bytes.now c.in-Some.rest.now c.in-Ok.list.items c.in-Ok.left.now (sym c.in-Some.ensures) c.in-Ok.ensures
