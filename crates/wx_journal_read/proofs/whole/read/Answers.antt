use Rattle.std.proofs.Common.{arith}
use Rattle.wx_journal_read.proofs.Journals.{found_is, bad_is, only_is}
use Rattle.wx_journal_read.proofs.whole.read.Goals as goal

pub returns-clause-found : goal.returns-clause-found
returns-clause-found c = found_is (λ list. list.items) c.args.bytes.now c.whole.result c.whole.ensures

pub returns-clause-only : goal.returns-clause-only
returns-clause-only c = λ j fits whole. only_is (λ list. list.items) c.args.bytes.now c.whole.result j (omega arith) fits whole c.whole.ensures

pub returns-clause-fault : goal.returns-clause-fault
returns-clause-fault c = bad_is (λ list. list.items) c.args.bytes.now c.whole.result (omega arith) c.whole.ensures
