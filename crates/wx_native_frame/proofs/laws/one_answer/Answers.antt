use Rattle.wx_native_frame.proofs.SplitLaws.{one_end, end_no_trouble, one_trouble}
use Rattle.wx_native_frame.proofs.laws.one_answer.Goals as goal

pub returns-clause-frame : goal.returns-clause-frame
returns-clause-frame c = one_end

pub returns-clause-no_trouble : goal.returns-clause-no_trouble
returns-clause-no_trouble c = end_no_trouble

pub returns-clause-trouble : goal.returns-clause-trouble
returns-clause-trouble c = one_trouble c.one_fault.ensures.one
