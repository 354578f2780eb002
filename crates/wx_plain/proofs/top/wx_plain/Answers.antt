use Rattle.wx_plain.specs.View.{verdict_view}
use Rattle.wx_plain.proofs.Completes.{completes_told}
use Rattle.wx_plain.proofs.top.wx_plain.Goals as goal

pub returns-clause-complete : goal.returns-clause-complete
returns-clause-complete g c = completes_told c.one_plain_answer.ensures _ _ _ _ _ (verdict_view c.judge-verdict.result) c.judge-verdict.ensures.judged c.tell.ensures
