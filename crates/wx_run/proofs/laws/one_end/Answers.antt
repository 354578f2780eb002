use Rattle.wx_run.proofs.LawLemmas.{one_end}
use Rattle.wx_run.proofs.laws.one_end.Goals as goal

pub returns : goal.returns
returns c = one_end
