use Rattle.wx_host_kit.proofs.EndLemmas.{one_end}
use Rattle.wx_host_kit.proofs.laws.one_end.Goals as goal

pub returns : goal.returns
returns c = one_end
