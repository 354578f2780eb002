use Rattle.wx_laws.proofs.Settlements.{tells_one_outcome_lem}
use Rattle.wx_laws.proofs.laws.tells_one_outcome.Goals as goal

pub returns : goal.returns
returns c = tells_one_outcome_lem
