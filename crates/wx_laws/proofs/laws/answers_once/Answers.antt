use Rattle.wx_laws.proofs.Settlements.{answers_once_lem}
use Rattle.wx_laws.proofs.laws.answers_once.Goals as goal

pub returns : goal.returns
returns c = answers_once_lem
