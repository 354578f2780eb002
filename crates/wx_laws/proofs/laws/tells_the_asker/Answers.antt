use Rattle.wx_laws.proofs.Settlements.{tells_the_asker_lem}
use Rattle.wx_laws.proofs.laws.tells_the_asker.Goals as goal

pub returns : goal.returns
returns c = tells_the_asker_lem
