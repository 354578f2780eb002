use Rattle.wx_laws.proofs.Refusals.{refuses_connects_lem}
use Rattle.wx_laws.proofs.laws.refuses_connects.Goals as goal

pub returns : goal.returns
returns c = refuses_connects_lem
