use Rattle.wx_laws.proofs.Refusals.{refuses_native_connects_lem}
use Rattle.wx_laws.proofs.laws.refuses_native_connects.Goals as goal

pub returns : goal.returns
returns c = refuses_native_connects_lem
