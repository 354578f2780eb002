use Rattle.wx_laws.proofs.Keeping.{legal_keeps_laws}
use Rattle.wx_laws.proofs.laws.keeps_laws.Goals as goal

pub returns : goal.returns
returns c = legal_keeps_laws
