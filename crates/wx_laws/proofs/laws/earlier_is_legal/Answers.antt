use Rattle.wx_laws.proofs.Pasts.{earlier_is_legal_lem}
use Rattle.wx_laws.proofs.laws.earlier_is_legal.Goals as goal

pub returns : goal.returns
returns c = earlier_is_legal_lem
