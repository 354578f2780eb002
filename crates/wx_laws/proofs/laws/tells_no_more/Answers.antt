use Rattle.wx_laws.proofs.Closings.{tells_no_more_lem}
use Rattle.wx_laws.proofs.laws.tells_no_more.Goals as goal

pub returns : goal.returns
returns c = tells_no_more_lem
