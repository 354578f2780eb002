use Rattle.wx_laws.proofs.Closings.{tells_the_other_side_lem}
use Rattle.wx_laws.proofs.laws.tells_the_other_side.Goals as goal

pub returns : goal.returns
returns c = tells_the_other_side_lem
