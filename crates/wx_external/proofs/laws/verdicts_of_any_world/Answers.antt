use Rattle.std.proofs.Common.{refl}
use Rattle.wx_external.proofs.laws.verdicts_of_any_world.Goals as goal

pub returns : goal.returns
returns c = λ world tab frame. (refl, refl, refl)
