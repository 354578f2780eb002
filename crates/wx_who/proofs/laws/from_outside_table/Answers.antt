use Rattle.std.proofs.Common.{refl}
use Rattle.std.specs.Fmt.{digits}
use Rattle.wx_who.proofs.laws.from_outside_table.Goals as goal

pub returns : goal.returns
unfolding digits
returns c = refl
