use Rattle.std.proofs.Common.{refl}
use Rattle.wx_external.specs.Gate.{native_gate_of}
use Rattle.wx_who.proofs.laws.native_table.Goals as goal

pub returns : goal.returns
unfolding native_gate_of
returns c = refl
