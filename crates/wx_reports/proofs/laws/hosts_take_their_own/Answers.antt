use Rattle.std.proofs.Common.{refl}
use Rattle.wx_external.specs.Gate.{native_gate_of}
use Rattle.wx_reports.proofs.laws.hosts_take_their_own.Goals as goal

pub returns : goal.returns
unfolding native_gate_of
returns c = (refl, refl)
