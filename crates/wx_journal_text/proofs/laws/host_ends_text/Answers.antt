use Rattle.std.proofs.Common.{refl}
use Rattle.std.specs.Fmt.{digits}
use Rattle.wx_external.specs.Gate.{native_gate_of}
use Rattle.wx_journal_text.proofs.laws.host_ends_text.Goals as goal

pub returns : goal.returns
unfolding digits native_gate_of
returns c = refl
