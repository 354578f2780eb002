use Rattle.wx_pump.proofs.PaceLemmas.{entries_few}
use Rattle.wx_pump.proofs.pace.entries_are_few.Goals as goal

pub returns : goal.returns
returns c = entries_few
