use Rattle.wx_laws.proofs.Closings.{stays_pending_lem}
use Rattle.wx_laws.proofs.laws.stays_pending.Goals as goal

pub returns : goal.returns
returns c = stays_pending_lem
