use Rattle.wx_laws.proofs.Closings.{stays_behind_closing_lem}
use Rattle.wx_laws.proofs.laws.stays_behind_closing.Goals as goal

pub returns : goal.returns
returns c = stays_behind_closing_lem
