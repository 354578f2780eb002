use Rattle.wx_script_laws.proofs.PartLemmas.{parts_in_order}
use Rattle.wx_script_laws.proofs.parts_in_order.Goals as goal

pub returns : goal.returns
returns c = parts_in_order
