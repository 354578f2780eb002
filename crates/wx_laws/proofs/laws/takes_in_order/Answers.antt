use Rattle.wx_laws.proofs.Messages.{takes_in_order_lem, takes_texts_in_order_lem}
use Rattle.wx_laws.proofs.laws.takes_in_order.Goals as goal

pub returns-clause-entries : goal.returns-clause-entries
returns-clause-entries c = takes_in_order_lem

pub returns-clause-texts : goal.returns-clause-texts
returns-clause-texts c = takes_texts_in_order_lem
