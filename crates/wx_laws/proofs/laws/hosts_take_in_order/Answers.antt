use Rattle.wx_laws.proofs.HostTexts.{hosts_take_in_order_lem, hosts_take_texts_in_order_lem}
use Rattle.wx_laws.proofs.laws.hosts_take_in_order.Goals as goal

pub returns-clause-entries : goal.returns-clause-entries
returns-clause-entries c = hosts_take_in_order_lem

pub returns-clause-texts : goal.returns-clause-texts
returns-clause-texts c = hosts_take_texts_in_order_lem
