use Rattle.std.proofs.Common.{ap}
use Rattle.wx_endpoint.specs.Asked.{begun_by}
use Rattle.wx_endpoint.proofs.HistoryLemmas.{wait_made}
use Rattle.wx_endpoint.proofs.performing.perform.Goals as goal

pub returns-in-Wait-clause-made : goal.returns-in-Wait-clause-made
returns-in-Wait-clause-made g c = wait_made _ _ _ _ (ap begun_by c.in-Wait.is) c.take_ready.ensures.taken
