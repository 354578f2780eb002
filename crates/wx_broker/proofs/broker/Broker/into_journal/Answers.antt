use Rattle.wx_laws.proofs.Keeping.{legal_keeps_laws}
use Rattle.wx_broker.proofs.broker.Broker.into_journal.Goals as goal

pub returns-clause-laws : goal.returns-clause-laws
returns-clause-laws c =
    let i = c.self.inside in
    rw (← c.self.view_is) (legal_keeps_laws i.world i.journal.entries c.self.invariant.kept.legal)
