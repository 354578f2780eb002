use Rattle.wx_journal.proofs.list.Journal.request_report.Goals as goal

pub returns-clause-laws : goal.returns-clause-laws
returns-clause-laws c = rw (← c.entries.ensures) c.request_report.ensures.laws
