use Rattle.wx_journal.proofs.list.Journal.port_report.Goals as goal

pub returns-clause-laws : goal.returns-clause-laws
returns-clause-laws c = rw (← c.entries.ensures) c.port_report.ensures.laws

pub returns-clause-given : goal.returns-clause-given
returns-clause-given c = rw (← c.entries.ensures) c.port_report.ensures.given

pub returns-clause-taken : goal.returns-clause-taken
returns-clause-taken c = rw (← c.entries.ensures) c.port_report.ensures.taken
