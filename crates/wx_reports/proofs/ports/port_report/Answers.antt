use Rattle.std.proofs.Common.{sym, subst, ◌∙◌}
use Rattle.std.specs.Prelude.{Option, IfSome, reverse}
use Rattle.wx_id.specs.declared.numbers.EntryNo.{EntryNo}
use Rattle.wx_laws.proofs.Keeping.{keeps_channel}
use Rattle.wx_machine.specs.Words.{closed_at}
use Rattle.wx_reports.specs.Places.{IsClosing}
use Rattle.wx_reports.proofs.Counts.{posted_is, taken_is, number_back}
use Rattle.wx_reports.proofs.Places.{opening_at, closing_at}
use Rattle.wx_reports.proofs.ports.port_report.Goals as goal

pub returns-in-Some-clause-opened : goal.returns-in-Some-clause-opened
returns-in-Some-clause-opened c = opening_at (reverse c.args.entries.now) c.args.k.0 c.in-Some.opened (sym c.opened_at.ensures ∙ c.in-Some.is)

pub returns-in-Some-clause-closed : goal.returns-in-Some-clause-closed
returns-in-Some-clause-closed c =
    subst (λ (o : Option EntryNo). IfSome o (IsClosing (reverse c.args.entries.now) c.args.k.0)) (sym c.closed_at.ensures) (closing_at (reverse c.args.entries.now) c.args.k.0)

pub returns-in-Some-clause-laws : goal.returns-in-Some-clause-laws
returns-in-Some-clause-laws c = λ world legal.
    rw (c.closed_at.ensures, number_back (closed_at (reverse c.args.entries.now) c.args.k.0)) (keeps_channel world c.args.entries.now c.args.k.0 legal)

pub returns-in-Some-clause-given : goal.returns-in-Some-clause-given
returns-in-Some-clause-given c = λ world legal. c.posted.ensures ∙ posted_is world (reverse c.args.entries.now) c.args.k.0 legal

pub returns-in-Some-clause-taken : goal.returns-in-Some-clause-taken
returns-in-Some-clause-taken c = λ world legal. c.taken.ensures ∙ taken_is world (reverse c.args.entries.now) c.args.k.0 legal
