use Rattle.std.proofs.Common.{sym, subst, ◌∙◌}
use Rattle.std.specs.Prelude.{Option, IfSome, reverse}
use Rattle.wx_id.specs.declared.numbers.EntryNo.{EntryNo}
use Rattle.wx_laws.proofs.Keeping.{keeps_request}
use Rattle.wx_reports.specs.declared.requests.Settled.{Settled}
use Rattle.wx_reports.specs.Places.{IsSettlement}
use Rattle.wx_reports.proofs.Places.{asking_at, settlement_at}
use Rattle.wx_reports.proofs.requests.request_report.Goals as goal

pub returns-in-Some-clause-opened : goal.returns-in-Some-clause-opened
returns-in-Some-clause-opened c = asking_at (reverse c.args.entries.now) c.args.r.0 c.in-Some.opened (sym c.asked_at.ensures ∙ c.in-Some.is)

pub returns-in-Some-clause-way : goal.returns-in-Some-clause-way
returns-in-Some-clause-way c =
    subst (λ (o : Option (EntryNo × Settled)). IfSome o (IsSettlement (reverse c.args.entries.now) c.args.r.0)) (sym c.settlement.ensures) (settlement_at (reverse c.args.entries.now) c.args.r.0)

pub returns-in-None-clause-laws : goal.returns-in-None-clause-laws
returns-in-None-clause-laws c = λ world legal. keeps_request world c.args.entries.now c.args.r.0 legal

pub returns-in-Some-clause-laws : goal.returns-in-Some-clause-laws
returns-in-Some-clause-laws c = λ world legal. keeps_request world c.args.entries.now c.args.r.0 legal
