use Rattle.std.proofs.Common.{◌≡◌, take}
use Rattle.std.specs.Prelude.{reverse}
use Rattle.wx_reports.specs.Reports.{settlement}
use Rattle.wx_reports.proofs.requests.settlement.Given as goal

abbrev pub invariant-loop-i : goal.invariant-loop-i
invariant-loop-i l = l.settled ≡ settlement (reverse (take l.i l.entries)) l.r.0
