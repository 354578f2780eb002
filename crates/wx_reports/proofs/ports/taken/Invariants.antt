use Rattle.std.proofs.Common.{◌≡◌, ◌≤◌, take}
use Rattle.std.specs.Prelude.{reverse}
use Rattle.wx_reports.specs.Reports.{taken}
use Rattle.wx_reports.proofs.ports.taken.Given as goal

abbrev pub invariant-loop-i : goal.invariant-loop-i
invariant-loop-i l = (l.count ≡ taken (reverse (take l.i l.entries)) l.k.0) × (l.count ≤ l.i)
