use Rattle.std.proofs.Common.{◌≡◌, ◌≤◌, take, length}
use Rattle.std.specs.Prelude.{reverse}
use Rattle.wx_machine.specs.Words.{channels}
use Rattle.wx_reports.specs.Reports.{opened_at}
use Rattle.wx_reports.proofs.ports.opened_at.Given as goal

abbrev pub invariant-loop-i : goal.invariant-loop-i
invariant-loop-i l = (l.count ≡ length (channels (reverse (take l.i l.entries)))) × (l.count ≤ l.i) × (l.opened ≡ opened_at (reverse (take l.i l.entries)) l.k.0)
