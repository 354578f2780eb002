use Rattle.std.proofs.Common.{◌≡◌, ◌++◌}
use Rattle.std.specs.Prelude.{reverse}
use Rattle.wx_reports.specs.Reports.{port_report}
use Rattle.wx_plain.specs.Reporting.{channel_lines, lines_below}
use Rattle.wx_plain.proofs.report.put_channels.Given as goal

-- the lines of the channels before are written
abbrev pub invariant-loop-k : goal.invariant-loop-k
invariant-loop-k l = l.out.items ≡ l.initial.out.items ++ lines_below l.k (λ k. channel_lines k (port_report (reverse l.journal.entries) k))
