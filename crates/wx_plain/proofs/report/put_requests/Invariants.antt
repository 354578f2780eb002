use Rattle.std.proofs.Common.{◌≡◌, ◌++◌}
use Rattle.std.specs.Prelude.{reverse}
use Rattle.wx_reports.specs.Reports.{request_report}
use Rattle.wx_plain.specs.Reporting.{lines_below, request_lines}
use Rattle.wx_plain.proofs.report.put_requests.Given as goal

-- the lines of the requests before are written
abbrev pub invariant-loop-r : goal.invariant-loop-r
invariant-loop-r l = l.out.items ≡ l.initial.out.items ++ lines_below l.r (λ r. request_lines r (request_report (reverse l.journal.entries) r))
