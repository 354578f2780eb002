-- What `report FILE` prints of a journal: a line for each channel in number order, and behind them a line for each
-- request.
use Rattle.std.specs.Prelude.{◌≡◌, ℕ, zero, suc, List, [], ◌++◌, length, reverse, Option, Some, None, true, decimal, codes}
use Rattle.wx_id.specs.declared.numbers.EntryNo.{EntryNo}
use Rattle.wx_machine.specs.declared.entries.Entry.{Entry}
use Rattle.wx_machine.specs.Words.{channels, requests}
use Rattle.wx_reports.specs.declared.ports.PortReport.{PortReport}
use Rattle.wx_reports.specs.declared.requests.RequestReport.{RequestReport}
use Rattle.wx_reports.specs.declared.requests.Settled.{Settled}
use Rattle.wx_reports.specs.declared.requests.Settled.TheVariants.{First, Closed, Left}
use Rattle.wx_reports.specs.Reports.{port_report, request_report}
use Rattle.wx_journal_text.specs.Text.{◌␣◌, journal_text}
use Rattle.wx_journal_read.specs.Fits.{JournalFits}
use Rattle.wx_plain.specs.Output.{Output}

-- the number of an entry, or a dash where there is none
abbrev pub entry_or_dash : Option EntryNo → List ℕ
entry_or_dash None = codes "-"
entry_or_dash (Some entry) = decimal entry.0

-- the line of a channel
abbrev pub channel_line : ℕ → PortReport → List ℕ
channel_line k report =
    codes "channel" ␣ decimal k ␣ codes "opened" ␣ decimal report.opened.0 ␣ codes "closed" ␣ entry_or_dash report.closed ␣ codes "posted" ␣ decimal report.posted
    ␣ codes "taken" ␣ (decimal report.taken ++ codes "\n")

-- the word for how a request is settled
abbrev pub settled_word : Settled → List ℕ
settled_word First = codes "first"
settled_word Closed = codes "closed"
settled_word Left = codes "left"

-- the entry that settled a request, and how; or two dashes
abbrev pub settlement_text : Option (EntryNo × Settled) → List ℕ
settlement_text None = codes "- -"
settlement_text (Some settled) = decimal settled.0.0 ␣ settled_word settled.1

-- the line of a request
abbrev pub request_line : ℕ → RequestReport → List ℕ
request_line r report = codes "request" ␣ decimal r ␣ codes "opened" ␣ decimal report.opened.0 ␣ codes "settled" ␣ (settlement_text report.settled ++ codes "\n")

-- the line of channel k, where there is one
abbrev pub channel_lines : ℕ → Option PortReport → List ℕ
channel_lines k None = []
channel_lines k (Some report) = channel_line k report

-- the line of request r, where there is one
abbrev pub request_lines : ℕ → Option RequestReport → List ℕ
request_lines r None = []
request_lines r (Some report) = request_line r report

-- the lines for the numbers below n, in order
abbrev pub lines_below : ℕ → (ℕ → List ℕ) → List ℕ
lines_below zero lines = []
lines_below (suc n) lines = lines_below n lines ++ lines n

-- the lines of the channels, and those of the requests, each in number order
abbrev pub report_text : List Entry → List ℕ
report_text past =
    lines_below (length (channels past)) (λ k. channel_lines k (port_report past k))
    ++ lines_below (length (requests past)) (λ r. request_lines r (request_report past r))

-- The bytes are the text of this journal, and what it tells is printed.
pub record IsReportOutput (bytes : List ℕ) (output : Output) : Type 0 where
  pub journal : List Entry
  pub fits : JournalFits journal
  pub whole : bytes ≡ journal_text journal
  pub printed : output ≡ record { yes = true; text = report_text (reverse journal) }
