-- What a journal, legal or not, tells of a channel and of a request.
use Rattle.std.specs.Prelude.{ℕ, ◌+◌, length, List, [], ◌∷◌, Bool, true, false, cond, Option, Some, None, is_some, ◌&&◌, ◌==◌}
use Rattle.std.specs.Option.{option_or, option_map}
use Rattle.wx_id.specs.Numbers.{entry_no}
use Rattle.wx_id.specs.declared.numbers.EntryNo.{EntryNo}
use Rattle.wx_machine.specs.declared.entries.Who.{Who}
use Rattle.wx_machine.specs.declared.entries.Call.{Call}
use Rattle.wx_machine.specs.declared.entries.Answer.{Answer}
use Rattle.wx_machine.specs.declared.entries.Entry.{Entry}
use Rattle.wx_machine.specs.Words.{opens, channels, Parties, asks, requests, request, is_asker, work_of, is_for_channel, closed_at, ends_request}
use Rattle.wx_machine.specs.declared.entries.Who.TheVariants.{Context as ByContext, Host as ByHost}
use Rattle.wx_machine.specs.declared.entries.Call.TheVariants.{Leave, Post, Reply, Take, HostTake, HostSaid}
use Rattle.wx_machine.specs.declared.entries.Answer.TheVariants.{Event as Told, Posted, Text as HasText, Passed}
use Rattle.wx_laws.specs.PrefixLaw.{is_message}
use Rattle.wx_reports.specs.declared.ports.PortReport.{PortReport}
use Rattle.wx_reports.specs.declared.requests.RequestReport.{RequestReport}
use Rattle.wx_reports.specs.declared.requests.Settled.{Settled}
use Rattle.wx_reports.specs.declared.requests.Settled.TheVariants.{First, Closed, Left}

-- entry e opens channel k: it opens a channel, after k others
abbrev pub opens_channel : List Entry → Entry → ℕ → Bool
opens_channel past e k = (length (channels past) == k) && is_some (opens past e)

-- the entry that opened channel k
abbrev pub opened_at : List Entry → ℕ → Option EntryNo
opened_at [] k = None
opened_at (e ∷ past) k = option_or (opened_at past k) (cond (opens_channel past e k) (Some (entry_no (length past)))
    None)

-- a message is posted on channel k, or said by its host and passed on
abbrev pub is_posting : List Entry → ℕ → Who → Call → Answer → Bool
is_posting past k (ByContext c) (Post j text) Posted = j.0 == k
is_posting past k (ByHost h) (HostSaid text) Passed = is_for_channel k (work_of past h)
is_posting past k _ _ _ = false

-- how many are
abbrev pub posted : List Entry → ℕ → ℕ
posted [] k = 0
posted (e ∷ past) k = posted past k + cond (is_posting past k e.who e.call e.answer) 1 0

-- a message of channel k is taken by a context, or a text by its host
abbrev pub is_taking : List Entry → ℕ → Who → Call → Answer → Bool
is_taking past k (ByContext c) Take (Told event) = is_message k event.kind
is_taking past k (ByHost h) HostTake (HasText n) = is_for_channel k (work_of past h)
is_taking past k _ _ _ = false

-- how many are
abbrev pub taken : List Entry → ℕ → ℕ
taken [] k = 0
taken (e ∷ past) k = taken past k + cond (is_taking past k e.who e.call e.answer) 1 0

-- the report on channel k, given the entry that opened it
abbrev pub port_report_of : List Entry → ℕ → Option EntryNo → Option PortReport
port_report_of past k None = None
port_report_of past k (Some opened) = Some (record {
  opened = opened;
  closed = option_map entry_no (closed_at past k);
  posted = posted past k;
  taken = taken past k;
})

-- what is told of channel k
abbrev pub port_report : List Entry → ℕ → Option PortReport
port_report past k = port_report_of past k (opened_at past k)

-- entry e makes request r: it makes a request, after r others
abbrev pub makes_request : List Entry → Entry → ℕ → Bool
makes_request past e r = (length (requests past) == r) && is_some (asks past e)

-- the entry that made request r
abbrev pub asked_at : List Entry → ℕ → Option EntryNo
asked_at [] r = None
asked_at (e ∷ past) r = option_or (asked_at past r) (cond (makes_request past e r) (Some (entry_no (length past))) None)

abbrev pub way_of_leave : Bool → Settled
way_of_leave true = Left
way_of_leave false = Closed

-- how a request of these parties is settled: by a reply or what its host says, by the leave of its asker, or else
-- without a reply
abbrev pub way : Option Parties → Who → Call → Settled
way parties (ByContext c) Leave = way_of_leave (is_asker parties c)
way parties who (Reply r text) = First
way parties who (HostSaid text) = First
way parties _ _ = Closed

-- the entry that settled request r, and how: the first that ends it
abbrev pub settlement : List Entry → ℕ → Option (EntryNo × Settled)
settlement [] r = None
settlement (e ∷ past) r = option_or (settlement past r)
    (cond (ends_request past e r) (Some (entry_no (length past), way (request past r) e.who e.call)) None)

-- the report on request r, given the entry that made it
abbrev pub request_report_of : List Entry → ℕ → Option EntryNo → Option RequestReport
request_report_of past r None = None
request_report_of past r (Some opened) = Some (record { opened = opened; settled = settlement past r })

-- what is told of request r
abbrev pub request_report : List Entry → ℕ → Option RequestReport
request_report past r = request_report_of past r (asked_at past r)
