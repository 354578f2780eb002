-- How the tables of channels and requests tell a journal.
use Rattle.std.specs.Prelude.{◌≡◌, ◌<◌, ℕ, length, List, [], Bool, true, false, not, cond, Option, Some, None, reverse, filter, slice_get, IfSome, ◌==◌}
use Rattle.std.specs.Option.{option_map}
use Rattle.wx_id.specs.declared.numbers.EntryNo.{EntryNo}
use Rattle.wx_external.specs.World.{WorldLists}
use Rattle.wx_machine.specs.declared.entries.Call.{Call}
use Rattle.wx_machine.specs.declared.entries.Answer.{Answer}
use Rattle.wx_machine.specs.declared.entries.Entry.{Entry}
use Rattle.wx_machine.specs.declared.work.Work.{Work}
use Rattle.wx_machine.specs.Words.{is_live, Ends, channel, is_closed, Parties, request, is_settled, is_open_to, IsLegal}
use Rattle.wx_machine.specs.declared.entries.Call.TheVariants.{Enter, Listen, Connect, Post, Send, Take, ConnectNative, SendNative, HostTake}
use Rattle.wx_machine.specs.declared.entries.Answer.TheVariants.{Channel as OnChannel, Request as OnRequest, Event as Told, Text as HasText, Done, Gone, First, Late as TooLate, NotYours, PortClosed, Passed, Ignored}
use Rattle.wx_machine.specs.declared.work.Work.TheVariants.{Channel as ForChannel, Request as ForRequest}
use Rattle.wx_port.specs.Port.{Port, is_open_port}
use Rattle.wx_one_shot.specs.declared.requests.Standing.{Standing}
use Rattle.wx_one_shot.specs.declared.requests.Standing.TheVariants.{Open, Late, Stranger}
use Rattle.wx_one_shot.specs.Requests.{Request, is_settled_at}

-- channel k, which has these ends, as the journal tells it
abbrev pub port_said : List Entry → ℕ → Ends → Port
port_said past k ends = record {
  opener = ends.opener;
  receivers = ends.receivers;
  live = cond (is_closed past k) [] (filter (is_live past) ends.receivers);
  is_open = not (is_closed past k);
}

-- request r, which has these parties, as the journal tells it
abbrev pub request_said : List Entry → ℕ → Parties → Request
request_said past r parties = record {
  asker = parties.asker;
  receivers = parties.receivers;
  still_open = cond (is_settled past r) [] (filter (is_open_to past r) parties.receivers);
  is_settled = is_settled past r;
}

-- the channels of the journal, each at the place of its number
abbrev pub HasChannels : List Entry → List Port → Type 0
HasChannels past ports = (k : ℕ) → slice_get ports k ≡ option_map (port_said past k) (channel past k)

-- the requests of the journal, each at the place of its number
abbrev pub HasRequests : List Entry → List Request → Type 0
HasRequests past rows = (r : ℕ) → slice_get rows r ≡ option_map (request_said past r) (request past r)

-- a request that has receivers, and no host in their place, is settled exactly where none of them may still reply
abbrev pub IsAwaited : Request → Type 0
IsAwaited row = 0 < length row.receivers → row.is_settled ≡ (length row.still_open == 0)

abbrev pub AreAwaited : List Request → Type 0
AreAwaited rows = (r : ℕ) → IfSome (slice_get rows r) IsAwaited

-- the journal is legal, and the tables tell it
pub record IsKept (world : WorldLists) (journal : List Entry) (ports : List Port) (rows : List Request) : Type 0 where
  pub legal : IsLegal world journal
  pub channels : HasChannels (reverse journal) ports
  pub requests : HasRequests (reverse journal) rows
  pub awaited : AreAwaited rows

abbrev pub is_channel : Answer → Bool
is_channel (OnChannel k) = true
is_channel _ = false

abbrev pub is_request : Answer → Bool
is_request (OnRequest r) = true
is_request _ = false

abbrev pub is_done : Answer → Bool
is_done Done = true
is_done _ = false

abbrev pub is_first : Answer → Bool
is_first First = true
is_first _ = false

-- a call that changes no table, with that answer
abbrev pub is_quiet : Call → Answer → Bool
is_quiet (Enter x) answer = true
is_quiet (Listen l) answer = true
is_quiet (Connect target name) answer = not (is_channel answer)
is_quiet (Post k text) answer = true
is_quiet (Send target text) answer = not (is_request answer)
is_quiet Take answer = true
is_quiet (ConnectNative name) answer = not (is_channel answer)
is_quiet (SendNative name text) answer = not (is_request answer)
is_quiet HostTake answer = true
is_quiet _ answer = false

-- the number of what a host works for is below these counts of channels and requests
abbrev pub IsWithin : ℕ → ℕ → Option Work → Type 0
IsWithin channels requests None = Unit {0}
IsWithin channels requests (Some (ForChannel k)) = k.0 < channels
IsWithin channels requests (Some (ForRequest r)) = r.0 < requests

-- a fact of the number of the request that a host works for
abbrev pub IfRequest : Option Work → (ℕ → Type 0) → Type 0
IfRequest (Some (ForRequest r)) P = P r.0
IfRequest _ P = Unit {0}

-- by the tables, no text comes any more for what a host works for
abbrev pub is_over_at : List Port → List Request → Option Work → Bool
is_over_at ports rows None = false
is_over_at ports rows (Some (ForChannel k)) = not (is_open_port (slice_get ports k.0))
is_over_at ports rows (Some (ForRequest r)) = is_settled_at (slice_get rows r.0)

-- the answer to what a host says, by what it works for and whether that is over
abbrev pub said_at : Bool → Option Work → Answer
said_at over None = Gone
said_at over (Some (ForChannel k)) = cond over PortClosed Passed
said_at over (Some (ForRequest r)) = cond over Ignored Passed

-- the answer on a request, by what the caller is to it
abbrev pub on_standing : Standing → Answer → Answer
on_standing Stranger answer = NotYours
on_standing Late answer = TooLate
on_standing Open answer = answer

-- the answer tells an event
abbrev pub is_event : Answer → Bool
is_event (Told event) = true
is_event _ = false

-- the entry with the text that the answer tells a host
abbrev pub text_told : Answer → Option EntryNo
text_told (HasText n) = Some n
text_told _ = None
