-- The native hosts of a journal, and what each was started for.
use Rattle.std.specs.Prelude.{ℕ, length, List, [], ◌∷◌, ◌++◌, Bool, false, Option, Some, None, slice_get, option_to_list, ◌==◌}
use Rattle.wx_id.specs.declared.numbers.ContextNo.{ContextNo}
use Rattle.wx_id.specs.declared.numbers.HostNo.{HostNo}
use Rattle.wx_machine.specs.declared.entries.Who.{Who}
use Rattle.wx_machine.specs.declared.entries.Who.TheVariants.{Context as ByContext, Host as ByHost}
use Rattle.wx_machine.specs.declared.entries.Call.{Call}
use Rattle.wx_machine.specs.declared.entries.Call.TheVariants.{ConnectNative, SendNative}
use Rattle.wx_machine.specs.declared.entries.Answer.{Answer}
use Rattle.wx_machine.specs.declared.entries.Answer.TheVariants.{Channel as OnChannel, Request as OnRequest}
use Rattle.wx_machine.specs.declared.entries.Entry.{Entry}
use Rattle.wx_machine.specs.declared.work.Work.{Work}
use Rattle.wx_machine.specs.declared.work.Work.TheVariants.{Channel as ForChannel, Request as ForRequest}
use Rattle.wx_machine.specs.Channels.{channels}
use Rattle.wx_machine.specs.Requests.{requests}

-- a start of a host: who started it, by which name, and for what
pub record Start : Type 0 where
  pub caller : ContextNo
  pub name : List ℕ
  pub work : Work

-- a native call that was answered with a number starts a host for the channel or request of that number
abbrev pub started_by : List Entry → Who → Call → Answer → Option Start
started_by past (ByContext c) (ConnectNative name) (OnChannel k) = Some
    (record { caller = c; name = name; work = ForChannel (record { 0 = length (channels past) }) })
started_by past (ByContext c) (SendNative name text) (OnRequest r) = Some
    (record { caller = c; name = name; work = ForRequest (record { 0 = length (requests past) }) })
started_by past _ _ _ = None

-- the host that an entry starts
abbrev pub starts : List Entry → Entry → Option Start
starts past e = started_by past e.who e.call e.answer

-- the hosts, each at the place of its number
abbrev pub hosts : List Entry → List Start
hosts [] = []
hosts (e ∷ past) = hosts past ++ option_to_list (starts past e)

abbrev pub work_in : Option Start → Option Work
work_in None = None
work_in (Some start) = Some start.work

-- what host h works for
abbrev pub work_of : List Entry → HostNo → Option Work
work_of past h = work_in (slice_get (hosts past) h.0)

abbrev pub is_for_channel : ℕ → Option Work → Bool
is_for_channel k (Some (ForChannel j)) = j.0 == k
is_for_channel k _ = false

abbrev pub is_for_request : ℕ → Option Work → Bool
is_for_request r (Some (ForRequest j)) = j.0 == r
is_for_request r _ = false

-- host h makes the call
abbrev pub is_by_host : Who → HostNo → Bool
is_by_host (ByHost g) h = g.0 == h.0
is_by_host (ByContext c) h = false
