-- How the broker's tables tell a journal: its contexts, channels, requests and hosts, and what waits for each.
use Rattle.std.specs.Prelude.{◌≡◌, ◌≤◌, length, List, true, false, Option, Some, None, IfSome, reverse, slice_get}
use Rattle.std.specs.Option.{option_map}
use Rattle.wx_id.specs.declared.numbers.ContextNo.{ContextNo}
use Rattle.wx_id.specs.declared.numbers.HostNo.{HostNo}
use Rattle.wx_id.specs.declared.events.Event.{Event}
use Rattle.wx_context.specs.declared.contexts.Listens.{Listens}
use Rattle.wx_external.specs.World.{WorldLists}
use Rattle.wx_machine.specs.declared.entries.Entry.{Entry}
use Rattle.wx_machine.specs.declared.work.Work.{Work}
use Rattle.wx_machine.specs.Words.{context_of, contexts, has_left, hosts, is_live, listens_of, pending, Start}
use Rattle.wx_machine.specs.Words.{has_ended, knows_end, said_closed, texts_left}
use Rattle.wx_roster.specs.declared.roster.Member.{Member}
use Rattle.wx_roster.specs.Members.{context_in, is_live_in}
use Rattle.wx_tables.specs.State.{TablesState}
use Rattle.wx_native_hosts.specs.Hosts.{HostState}
use Rattle.wx_native_hosts.specs.declared.hosts.Start.{Start as NativeStart}
use Rattle.wx_broker.specs.Tables.{IsKept}
use Rattle.wx_broker.specs.Views.{view_for}
use Rattle.wx_broker.specs.declared.host_view.HostView.{HostView}

-- what context d listens to
abbrev pub listens_in : List Member → ContextNo → Option Listens
listens_in members d = option_map (λ member. member.listens) (slice_get members d.0)

-- the contexts of the journal, each at the place of its number; what one who left listens to is not told
pub record HasContexts (past : List Entry) (members : List Member) : Type 0 where
  pub came : (d : ContextNo) → context_in members d ≡ context_of past d
  pub live : (d : ContextNo) → is_live_in (slice_get members d.0) ≡ is_live past d
  pub listens : (d : ContextNo) → is_live past d ≡ true → listens_in members d ≡ Some (listens_of past d)

-- for each context that did not leave, its queue is what is pending for it
abbrev pub HasPending : List Entry → List (List Event) → Type 0
HasPending past queues =
    (d : ContextNo) → has_left past d ≡ false → IfSome (slice_get queues d.0) (λ queue. queue ≡ pending past d)

-- what a host is started for, where its caller may start it
abbrev pub start_for : Work → Option HostView → Option NativeStart
start_for work None = None
start_for work (Some view) = Some (record { work = work; manifest = view.manifest; caller = view.caller })

-- the same of a start in the journal
abbrev pub start_said : WorldLists → List Entry → Start → Option NativeStart
start_said world past start = start_for start.work (view_for world (context_of past start.caller) start.name)

-- host h, which was started so, with what the journal tells of it
abbrev pub host_with : List Entry → HostNo → NativeStart → HostState
host_with past h start = record {
  start = start;
  texts = texts_left past h;
  has_ended = has_ended past h;
  knows_end = knows_end past h;
  said_closed = said_closed past h;
}

abbrev pub host_said : WorldLists → List Entry → HostNo → Option Start → Option HostState
host_said world past h None = None
host_said world past h (Some start) = option_map (host_with past h) (start_said world past start)

-- the hosts of the journal, each at the place of its number
abbrev pub HasHosts : WorldLists → List Entry → List HostState → Type 0
HasHosts world past rows = (h : HostNo) → slice_get rows h.0 ≡ host_said world past h (slice_get (hosts past) h.0)

-- the journal is legal, and the tables tell it; there is a queue for each context that came in
pub record IsTold
    (world : WorldLists) (journal : List Entry) (roster : List Member) (tables : TablesState) (rows : List HostState)
    : Type 0 where
  pub kept : IsKept world journal tables.ports tables.requests
  pub came : HasContexts (reverse journal) roster
  pub count : length roster ≡ contexts (reverse journal)
  pub there : length roster ≤ length tables.queues
  pub waits : HasPending (reverse journal) tables.queues
  pub started : HasHosts world (reverse journal) rows
  pub started_count : length rows ≡ length (hosts (reverse journal))
