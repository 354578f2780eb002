-- What each entry delivers, and which events are pending for a context.
use Rattle.std.specs.Prelude.{ℕ, length, List, [], ◌∷◌, ◌++◌, map, Bool, true, false, not, ◌&&◌, ◌||◌, cond, Option, Some, None, is_some, ◌==◌, nat_lt, filter, flat_map}
use Rattle.std.specs.List.{list_any, range_with_len}
use Rattle.wx_id.specs.declared.numbers.ContextNo.{ContextNo}
use Rattle.wx_id.specs.declared.events.Event.{Event}
use Rattle.wx_id.specs.declared.events.EventKind.{EventKind}
use Rattle.wx_id.specs.declared.events.EventKind.TheVariants.{Connected, Message, Disconnected, Asked, Replied, Closed}
use Rattle.wx_id.specs.declared.events.End.{End}
use Rattle.wx_id.specs.declared.events.End.TheVariants.{Opener, Receiver}
use Rattle.wx_machine.specs.declared.entries.Who.{Who}
use Rattle.wx_machine.specs.declared.entries.Who.TheVariants.{Context as ByContext, Host as ByHost}
use Rattle.wx_machine.specs.declared.entries.Call.{Call}
use Rattle.wx_machine.specs.declared.entries.Call.TheVariants.{Post, Disconnect, Leave, Reply, Decline, Take, HostSaid, HostEnded}
use Rattle.wx_machine.specs.declared.entries.Answer.{Answer}
use Rattle.wx_machine.specs.declared.entries.Answer.TheVariants.{Event as Told, Posted, First, Done, Passed}
use Rattle.wx_machine.specs.declared.entries.Entry.{Entry}
use Rattle.wx_machine.specs.Contexts.{is_by, is_live}
use Rattle.wx_machine.specs.Channels.{Ends, opens, channels, channel, end_in}
use Rattle.wx_machine.specs.Requests.{Parties, asks, requests, request, is_asker, is_asked}
use Rattle.wx_machine.specs.declared.work.Work.{Work}
use Rattle.wx_machine.specs.declared.work.Work.TheVariants.{Channel as ForChannel, Request as ForRequest}
use Rattle.wx_machine.specs.Hosts.{work_of}
use Rattle.wx_machine.specs.Closing.{closes}
use Rattle.wx_machine.specs.Settling.{settles}
use Rattle.wx_machine.specs.Each.{first}

abbrev pub is_receiving : End → Bool
is_receiving Receiver = true
is_receiving _ = false

-- that kind, where the test holds
abbrev pub on : Bool → EventKind → List EventKind
on b kind = cond b (kind ∷ []) []

-- a channel that an entry opens is told to each receiver
abbrev pub connected : ℕ → Option Ends → ContextNo → List EventKind
connected k ends c = on (is_receiving (end_in ends c)) (Connected (record { 0 = k }))

-- the side of a channel on which the caller stands; a host stands where receivers do
abbrev pub side_of : Option Ends → Who → End
side_of ends (ByContext c) = end_in ends c
side_of ends (ByHost h) = Receiver

-- what one side does goes to the other: to each receiver that lives, or to the opener
abbrev pub goes : End → End → Bool → Bool
goes Opener Receiver live = live
goes Receiver Opener live = true
goes _ _ live = false

abbrev pub goes_to : List Entry → Option Ends → Who → ContextNo → Bool
goes_to past ends who c = goes (side_of ends who) (end_in ends c) (is_live past c)

-- what the caller works for, where it is a host
abbrev pub work_by : List Entry → Who → Option Work
work_by past (ByHost h) = work_of past h
work_by past (ByContext c) = None

-- what a host says on its channel goes to the opener
abbrev pub said : List Entry → Who → Option Work → ContextNo → List EventKind
said past who (Some (ForChannel k)) c = on (goes_to past (channel past k.0) who c) (Message k)
said past who _ c = []

-- a message that was posted, or that a host said, goes to the other side
abbrev pub message : List Entry → Who → Call → Answer → ContextNo → List EventKind
message past who (Post k text) Posted c = on (goes_to past (channel past k.0) who c) (Message k)
message past who (HostSaid text) Passed c = said past who (work_by past who) c
message past who _ _ c = []

-- the end of channel k is told to the other side
abbrev pub disconnected_on : List Entry → Entry → ContextNo → ℕ → List EventKind
disconnected_on past e c k = on (closes past e k && goes_to past (channel past k) e.who c)
    (Disconnected (record { 0 = k }))

-- the end of a host's channel
abbrev pub host_disconnected : List Entry → Entry → Option Work → ContextNo → List EventKind
host_disconnected past e (Some (ForChannel k)) c = disconnected_on past e c k.0
host_disconnected past e _ c = []

-- a disconnect ends one channel, a leave all those of which it is the last live end on its side, and a host's end its
-- own
abbrev pub disconnected : List Entry → Entry → Call → ContextNo → List EventKind
disconnected past e (Disconnect k) c = disconnected_on past e c k.0
disconnected past e Leave c = flat_map (disconnected_on past e c) (range_with_len 0 (length (channels past)))
disconnected past e (HostEnded reason) c = host_disconnected past e (work_by past e.who) c
disconnected past e _ c = []

-- a request that an entry makes is told to each receiver
abbrev pub asked : ℕ → Option Parties → ContextNo → List EventKind
asked r parties c = on (is_asked parties c) (Asked (record { 0 = r }))

-- what a host says to its request goes to the asker
abbrev pub answered : List Entry → Option Work → ContextNo → List EventKind
answered past (Some (ForRequest r)) c = on (is_asker (request past r.0) c) (Replied r)
answered past _ c = []

-- the first reply goes to the asker
abbrev pub replied : List Entry → Who → Call → Answer → ContextNo → List EventKind
replied past who (Reply r text) First c = on (is_asker (request past r.0) c) (Replied r)
replied past who (HostSaid text) Passed c = answered past (work_by past who) c
replied past who _ _ c = []

-- that request r is settled without a reply is told to the asker, unless it is the caller
abbrev pub unanswered_on : List Entry → Entry → ContextNo → ℕ → List EventKind
unanswered_on past e c r = on (settles past e r && is_asker (request past r) c && not (is_by e.who c))
    (Closed (record { 0 = r }))

-- that a host's request is settled without a reply
abbrev pub host_unanswered : List Entry → Entry → Option Work → ContextNo → List EventKind
host_unanswered past e (Some (ForRequest r)) c = unanswered_on past e c r.0
host_unanswered past e _ c = []

-- a decline settles one request, a leave all those of which it is the last open receiver, and a host's end its own
abbrev pub unanswered : List Entry → Entry → Call → ContextNo → List EventKind
unanswered past e (Decline r) c = unanswered_on past e c r.0
unanswered past e Leave c = flat_map (unanswered_on past e c) (range_with_len 0 (length (requests past)))
unanswered past e (HostEnded reason) c = host_unanswered past e (work_by past e.who) c
unanswered past e _ c = []

-- what entry e, with these before it, tells context c of channels
abbrev pub of_channels : List Entry → Entry → ContextNo → List EventKind
of_channels past e c = connected (length (channels past)) (opens past e) c ++ message past e.who e.call e.answer c
    ++ disconnected past e e.call c

-- what it tells context c of requests
abbrev pub of_requests : List Entry → Entry → ContextNo → List EventKind
of_requests past e c = asked (length (requests past)) (asks past e) c ++ replied past e.who e.call e.answer c
    ++ unanswered past e e.call c

-- all that it tells: of channels in rising number, then of requests
abbrev pub tells : List Entry → Entry → ContextNo → List EventKind
tells past e c = of_channels past e c ++ of_requests past e c

-- the event of that kind that entry n delivers
abbrev pub marked : ℕ → EventKind → Event
marked n kind = record { entry = record { 0 = n }; kind = kind }

-- what it delivers
abbrev pub delivered : List Entry → Entry → ContextNo → List Event
delivered past e c = map (marked (length past)) (tells past e c)

-- all that was delivered to context c
abbrev pub queued : List Entry → ContextNo → List Event
queued [] c = []
queued (e ∷ past) c = queued past c ++ delivered past e c

abbrev pub event_in : Call → Answer → Bool → List Event
event_in Take (Told event) true = event ∷ []
event_in _ _ _ = []

-- the events that context c took
abbrev pub taken : List Entry → ContextNo → List Event
taken [] c = []
taken (e ∷ past) c = taken past c ++ event_in e.call e.answer (is_by e.who c)

abbrev pub same_kind : EventKind → EventKind → Bool
same_kind (Connected k) (Connected j) = k.0 == j.0
same_kind (Message k) (Message j) = k.0 == j.0
same_kind (Disconnected k) (Disconnected j) = k.0 == j.0
same_kind (Asked r) (Asked s) = r.0 == s.0
same_kind (Replied r) (Replied s) = r.0 == s.0
same_kind (Closed r) (Closed s) = r.0 == s.0
same_kind _ _ = false

abbrev pub same_event : Event → Event → Bool
same_event a b = (a.entry.0 == b.entry.0) && same_kind a.kind b.kind

-- the event is of channel k
abbrev pub is_of : ℕ → EventKind → Bool
is_of k (Connected j) = j.0 == k
is_of k (Message j) = j.0 == k
is_of k (Disconnected j) = j.0 == k
is_of k (Asked r) = false
is_of k (Replied r) = false
is_of k (Closed r) = false

abbrev pub drops_by : Call → Answer → EventKind → Bool
drops_by (Disconnect k) Done kind = is_of k.0 kind
drops_by _ _ kind = false

-- context c itself disconnected the event's channel after the event
abbrev pub is_dropped : List Entry → ContextNo → Event → Bool
is_dropped [] c event = false
is_dropped (e ∷ past) c event =
    is_dropped past c event || (is_by e.who c && drops_by e.call e.answer event.kind
    && nat_lt event.entry.0 (length past))

-- the event was not taken, and its channel not disconnected
abbrev pub is_waiting : List Entry → ContextNo → Event → Bool
is_waiting past c event = not (list_any (λ t. same_event t event) (taken past c)) && not (is_dropped past c event)

-- what is pending for context c, in the order in which it was delivered
abbrev pub pending : List Entry → ContextNo → List Event
pending past c = filter (is_waiting past c) (queued past c)

-- an event is pending for context c, which lives
abbrev pub has_pending : List Entry → ContextNo → Bool
has_pending past c = is_live past c && is_some (first (pending past c))
