-- The settlement law: a request is answered at most once, and its asker is told once.
use Rattle.std.specs.Prelude.{List, [], ◌∷◌, Option, ℕ, ◌++◌, Bool, false, option_to_list, cond, length, not, ◌&&◌, ◌==◌, filter, ◌≡◌, map}
use Rattle.wx_id.specs.declared.numbers.ContextNo.{ContextNo}
use Rattle.wx_id.specs.declared.events.Event.{Event}
use Rattle.wx_id.specs.declared.events.EventKind.{EventKind}
use Rattle.wx_id.specs.declared.events.EventKind.TheVariants.{Replied, Closed}
use Rattle.wx_external.specs.World.{WorldLists}
use Rattle.wx_machine.specs.declared.entries.Who.{Who}
use Rattle.wx_machine.specs.declared.entries.Call.{Call}
use Rattle.wx_machine.specs.declared.entries.Answer.{Answer}
use Rattle.wx_machine.specs.declared.entries.Entry.{Entry}
use Rattle.wx_machine.specs.Words.{is_live, Parties, request, is_asker, is_asked, work_of, is_for_request, has_open, settled_at, is_settled, on, tells, queued}
use Rattle.wx_machine.specs.declared.entries.Who.TheVariants.{Context as ByContext, Host as ByHost}
use Rattle.wx_machine.specs.declared.entries.Call.TheVariants.{Leave, Reply, Decline, HostSaid, HostEnded}
use Rattle.wx_machine.specs.declared.entries.Answer.TheVariants.{First, Passed}
use Rattle.wx_laws.specs.Legal.{IsLegalPast}
use Rattle.wx_laws.specs.Prefix.{IsPrefix}

-- an entry answers request r: a reply that was the first, or what its host said and was passed on
abbrev pub answers_by : List Entry → ℕ → Who → Call → Answer → Bool
answers_by past r who (Reply j text) First = j.0 == r
answers_by past r (ByHost h) (HostSaid text) Passed = is_for_request r (work_of past h)
answers_by past r _ _ _ = false

abbrev pub answers : List Entry → Entry → ℕ → Bool
answers past e r = answers_by past r e.who e.call e.answer

-- the numbers of the entries that answer request r
abbrev pub answers_to : List Entry → ℕ → List ℕ
answers_to [] r = []
answers_to (e ∷ past) r = answers_to past r ++ cond (answers past e r) (length past ∷ []) []

-- at most one entry answers a request, the one that settles it
abbrev pub AnswersOnce : Type 0
AnswersOnce =
    (world : WorldLists) (past : List Entry) (r : ℕ) → IsLegalPast world past
    → IsPrefix (answers_to past r) (option_to_list (settled_at past r))

-- the outcome of request r: that it was replied to, or that it is closed
abbrev pub is_outcome : ℕ → EventKind → Bool
is_outcome r (Replied j) = j.0 == r
is_outcome r (Closed j) = j.0 == r
is_outcome r _ = false

-- the outcomes of request r that were delivered to context c
abbrev pub outcomes : List Entry → ContextNo → ℕ → List Event
outcomes past c r = filter (λ event. is_outcome r event.kind) (queued past c)

-- at most one outcome of a request is delivered to a context, by the entry that settles the request
abbrev pub TellsOneOutcome : Type 0
TellsOneOutcome =
    (world : WorldLists) (past : List Entry) (c : ContextNo) (r : ℕ) → IsLegalPast world past
    → IsPrefix (map (λ event. event.entry.0) (outcomes past c r)) (option_to_list (settled_at past r))

-- entry e leaves request r, which has these parties, without a reply: a decline or leave of a receiver after which
-- every receiver has declined or left, or the end of its host
abbrev pub closes_by : List Entry → Entry → ℕ → Option Parties → Who → Call → Bool
closes_by past e r parties (ByContext c) (Decline j) = (j.0 == r) && is_asked parties c && is_live past c
    && not (has_open (e ∷ past) r parties)
closes_by past e r parties (ByContext c) Leave = is_asked parties c && not (has_open (e ∷ past) r parties)
closes_by past e r parties (ByHost h) (HostEnded reason) = is_for_request r (work_of past h)
closes_by past e r parties _ _ = false

-- it does so where nothing settled the request before
abbrev pub closes_request : List Entry → Entry → ℕ → Bool
closes_request past e r = not (is_settled past r) && closes_by past e r (request past r) e.who e.call

-- of the outcome of request r an entry tells the asker alone: that it was replied to, where it answers the request,
-- and that it is closed, where it leaves it without a reply
abbrev pub TellsTheAsker : Type 0
TellsTheAsker =
    (past : List Entry) (e : Entry) (c : ContextNo) (r : ℕ)
    → filter (is_outcome r) (tells past e c)
    ≡ on (is_asker (request past r) c && answers past e r) (Replied (record { 0 = r }))
    ++ on (is_asker (request past r) c && closes_request past e r) (Closed (record { 0 = r }))
