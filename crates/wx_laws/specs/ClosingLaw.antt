-- The closing law: whom the closing of a channel is told, and what stays pending.
use Rattle.std.specs.Prelude.{List, [], ◌∷◌, ℕ, Bool, false, true, not, ◌&&◌, ◌==◌, ◌||◌, filter, ◌≡◌}
use Rattle.std.specs.List.{list_any}
use Rattle.wx_id.specs.declared.numbers.ContextNo.{ContextNo}
use Rattle.wx_id.specs.declared.events.Event.{Event}
use Rattle.wx_id.specs.declared.events.EventKind.{EventKind}
use Rattle.wx_id.specs.declared.events.End.{End}
use Rattle.wx_id.specs.declared.events.End.TheVariants.{Opener, Receiver}
use Rattle.wx_id.specs.declared.events.EventKind.TheVariants.{Disconnected}
use Rattle.wx_external.specs.World.{WorldLists}
use Rattle.wx_machine.specs.declared.entries.Call.{Call}
use Rattle.wx_machine.specs.declared.entries.Answer.{Answer}
use Rattle.wx_machine.specs.declared.entries.Entry.{Entry}
use Rattle.wx_machine.specs.Words.{is_by, is_live, channel, end_in, is_closed, closes, on, side_of, tells, queued, event_in, taken, same_event, is_of, pending}
use Rattle.wx_machine.specs.declared.entries.Call.TheVariants.{Disconnect}
use Rattle.wx_machine.specs.declared.entries.Answer.TheVariants.{Done}
use Rattle.wx_laws.specs.Legal.{IsLegalPast}

-- two ends of a channel on different sides
abbrev pub are_across : End → End → Bool
are_across Opener Receiver = true
are_across Receiver Opener = true
are_across _ _ = false

-- it tells that channel k is disconnected
abbrev pub is_disconnected : ℕ → EventKind → Bool
is_disconnected k (Disconnected j) = j.0 == k
is_disconnected k _ = false

-- that channel k is disconnected is told by the entry that closes it alone: once to each end on the other side than
-- the caller that lives, and to nobody else
abbrev pub TellsTheOtherSide : Type 0
TellsTheOtherSide =
    (world : WorldLists) (past : List Entry) (e : Entry) (c : ContextNo) (k : ℕ) → IsLegalPast world (e ∷ past)
    → filter (is_disconnected k) (tells past e c)
    ≡ on (closes past e k && (are_across (side_of (channel past k) e.who) (end_in (channel past k) c)
    && is_live past c)) (Disconnected (record { 0 = k }))

-- once a channel is closed nothing more is told of it
abbrev pub TellsNoMore : Type 0
TellsNoMore =
    (world : WorldLists) (past : List Entry) (e : Entry) (c : ContextNo) (k : ℕ) → IsLegalPast world (e ∷ past)
    → is_closed past k ≡ true
    → filter (is_of k) (tells past e c) ≡ []

abbrev pub disconnects : ℕ → Call → Answer → Bool
disconnects k (Disconnect j) Done = j.0 == k
disconnects k _ _ = false

-- context c itself disconnected channel k
abbrev pub has_disconnected : List Entry → ContextNo → ℕ → Bool
has_disconnected [] c k = false
has_disconnected (e ∷ past) c k = has_disconnected past c k || (is_by e.who c && disconnects k e.call e.answer)

-- the events of channel k
abbrev pub of_channel : ℕ → List Event → List Event
of_channel k events = filter (λ event. is_of k event.kind) events

-- the event is none of these
abbrev pub is_not_in : List Event → Event → Bool
is_not_in events event = not (list_any (λ t. same_event t event) events)

-- what was delivered to context c and not taken
abbrev pub untaken : List Entry → ContextNo → List Event
untaken past c = filter (is_not_in (taken past c)) (queued past c)

-- what was delivered on a channel and not taken is pending, whether the channel is closed or not, for each context
-- that did not itself disconnect it
abbrev pub StaysPending : Type 0
StaysPending =
    (past : List Entry) (c : ContextNo) (k : ℕ) → has_disconnected past c k ≡ false
    → of_channel k (pending past c) ≡ of_channel k (untaken past c)

-- after the closing of a channel what is pending of it for a context stays so, but for what that context takes
abbrev pub StaysBehindClosing : Type 0
StaysBehindClosing =
    (world : WorldLists) (past : List Entry) (e : Entry) (c : ContextNo) (k : ℕ) → IsLegalPast world (e ∷ past)
    → is_closed past k ≡ true
    → of_channel k (pending (e ∷ past) c) ≡ filter (is_not_in (event_in e.call e.answer (is_by e.who c)))
    (of_channel k (pending past c))
