-- Channels, requests and what waits for each context, as contracts see them, and the places that are kept for what may
-- still come.
use Rattle.std.specs.Prelude.{◌≡◌, ℕ, ◌+◌, List, map, not, ◌&&◌, cond, Option, Some, None, slice_get}
use Rattle.std.specs.List.{sum_by}
use Rattle.wx_id.specs.declared.numbers.ContextNo.{ContextNo}
use Rattle.wx_id.specs.declared.numbers.EntryNo.{EntryNo}
use Rattle.wx_id.specs.declared.events.Event.{Event}
use Rattle.wx_id.specs.declared.events.EventKind.{EventKind}
use Rattle.wx_port.specs.Port.{Port, is_live_end}
use Rattle.wx_id.specs.Contexts.{same_context}
use Rattle.wx_one_shot.specs.Requests.{Request}
use Rattle.wx_mailbox.specs.Mailbox.{MailboxState}

-- the channels and requests by number, and what waits for each context, the first event at the head
pub record TablesState : Type 0 where
  pub ports : List Port
  pub requests : List Request
  pub queues : List (List Event)

-- an event that an entry delivers
abbrev pub in_entry : EntryNo → EventKind → Event
in_entry n kind = record { entry = n; kind = kind }

-- the events in a mailbox, and in each of them
abbrev pub queue_in : MailboxState → List Event
queue_in b = b.events

abbrev pub queues_in : List MailboxState → List (List Event)
queues_in boxes = map queue_in boxes

-- an open channel may still tell each of its live ends that it ended
abbrev pub owes : ContextNo → Port → ℕ
owes d port = cond (is_live_end (Some port) d) 1 0

-- an unsettled request may still tell its asker its outcome
abbrev pub awaits : ContextNo → Request → ℕ
awaits d request = cond (not request.is_settled && same_context request.asker d) 1 0

-- what may still come to context d
abbrev pub due : List Port → List Request → ContextNo → ℕ
due ports requests d = sum_by (owes d) ports + sum_by (awaits d) requests

-- the places that the mailbox of a context keeps; none where there is no such context
abbrev pub owed_in : Option MailboxState → ℕ
owed_in None = 0
owed_in (Some b) = b.owed

-- each mailbox keeps a place for all that may still come; where nothing may, it keeps none
pub record AreOwed (ports : List Port) (requests : List Request) (boxes : List MailboxState) : Type 0 where
  pub each : (d : ContextNo) → owed_in (slice_get boxes d.0) ≡ due ports requests d
