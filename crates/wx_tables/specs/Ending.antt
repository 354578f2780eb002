-- What the end of a channel tells.
use Rattle.std.specs.Prelude.{◌≡◌, ℕ, ◌<◌, List, [], ◌∷◌, ◌++◌, Bool, true, cond, Some, slice_get, filter}
use Rattle.std.specs.Option.{option_map, IsSomeAnd}
use Rattle.wx_id.specs.declared.numbers.ContextNo.{ContextNo}
use Rattle.wx_id.specs.declared.events.Event.{Event}
use Rattle.wx_port.specs.Port.{Port, is_live_end}
use Rattle.wx_id.specs.Contexts.{same_context, is_among}
use Rattle.wx_mailbox.specs.Mailbox.{MailboxState, is_apart, paid, forgiven}
use Rattle.wx_tables.specs.State.{owed_in}

-- those on the other side of an open channel from c that are live
abbrev pub other_side : Port → ContextNo → List ContextNo
other_side port c = cond (same_context port.opener c) port.live (port.opener ∷ [])

-- a mailbox when a channel ends: a live end that hears of it is told, in the place that was kept, and another gives it
-- up
abbrev pub ended : Bool → Bool → Event → MailboxState → MailboxState
ended live heard e b = cond live (cond heard (paid e b) (forgiven b)) b

-- all mailboxes when the channel ends, of which these of its live ends hear
abbrev pub Ended : Port → List ContextNo → Event → List MailboxState → List MailboxState → Type 0
Ended port to e old new =
    (d : ContextNo) → slice_get new d.0
    ≡ option_map (ended (is_live_end (Some port) d) (is_among to d) e) (slice_get old d.0)

-- each live end of the channel has a mailbox that keeps a place
abbrev pub EndsOwed : Port → List MailboxState → Type 0
EndsOwed port boxes =
    (d : ContextNo) → is_live_end (Some port) d ≡ true → IsSomeAnd (slice_get boxes d.0) (λ b. 0 < b.owed)

-- a queue with the event, where it is heard
abbrev pub heard : Bool → Event → List Event → List Event
heard b e queue = queue ++ cond b (e ∷ []) []

-- the queues after each of them is changed by the number of its context
abbrev pub EachQueue : (ContextNo → List Event → List Event) → List (List Event) → List (List Event) → Type 0
EachQueue change old new =
    (d : ContextNo) → slice_get new d.0 ≡ option_map (change d) (slice_get old d.0)

-- what waits once each of these is told
abbrev pub told_each : List ContextNo → Event → ContextNo → List Event → List Event
told_each to e d queue = heard (is_among to d) e queue

-- what waits once the opener of the channel is told
abbrev pub told_opener : Port → Event → ContextNo → List Event → List Event
told_opener port e d queue = told_each (port.opener ∷ []) e d queue

-- what waits once the channel has ended by c, or c has posted on it: the other side is told
abbrev pub told_end : Port → ContextNo → Event → ContextNo → List Event → List Event
told_end port c e d queue = told_each (other_side port c) e d queue

-- context c drops what waits of channel k
abbrev pub dropped : ContextNo → ℕ → ContextNo → List Event → List Event
dropped c k d queue = cond (same_context c d) (filter (is_apart k) queue) queue

-- what waits once c has disconnected channel k: the other side hears of it, and c drops what is of k
abbrev pub parted : Port → ContextNo → ℕ → Event → ContextNo → List Event → List Event
parted port c k e d queue = dropped c k d (told_end port c e d queue)

-- the mailboxes keep as many places as before
abbrev pub SameOwed : List MailboxState → List MailboxState → Type 0
SameOwed old new = (d : ContextNo) → owed_in (slice_get new d.0) ≡ owed_in (slice_get old d.0)
