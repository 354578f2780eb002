-- What the opening of a channel tells.
use Rattle.std.specs.Prelude.{◌≡◌, List, Bool, true, cond, slice_get, IsSome}
use Rattle.std.specs.Option.{option_map}
use Rattle.wx_id.specs.declared.numbers.ContextNo.{ContextNo}
use Rattle.wx_id.specs.declared.events.Event.{Event}
use Rattle.wx_id.specs.Contexts.{same_context, is_among}
use Rattle.wx_mailbox.specs.Mailbox.{MailboxState, owing}

-- of each of these there is a queue
abbrev pub AreThere : List ContextNo → List (List Event) → Type 0
AreThere to queues = (d : ContextNo) → is_among to d ≡ true → IsSome (slice_get queues d.0)

-- a mailbox when a channel is opened or a request asked: a receiver is told, and the opener keeps a place for the
-- outcome
abbrev pub begun : (MailboxState → MailboxState) → Bool → Bool → MailboxState → MailboxState
begun change opener receiver b = cond opener (owing b) (cond receiver (change b) b)

-- all mailboxes then
abbrev pub Begun :
    (MailboxState → MailboxState) → ContextNo → List ContextNo → List MailboxState → List MailboxState → Type 0
Begun change opener receivers old new =
    (d : ContextNo) → slice_get new d.0
    ≡ option_map (begun change (same_context opener d) (is_among receivers d)) (slice_get old d.0)
