-- A mailbox as contracts see it, and what a call makes of one.
use Rattle.std.specs.Prelude.{◌≡◌, ℕ, ◌+◌, ◌-◌, ◌≤◌, List, [], ◌∷◌, ◌++◌, Bool, not, false, ◌==◌}
use Rattle.wx_id.specs.declared.events.Event.{Event}
use Rattle.wx_id.specs.declared.events.EventKind.{EventKind}
use Rattle.wx_id.specs.declared.events.EventKind.TheVariants.{Connected, Message, Disconnected, Asked, Replied, Closed}

-- the events, the first at the head; how many more are sure to fit; how many places are kept for events that are owed;
-- and how many places there are beyond these
pub record MailboxState : Type 0 where
  pub events : List Event
  pub spare : ℕ
  pub owed : ℕ
  pub room : ℕ

-- the capacity has a place for each event, each spare one and each owed one
abbrev pub HasPlaces : ℕ → ℕ → ℕ → ℕ → Type 0
HasPlaces events spare owed capacity = events + spare + owed ≤ capacity

-- the event is of channel k
abbrev pub is_of : ℕ → EventKind → Bool
is_of k (Connected j) = j.0 == k
is_of k (Message j) = j.0 == k
is_of k (Disconnected j) = j.0 == k
is_of k (Asked r) = false
is_of k (Replied r) = false
is_of k (Closed r) = false

-- the event is not of channel k
abbrev pub is_apart : ℕ → Event → Bool
is_apart k event = not (is_of k event.kind)

-- a mailbox with one more event, in a place that was free
abbrev pub told : Event → MailboxState → MailboxState
told e b = record { events = b.events ++ e ∷ []; spare = b.spare; owed = b.owed; room = b.room - 1 }

-- a mailbox that keeps one more place for an owed event, which was free
abbrev pub owing : MailboxState → MailboxState
owing b = record { events = b.events; spare = b.spare; owed = b.owed + 1; room = b.room - 1 }

-- a mailbox that is told of a channel and keeps a place for its end
abbrev pub connected : Event → MailboxState → MailboxState
connected e b = owing (told e b)

-- a mailbox with one more event, in a place that was kept for it
abbrev pub paid : Event → MailboxState → MailboxState
paid e b = record { events = b.events ++ e ∷ []; spare = b.spare; owed = b.owed - 1; room = b.room }

-- a mailbox that gives up a place that it kept
abbrev pub forgiven : MailboxState → MailboxState
forgiven b = record { events = b.events; spare = b.spare; owed = b.owed - 1; room = b.room + 1 }

-- nothing but room is changed, and none of it is gone
pub record IsRoomier (old new : MailboxState) : Type 0 where
  pub events : new.events ≡ old.events
  pub spare : new.spare ≡ old.spare
  pub owed : new.owed ≡ old.owed
  pub room : old.room ≤ new.room
