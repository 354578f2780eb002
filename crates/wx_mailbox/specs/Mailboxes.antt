-- Lists of mailboxes, by the number of their context.
use Rattle.std.specs.Prelude.{◌≡◌, ℕ, List, length, slice_get, Some}
use Rattle.std.specs.Option.{IsSomeAnd}
use Rattle.wx_mailbox.specs.Mailbox.{MailboxState, IsRoomier}

-- nothing but room is changed in any mailbox, and none of it is gone
pub record AreRoomier (old new : List MailboxState) : Type 0 where
  pub count : length new ≡ length old
  pub each : (d : ℕ) (b : MailboxState) → slice_get old d ≡ Some b → IsSomeAnd (slice_get new d) (IsRoomier b)
