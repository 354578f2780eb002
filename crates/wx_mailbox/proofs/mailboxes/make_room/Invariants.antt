use Rattle.std.proofs.Common.{take, ◌≤◌}
use Rattle.wx_id.specs.ByContext.{EachHas}
use Rattle.wx_mailbox.specs.Mailboxes.{AreRoomier}
use Rattle.wx_mailbox.proofs.mailboxes.make_room.Given as goal

abbrev pub invariant-loop-c : goal.invariant-loop-c
invariant-loop-c l = record { kept : AreRoomier l.initial.boxes.items l.boxes.items; room : EachHas (λ b. l.n ≤ b.room) (take l.c-index l.to) l.boxes.items }
