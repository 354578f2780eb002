use Rattle.std.proofs.Common.{take}
use Rattle.wx_mailbox.specs.Mailbox.{owing}
use Rattle.wx_id.specs.ByContext.{Changed}
use Rattle.wx_mailbox.proofs.mailboxes.keep.Given as goal

abbrev pub invariant-loop-c : goal.invariant-loop-c
invariant-loop-c l = Changed owing (take l.c-index l.to) l.initial.boxes.items l.boxes.items
