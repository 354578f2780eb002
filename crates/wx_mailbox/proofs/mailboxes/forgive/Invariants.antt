use Rattle.std.proofs.Common.{take}
use Rattle.wx_mailbox.specs.Mailbox.{forgiven}
use Rattle.wx_id.specs.ByContext.{Changed}
use Rattle.wx_mailbox.proofs.mailboxes.forgive.Given as goal

abbrev pub invariant-loop-c : goal.invariant-loop-c
invariant-loop-c l = Changed forgiven (take l.c-index l.to) l.initial.boxes.items l.boxes.items
