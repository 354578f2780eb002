use Rattle.std.proofs.Common.{take}
use Rattle.wx_port.proofs.LeavingLater.{LeftAt}
use Rattle.wx_port.proofs.ports.leave_each.Given as goal

abbrev pub invariant-loop-k : goal.invariant-loop-k
invariant-loop-k l = LeftAt l.c (take l.k-index l.own) l.initial.table l.table
