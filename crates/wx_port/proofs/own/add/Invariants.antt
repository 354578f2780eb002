use Rattle.std.proofs.Common.{take}
use Rattle.wx_id.specs.ByContext.{Changed}
use Rattle.wx_port.specs.Numbers.{with_number}
use Rattle.wx_port.proofs.own.add.Given as goal

abbrev pub invariant-loop-c : goal.invariant-loop-c
invariant-loop-c l = Changed (with_number l.k) (take l.c-index l.of) l.initial.own.items l.own.items
