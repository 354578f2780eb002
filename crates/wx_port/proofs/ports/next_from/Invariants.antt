use Rattle.wx_port.proofs.SearchLater.{NoneBefore}
use Rattle.wx_port.proofs.ports.next_from.Given as goal

abbrev pub invariant-loop-i : goal.invariant-loop-i
invariant-loop-i l = NoneBefore l.table l.c l.own l.fn.from.0 l.i
