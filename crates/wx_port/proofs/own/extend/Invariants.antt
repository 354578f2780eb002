use Rattle.std.proofs.Common.{ℕ, ◌+◌, ◌-◌, length}
use Rattle.wx_port.specs.Numbers.{AreStill}
use Rattle.wx_port.proofs.own.extend.Given as goal

abbrev pub invariant-loop-alloc : goal.invariant-loop-alloc
invariant-loop-alloc l = AreStill l.initial.own.items l.own.items

abbrev pub decreases-loop-alloc : goal.decreases-loop-alloc
decreases-loop-alloc l = (l.c.0 + 1) - length l.own.items
