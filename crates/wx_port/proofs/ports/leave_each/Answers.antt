use Rattle.wx_port.proofs.LeavingLater.{left_step, left_end}
use Rattle.wx_port.proofs.ports.leave_each.Goals as goal

pub loop-k-preserved : goal.loop-k-preserved
loop-k-preserved c = left_step c.args.c c.args.own.now c.loop-k.k-index c.args.table.now c.loop-k.table c.leave.new.self c.loop-k-test.true c.loop-k.invariant c.leave.ensures

pub returns : goal.returns
returns c = left_end c.args.c c.args.own.now c.loop-k.k-index c.args.table.now c.loop-k.table c.loop-k-test.false c.requires c.loop-k.invariant
