use Rattle.wx_port.proofs.KeptLater.{kept_left}
use Rattle.wx_port.proofs.ports.Ports.leave.Goals as goal

pub invariant_of-self : goal.invariant_of-self
invariant_of-self c = kept_left c.self.inside.table c.leave_each.new.table c.self.inside.own.items c.args.c c.self.invariant c.leave_each.ensures
