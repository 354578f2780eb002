use Rattle.wx_port.proofs.KeptLater.{kept_without}
use Rattle.wx_port.proofs.ports.Ports.drop_end.Goals as goal

pub invariant_of-self : goal.invariant_of-self
invariant_of-self c = kept_without c.self.inside.table c.drop_end.new.self c.self.inside.own.items c.args.k.0 c.args.c c.self.invariant (rw c.self.view_is c.requires) c.drop_end.ensures.ports
