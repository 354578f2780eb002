use Rattle.std.proofs.Common.{◌∙◌, sym}
use Rattle.wx_port.specs.Port.{closed}
use Rattle.wx_one_shot.specs.Requests.{settled}
use Rattle.wx_one_shot.proofs.KeptLater.{request_changed, open_is, closed_is}
use Rattle.wx_one_shot.proofs.requests.settle_in.Goals as goal

pub close-requires : goal.close-requires
close-requires c = sym (open_is c.args.ports.now c.args.r.0) ∙ c.requires

pub returns : goal.returns
returns c = request_changed c.args.ports.now c.close.new.self c.args.r.0 closed settled (closed_is c.args.ports.now c.args.r.0) c.close.ensures
