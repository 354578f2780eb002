use Rattle.std.proofs.Common.{◌∙◌, sym}
use Rattle.wx_port.specs.Port as ports_spec
use Rattle.wx_one_shot.specs.Requests.{without}
use Rattle.wx_one_shot.proofs.KeptLater.{request_changed, settled_is, standing_live, still_there, without_is}
use Rattle.wx_one_shot.proofs.requests.close_in.Goals as goal

pub drop_end-requires : goal.drop_end-requires
drop_end-requires c = standing_live c.args.ports.now c.args.r.0 c.args.c c.live.ensures.sound c.requires

pub returns-clause-requests : goal.returns-clause-requests
returns-clause-requests c =
    request_changed c.args.ports.now c.drop_end.new.self c.args.r.0 (ports_spec.without c.args.c) (without c.args.c)
    (without_is c.args.ports.now c.args.r.0 c.args.c c.live.ensures.sound c.requires) c.drop_end.ensures.ports

pub returns-clause-settled : goal.returns-clause-settled
returns-clause-settled c =
    c.drop_end.ensures.closed
    ∙ sym (settled_is c.drop_end.new.self c.args.r.0 (still_there c.args.ports.now c.drop_end.new.self c.args.r.0 c.args.c (ports_spec.without c.args.c) (standing_live c.args.ports.now c.args.r.0 c.args.c c.live.ensures.sound c.requires) c.drop_end.ensures.ports))
