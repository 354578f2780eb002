use Rattle.std.proofs.Common.{◌∙◌, ap, map}
use Rattle.wx_one_shot.specs.Requests.{left_by}
use Rattle.wx_one_shot.specs.Kept.{requests_of}
use Rattle.wx_one_shot.proofs.KeptLater.{left_is}
use Rattle.wx_one_shot.proofs.requests.Requests.leave.Goals as goal

pub returns : goal.returns
returns c = ap requests_of c.leave.ensures ∙ left_is c.args.c c.self.inside.ports ∙ ap (map (left_by c.args.c)) c.self.view_is
