use Rattle.std.proofs.Common.{◌∙◌, sym, slice_get}
use Rattle.wx_id.specs.Contexts.{is_among}
use Rattle.wx_port.specs.Port.{end_of}
use Rattle.wx_one_shot.proofs.KeptLater.{standing_is, standing_other}
use Rattle.wx_one_shot.proofs.requests.standing_in.Goals as goal

pub returns-in_default : goal.returns-in_default
returns-in_default c =
    standing_other (end_of (slice_get c.args.ports.now c.args.r.0) c.args.c) (is_among c.live-live.result.now c.args.c) (λ is. c.in_default.not-Receiver (c.end.ensures ∙ is))
    ∙ sym (standing_is c.args.ports.now c.args.r.0 c.args.c c.live-live.result.now c.live-live.ensures.sound c.live-live.ensures.value c.live-live.ensures.closed)
