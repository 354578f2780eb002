use Rattle.std.proofs.Common.{◌∙◌}
use Rattle.wx_host_manifest.proofs.KeyLemmas.{bad_next}
use Rattle.wx_host_manifest.proofs.keys.bad_origin.Goals as goal

pub loop-place-preserved : goal.loop-place-preserved
loop-place-preserved c =
    c.loop-place.invariant
    ∙ bad_next c.args.origins.now c.loop-place.place _ _ c.at.ensures c.read_origin.ensures c.if-is_none.ensures
