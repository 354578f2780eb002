use Rattle.std.proofs.Common.{Ok, Err, ap, ◌∙◌}
use Rattle.wx_manifest.proofs.ManifestLemmas.{text_of-under}
use Rattle.wx_manifest.proofs.keys.text_of.Goals as goal

pub returns-in-Ok : goal.returns-in-Ok
returns-in-Ok c = text_of-under (Ok c.in-Ok.text.now) c.args.key _ _ c.text.ensures c.in-Ok.ensures

pub returns-in-Err : goal.returns-in-Err
returns-in-Err c = ap Err c.fault_at.ensures ∙ text_of-under (Err c.in-Err.fault) c.args.key _ _ c.text.ensures c.in-Err.ensures
