use Rattle.wx_manifest.proofs.ManifestLemmas.{patterns_stop}
use Rattle.wx_manifest.proofs.patterns.read_patterns.Goals as goal

pub returns-in-Err-clause-err : goal.returns-in-Err-clause-err
returns-in-Err-clause-err c = λ real.
    patterns_stop c.args.texts.now c.loop-place.place _ c.at.ensures c.loop-place.patterns.items c.in-Err.fault c.loop-place.invariant (c.in-Err.ensures.err real)
