use Rattle.std.proofs.Common.{refl}
use Rattle.url.proofs.OnLiterals.{url_on_literals}
use Rattle.wx_external.specs.Matching.{some_suffix, globs, meets}
use Rattle.wx_external.proofs.laws.verdicts_by_manifest.Goals as goal

pub returns : goal.returns
unfolding some_suffix globs meets url_on_literals
returns c = (refl, refl, refl, refl)
