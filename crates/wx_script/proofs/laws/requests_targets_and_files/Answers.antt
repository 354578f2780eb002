use Rattle.std.proofs.Common.{refl}
use Rattle.wx_script.proofs.OnLiterals.{scenes_on_literals}
use Rattle.wx_script.proofs.laws.requests_targets_and_files.Goals as goal

pub returns-clause-documents : goal.returns-clause-documents
unfolding scenes_on_literals
returns-clause-documents c first second is_first is_second = rw (is_first, is_second) refl

pub returns-clause-no_web_url : goal.returns-clause-no_web_url
unfolding scenes_on_literals
returns-clause-no_web_url c none = (rw none refl, rw none refl, refl, refl)
