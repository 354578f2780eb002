use Rattle.wx_script.proofs.LineLemmas.{one_spelling}
use Rattle.wx_script.proofs.laws.one_spelling.Goals as goal

pub returns-clause-spelled : goal.returns-clause-spelled
returns-clause-spelled c = one_spelling
