use Rattle.wx_world.proofs.FileLemmas.{world_told, refusal_told}
use Rattle.wx_world.proofs.laws.one_world.Goals as goal

pub returns-clause-world : goal.returns-clause-world
returns-clause-world c = world_told

pub returns-clause-refusal : goal.returns-clause-refusal
returns-clause-refusal c = refusal_told
