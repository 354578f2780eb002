use Rattle.wx_external.proofs.MatchLemmas.{meets_exactly, admits_url_exactly}
use Rattle.wx_external.proofs.laws.match_test.Goals as goal

pub returns-clause-pattern : goal.returns-clause-pattern
returns-clause-pattern c = meets_exactly

pub returns-clause-manifest : goal.returns-clause-manifest
returns-clause-manifest c = admits_url_exactly
