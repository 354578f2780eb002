use Rattle.wx_match_pattern.proofs.ReadingLemmas.{pattern_of-text}
use Rattle.wx_match_pattern.proofs.UniqueLemmas.{pattern_of-exact, pattern_of-fault}
use Rattle.wx_match_pattern.proofs.law.one_pattern_or_fault.Goals as goal

pub returns : goal.returns
returns c = record { exact = pattern_of-exact; one_pattern = λ text pattern is. pattern_of-text pattern text is; one_fault = pattern_of-fault }
