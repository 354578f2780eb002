use Rattle.std.proofs.Common.{◌∙◌, ◌||◌}
use Rattle.wx_words.specs.Words.{is_operand, is_rounds}
use Rattle.wx_words.proofs.WordLists.{behind_first}
use Rattle.wx_words.proofs.operands.are_of_run.Goals as goal

pub returns-in-Some : goal.returns-in-Some
returns-in-Some c = c.are_all_of_run.ensures ∙ behind_first (λ word. is_operand word || is_rounds word) _ _ _ c.in-Some.ensures.cases.0
