use Rattle.std.proofs.Common.{◌∙◌}
use Rattle.wx_words.specs.Words.{is_operand}
use Rattle.wx_words.proofs.WordLists.{behind_first}
use Rattle.wx_words.proofs.operands.are_operands.Goals as goal

pub returns-in-Some : goal.returns-in-Some
returns-in-Some c = c.are_all_operands.ensures ∙ behind_first is_operand _ _ _ c.in-Some.ensures.cases.0
