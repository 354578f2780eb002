use Rattle.wx_plain.proofs.OneAnswer.{one_answer_of}
use Rattle.wx_plain.proofs.laws.one_plain_answer.Goals as goal

pub returns : goal.returns
returns c = one_answer_of c.one_split.ensures.one c.one_answer.ensures.trouble c.different_texts.ensures
