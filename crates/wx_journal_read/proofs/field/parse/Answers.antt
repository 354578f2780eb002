use Rattle.std.proofs.Common.{◌∙◌}
use Rattle.wx_journal_read.proofs.Numbers.{utf8_digits, parsed}
use Rattle.wx_journal_read.proofs.field.parse.Goals as goal

pub returns-in_default : goal.returns-in_default
returns-in_default c = absurd (c.in_default.ensures.cases.0 (utf8_digits c.args.digits.now c.requires.digits))

pub returns : goal.returns
returns c = c.ok.ensures.value ∙ parsed c.args.digits.now c.parse.result c.requires.digits c.requires.some (rw c.in-Ok.ensures.cases.0 at c.parse.ensures.value.0)
