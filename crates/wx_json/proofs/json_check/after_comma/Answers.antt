use Rattle.std.proofs.Common.{◌∙◌, sym}
use Rattle.wx_json.proofs.Closing.{separated-name, separated-value}
use Rattle.wx_json.proofs.json_check.after_comma.Goals as goal

pub returns-then-kind_at-clause-leads : goal.returns-then-kind_at-clause-leads
returns-then-kind_at-clause-leads c = λ high k n u m. separated-name c.args.kinds.now c.args.depth k n u m c.if-depth-eq0.false (sym c.kind_at.ensures ∙ c.if-kind_at.true)

pub returns-else-kind_at-clause-leads : goal.returns-else-kind_at-clause-leads
returns-else-kind_at-clause-leads c = λ high k n u m. separated-value c.args.kinds.now c.args.depth k n u m c.if-depth-eq0.false (sym c.kind_at.ensures ∙ c.if-kind_at.false)
