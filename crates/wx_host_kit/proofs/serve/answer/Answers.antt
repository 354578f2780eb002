use Rattle.std.proofs.Common.{sym, ◌∙◌}
use Rattle.wx_host_kit.proofs.serve.answer.Goals as goal

pub returns-in-Ok-Some-clause-replied : goal.returns-in-Ok-Some-clause-replied
returns-in-Ok-Some-clause-replied g c = c.send.ensures.replied ((goal.Handler-dyn g (c.args.handler.now.vtable, c.args.handler.now.value)).reply c.args.handler.now.value) c.args.text.now (sym c.in-Ok-Some.ensures.exact ∙ c.in-Ok-Some.field-0-is)
