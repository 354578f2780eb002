use Rattle.std.proofs.Common.{rules}
use Rattle.std.proofs.lemmas.Fn.{filter_same}
use Rattle.wx_id.specs.Contexts.{is_other}
use Rattle.wx_id.proofs.contexts.take_out.Goals as goal

pub returns : goal.returns
returns c = filter_same _ (is_other c.args.c) _ (λ x b f' h. search rules) _ _ c.retain.ensures.filtered
