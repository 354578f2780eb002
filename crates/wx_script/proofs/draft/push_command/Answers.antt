use Rattle.std.proofs.Common.{◌-◌, set, arith, ap, ◌∙◌}
use Rattle.wx_script.proofs.DraftLemmas.{with_command-set, on_ok}
use Rattle.wx_script.proofs.draft.push_command.Goals as goal

pub returns : goal.returns
returns c = on_ok c.push.result _ _ (λ e.
    ap (λ s. set c.args.endpoints.now.items (c.len-last.result - 1) (record c.index_mut.result.now { script = s })) e
    ∙ with_command-set c.args.command c.args.endpoints.now.items (c.len-last.result - 1) c.index_mut.result.now (omega (arith, c.args.endpoints.now.ok.0, c.len-last.ensures, c.requires)) c.index_mut.ensures.value)
    c.push.ensures.ok
