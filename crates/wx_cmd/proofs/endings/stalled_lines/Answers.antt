use Rattle.std.proofs.Common.{◌++◌, ℕ, List, take, ap, sym, ◌∙◌, arith}
use Rattle.std.specs.Prelude.{reverse}
use Rattle.wx_machine.specs.Words.{has_left}
use Rattle.wx_script.specs.Ends.{numbered}
use Rattle.wx_cmd.specs.Endings.{stalled_unless, stalled_from}
use Rattle.wx_cmd.proofs.EndLemmas.{stalled_next}
use Rattle.wx_cmd.proofs.endings.stalled_lines.Goals as goal

pub loop-n-preserved : goal.loop-n-preserved
loop-n-preserved c =
    c.in_ok-put_unless_left.ensures
    ∙ ap (λ (ls : List ℕ). ls ++ stalled_unless (has_left (reverse c.args.entries.now) (numbered c.loop-n.n)) c.as_str.result.now) c.loop-n.invariant
    ∙ ap (λ (name : List ℕ). stalled_from (reverse c.args.entries.now) 0 (take c.loop-n.n c.args.endpoints.now) ++ stalled_unless (has_left (reverse c.args.entries.now) (numbered c.loop-n.n)) name) c.as_str.ensures.value
    ∙ sym (stalled_next (reverse c.args.entries.now) c.args.endpoints.now c.loop-n.n c.index-endpoints-n.result (omega (arith, c.loop-n-test.true, c.loop-n.auto.n-end)) c.index-endpoints-n.is)
