use Rattle.std.proofs.Common.{◌≡◌, ◌∙◌, sym}
use Rattle.wx_children.proofs.CommandLemmas.{next_argument}
use Rattle.wx_children.proofs.command.with_arguments.Goals as goal

pub loop-text-preserved : goal.loop-text-preserved
loop-text-preserved c = (
  c.in_ok-command-2.ensures.program ∙ c.loop-text.invariant.0,
  next_argument _ _ c.args.arguments.now c.loop-text.at c.in-Some.text.now c.loop-text.invariant.1 c.in_ok-command-2.ensures.arguments (sym c.in-Some.ensures),
)
