use Rattle.wx_cmd.specs.View.{verdict_view}
use Rattle.wx_cmd.proofs.JudgeLemmas.{told_headline}
use Rattle.wx_cmd.proofs.top.run_named.Goals as goal

pub returns-clause-headline : goal.returns-clause-headline
returns-clause-headline g c words named asked =
    told_headline words _ _ _ _ _ (verdict_view c.judge-verdict.result) (c.judge-verdict.ensures.judged words named asked) c.judge-verdict.ensures.unused c.tell.ensures
