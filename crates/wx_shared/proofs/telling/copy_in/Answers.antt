use Rattle.std.proofs.Common.{Some, None, ap, ◌∙◌}
use Rattle.wx_desk.proofs.OverLemmas.{text_found}
use Rattle.wx_shared.proofs.telling.copy_in.Goals as goal

pub returns-in_ok-try_clone-in-Some-clause-copied : goal.returns-in_ok-try_clone-in-Some-clause-copied
returns-in_ok-try_clone-in-Some-clause-copied c =
    ap Some c.in_ok-try_clone-in-Some.ensures
    ∙ text_found c.args.broker.now c.args.e c.journal.result.now.entries (Some c.in-Some.text.now) c.journal.ensures.entries c.in-Some.ensures

pub returns-in-None-clause-copied : goal.returns-in-None-clause-copied
returns-in-None-clause-copied c = text_found c.args.broker.now c.args.e c.journal.result.now.entries None c.journal.ensures.entries c.in-None.ensures
