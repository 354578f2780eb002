use Rattle.std.proofs.Common.{sym, rules}
use Rattle.wx_match_pattern.proofs.GlobLemmas.{globs-whole, globs-differs, from-star}
use Rattle.wx_match_pattern.proofs.glob.matches.Goals as goal

pub returns-in-Whole : goal.returns-in-Whole
returns-in-Whole c =
    let holds = globs-whole c.args.pattern.now c.args.text.now (sym c.in-Whole.ensures.value) in
    (λ _. holds, λ _. search rules)

pub returns-in-Star : goal.returns-in-Star
returns-in-Star c =
    from-star c.in-Star.at c.args.pattern.now c.args.text.now c.behind.result.now c.behind-in-Star.result.now
    c.in-Star.ensures.value c.behind.ensures c.behind-in-Star.ensures c.matches_behind_star.ensures

pub returns-in-Differs : goal.returns-in-Differs
returns-in-Differs c =
    let never = globs-differs c.args.pattern.now c.args.text.now (sym c.in-Differs.ensures.value) in
    (λ f. absurd (cc f), λ h. absurd (never h))
