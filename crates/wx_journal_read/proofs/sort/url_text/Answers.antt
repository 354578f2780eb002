use Rattle.std.proofs.Common.{ℕ, List, Option, refl, ap, subst, ◌∙◌}
use Rattle.wx_context.specs.WebUrls.{is_web_url}
use Rattle.wx_journal_read.specs.Gives.{Gives}
use Rattle.wx_id.specs.Options.{where_so}
use Rattle.wx_journal_read.proofs.Sorts.{no_text, url_test}
use Rattle.wx_journal_read.proofs.sort.url_text.Goals as goal

pub returns-in-Ok : goal.returns-in-Ok
returns-in-Ok c =
    let same = ap (λ (t : List ℕ). where_so (is_web_url t) t) c.in-Ok.ensures.cases.0 in
    subst (λ (read : Option (List ℕ)). Gives (λ x. x) c.own_url.result read) (same ∙ url_test c.args.bytes.now c.in-Ok.ensures.cases.1) c.own_url.ensures

pub returns-in-Err : goal.returns-in-Err
returns-in-Err c = let none = no_text c.args.bytes.now c.in-Err.ensures.cases.0 in rw none refl
