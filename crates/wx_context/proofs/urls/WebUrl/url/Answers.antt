use Rattle.std.proofs.Common.{Ok, sym, ap, ◌∙◌, subst}
use Rattle.url.specs.Parts.{IsValid}
use Rattle.wx_context.proofs.WebUrlLemmas.{parse_url-own_text, is_web_url-own_text}
use Rattle.wx_context.proofs.urls.WebUrl.url.Goals as goal

pub returns-clause-parsed : goal.returns-clause-parsed
returns-clause-parsed c =
    let valid = subst IsValid c.as_ref-url.ensures c.as_str-own_text.ensures.valid in
    rw (← c.self.view_is) (parse_url-own_text c.self.inside.url.value valid c.self.invariant ∙ ap Ok (sym c.as_ref-url.ensures))

pub returns-clause-sort : goal.returns-clause-sort
returns-clause-sort c =
    let valid = subst IsValid c.as_ref-url.ensures c.as_str-own_text.ensures.valid in
    rw (← c.self.view_is) (is_web_url-own_text c.self.inside.url.value valid c.self.invariant)
