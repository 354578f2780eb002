use Rattle.std.proofs.Common.{ap, ◌∙◌, ℕ, List, eqb}
use Rattle.std.specs.List.{list_any}
use Rattle.url.specs.Ascii.{dot}
use Rattle.wx_match_pattern.proofs.NameLemmas.{lone_label}
use Rattle.wx_match_pattern.proofs.parts.HostForm.is_broad.Goals as goal

pub returns-in-Below : goal.returns-in-Below
returns-in-Below c =
    let stored = rw c.in-Below.is at c.requires in
    rw c.in-Below.is
    (lone_label c.in-Below.name.items c.contains.result stored
    (c.contains.ensures.value ∙ ap (λ (t : List ℕ). list_any (λ b. eqb b dot) t) c.deref.ensures.value))
