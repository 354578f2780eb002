use Rattle.std.proofs.Common.{◌∙◌, ap, true}
use Rattle.std.specs.List.{list_any}
use Rattle.wx_roster.specs.Places.{is_wanted}
use Rattle.wx_roster.proofs.Filters.{some_kept}
use Rattle.wx_roster.proofs.roster.Roster.has_receiver.Goals as goal

pub returns : goal.returns
returns c =
    c.some_wanted.ensures
    ∙ some_kept (is_wanted c.args.self.now c.args.c c.named-whom.result.0 c.args.sort) c.named-whom.result.1.now
    ∙ ap (list_any (λ _. true)) (c.named-whom.ensures c.args.sort)
