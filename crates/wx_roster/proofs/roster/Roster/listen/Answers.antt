use Rattle.std.proofs.Common.{◌∙◌, ◌<◌, sym, ap, subst, length, cond, length-set}
use Rattle.std.specs.Prelude.{slice_get}
use Rattle.std.specs.Option.{option_map}
use Rattle.wx_id.specs.Contexts.{same_context}
use Rattle.wx_roster.specs.Members.{listening}
use Rattle.wx_roster.proofs.MembersLater.{changed_at, listens_in_place}
use Rattle.wx_roster.proofs.roster.Roster.listen.Goals as goal

pub invariant_of-self : goal.invariant_of-self
invariant_of-self c =
    listens_in_place c.args.l c.args.c c.self.inside.members.items _ c.self.inside.places
    (changed_at (listening c.args.l) c.self.inside.members.items c.args.c c.index_mut.result.now (subst (λ l. c.args.c.0 < length l) (sym c.self.view_is) c.requires) c.index_mut.ensures.value)
    (length-set c.self.inside.members.items c.args.c.0 _)
    c.self.invariant

pub returns-clause-members : goal.returns-clause-members
returns-clause-members c = λ d.
    changed_at (listening c.args.l) c.self.inside.members.items c.args.c c.index_mut.result.now (subst (λ l. c.args.c.0 < length l) (sym c.self.view_is) c.requires) c.index_mut.ensures.value d
    ∙ ap (λ l. option_map (λ m. cond (same_context c.args.c d) (listening c.args.l m) m) (slice_get l d.0)) c.self.view_is
