use Rattle.std.proofs.Common.{◌≡◌, ◌∙◌, sym, ap, subst}
use Rattle.std.specs.Prelude.{Some, None, option_copied, filter}
use Rattle.wx_external.specs.Gate.{meant}
use Rattle.wx_machine.specs.Contexts.{extension_of}
use Rattle.wx_roster.specs.Places.{place_in, is_wanted, AreInPlace}
use Rattle.wx_roster.proofs.Reached.{reached, reached_nowhere, unknown_reaches_none}
use Rattle.wx_roster.proofs.roster.Roster.named.Goals as goal

pub returns-in_default : goal.returns-in_default
returns-in_default c = λ sort. sym (unknown_reaches_none c.args.self.now c.args.c c.args.target.now sort (sym c.context.ensures ∙ ap option_copied c.in_default.is))

pub returns-in-Some-place_in : goal.returns-in-Some-place_in
returns-in-Some-place_in c = λ sort.
    let place : place_in (extension_of c.in-Some.x.now) (meant c.in-Some.x.now c.args.target.now) ≡ Some c.in-Some-place_in.place =
    sym (c.in-Some-place_in.ensures ∙ ap (λ o. place_in o c.meant-target.result) c.extension_of.ensures ∙ ap (place_in (extension_of c.in-Some.x.now)) c.meant-target.ensures) in
    let placed : AreInPlace c.args.self.now c.self.inside.places = subst (λ l. AreInPlace l c.self.inside.places) c.self.view_is c.self.invariant in
    ap (λ t. filter (is_wanted c.args.self.now c.args.c t sort) c.at.result.now) c.meant-target.ensures
    ∙ ap (filter (is_wanted c.args.self.now c.args.c (meant c.in-Some.x.now c.args.target.now) sort)) c.at.ensures
    ∙ reached c.args.self.now c.self.inside.places c.args.c c.in-Some.x.now c.args.target.now sort c.in-Some-place_in.place placed (sym c.in-Some.ensures) place

pub returns-in-None : goal.returns-in-None
returns-in-None c = λ sort.
    let place : place_in (extension_of c.in-Some.x.now) (meant c.in-Some.x.now c.args.target.now) ≡ None =
    sym (c.in-None.ensures ∙ ap (λ o. place_in o c.meant-target.result) c.extension_of.ensures ∙ ap (place_in (extension_of c.in-Some.x.now)) c.meant-target.ensures) in
    sym (reached_nowhere c.args.self.now c.args.c c.in-Some.x.now c.args.target.now sort (sym c.in-Some.ensures) place)
