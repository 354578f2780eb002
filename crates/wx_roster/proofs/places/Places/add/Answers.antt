use Rattle.std.proofs.Common.{◌≡◌, ◌∙◌, sym, ap, [], cond}
use Rattle.std.specs.Prelude.{Some, None}
use Rattle.std.specs.Option.{unwrap_or, option_copied_mut}
use Rattle.std.specs.Map.{lookup}
use Rattle.wx_roster.specs.Places.{same_place, stays_in}
use Rattle.wx_roster.proofs.PlacesLater.{came_there, none_came, on_any_err, is_found}
use Rattle.wx_roster.proofs.places.Places.add.Goals as goal

pub returns-in_err-add-clause-err : goal.returns-in_err-add-clause-err
returns-in_err-add-clause-err c = on_any_err c.from_residual.result (λ p.
    let found : lookup (same_place c.args.place) c.self.inside.comers.entries ≡ Some c.in-Some.comers.now = sym c.in-Some.ensures.value in
    let written = (c.get_mut.follows.holds c.add.new.self).3 (is_found c.in-Some.comers.now found) in
    none_came (stays_in c.args.members.now) c.args.self.now (c.get_mut.follows.lender c.add.new.self).entries c.args.place p c.in-Some.comers.now c.add.new.self
    (ap (λ o. unwrap_or o []) (ap (lookup (same_place c.args.place)) (sym c.self.view_is) ∙ found))
    c.in_err-add.ensures.err
    (written.0 p ∙ ap (λ l. cond (same_place c.args.place p) (Some c.add.new.self) (lookup (same_place p) l)) c.self.view_is))

pub returns-in-Some-clause-ok : goal.returns-in-Some-clause-ok
returns-in-Some-clause-ok c = λ p.
    let found : lookup (same_place c.args.place) c.self.inside.comers.entries ≡ Some c.in-Some.comers.now = sym c.in-Some.ensures.value in
    let written = (c.get_mut.follows.holds c.add.new.self).3 (is_found c.in-Some.comers.now found) in
    came_there (stays_in c.args.members.now) c.args.self.now (c.get_mut.follows.lender c.add.new.self).entries c.args.place p c.args.c c.in-Some.comers.now c.add.new.self
    (ap (λ o. unwrap_or o []) (ap (lookup (same_place c.args.place)) (sym c.self.view_is) ∙ found))
    c.in_ok-add.ensures.ok
    (written.0 p ∙ ap (λ l. cond (same_place c.args.place p) (Some c.add.new.self) (lookup (same_place p) l)) c.self.view_is)

pub returns-clause-ok : goal.returns-clause-ok
returns-clause-ok c = λ p.
    let lists = ap (λ m. m.entries) c.get_mut.follows.holds-at-none ∙ c.self.view_is in
    let none : lookup (same_place c.args.place) c.self.inside.comers.entries ≡ None = sym c.get_mut.ensures.value ∙ ap option_copied_mut c.in_default.is in
    came_there (stays_in c.args.members.now) c.args.self.now c.insert.new.self.entries c.args.place p c.args.c c.new-comers.result c.add-2.new.self
    (ap (λ o. unwrap_or o []) (ap (lookup (same_place c.args.place)) (sym c.self.view_is) ∙ none) ∙ sym c.new-comers.ensures)
    c.in_ok-add-2.ensures.ok
    (c.in_ok-insert.ensures.updates.0 p ∙ ap (λ l. cond (same_place c.args.place p) (Some c.add-2.new.self) (lookup (same_place p) l)) lists)
