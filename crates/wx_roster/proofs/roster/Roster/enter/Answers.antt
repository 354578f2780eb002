use Rattle.std.proofs.Common.{◌≡◌, ◌∙◌, sym, ap, subst, length, ◌++◌, ◌∷◌, [], rules, vec_len}
use Rattle.wx_roster.specs.Members.{newcomer}
use Rattle.std.specs.Prelude.{filter}
use Rattle.wx_roster.specs.Places.{AreInPlace, comers_at, place_of, stays_in, staying_at, with_comer}
use Rattle.wx_roster.specs.declared.places.Place.{Place}
use Rattle.wx_roster.proofs.MembersLater.{entered_in_place}
use Rattle.wx_roster.proofs.roster.Roster.enter.Goals as goal

pub invariant_of-self-2 : goal.invariant_of-self-2
invariant_of-self-2 c =
    let members : c.push_reserved.new.self.items ≡ c.self.inside.members.items ++ newcomer c.args.x.now ∷ [] =
    c.push_reserved.ensures.items ∙ ap (λ l. l ++ newcomer c.in_ok-try_clone.field-0 ∷ []) c.in_ok-reserve.ensures.items ∙ ap (λ x. c.self.inside.members.items ++ newcomer x ∷ []) c.in_ok-try_clone.ensures in
    let counted : vec_len c.reserve.new.self ≡ length c.reserve.new.self.items = search rules in
    let number : c.len.result ≡ length c.self.inside.members.items =
    c.len.ensures ∙ counted ∙ ap length c.in_ok-reserve.ensures.items in
    let lent : c.deref.result.now ≡ c.self.inside.members.items = c.deref.ensures.value ∙ c.in_ok-reserve.ensures.items in
    let came : (p : Place) → staying_at c.self.inside.members.items c.come.new.self p ≡ filter (stays_in c.self.inside.members.items) (with_comer (comers_at c.self.inside.places p) (place_of c.args.x.now) (record { 0 = c.len.result }) p) =
    subst (λ l. (p : Place) → staying_at l c.come.new.self p ≡ filter (stays_in l) (with_comer (comers_at c.self.inside.places p) (place_of c.args.x.now) (record { 0 = c.len.result }) p)) lent c.in_ok-come.ensures.ok in
    subst (λ l. AreInPlace l c.come.new.self) (sym members)
    (entered_in_place c.args.x.now (record { 0 = c.len.result }) c.self.inside.members.items c.self.inside.places c.come.new.self number came c.self.invariant)
