use Rattle.std.proofs.Common.{◌≡◌, ◌∙◌, Bool, true, false, rules, refl, ap, sym, List}
use Rattle.std.specs.Prelude.{filter, ◌&&◌}
use Rattle.std.proofs.lemmas.Fn.{filter_same}
use Rattle.wx_id.specs.declared.numbers.ContextNo.{ContextNo}
use Rattle.wx_roster.specs.Places.{stays_in}
use Rattle.wx_roster.proofs.Filters.{filter_narrow}
use Rattle.wx_roster.proofs.places.Comers.make_room.Goals as goal

-- a test passes twice what it passes once
twice : (p : ContextNo → Bool) (xs : List ContextNo) → filter p (filter p xs) ≡ filter p xs
twice p xs = sym (filter_narrow p p (λ x. by (p x)) xs)
  where
    by : (b : Bool) → b ≡ (b && b)
    by true = refl
    by false = refl

pub returns-in_err-reserve : goal.returns-in_err-reserve
returns-in_err-reserve c =
    let stay = stays_in c.args.members.now in
    ap (filter stay) (c.reserve.ensures.items
    ∙ filter_same _ stay _ (λ x b f' h. search rules) _ _ c.retain.ensures.filtered)
    ∙ twice stay c.self.inside.numbers.items
    ∙ ap (filter stay) c.self.view_is

pub returns-in_ok-reserve : goal.returns-in_ok-reserve
returns-in_ok-reserve c =
    let stay = stays_in c.args.members.now in
    ap (filter stay) (c.reserve.ensures.items
    ∙ filter_same _ stay _ (λ x b f' h. search rules) _ _ c.retain.ensures.filtered)
    ∙ twice stay c.self.inside.numbers.items
    ∙ ap (filter stay) c.self.view_is

pub returns-else-capacity-count : goal.returns-else-capacity-count
returns-else-capacity-count c =
    let stay = stays_in c.args.members.now in
    ap (filter stay) (filter_same _ stay _ (λ x b f' h. search rules) _ _ c.retain.ensures.filtered)
    ∙ twice stay c.self.inside.numbers.items
    ∙ ap (filter stay) c.self.view_is
