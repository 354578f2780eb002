use Rattle.std.proofs.Common.{◌++◌, [], ◌∷◌, subst, sym}
use Rattle.std.specs.List.Sorted.{IsNonDecreasing}
use Rattle.wx_port.specs.Numbers.{NumbersState}
use Rattle.wx_port.proofs.NumbersLater.{rising_more}
use Rattle.wx_port.proofs.numbers.Numbers.push.Goals as goal

pub invariant_of-self : goal.invariant_of-self
invariant_of-self c =
    subst IsNonDecreasing (sym c.push_reserved.ensures.items)
    (subst (λ (s : NumbersState). IsNonDecreasing s.list → IsNonDecreasing (s.list ++ c.args.k ∷ [])) (sym c.self.view_is) (λ r. rising_more c.args.self.now c.args.k r c.requires) c.self.invariant)
