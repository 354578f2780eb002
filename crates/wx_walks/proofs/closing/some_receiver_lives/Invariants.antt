use Rattle.std.proofs.Common.{◌≡◌, ◌∷◌, take}
use Rattle.std.specs.Prelude.{reverse, filter}
use Rattle.std.specs.List.{list_any}
use Rattle.wx_machine.specs.declared.sorts.Sort.TheVariants.{Connection}
use Rattle.wx_machine.specs.Words.{is_live, is_receiver, numbers}
use Rattle.wx_walks.proofs.closing.some_receiver_lives.Given as goal

abbrev pub invariant-loop-f : goal.invariant-loop-f
invariant-loop-f l =
    l.any ≡ list_any (is_live (l.e ∷ reverse l.before)) (filter (is_receiver (reverse l.at) l.opener l.target Connection) (numbers (reverse (take l.f-index l.at))))
