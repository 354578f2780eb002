use Rattle.std.proofs.Common.{◌≡◌, ◌∷◌, take}
use Rattle.std.specs.Prelude.{reverse, filter}
use Rattle.std.specs.List.{list_any}
use Rattle.wx_machine.specs.declared.sorts.Sort.TheVariants.{Message}
use Rattle.wx_machine.specs.Words.{is_receiver, numbers, is_open_to}
use Rattle.wx_walks.proofs.requests.some_receiver_is_open.Given as goal

abbrev pub invariant-loop-f : goal.invariant-loop-f
invariant-loop-f l = l.any ≡ list_any (is_open_to (l.e ∷ reverse l.before) l.r.0) (filter (is_receiver (reverse l.at) l.asker l.target Message) (numbers (reverse (take l.f-index l.at))))
