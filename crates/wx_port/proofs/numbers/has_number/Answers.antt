use Rattle.std.proofs.Common.{◌∙◌}
use Rattle.std.proofs.lemmas.List.Sorted.{searched}
use Rattle.wx_port.proofs.NumbersLater.{has_from_search}
use Rattle.wx_port.proofs.numbers.has_number.Goals as goal

pub returns : goal.returns
returns c = c.is_ok.ensures.value ∙ has_from_search c.args.numbers.now c.args.k c.binary_search.result (searched c.args.numbers.now c.args.k c.binary_search.result c.binary_search.ensures.position (λ i j low high. c.requires i j 0 low high))
