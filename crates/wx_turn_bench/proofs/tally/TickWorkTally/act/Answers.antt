use Rattle.std.proofs.Common.{refl, None}
use Rattle.wx_turn.specs.Entries.{nothing_more}
use Rattle.wx_turn_bench.proofs.tally.TickWorkTally.act.Goals as goal

pub returns : goal.returns
returns c = λ h p. (None, nothing_more _ _ _ h refl p, refl, refl)
