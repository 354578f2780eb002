use Rattle.std.proofs.Common.{◌↔◌, ◌∷◌, ◌+◌, length}
use Rattle.wx_match_pattern.specs.Globs.{Globs, star}
use Rattle.wx_match_pattern.proofs.glob.matches_behind_star.Given as goal

abbrev pub invariant-loop-at : goal.invariant-loop-at
invariant-loop-at l = Globs (star ∷ l.fn.pattern) l.fn.text ↔ Globs (star ∷ l.pattern) l.text

abbrev pub decreases-loop-at : goal.decreases-loop-at
decreases-loop-at l = length l.pattern + length l.text
