use Rattle.wx_match_pattern.proofs.SchemeLemmas.{Agrees}
use Rattle.wx_match_pattern.proofs.reading.agreement.Given as goal

abbrev pub invariant-loop-i : goal.invariant-loop-i
invariant-loop-i l = Agrees l.text l.head l.i
