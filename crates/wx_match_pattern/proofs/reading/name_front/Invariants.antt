use Rattle.wx_match_pattern.proofs.NameLemmas.{Reads}
use Rattle.wx_match_pattern.proofs.reading.name_front.Given as goal

abbrev pub invariant-loop-i : goal.invariant-loop-i
invariant-loop-i l = Reads l.bytes l.i l.inside
