use Rattle.wx_match_pattern.proofs.GlobLemmas.{RunsFrom}
use Rattle.wx_match_pattern.proofs.glob.run_at_front.Given as goal

abbrev pub invariant-loop-i : goal.invariant-loop-i
invariant-loop-i l = RunsFrom l.pattern l.text l.i
