use Rattle.wx_turn_bench.proofs.ticketed.+fn-spread-join+arg2+fn-spread-join+arg3+spread.Given as goal

abbrev pub decreases-join+arg2 : goal.decreases-join+arg2
decreases-join+arg2 g l = l.most

abbrev pub decreases-join+arg3 : goal.decreases-join+arg3
decreases-join+arg3 g l = l.half

abbrev pub decreases-spread : goal.decreases-spread
decreases-spread g l = l.threads
