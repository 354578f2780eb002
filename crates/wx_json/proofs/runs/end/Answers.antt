use Rattle.std.proofs.Common.{sym, ap, ◌∙◌, arith}
use lib.Count.{count_trailing_zeros}
use Rattle.wx_json.proofs.MaskedRuns.{run_bound, run_through, run_stops, block}
use Rattle.wx_json.proofs.runs.end.Goals as goal

pub returns-then-found-ne0-clause-value : goal.returns-then-found-ne0-clause-value
returns-then-found-ne0-clause-value g c =
    let q = g.R.Run.passes in
    let found = c.stops-found.ensures ∙ block q c.args.text.now c.loop-i.i g.R.Run.size in
    let run = run_stops q c.args.text.now c.loop-i.i g.R.Run.size (omega arith) (omega arith) (omega (arith, found)) ∙ ap (count_trailing_zeros 64) (sym found) in
    omega (arith, run, c.loop-i.invariant.0)

pub returns-then-found-ne0-clause-bound : goal.returns-then-found-ne0-clause-bound
returns-then-found-ne0-clause-bound g c =
    omega (arith, returns-then-found-ne0-clause-value g c, run_bound g.R.Run.passes c.args.text.now c.args.from c.requires)

pub loop-i-preserved : goal.loop-i-preserved
loop-i-preserved g c =
    let q = g.R.Run.passes in
    let size = c.size-i.ensures.size in
    let found = c.stops-found.ensures ∙ block q c.args.text.now c.loop-i.i g.R.Run.size in
    let run = run_through q c.args.text.now c.loop-i.i g.R.Run.size (omega arith) (omega (arith, found)) in
    rw size (omega (arith, run, c.loop-i.invariant.0), omega arith)

pub returns-clause-bound : goal.returns-clause-bound
returns-clause-bound g c = omega (arith, c.end_slowly.ensures, run_bound g.R.Run.passes c.args.text.now c.loop-i.i c.loop-i.invariant.1)
