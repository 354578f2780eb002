use Rattle.std.proofs.Common.{◌∙◌, arith}
use Rattle.std.proofs.lemmas.Result.{err_from_is_err_and}
use Rattle.wx_world.proofs.FileLemmas.{goes_on, stops}
use Rattle.wx_world.proofs.reading.read_world.Goals as goal

pub returns-in_err-add_file-clause-err : goal.returns-in_err-add_file-clause-err
returns-in_err-add_file-clause-err g c =
    let p = err_from_is_err_and c.from_residual.result c.from_residual.ensures.1 in
    let loop = c.loop-n.invariant in
    rw (p.1, p.2) (stops _ _ _ _ _ _ _ c.files-file-items.ensures c.loop-n-test.true loop.unchanged loop.so_far _ _ _ _ loop.later c.in_err-add_file.ensures.err)

pub loop-n-preserved : goal.loop-n-preserved
loop-n-preserved g c =
    let loop = c.loop-n.invariant in
    let added = c.in_ok-add_file.ensures in
    record {
      unchanged = added.unchanged ∙ loop.unchanged;
      later = omega (arith, loop.later, added.later);
      so_far = goes_on _ _ _ _ _ _ _ c.files-file-items.ensures c.loop-n-test.true loop.unchanged loop.so_far _ added.ok;
    }
