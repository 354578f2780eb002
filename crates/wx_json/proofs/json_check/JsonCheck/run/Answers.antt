use Rattle.std.proofs.Common.{arith}
use Rattle.wx_json.proofs.Laws.{run-joined}
use Rattle.wx_json.proofs.json_check.JsonCheck.run.Goals as goal

pub loop-at-preserved : goal.loop-at-preserved
loop-at-preserved c =
    let part = c.part-at in (
      run-joined c.args.self.now c.loop-at.self part.new.self c.args.piece.now c.loop-at.at part.result (omega (arith, part.ensures.moves.0)) c.loop-at.invariant.0 part.ensures.value,
      omega (arith, c.loop-at.invariant.1, part.ensures.count),
      part.ensures.moves.1,
    )
