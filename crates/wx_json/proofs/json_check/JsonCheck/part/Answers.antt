use Rattle.std.proofs.Common.{◌∙◌, ◌-◌, take, drop, length}
use Rattle.wx_json.proofs.Parts.{one_more, stays}
use Rattle.wx_json.proofs.json_check.JsonCheck.part.Goals as goal

pub returns-in-Err-clause-value : goal.returns-in-Err-clause-value
returns-in-Err-clause-value c = stays c.args.self.now c.in-Err.field-0 (take (length c.args.piece.now - c.args.from) (drop c.args.from c.args.piece.now)) c.in-Err.ensures

pub returns-then-stop-piece-clause-value : goal.returns-then-stop-piece-clause-value
returns-then-stop-piece-clause-value c =
    let go = c.glide-stop in
    one_more c.args.self.now go.new.self c.perform.new.self c.args.piece.now c.args.from go.result.at go.ensures.bounds.0 c.if-stop-piece.true go.ensures.value (c.perform.ensures ∙ go.ensures.next c.if-stop-piece.true)
