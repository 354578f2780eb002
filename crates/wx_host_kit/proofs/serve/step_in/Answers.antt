use Rattle.std.proofs.Common.{ap, ◌∙◌}
use Rattle.wx_host_kit.proofs.ServeLemmas.{frame_of, some_used, serves_on, over_at_reply}
use Rattle.wx_host_kit.proofs.serve.step_in.Goals as goal

pub returns-in-Some-answer-clause-came : goal.returns-in-Some-answer-clause-came
returns-in-Some-answer-clause-came g c = λ bytes before serving old new.
    let f = frame_of c.args.reader.now c.args.piece.now c.in-Some.text c.step.new.self.bytes c.in-Ok.field-0.used c.in-Ok.field-0.frame c.requires.limit c.in-Some.is c.in-Ok.ensures.frame in
    over_at_reply _ bytes c.args.reader.now.bytes c.args.piece.now c.in-Some.text c.in-Ok.field-0.used old new before _ _ c.in-Some-answer.end serving f.0 c.in-Some-answer.ensures.replied

pub returns-in_default-clause-goes : goal.returns-in_default-clause-goes
returns-in_default-clause-goes g c =
    let f = frame_of c.args.reader.now c.args.piece.now c.in-Some.text c.step.new.self.bytes c.in-Ok.field-0.used c.in-Ok.field-0.frame c.requires.limit c.in-Some.is c.in-Ok.ensures.frame in
    (some_used c.args.reader.now.bytes c.args.piece.now c.in-Some.text c.in-Ok.field-0.used c.requires.under_way f.0, f.0.inside, ap (λ r. r.bytes) c.take_back.ensures ∙ f.1)

pub returns-in_default-clause-came : goal.returns-in_default-clause-came
returns-in_default-clause-came g c = λ bytes before serving.
    let f = frame_of c.args.reader.now c.args.piece.now c.in-Some.text c.step.new.self.bytes c.in-Ok.field-0.used c.in-Ok.field-0.frame c.requires.limit c.in-Some.is c.in-Ok.ensures.frame in
    serves_on _ bytes c.args.reader.now.bytes c.args.piece.now c.in-Some.text c.in-Ok.field-0.used before _ _ serving f.0 c.in_default.ensures.replied c.answer.ensures.later
