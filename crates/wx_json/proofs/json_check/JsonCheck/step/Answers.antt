use Rattle.wx_json.proofs.Laws.{Stands-advances, step_answer}
use Rattle.wx_json.proofs.json_check.JsonCheck.step.Goals as goal

pub returns-clause-stands : goal.returns-clause-stands
returns-clause-stands c = λ b h. rw c.run.ensures.value (Stands-advances c.args.self.now b c.args.piece.now h)

pub returns-clause-answer : goal.returns-clause-answer
returns-clause-answer c = λ b h. step_answer c.args.self.now c.run.new.self b c.args.piece.now c.answer.result h c.run.ensures.value c.answer.ensures
