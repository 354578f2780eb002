-- What is known of an answer is known of its verdict.
use Rattle.std.proofs.Common.{◌≡◌, ℕ, List, Result, Ok, Err, subst, sym}
use Rattle.wx_status.specs.declared.status.InputKind.{InputKind}
use Rattle.wx_status.specs.Changes.{ShelfChange}
use Rattle.wx_outside.specs.Shelf.{Content, Tells}
use Rattle.wx_plain.specs.declared.verdict.Output as output
use Rattle.wx_plain.specs.declared.verdict.Refusal.{Refusal}
use Rattle.wx_plain.specs.declared.verdict.Refusal.TheVariants as refusal
use Rattle.wx_plain.specs.Output.{Output}
use Rattle.wx_plain.specs.declared.top.Asked.{Asked}
use Rattle.wx_plain.specs.Answers.{FileAnswers}
use Rattle.wx_plain.specs.View.{Says, verdict_in}
use Rattle.wx_plain.specs.Verdict.{Verdict, usage, read_fault, refused, no_memory, answered}
use Rattle.wx_plain.specs.Judging.{ComesTo, BytesAnswers, FileJudged}

says_verdict : (Fact : Result Output InputKind → Type 0) (answer : Result output.Output Refusal) → Says Fact answer → ComesTo Fact (verdict_in answer)
says_verdict Fact (Ok o) h = h
says_verdict Fact (Err (refusal.Input kind)) h = h
says_verdict Fact (Err refusal.NoMemory) h = h

pub comes_to : (Fact : Result Output InputKind → Type 0) (answer : Result output.Output Refusal) (verdict : Verdict) → verdict ≡ verdict_in answer → Says Fact answer → ComesTo Fact verdict
comes_to Fact answer verdict is h = subst (λ (v : Verdict). ComesTo Fact v) (sym is) (says_verdict Fact answer h)

-- what stands under the file's name was read
pub file_judged : (what : Asked) (file : List ℕ) (shelf : ShelfChange) (content : Content) (verdict : Verdict) → Tells shelf.before.files file content → ComesTo (FileAnswers (BytesAnswers what) content) verdict → FileJudged what file shelf verdict
file_judged what file shelf content (answered o) tells h = (content, tells, h)
file_judged what file shelf content (refused kind) tells h = (content, tells, h)
file_judged what file shelf content no_memory tells h = h
file_judged what file shelf content usage tells h = absurd h
file_judged what file shelf content (read_fault name) tells h = absurd h
