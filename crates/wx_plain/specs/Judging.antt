-- What an answer comes to as a verdict.
use Rattle.std.specs.Prelude.{◌≡◌, ℕ, List, Result, Ok, Err}
use Rattle.wx_status.specs.declared.status.InputKind.{InputKind}
use Rattle.wx_status.specs.Changes.{ShelfChange, HasReadFailed}
use Rattle.wx_plain.specs.Output.{Output}
use Rattle.wx_plain.specs.declared.top.Asked.{Asked}
use Rattle.wx_plain.specs.declared.top.Asked.TheVariants as asked
use Rattle.wx_plain.specs.Answers.{FramesAnswers, ReportAnswers, ToldAnswers}
use Rattle.wx_plain.specs.Verdict.{Verdict, usage, read_fault, refused, no_memory, answered}

-- to an output or a refusal of which the fact holds, or to want of memory
abbrev pub ComesTo : (Result Output InputKind → Type 0) → Verdict → Type 0
ComesTo Fact (answered output) = Fact (Ok output)
ComesTo Fact (refused kind) = Fact (Err kind)
ComesTo Fact no_memory = Unit {0}
ComesTo Fact usage = ⊥
ComesTo Fact (read_fault file) = ⊥

-- what is answered of the bytes of a file, by what is asked of it
abbrev pub BytesAnswers : Asked → List ℕ → Result Output InputKind → Type 0
BytesAnswers asked.Frames = FramesAnswers
BytesAnswers asked.Report = ReportAnswers

-- a file, as far as the shelf tells, comes to an output, a refusal or want of memory; or a read failed
abbrev pub FileJudged : Asked → List ℕ → ShelfChange → Verdict → Type 0
FileJudged what file shelf (answered output) = ToldAnswers (BytesAnswers what) shelf.before.files file (Ok output)
FileJudged what file shelf (refused kind) = ToldAnswers (BytesAnswers what) shelf.before.files file (Err kind)
FileJudged what file shelf no_memory = Unit {0}
FileJudged what file shelf usage = ⊥
FileJudged what file shelf (read_fault name) = (name ≡ file) × HasReadFailed shelf
