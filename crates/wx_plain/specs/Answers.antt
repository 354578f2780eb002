-- What the commands answer: an output, or why their input is refused.
use Rattle.std.specs.Prelude.{◌≡◌, ℕ, List, Option, Result, Ok, Err}
use Rattle.wx_outside.specs.Shelf.{Files, Content, present, absent, too_large, Tells}
use Rattle.wx_journal_read.specs.declared.fault.JournalFault.{JournalFault}
use Rattle.wx_journal_read.specs.Faults.{IsFault}
use Rattle.wx_status.specs.declared.status.InputKind.{InputKind}
use Rattle.wx_status.specs.declared.status.InputKind.TheVariants as input
use Rattle.wx_words.specs.Words.{PlainCommand, matching, framing, reporting, helping, versioning}
use Rattle.wx_plain.specs.Output.{Output}
use Rattle.wx_plain.specs.About.{text_answer, help_text, version_text}
use Rattle.wx_plain.specs.Matching.{pattern_in, url_in, MatchAnswers}
use Rattle.wx_plain.specs.Framing.{IsFramesOutput}
use Rattle.wx_plain.specs.Reporting.{IsReportOutput}

-- what `frames` answers of the bytes of its file
abbrev pub FramesAnswers : List ℕ → Result Output InputKind → Type 0
FramesAnswers bytes answer = (output : Output) × (answer ≡ Ok output) × IsFramesOutput bytes output

-- what `report` answers: what the journal tells whose text the bytes are, or what is wrong with them
abbrev pub ReportAnswers : List ℕ → Result Output InputKind → Type 0
ReportAnswers bytes (Ok output) = IsReportOutput bytes output
ReportAnswers bytes (Err kind) = (fault : JournalFault) × (kind ≡ input.Journal fault) × IsFault bytes fault

-- what a command answers of what stands under its file's name, given what it answers of a file's bytes
abbrev pub FileAnswers : (List ℕ → Result Output InputKind → Type 0) → Content → Result Output InputKind → Type 0
FileAnswers OfBytes absent answer = answer ≡ Err input.Missing
FileAnswers OfBytes too_large answer = answer ≡ Err input.Large
FileAnswers OfBytes (present bytes) answer = OfBytes bytes answer

-- the same, as far as the shelf tells
abbrev pub ToldAnswers : (List ℕ → Result Output InputKind → Type 0) → Option Files → List ℕ → Result Output InputKind
    → Type 0
ToldAnswers OfBytes files file answer = (content : Content) × Tells files file content
    × FileAnswers OfBytes content answer

-- what a command answers, as far as the shelf tells
abbrev pub Answers : Option Files → PlainCommand → Result Output InputKind → Type 0
Answers files (matching pattern url) answer = MatchAnswers (pattern_in pattern) (url_in url) answer
Answers files (framing file) answer = ToldAnswers FramesAnswers files file answer
Answers files (reporting file) answer = ToldAnswers ReportAnswers files file answer
Answers files helping answer = answer ≡ text_answer help_text
Answers files versioning answer = answer ≡ text_answer version_text
