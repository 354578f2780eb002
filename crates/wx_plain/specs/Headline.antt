-- What a call for a command that makes no run answers, and why.
use Rattle.std.specs.Prelude.{◌≡◌, ℕ, List, Option, Some, None, Result, Ok, Err}
use Rattle.wx_status.specs.declared.status.Status.{Status}
use Rattle.wx_status.specs.declared.status.InputKind.{InputKind}
use Rattle.wx_status.specs.Changes.{ShelfChange, SinkChange, HasReadFailed}
use Rattle.wx_words.specs.Words.{PlainCommand, matching, framing, reporting, helping, versioning, plain_command_of}
use Rattle.wx_plain.specs.Output.{Output}
use Rattle.wx_plain.specs.Answers.{Answers}
use Rattle.wx_plain.specs.Verdict.{Verdict, usage, read_fault, refused, no_memory, answered}
use Rattle.wx_plain.specs.Told.{Told}

-- the file that a command reads
abbrev pub file_of : PlainCommand → Option (List ℕ)
file_of (matching pattern url) = None
file_of (framing file) = Some file
file_of (reporting file) = Some file
file_of helping = None
file_of versioning = None

-- The words ask for a command that reads this file, and a read failed in the call.
pub record ReadFailed (words : List (List ℕ)) (shelf : ShelfChange) (file : List ℕ) : Type 0 where
  pub command : PlainCommand
  pub asked : plain_command_of words ≡ Some command
  pub reads : file_of command ≡ Some file
  pub failed : HasReadFailed shelf

-- The words ask for a command, and this is what it answers, as far as the shelf tells.
pub record Answered (words : List (List ℕ)) (shelf : ShelfChange) (answer : Result Output InputKind) : Type 0 where
  pub command : PlainCommand
  pub asked : plain_command_of words ≡ Some command
  pub answers : Answers shelf.before.files command answer

-- the cause of each verdict, of which want of memory alone has none
abbrev pub Judged : List (List ℕ) → ShelfChange → Verdict → Type 0
Judged words shelf usage = plain_command_of words ≡ None
Judged words shelf (read_fault file) = ReadFailed words shelf file
Judged words shelf (refused kind) = Answered words shelf (Err kind)
Judged words shelf no_memory = Unit {0}
Judged words shelf (answered output) = Answered words shelf (Ok output)

-- The call has a verdict, which has its cause, and tells it.
pub record PlainHeadline (words : List (List ℕ)) (shelf : ShelfChange) (out err : SinkChange) (result : Status)
    : Type 0 where
  pub verdict : Verdict
  pub judged : Judged words shelf verdict
  pub told : Told verdict out err result
