-- Where nothing is wrong, a command's output decides its status.
use Rattle.std.specs.Prelude.{◌≡◌, ◌⊎◌, ℕ, List, Option, Some, Ok}
use Rattle.wx_outside.specs.Shelf.{Files}
use Rattle.wx_status.specs.declared.status.Status.{Status}
use Rattle.wx_status.specs.declared.status.Status.TheVariants.{NoMemory}
use Rattle.wx_status.specs.Changes.{ShelfChange, SinkChange, HasFailed, HasReadFailed}
use Rattle.wx_words.specs.Words.{PlainCommand, matching, framing, reporting, helping, versioning, plain_command_of}
use Rattle.wx_plain.specs.Output.{Output, answer_status}
use Rattle.wx_plain.specs.Answers.{Answers}

-- the command reads nothing, or the shelf tells its files
abbrev pub IsToldTo : PlainCommand → Option Files → Type 0
IsToldTo (matching pattern url) told = Unit {0}
IsToldTo (framing file) told = (files : Files) × (told ≡ Some files)
IsToldTo (reporting file) told = (files : Files) × (told ≡ Some files)
IsToldTo helping told = Unit {0}
IsToldTo versioning told = Unit {0}

-- The words ask for a command, this is its output by what the shelf tells, and nothing failed in the call.
pub record NothingIsWrong (words : List (List ℕ)) (shelf : ShelfChange) (out err : SinkChange) (output : Output)
    : Type 0 where
  pub command : PlainCommand
  pub asked : plain_command_of words ≡ Some command
  pub told : IsToldTo command shelf.before.files
  pub answers : Answers shelf.before.files command (Ok output)
  pub shelf_sound : HasReadFailed shelf → ⊥
  pub out_sound : HasFailed out → ⊥
  pub err_sound : HasFailed err → ⊥

-- Then the answer is Done or No, as the output says, unless memory was refused.
abbrev pub IsPlainComplete : List (List ℕ) → ShelfChange → SinkChange → SinkChange → Status → Type 0
IsPlainComplete words shelf out err result =
    (output : Output) → NothingIsWrong words shelf out err output → (result ≡ answer_status output.yes)
    ⊎ (result ≡ NoMemory)
