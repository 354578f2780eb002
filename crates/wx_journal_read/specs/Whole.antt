-- What is read as a journal.
use Rattle.std.specs.Prelude.{ℕ, ◌-◌, ◌==◌, List, length, Option, Some, None, Result, Ok, Err, if◌then◌else◌}
use Rattle.wx_machine.specs.declared.entries.Entry.{Entry}
use Rattle.wx_journal_read.specs.declared.fault.JournalFault.{JournalFault}
use Rattle.wx_journal_read.specs.declared.fault.JournalKind.TheVariants.{Head, Line}
use Rattle.wx_journal_read.specs.Reading.{behind}
use Rattle.wx_journal_read.specs.Faults.{head}
use Rattle.wx_journal_read.specs.Grammar.{entries_at}

abbrev pub ended : ℕ → List Entry × List ℕ → Result (List Entry) JournalFault
ended all run = if length run.1 == 0 then Ok run.0 else Err (record { place = all - length run.1; kind = Line })

abbrev pub headed : ℕ → Option (List ℕ) → Result (List Entry) JournalFault
headed all None = Err (record { place = 0; kind = Head })
headed all (Some rest) = ended all (entries_at (length rest) rest)

unfoldable pub journal_at : List ℕ → Result (List Entry) JournalFault
journal_at bytes = headed (length bytes) (behind head bytes)
