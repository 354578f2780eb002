-- What contracts see of a journal.
use Rattle.std.specs.Prelude.{◌≡◌, ℕ, List}
use Rattle.wx_machine.specs.declared.entries.Entry.{Entry}
use Rattle.wx_journal_read.specs.Fits.{JournalFits}
use Rattle.wx_journal_text.specs.Text.{journal_text}

-- the entries, oldest first, and how many more have room
pub record JournalState : Type 0 where
  pub entries : List Entry
  pub spare : ℕ

-- each journal with this text, whose numbers lie within their types and whose texts are of their sorts, is this one
abbrev pub IsTextOfNoOther : List ℕ → List Entry → Type 0
IsTextOfNoOther text journal = (other : List Entry) → JournalFits other → text ≡ journal_text other → other ≡ journal
