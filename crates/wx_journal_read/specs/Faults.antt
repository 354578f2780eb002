-- What is wrong with bytes that are no journal's text.
use Rattle.std.specs.Prelude.{◌≡◌, ℕ, ◌<◌, ◌≤◌, List, ◌++◌, length, codes}
use Rattle.wx_machine.specs.declared.entries.Entry.{Entry}
use Rattle.wx_journal_text.specs.Text.{journal_text}
use Rattle.wx_journal_read.specs.declared.fault.JournalFault.{JournalFault}
use Rattle.wx_journal_read.specs.declared.fault.JournalKind.{JournalKind}
use Rattle.wx_journal_read.specs.declared.fault.JournalKind.TheVariants.{Head, Line}
use Rattle.wx_journal_read.specs.Fits.{JournalFits}

-- the head line
abbrev pub head : List ℕ
head = codes "wx journal 1 chrome\n"

-- the journal has the longest run of whole entry lines after the head line, and something stands after it
pub record IsLongest (bytes : List ℕ) (journal : List Entry) (rest : List ℕ) : Type 0 where
  pub fits : JournalFits journal
  pub whole : bytes ≡ journal_text journal ++ rest
  pub behind_it : 0 < length rest
  pub longest : (other : List Entry) (more : List ℕ) → JournalFits other → bytes ≡ journal_text other ++ more
      → length (journal_text other) ≤ length (journal_text journal)

pub record IsLineFault (bytes : List ℕ) (place : ℕ) : Type 0 where
  pub journal : List Entry
  pub rest : List ℕ
  pub is_longest : IsLongest bytes journal rest
  pub place_is : place ≡ length (journal_text journal)

-- `Head` at 0: the text does not begin with the head line. `Line`: what follows the head line is no run of entry
-- lines, and the place is where the longest run ends
abbrev pub IsFaultOf : List ℕ → ℕ → JournalKind → Type 0
IsFaultOf bytes place Head = (place ≡ 0) × ((rest : List ℕ) → bytes ≡ head ++ rest → ⊥)
IsFaultOf bytes place Line = IsLineFault bytes place

abbrev pub IsFault : List ℕ → JournalFault → Type 0
IsFault bytes f = IsFaultOf bytes f.place f.kind
