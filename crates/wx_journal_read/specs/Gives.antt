-- What a function returned is what reading gives, unless memory ran out.
use Rattle.std.specs.Prelude.{◌≡◌, List, Option, Some, None, Result, Ok, Err}
use Rattle.wx_machine.specs.declared.entries.Entry.{Entry}
use Rattle.wx_journal_read.specs.declared.fault.Fault.{Fault}
use Rattle.wx_journal_read.specs.declared.fault.Fault.TheVariants as faults
use Rattle.wx_journal_read.specs.declared.fault.JournalFault.{JournalFault}
use Rattle.wx_journal_read.specs.declared.fault.JournalReadFault.{JournalReadFault}
use Rattle.wx_journal_read.specs.declared.fault.JournalReadFault.TheVariants as reads

abbrev pub Fails : {Y : Type 0} → Fault → Option Y → Type 0
Fails faults.NoMemory read = Unit {0}
Fails faults.Bad read = read ≡ None

-- of a part: the value is seen by `view`
abbrev pub Gives : {X Y : Type 0} → (X → Y) → Result X Fault → Option Y → Type 0
Gives view (Ok x) read = read ≡ Some (view x)
Gives view (Err e) read = Fails e read

-- of a whole journal: its entries are seen by `view`
abbrev pub GivesWhole : {X : Type 0} → (X → List Entry) → Result X JournalReadFault → Result (List Entry) JournalFault
    → Type 0
GivesWhole view (Ok journal) read = read ≡ Ok (view journal)
GivesWhole view (Err (reads.Bad fault)) read = read ≡ Err fault
GivesWhole view (Err reads.NoMemory) read = Unit {0}

-- what holds of the fault that was answered
abbrev pub IfBad : {X : Type 0} → Result X JournalReadFault → (JournalFault → Type 0) → Type 0
IfBad (Ok journal) P = Unit {0}
IfBad (Err (reads.Bad fault)) P = P fault
IfBad (Err reads.NoMemory) P = Unit {0}
