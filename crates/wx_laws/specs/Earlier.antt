-- A legal journal is legal at each of its entries.
use Rattle.std.specs.Prelude.{List, ◌++◌, reverse, ◌≡◌}
use Rattle.wx_external.specs.World.{WorldLists}
use Rattle.wx_machine.specs.declared.entries.Entry.{Entry}
use Rattle.wx_machine.specs.Words.{IsLegal}
use Rattle.wx_laws.specs.Legal.{IsLegalPast}

-- Of a legal journal, newest entry first, every tail is a legal past. So what a law says of an entry and a legal past
-- holds of each entry of the journal and those before it.
abbrev pub EarlierIsLegal : Type 0
EarlierIsLegal = (world : WorldLists) (journal later past : List Entry) → IsLegal world journal
    → reverse journal ≡ later ++ past → IsLegalPast world past
