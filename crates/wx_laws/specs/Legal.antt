-- Legal pasts, which the laws speak of.
use Rattle.std.specs.Prelude.{List}
use Rattle.wx_external.specs.World.{WorldLists}
use Rattle.wx_machine.specs.declared.entries.Entry.{Entry}
use Rattle.wx_machine.specs.Words.{EachAfter, FollowsMachine}

-- A past, newest entry first, in which each entry follows the machine. A journal is legal exactly where its reverse is
-- a legal past.
abbrev pub IsLegalPast : WorldLists → List Entry → Type 0
IsLegalPast world past = EachAfter (FollowsMachine world) past
