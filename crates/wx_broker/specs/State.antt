-- What contracts see of a broker.
use Rattle.std.specs.Prelude.{ℕ, List}
use Rattle.wx_machine.specs.declared.entries.Entry.{Entry}
use Rattle.wx_external.specs.World.{WorldLists}

-- the world that it was made with, its journal with the oldest entry first, and how many more entries have room
pub record BrokerState : Type 0 where
  pub world : WorldLists
  pub entries : List Entry
  pub spare : ℕ
