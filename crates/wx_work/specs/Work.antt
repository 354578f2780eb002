-- Why the worker of an endpoint stops, and what became of its desk.
use Rattle.std.specs.Prelude.{◌≡◌, ◌<◌, Bool, true, false, List, ◌++◌, Option, Some}
use Rattle.wx_script.specs.Places.{left}
use Rattle.wx_script.specs.Ends.{entry_limit}
use Rattle.wx_desk.specs.History.{Seen}
use Rattle.wx_desk.specs.Desks.{ContextDeskState}
use Rattle.wx_endpoint.specs.Turn.{CursorState}
use Rattle.wx_work.specs.declared.work.WorkEnd.{WorkEnd}
use Rattle.wx_work.specs.declared.work.WorkEnd.TheVariants.{Ended, Spent, Stopped, NoMemory}

-- The cause of each end: what the desk last told of stopping, where the cursor stands, and how many entries it made.
-- No two of them hold at once, so each end comes exactly where its cause does.
abbrev pub IsWorkEnd : CursorState → Option Bool → WorkEnd → Type 0
IsWorkEnd cursor told Ended = (told ≡ Some false) × (cursor.place ≡ left)
IsWorkEnd cursor told Spent = (told ≡ Some false) × (cursor.place ≡ left → ⊥) × (cursor.made ≡ entry_limit)
IsWorkEnd cursor told Stopped = told ≡ Some true
IsWorkEnd cursor told NoMemory = (told ≡ Some false) × (cursor.place ≡ left → ⊥) × (cursor.made < entry_limit)

-- The same desk later: entries came in, its own and those of others, and none went.
pub record IsLater (old new : ContextDeskState) : Type 0 where
  pub came : List Seen
  pub seen : new.history ≡ came ++ old.history
  pub same_who : new.who ≡ old.who
  pub same_world : new.world ≡ old.world
  pub same_alone : new.alone ≡ old.alone
