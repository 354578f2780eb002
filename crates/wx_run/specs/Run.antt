-- What a run of a scene leaves.
use Rattle.std.specs.Prelude.{◌≡◌, ℕ, ◌≤◌, List, ◌++◌, reverse, Some, None}
use Rattle.wx_id.specs.declared.numbers.ContextNo.{ContextNo}
use Rattle.wx_external.specs.World.{WorldLists}
use Rattle.wx_machine.specs.declared.entries.Entry.{Entry}
use Rattle.wx_machine.specs.Words.{IsLegal}
use Rattle.wx_laws.specs.Keeping.{KeepsLaws}
use Rattle.wx_script.specs.declared.script.Command.{Command}
use Rattle.wx_script.specs.SceneValue.{SceneValue, scripts_of}
use Rattle.wx_script.specs.Carries.{CarriesOut}
use Rattle.wx_script.specs.Ends.{IsDone, IsStalled, spent_of, entries_by, entry_limit}
use Rattle.wx_run.specs.declared.outcome.RunEnd.{RunEnd}
use Rattle.wx_run.specs.declared.outcome.RunEnd.TheVariants.{Done, Stalled, Spent}
use Rattle.wx_script.specs.declared.scene.SpentWho.TheVariants.{Endpoint, Host}
use Rattle.wx_run.specs.Opening.{opening}
use Rattle.wx_run.specs.Rounds.{Rounds}
use Rattle.wx_run.specs.Hosts.{HaveEnded, spent_host, AreHostsWithin}

-- the journal begins with these entries
abbrev pub BeginsWith : List Entry → List Entry → Type 0
BeginsWith front journal = (others : List Entry) × (journal ≡ front ++ others)

-- the run has this end, the newest entry standing first; a run is done or stalled only where every host has ended
abbrev pub HasEnd : List (List Command) → List Entry → RunEnd → Type 0
HasEnd scripts past Done = IsDone scripts past × HaveEnded past
HasEnd scripts past Stalled = IsStalled scripts past × HaveEnded past
HasEnd scripts past (Spent (Endpoint n)) = spent_of scripts past ≡ Some n
HasEnd scripts past (Spent (Host h)) = (spent_of scripts past ≡ None) × (spent_host past ≡ Some h)

-- The entries after the opening fall into rounds, so many whole ones. No host was called in the opening, so of the
-- hosts those alone can fail to start that were called in the same round.
pub record IsInRounds (scene : SceneValue) (journal : List Entry) : Type 0 where
  pub count : ℕ
  pub in_rounds : Rounds count 0 (scripts_of scene) (reverse (opening scene)) (reverse journal)

-- A journal that a run of the scene leaves, and how it ends.
pub record IsRunOf (world : WorldLists) (scene : SceneValue) (journal : List Entry) (end : RunEnd) : Type 0 where
  -- every answer is the machine's after the entries before it
  pub legal : IsLegal world journal
  -- and so the laws of messaging hold in it
  pub laws : KeepsLaws world journal
  -- each entry of a context is an endpoint's, and what its script asks for at its place
  pub carries_out : CarriesOut (scripts_of scene) journal
  -- it begins with the opening
  pub begins : BeginsWith (opening scene) journal
  -- no endpoint makes more entries than it may
  pub within_limit : (c : ContextNo) → entries_by c (reverse journal) ≤ entry_limit
  -- nor does a host
  pub hosts_within_limit : AreHostsWithin (reverse journal)
  -- and it ends so
  pub ended : HasEnd (scripts_of scene) (reverse journal) end

-- A run has one end: of the three no two hold of one journal.
abbrev pub HasOneEnd : List (List Command) → List Entry → Type 0
HasOneEnd scripts past = (one other : RunEnd) → HasEnd scripts past one → HasEnd scripts past other → one ≡ other
