-- How far the rounds of a run have come. Every list of entries has the newest first.
use Rattle.std.specs.Prelude.{◌≡◌, ℕ, ◌+◌, ◌-◌, ◌*◌, ◌<◌, ◌≤◌, ◌⊎◌, length, List, Option, None}
use Rattle.wx_external.specs.World.{WorldLists}
use Rattle.wx_machine.specs.declared.entries.Entry.{Entry}
use Rattle.wx_machine.specs.Words.{hosts}
use Rattle.wx_host_launch.specs.Records.{Writing, StarterState}
use Rattle.wx_host_slot.specs.Slots.{SlotState, host_limit}
use Rattle.wx_script.specs.declared.script.Command.{Command}
use Rattle.wx_script.specs.Ends.{AreIdle}
use Rattle.wx_endpoint.specs.Turn.{CursorState}
use Rattle.wx_run.specs.declared.outcome.RunEnd.{RunEnd}
use Rattle.wx_run.specs.declared.outcome.RunEnd.TheVariants as end
use Rattle.wx_run.specs.declared.rounds.Rounded.{Rounded}
use Rattle.wx_run.specs.declared.rounds.Rounded.TheVariants.{Moved, Idle, Spent}
use Rattle.wx_run.specs.Cursors.{first_spent_in, work_in}
use Rattle.wx_run.specs.Hosts.{NoneReady, HostTurns}
use Rattle.wx_run.specs.Slots.{HostsStand, AllWereStarted, WereStartedBelow, first_spent_slot, all_turns_left, keeping}
use Rattle.wx_run.specs.Rounds.{Turns, Round, Rounds, IsOver, IsCutShort}
use Rattle.wx_run.specs.Round.{AllStand, Follows, IsWithinLimit}
use Rattle.wx_run.specs.Run.{HasEnd}

-- Nobody is spent, and every host has its slot, and its program was started, or could not be: so a round leaves all
-- where another may begin.
pub record MayGoOn (cursors : List CursorState) (slots : List SlotState) (past : List Entry) : Type 0 where
  pub unspent : first_spent_in 0 cursors ≡ None
  pub hosts_unspent : first_spent_slot 0 slots ≡ None
  pub all : length slots ≡ length (hosts past)
  pub started : AllWereStarted slots

-- A round may begin: the endpoints and the hosts stand to the journal, nobody is spent, and every host has its slot.
pub record AreReady (writing : Option Writing) (world : WorldLists) (scripts : List (List Command))
    (cursors : List CursorState) (slots : List SlotState) (past : List Entry) : Type 0 where
  pub endpoints : AllStand world scripts cursors past
  pub hosts_stand : HostsStand writing world past slots
  pub unspent : first_spent_in 0 cursors ≡ None
  pub hosts_unspent : first_spent_slot 0 slots ≡ None
  pub all : length slots ≡ length (hosts past)

-- all endpoints made their turns, and then all hosts, of which those from number `known` on alone can fail to start
abbrev pub AllTurns : ℕ → List (List Command) → List Entry → List Entry → Type 0
AllTurns known scripts before after =
    (between : List Entry) × Turns scripts 0 before between × HostTurns known (length (hosts between)) between after

-- What a whole round comes to: all made their turns, and another round may begin; or that, and nobody can do anything;
-- or the round is cut short after the entry by which someone is spent, and so the run ends.
abbrev pub IsWholeRound : ℕ → List (List Command) → List CursorState → List SlotState → List Entry → List Entry
    → Rounded → Type 0
IsWholeRound known scripts cursors slots before after Moved = AllTurns known scripts before after
    × MayGoOn cursors slots after
IsWholeRound known scripts cursors slots before after Idle =
    (after ≡ before) × AreIdle scripts before × NoneReady before × MayGoOn cursors slots after
IsWholeRound known scripts cursors slots before after (Spent who) =
    IsCutShort known scripts before after × HasEnd scripts after (end.Spent who)

-- a round; or none, where no entry was made
abbrev pub RoundOrNone : ℕ → List (List Command) → List Entry → List Entry → Type 0
RoundOrNone known scripts before after = Round known scripts before after ⊎ (after ≡ before)

-- What the next round of a run comes to: another may begin; or the run is over; or the round is cut short after the
-- entry by which someone is spent, and so the run ends.
abbrev pub IsNextRound : ℕ → List (List Command) → List CursorState → List SlotState → List Entry → List Entry → Rounded
    → Type 0
IsNextRound known scripts cursors slots before after Moved =
    RoundOrNone known scripts before after × MayGoOn cursors slots after
IsNextRound known scripts cursors slots before after Idle = IsOver scripts before after
    × (first_spent_in 0 cursors ≡ None)
IsNextRound known scripts cursors slots before after (Spent who) =
    IsCutShort known scripts before after × HasEnd scripts after (end.Spent who)

-- More than as many turns as all may still make, where every host has its slot: an endpoint's turn may call a host,
-- which may make all of its turns.
abbrev pub turns_in : List CursorState → List SlotState → ℕ
turns_in cursors slots = (host_limit + 5) * work_in cursors + all_turns_left slots

-- where somebody did something, fewer turns are left
abbrev pub TurnsLessen : ℕ → ℕ → Rounded → Type 0
TurnsLessen old new Moved = new < old
TurnsLessen old new Idle = new ≡ old
TurnsLessen old new (Spent who) = Unit {0}

-- Slots were added alone, and for each the starter keeps a place.
pub record KeepsPlaces (old new : List SlotState) (before after : StarterState) : Type 0 where
  pub more : length old ≤ length new
  pub kept : after ≡ keeping (length new - length old) before

-- Rounds led from one past to another, and so the run ends.
pub record AreRounds (known : ℕ) (scripts : List (List Command)) (before after : List Entry) (end : RunEnd)
    : Type 0 where
  pub count : ℕ
  pub rounds : Rounds count known scripts before after
  pub follows : Follows scripts after
  pub within_limit : IsWithinLimit after
  pub ended : HasEnd scripts after end

-- Rounds led from one past to another so far: whatever rounds follow, they are rounds from the first. In the next one
-- the hosts from number `now` on alone can fail to start.
pub record RoundsSoFar (known : ℕ) (scripts : List (List Command)) (slots : List SlotState) (before after : List Entry)
    : Type 0 where
  pub now : ℕ
  pub started : WereStartedBelow now slots
  pub rounds : (m : ℕ) (last : List Entry) → Rounds m now scripts after last → (n : ℕ)
      × Rounds n known scripts before last
