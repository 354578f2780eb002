-- How the slots of a run's hosts stand to the journal. Every list of entries has the newest first.
use Rattle.std.specs.Prelude.{◌≡◌, ℕ, ◌+◌, ◌≤◌, length, take, List, [], ◌∷◌, ◌++◌, Bool, true, false, not, Option}
use Rattle.std.specs.List.{All, position_from, sum_by}
use Rattle.std.specs.Option.{option_map}
use Rattle.wx_id.specs.declared.numbers.HostNo.{HostNo}
use Rattle.wx_external.specs.World.{WorldLists}
use Rattle.wx_machine.specs.declared.entries.Entry.{Entry}
use Rattle.wx_machine.specs.Words.{hosts}
use Rattle.wx_host_launch.specs.Records.{Writing, StarterState, taking_over}
use Rattle.wx_host_slot.specs.Journals.{entries_of}
use Rattle.wx_host_slot.specs.Slots.{SlotState, Stands, WasStarted, closing_starter, is_spent_at, turns_left}
use Rattle.wx_host_slot.specs.declared.slot.Served.{Served}
use Rattle.wx_host_slot.specs.declared.slot.Served.TheVariants.{Moved, Rested}
use Rattle.wx_run.specs.Hosts.{host_numbered, AreHostsWithin}

-- each of these slots, of hosts numbered from n, stands to the journal
abbrev pub SlotsStand : Option Writing → WorldLists → List Entry → ℕ → List SlotState → Type 0
SlotsStand writing world past n [] = Unit {0}
SlotsStand writing world past n (slot ∷ slots) =
    Stands writing world past (host_numbered n) slot × SlotsStand writing world past (n + 1) slots

-- Every host has its slot, but those that were called since slots were last added, which have made no entry.
pub record HostsStand (writing : Option Writing) (world : WorldLists) (past : List Entry) (slots : List SlotState)
    : Type 0 where
  pub stand : SlotsStand writing world past 0 slots
  pub below : length slots ≤ length (hosts past)
  pub none_beyond : (h : HostNo) → length slots ≤ h.0 → entries_of h past ≡ 0
  pub within_limit : AreHostsWithin past

-- the program of each slot's host was started, or could not be
abbrev pub AllWereStarted : List SlotState → Type 0
AllWereStarted slots = All WasStarted slots

-- the same of so many slots, the first
abbrev pub WereStartedBelow : ℕ → List SlotState → Type 0
WereStartedBelow known slots = (known ≤ length slots) × AllWereStarted (take known slots)

-- the first of these slots, numbered from n, whose host is spent
abbrev pub first_spent_slot : ℕ → List SlotState → Option HostNo
first_spent_slot n slots = option_map host_numbered (position_from is_spent_at n slots)

-- the place of the first of these slots, numbered from n, whose host has not ended
abbrev pub first_unended_slot : ℕ → List SlotState → Option ℕ
first_unended_slot n slots = position_from (λ (slot : SlotState). not slot.ended) n slots

-- more than as many turns as the hosts of these slots may still make
abbrev pub all_turns_left : List SlotState → ℕ
all_turns_left slots = sum_by turns_left slots

-- slots were added behind the old ones
abbrev pub AddsBehind : List SlotState → List SlotState → Type 0
AddsBehind old new = (more : List SlotState) × (new ≡ old ++ more)

-- a starter that keeps so many places more
abbrev pub keeping : ℕ → StarterState → StarterState
keeping n starter = record starter { places = starter.places + n }

-- a starter that took over the starters of these slots, one after the other
abbrev pub absorbing : StarterState → List SlotState → StarterState
absorbing starter [] = starter
absorbing starter (slot ∷ slots) = absorbing (taking_over starter (closing_starter slot)) slots

-- the host made an entry, or its program was started
abbrev pub is_moved : Served → Bool
is_moved Moved = true
is_moved Rested = false
