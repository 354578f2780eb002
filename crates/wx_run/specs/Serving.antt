-- What the hosts' part of a round comes to. Every list of entries has the newest first.
use Rattle.std.specs.Prelude.{◌≡◌, ℕ, ◌<◌, ◌≤◌, length, List, ◌∷◌, Some, None}
use Rattle.wx_id.specs.declared.numbers.HostNo.{HostNo}
use Rattle.wx_machine.specs.declared.entries.Entry.{Entry}
use Rattle.wx_machine.specs.Words.{hosts}
use Rattle.wx_script.specs.declared.scene.SpentWho.TheVariants.{Endpoint, Host}
use Rattle.wx_host_slot.specs.Slots.{SlotState}
use Rattle.wx_host_slot.specs.Turns.{HostTurn, SaysOrEnds}
use Rattle.wx_run.specs.declared.rounds.Rounded.{Rounded}
use Rattle.wx_run.specs.declared.rounds.Rounded.TheVariants.{Moved, Idle, Spent}
use Rattle.wx_run.specs.Hosts.{host_numbered, HaveEnded, IsFirstUnended, NoneReady, HostTurns, spent_host}
use Rattle.wx_run.specs.Slots.{AllWereStarted, first_spent_slot, all_turns_left}

-- One entry was made, by which host h is spent; before it no host is.
pub record SpendsHost (h : HostNo) (before after : List Entry) : Type 0 where
  pub last : Entry
  pub made : after ≡ last ∷ before
  pub unspent : spent_host before ≡ None
  pub spent : spent_host after ≡ Some h

-- Every host made its turn, none is spent, and every program was started, or could not be: fewer turns are left, since
-- an entry was made or a program started; or no host could do anything. Or the turns end with the entry by which a
-- host is spent. In these turns no host below number `known` failed to start.
abbrev pub HostsServed : ℕ → List Entry → List Entry → List SlotState → List SlotState → Rounded → Type 0
HostsServed known before after old new Moved =
    HostTurns known (length (hosts before)) before after × (first_spent_slot 0 new ≡ None) × AllWereStarted new
    × (all_turns_left new < all_turns_left old)
HostsServed known before after old new Idle =
    (after ≡ before) × NoneReady before × AllWereStarted new × (first_spent_slot 0 new ≡ None) × (new ≡ old)
HostsServed known before after old new (Spent (Endpoint n)) = ⊥
HostsServed known before after old new (Spent (Host h)) =
    (n : ℕ) × (past : List Entry) × (n < length (hosts before)) × HostTurns known n before past
    × HostTurn (known ≤ n) (host_numbered n) past after × SpendsHost h past after

-- The first host that has not ended said a text or ended: then no host is spent, and every program was started, or
-- could not be; or by that entry a host is spent. Or every host has ended.
abbrev pub FirstHeard : List Entry → List Entry → List SlotState → List SlotState → Rounded → Type 0
FirstHeard before after old new Moved =
    ((h : HostNo) × IsFirstUnended before h × SaysOrEnds h before after) × (first_spent_slot 0 new ≡ None)
    × AllWereStarted new × (all_turns_left new < all_turns_left old)
FirstHeard before after old new Idle = (after ≡ before) × HaveEnded before × (new ≡ old)
FirstHeard before after old new (Spent (Endpoint n)) = ⊥
FirstHeard before after old new (Spent (Host g)) =
    ((h : HostNo) × IsFirstUnended before h × SaysOrEnds h before after) × SpendsHost g before after
