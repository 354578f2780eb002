-- The order in which endpoints and hosts make their entries. Every list of entries here has the newest first.
use Rattle.std.specs.Prelude.{◌≡◌, ℕ, zero, suc, ◌+◌, ◌≤◌, ◌⊎◌, length, List, [], ◌∷◌, take, true, Some}
use Rattle.wx_id.specs.declared.numbers.ContextNo.{ContextNo}
use Rattle.wx_id.specs.declared.numbers.HostNo.{HostNo}
use Rattle.wx_machine.specs.declared.entries.Who.TheVariants.{Context as ByContext}
use Rattle.wx_machine.specs.declared.entries.Entry.{Entry}
use Rattle.wx_machine.specs.Words.{hosts}
use Rattle.wx_script.specs.declared.script.Command.{Command}
use Rattle.wx_script.specs.Places.{next_of}
use Rattle.wx_script.specs.Ends.{is_idle, AreIdle, spent_of}
use Rattle.wx_host_slot.specs.Turns.{SaysOrEnds}
use Rattle.wx_run.specs.Hosts.{HaveEnded, IsFirstUnended, NoneReady, HostTurns, spent_host}

-- context c made one entry
pub record MadeOne (c : ContextNo) (before after : List Entry) : Type 0 where
  pub entry : Entry
  pub own : entry.who ≡ ByContext c
  pub made : after ≡ entry ∷ before

-- context c can do nothing, and made none
pub record MadeNone (script : List Command) (c : ContextNo) (before after : List Entry) : Type 0 where
  pub idle : is_idle before c (next_of script c before) ≡ true
  pub same : after ≡ before

-- A turn of context c: one entry of its own, or none where it has ended, or waits and nothing is pending.
abbrev pub Turn : List Command → ContextNo → List Entry → List Entry → Type 0
Turn script c before after = MadeOne c before after ⊎ MadeNone script c before after

-- one turn of each of these endpoints, in rising number from n
abbrev pub Turns : List (List Command) → ℕ → List Entry → List Entry → Type 0
Turns [] n before after = after ≡ before
Turns (script ∷ scripts) n before after = (between : List Entry) × Turn script (record { 0 = n }) before between
    × Turns scripts (n + 1) between after

-- A round: the turns of all endpoints and then of all hosts, in which someone made an entry; of the hosts those from
-- number `known` on alone can fail to start. Or, where nobody could make an entry, the first host that has not ended
-- said a text, or ended.
pub data Round (known : ℕ) (scripts : List (List Command)) (before after : List Entry) : Type 0 where
  of_all : (between : List Entry) → Turns scripts 0 before between
      → HostTurns known (length (hosts between)) between after
      → (after ≡ before → ⊥) → Round known scripts before after
  of_first_host : AreIdle scripts before → NoneReady before → (h : HostNo) → IsFirstUnended before h
      → SaysOrEnds h before after
      → Round known scripts before after

-- No endpoint can do anything, every host has ended, and no entry was made.
pub record IsOver (scripts : List (List Command)) (before after : List Entry) : Type 0 where
  pub idle : AreIdle scripts after
  pub ended : HaveEnded after
  pub same : after ≡ before

-- an endpoint or a host is spent
abbrev pub IsSpent : List (List Command) → List Entry → Type 0
IsSpent scripts past = ((n : ℕ) × (spent_of scripts past ≡ Some n)) ⊎ ((h : HostNo) × (spent_host past ≡ Some h))

-- the first turns of a round: those of the first endpoints; or those of all endpoints and of the first hosts; or a
-- whole round
pub data FirstTurns (known : ℕ) (scripts : List (List Command)) (before after : List Entry) : Type 0 where
  of_endpoints : (count : ℕ) → Turns (take count scripts) 0 before after → FirstTurns known scripts before after
  of_hosts : (between : List Entry) (count : ℕ) → Turns scripts 0 before between → count ≤ length (hosts between)
      → HostTurns known count between after → FirstTurns known scripts before after
  whole : Round known scripts before after → FirstTurns known scripts before after

-- The first turns of a round were made up to the very entry by which someone is spent: after it stands no other, and
-- before it nobody is spent.
pub record IsCutShort (known : ℕ) (scripts : List (List Command)) (before after : List Entry) : Type 0 where
  pub turns : FirstTurns known scripts before after
  pub last : Entry
  pub past : List Entry
  pub made : after ≡ last ∷ past
  pub unspent : ¬ IsSpent scripts past
  pub spent : IsSpent scripts after

-- So many whole rounds, each of which leaves nobody spent; then nobody can do anything, or the last round is cut
-- short. In the first of them the hosts from number `known` on alone can fail to start, and in a later one those that
-- were called in it.
abbrev pub Rounds : ℕ → ℕ → List (List Command) → List Entry → List Entry → Type 0
Rounds zero known scripts before after = IsOver scripts before after ⊎ IsCutShort known scripts before after
Rounds (suc n) known scripts before after =
    (between : List Entry) × Round known scripts before between × ¬ IsSpent scripts between
    × Rounds n (length (hosts between)) scripts between after
