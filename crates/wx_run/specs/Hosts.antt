-- What native hosts do in a run. Every list of entries has the newest first.
use Rattle.std.specs.Prelude.{◌≡◌, ℕ, zero, suc, ◌+◌, ◌<◌, ◌≤◌, length, List, [], ◌∷◌, ◌++◌, Bool, true, false, ◌&&◌, not, nat_le, if◌then◌else◌, Option, Some, None}
use Rattle.wx_id.specs.declared.numbers.HostNo.{HostNo}
use Rattle.wx_external.specs.World.{WorldLists}
use Rattle.wx_machine.specs.declared.entries.Entry.{Entry}
use Rattle.wx_machine.specs.Words.{is_host_ready, hosts, has_ended}
use Rattle.wx_host_launch.specs.Records.{HostRecord, Writing, StarterState, plus, faults_in}
use Rattle.wx_host_slot.specs.Journals.{entries_of}
use Rattle.wx_host_slot.specs.Meets.{RecordMeets}
use Rattle.wx_host_slot.specs.Slots.{host_limit}
use Rattle.wx_host_slot.specs.Turns.{HostTurn}

abbrev pub host_numbered : ℕ → HostNo
host_numbered n = record { 0 = n }

-- each host below number n has ended
abbrev pub HaveEndedBelow : ℕ → List Entry → Type 0
HaveEndedBelow n past = (h : HostNo) → h.0 < n → has_ended past h ≡ true

-- each host has ended
abbrev pub HaveEnded : List Entry → Type 0
HaveEnded past = HaveEndedBelow (length (hosts past)) past

-- host h is the first that has not ended
pub record IsFirstUnended (past : List Entry) (h : HostNo) : Type 0 where
  pub is_host : h.0 < length (hosts past)
  pub unended : has_ended past h ≡ false
  pub first : HaveEndedBelow h.0 past

-- no host has anything new to take
abbrev pub NoneReady : List Entry → Type 0
NoneReady past = (h : HostNo) → h.0 < length (hosts past) → is_host_ready past h ≡ false

-- the turns of so many hosts, numbered from 0, in rising number; those from number `known` on alone can fail to start
abbrev pub HostTurns : ℕ → ℕ → List Entry → List Entry → Type 0
HostTurns known zero before after = after ≡ before
HostTurns known (suc n) before after =
    (between : List Entry) × HostTurns known n before between × HostTurn (known ≤ n) (host_numbered n) between after

-- host h has made as many entries as it may, and has not ended
abbrev pub is_host_spent : List Entry → HostNo → Bool
is_host_spent past h = nat_le host_limit (entries_of h past) && not (has_ended past h)

-- the first of so many hosts, numbered from n, that is spent
abbrev pub spent_host_from : ℕ → ℕ → List Entry → Option HostNo
spent_host_from zero n past = None
spent_host_from (suc count) n past =
    if is_host_spent past (host_numbered n) then Some (host_numbered n) else spent_host_from count (n + 1) past

-- the first host that is spent
abbrev pub spent_host : List Entry → Option HostNo
spent_host past = spent_host_from (length (hosts past)) 0 past

-- no host made more entries than it may: with 65,536 and no end it is spent; the bound leaves room for two more
abbrev pub AreHostsWithin : List Entry → Type 0
AreHostsWithin past = (h : HostNo) → entries_of h past ≤ host_limit + 2

-- each of these records, of hosts numbered from n, meets the journal
abbrev pub RecordsMeet : Type 0 → Option Writing → WorldLists → List Entry → ℕ → List HostRecord → Type 0
RecordsMeet spent writing world past n [] = Unit {0}
RecordsMeet spent writing world past n (r ∷ records) =
    RecordMeets spent writing world past (host_numbered n) r × RecordsMeet spent writing world past (n + 1) records

-- a count of faults with those of these records
abbrev pub with_faults : ℕ → List HostRecord → ℕ
with_faults count [] = count
with_faults count (r ∷ records) = with_faults (plus count (faults_in r)) records

-- the starter with these records taken over, and else as it was
abbrev pub with_records : StarterState → List HostRecord → StarterState
with_records starter more = record starter {
  records = starter.records
      ++ more;
  taken_over = with_faults starter.taken_over more;
}

-- All that was done with the starter: it took over one record for each host of the journal, in rising number, and each
-- meets the journal. So nothing else was started.
pub record HaveRecords (spent : Type 0) (world : WorldLists) (past : List Entry) (old new : StarterState) : Type 0 where
  pub more : List HostRecord
  pub taken_over : new ≡ with_records old more
  pub one_each : length more ≡ length (hosts past)
  pub meet : RecordsMeet spent old.writing world past 0 more
