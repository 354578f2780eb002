-- When a host's record meets a journal. Every list of entries has the newest first.
use Rattle.std.specs.Prelude.{◌≡◌, ℕ, ◌<◌, List, [], ◌++◌, length, true, Option, Some, None}
use Rattle.wx_id.specs.declared.numbers.HostNo.{HostNo}
use Rattle.wx_external.specs.World.{WorldLists}
use Rattle.wx_native_frame.specs.Frames.{IsTrouble}
use Rattle.wx_native_frame.specs.Splits.{IsSplit}
use Rattle.wx_native_frame.specs.declared.FrameFault.TheVariants as fault
use Rattle.wx_machine.specs.declared.entries.Call.{Call}
use Rattle.wx_machine.specs.declared.entries.Reason.{Reason}
use Rattle.wx_machine.specs.declared.entries.Entry.{Entry}
use Rattle.wx_machine.specs.declared.entries.Call.TheVariants.{HostEnded}
use Rattle.wx_machine.specs.declared.entries.Reason.TheVariants.{StartFailed, ReadFailed, WriteFailed, TooLong, BadJson, Cut, Exited, Closed}
use Rattle.wx_machine.specs.declared.entries.TheConstants.{LONGEST_SAID}
use Rattle.wx_host_launch.specs.Halves.{Sends, last_said_closed}
use Rattle.wx_host_launch.specs.Reading.{HasNoTrouble}
use Rattle.wx_host_launch.specs.Records.{Program, Account, HostRecord, Writing, empty_record}
use Rattle.wx_host_slot.specs.Journals.{entries_of, taken_by, said_by, EachOf, IsInPlace, program_of}

-- Of what a child writes the first bytes were read. They are the frames of some texts and a rest that no frame begins.
pub record IsHeard (writes read : List ℕ) : Type 0 where
  pub unread : List ℕ
  pub front : writes ≡ read ++ unread
  pub texts : List (List ℕ)
  pub rest : List ℕ
  pub split : IsSplit LONGEST_SAID read texts rest

-- every text that was read was said
abbrev pub AllSaid : List (List ℕ) → Type 0
AllSaid unsaid = unsaid ≡ []

-- the cause of a reason in what is told of the bytes. Where the host ended by what was read, every text that was read
-- was said, and after them stood trouble, or the end of what the child writes, within a frame or after one; where a
-- read failed, they were said and nothing was wrong after them; where no program was started, nothing was read or
-- sent. Of a failed write and a closed channel the bytes tell nothing.
abbrev pub ToldCause : {writes read : List ℕ} → IsHeard writes read → List (List ℕ) → Account → Reason → Type 0
ToldCause heard unsaid account StartFailed = (account.read ≡ []) × (account.sent ≡ [])
ToldCause heard unsaid account ReadFailed = AllSaid unsaid × HasNoTrouble heard.rest
ToldCause heard unsaid account WriteFailed = Unit {0}
ToldCause heard unsaid account (TooLong n) = AllSaid unsaid × IsTrouble heard.rest LONGEST_SAID (fault.TooLong n)
ToldCause heard unsaid account (BadJson place kind) = AllSaid unsaid
    × IsTrouble heard.rest LONGEST_SAID (fault.BadJson (record { place = place; kind = kind }))
ToldCause heard unsaid account (Cut have) = AllSaid unsaid × (heard.unread ≡ []) × HasNoTrouble heard.rest
    × (length heard.rest ≡ have) × (0 < have)
ToldCause heard unsaid account Exited = AllSaid unsaid × (heard.unread ≡ []) × (heard.rest ≡ [])
ToldCause heard unsaid account Closed = Unit {0}

abbrev pub ToldEnd : {writes read : List ℕ} → IsHeard writes read → List (List ℕ) → Account → List Entry → Call → Type 0
ToldEnd heard unsaid account before (HostEnded reason) = ToldCause heard unsaid account reason
ToldEnd heard unsaid account before _ = Unit {0}

-- the cause of a reason in what is told always: a count of faults, or that the channel was closed when the host last
-- said something; a host that could not be started made no other entry
abbrev pub CountedCause : HostNo → ℕ → HostRecord → List Entry → Reason → Type 0
CountedCause h made r before StartFailed = (0 < r.failed_starts) × (made ≡ 1)
CountedCause h made r before ReadFailed = 0 < r.failed_reads
CountedCause h made r before WriteFailed = 0 < r.failed_writes
CountedCause h made r before Closed = last_said_closed before h ≡ true
CountedCause h made r before _ = Unit {0}

-- of a host that made so many entries
abbrev pub CountedEnd : HostNo → ℕ → HostRecord → List Entry → Call → Type 0
CountedEnd h made r before (HostEnded reason) = CountedCause h made r before reason
CountedEnd h made r before _ = Unit {0}

-- What is told of host h's bytes meets the journal: its program was started, or was to be; it was sent the frames of
-- the texts that it took, of which the last may be cut short where a write failed; it said the first texts of the
-- frames that were read of it; and where it ended there is a cause.
pub record MeetsAccount (world : WorldLists) (past : List Entry) (h : HostNo) (r : HostRecord) (writing : Writing)
    (account : Account) : Type 0 where
  pub program : Program
  pub its_own : program_of world past h ≡ Some program
  pub started : account.program ≡ Some program
  pub sent : Sends (0 < r.failed_writes) (taken_by h past) account.sent true
  pub heard : IsHeard (writing program.path) account.read
  pub unsaid : List (List ℕ)
  pub said_first : heard.texts ≡ said_by h past ++ unsaid
  pub ends : EachOf h (ToldEnd heard unsaid account) past

-- the account is told where the starter tells what children write, and meets the journal
abbrev pub ToldAccount : (Writing → Account → Type 0) → Option Writing → Option Account → Type 0
ToldAccount P None None = Unit {0}
ToldAccount P (Some writing) (Some account) = P writing account
ToldAccount P None (Some account) = ⊥
ToldAccount P (Some writing) None = ⊥

-- The record of a host that was started, or was to be, meets the journal.
pub record MeetsStarted (writing : Option Writing) (world : WorldLists) (past : List Entry) (h : HostNo)
    (r : HostRecord) : Type 0 where
  pub once : r.starts ≡ 1
  pub in_place : EachOf h (IsInPlace h) past
  pub counted : EachOf h (CountedEnd h (entries_of h past) r) past
  pub told : ToldAccount (MeetsAccount world past h r) writing r.account

-- Host h's record meets the journal. Its slot was started once; or never, and then its record is empty and the host
-- has no entry, which may be only where the run was spent.
pub data RecordMeets (spent : Type 0) (writing : Option Writing) (world : WorldLists) (past : List Entry) (h : HostNo)
    (r : HostRecord) : Type 0 where
  was_started : MeetsStarted writing world past h r → RecordMeets spent writing world past h r
  never_started : spent → entries_of h past ≡ 0 → r ≡ empty_record writing → RecordMeets spent writing world past h r
