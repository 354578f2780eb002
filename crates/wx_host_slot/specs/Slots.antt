-- A host's slot in a run, and how it stands to the journal. Every list of entries has the newest first.
use Rattle.std.specs.Prelude.{◌≡◌, ℕ, ◌+◌, ◌-◌, ◌<◌, nat_le, List, [], ◌++◌, map, Bool, true, false, ◌&&◌, not, Option, Some, None, IsSome}
use Rattle.std.specs.Option.{option_map}
use Rattle.wx_id.specs.declared.numbers.HostNo.{HostNo}
use Rattle.wx_external.specs.World.{WorldLists}
use Rattle.wx_native_frame.specs.Frames.{Unfinished}
use Rattle.wx_native_frame.specs.Splits.{frames, IsSplit}
use Rattle.wx_machine.specs.declared.entries.Entry.{Entry}
use Rattle.wx_machine.specs.Words.{is_host_ready, has_ended}
use Rattle.wx_machine.specs.declared.entries.TheConstants.{LONGEST_SAID}
use Rattle.wx_host_launch.specs.Pipes.{InState, OutState, Stream}
use Rattle.wx_host_launch.specs.Reading.{Keeps}
use Rattle.wx_host_launch.specs.Records.{Program, HostRecord, Writing, StarterState, empty_account, empty_record, for_slot, finished}
use Rattle.wx_host_slot.specs.Journals.{entries_of, taken_by, said_by, EachOf, IsInPlace, program_of}
use Rattle.wx_host_slot.specs.Meets.{MeetsStarted}
use Rattle.wx_host_slot.specs.Turns.{HostTurn, SaysOrEnds}
use Rattle.wx_host_slot.specs.declared.slot.Served.{Served}
use Rattle.wx_host_slot.specs.declared.slot.Served.TheVariants.{Moved, Rested}

-- a started child: the two ends of its pipe, and the reader of what it writes
pub record ChildState : Type 0 where
  pub input : InState
  pub output : OutState
  pub reader : Unfinished

-- a slot: its starter, the child where one was started, whether that failed, how many entries its host has made, and
-- whether the host ended
pub record SlotState : Type 0 where
  pub starter : StarterState
  pub child : Option ChildState
  pub failed : Bool
  pub made : ℕ
  pub ended : Bool

-- a slot, by its starter itself: what a starter tells is no data, since it tells a function
pub record SlotView (P : Type 0) : Type 0 where
  pub starter : P
  pub child : Option ChildState
  pub failed : Bool
  pub made : ℕ
  pub ended : Bool

-- the same slot, by what its starter tells
abbrev pub slot_of : {P : Type 0} → (P → StarterState) → SlotView P → SlotState
slot_of state slot = record {
  starter = state slot.starter;
  child = slot.child;
  failed = slot.failed;
  made = slot.made;
  ended = slot.ended;
}

abbrev pub slots_of : {P : Type 0} → (P → StarterState) → List (SlotView P) → List SlotState
slots_of state slots = map (slot_of state) slots

-- the slot in which nothing was started yet
abbrev pub waiting_slot : StarterState → SlotState
waiting_slot starter = record { starter = starter; child = None; failed = false; made = 0; ended = false }

-- the slot's record once its child is finished, where one was started
abbrev pub record_after : HostRecord → Option ChildState → HostRecord
record_after r None = r
record_after r (Some child) = finished r child.input child.output

abbrev pub closing_record : SlotState → HostRecord
closing_record slot = record_after slot.starter.slot slot.child

-- the slot's starter then
abbrev pub closing_starter : SlotState → StarterState
closing_starter slot = record slot.starter { slot = closing_record slot }

-- what was sent and read is told where it is told what children write; then it is the frames of what the host took,
-- and these bytes, and the child will write the rest
abbrev pub PipesTold : Option Writing → Option Program → List (List ℕ) → List ℕ → Option (List ℕ) → Option Stream
    → Type 0
PipesTold (Some writing) (Some program) taken read (Some sent) (Some stream) =
    (sent ≡ frames taken) × (stream.read ≡ read) × (writing program.path ≡ stream.read ++ stream.coming)
PipesTold None (Some program) taken read None None = Unit {0}
PipesTold _ _ taken read _ _ = ⊥

-- A child runs for host h: what was read of it is the frames of what the host said, and after them what the reader has
-- in hand; and its pipe has carried this, and what the host took.
pub record Runs (writing : Option Writing) (world : WorldLists) (past : List Entry) (h : HostNo) (child : ChildState)
    : Type 0 where
  pub limit : child.reader.limit ≡ LONGEST_SAID
  pub read : List ℕ
  pub rest : List ℕ
  pub split : IsSplit LONGEST_SAID read (said_by h past) rest
  pub in_hand : Keeps rest child.reader.bytes
  pub pipes : PipesTold writing (program_of world past h) (taken_by h past) read child.input.sent child.output.stream

-- the record of a host whose program was started, or was to be, before its child is finished
pub record IsStartedRecord (writing : Option Writing) (program : Option Program) (r : HostRecord) : Type 0 where
  pub once : r.starts ≡ 1
  pub account : r.account ≡ option_map (λ w. record empty_account { program = program }) writing
  pub no_reads : r.failed_reads ≡ 0
  pub no_writes : r.failed_writes ≡ 0

-- host h has not ended, and its child runs
pub record StandsRunning (writing : Option Writing) (world : WorldLists) (past : List Entry) (h : HostNo)
    (slot : SlotState) (child : ChildState) : Type 0 where
  pub has_child : slot.child ≡ Some child
  pub unended : slot.ended ≡ false
  pub host_unended : has_ended past h ≡ false
  pub starter_record : IsStartedRecord writing (program_of world past h) slot.starter.slot
  pub runs : Runs writing world past h child
  pub in_place : EachOf h (IsInPlace h) past

-- the program of host h could not be started, and the host has made no entry, which is to tell that
pub record StandsUntold (writing : Option Writing) (world : WorldLists) (past : List Entry) (h : HostNo)
    (slot : SlotState) : Type 0 where
  pub failed : slot.failed ≡ true
  pub no_child : slot.child ≡ None
  pub none_made : slot.made ≡ 0
  pub unended : slot.ended ≡ false
  pub program : Program
  pub its_own : program_of world past h ≡ Some program
  pub starter_record : IsStartedRecord writing (Some program) slot.starter.slot
  pub failed_starts : 0 < slot.starter.slot.failed_starts

-- How a slot stands to the journal: its host has made no entry, and nothing was started, or it could not be; or its
-- child runs; or the host ended, and the record that the slot will leave meets the journal.
pub data StandsAs (writing : Option Writing) (world : WorldLists) (past : List Entry) (h : HostNo) (slot : SlotState)
    : Type 0 where
  waiting : has_ended past h ≡ false → slot.starter.slot ≡ empty_record writing → slot ≡ waiting_slot slot.starter
      → StandsAs writing world past h slot
  untold : StandsUntold writing world past h slot → StandsAs writing world past h slot
  running : (child : ChildState) → StandsRunning writing world past h slot child → StandsAs writing world past h slot
  at_end : slot.ended ≡ true → has_ended past h ≡ true → MeetsStarted writing world past h (closing_record slot)
      → StandsAs writing world past h slot

-- The slot is host h's, nothing else was done with its starter, and it stands so.
pub record Stands (writing : Option Writing) (world : WorldLists) (past : List Entry) (h : HostNo) (slot : SlotState)
    : Type 0 where
  pub alone : slot.starter ≡ for_slot writing slot.starter.slot
  pub counted : slot.made ≡ entries_of h past
  pub stands : StandsAs writing world past h slot

-- with so many entries, and no end, a host is spent
abbrev pub host_limit : ℕ
host_limit = 65536

-- the host has made as many entries as it may, and has not ended
abbrev pub is_spent_at : SlotState → Bool
is_spent_at slot = nat_le host_limit slot.made && not slot.ended

-- its program was started, or its host has ended
abbrev pub WasStarted : SlotState → Type 0
WasStarted slot = slot.ended ≡ false → IsSome slot.child

abbrev pub left_with : Bool → Option ChildState → ℕ → ℕ
left_with true child made = 0
left_with false None made = host_limit + 4
left_with false (Some child) made = (host_limit + 3) - made

-- more than as many turns as it may still make
abbrev pub turns_left : SlotState → ℕ
turns_left slot = left_with slot.ended slot.child slot.made

-- what a turn after those of the endpoints came to: fewer turns are left, since an entry was made or a program
-- started; or nothing was done, as there was nothing to take
abbrev pub CameTo : HostNo → List Entry → List Entry → SlotState → SlotState → Served → Type 0
CameTo h before after old new Moved = turns_left new < turns_left old
CameTo h before after old new Rested = (after ≡ before) × (is_host_ready before h ≡ false) × (new ≡ old)

-- What a host's turn after those of the endpoints leaves.
pub record IsServed (writing : Option Writing) (world : WorldLists) (h : HostNo) (before after : List Entry)
    (old new : SlotState) (served : Served) : Type 0 where
  pub turn : HostTurn (¬ WasStarted old) h before after
  pub stands : Stands writing world after h new
  pub started : WasStarted new
  pub came : CameTo h before after old new served

-- What the start of a program leaves: the host has made its turn and ended, as its program could not be started; or
-- its child runs, and no entry was made.
pub record IsStarted (writing : Option Writing) (world : WorldLists) (h : HostNo) (before after : List Entry)
    (old new : SlotState) : Type 0 where
  pub stands : Stands writing world after h new
  pub started : WasStarted new
  pub less : turns_left new < turns_left old
  pub turn : new.ended ≡ true → HostTurn (¬ WasStarted old) h before after
  pub no_entry : new.ended ≡ false → (after ≡ before) × (new.made ≡ 0)

-- What a host's turn leaves where nobody else can do anything: it said a text, or ended.
pub record HasSaidOrEnded (writing : Option Writing) (world : WorldLists) (h : HostNo) (before after : List Entry)
    (old new : SlotState) : Type 0 where
  pub turn : SaysOrEnds h before after
  pub stands : Stands writing world after h new
  pub started : WasStarted new
  pub less : turns_left new < turns_left old
