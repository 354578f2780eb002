-- How a slot stands after an entry of others, at a run's end and at its start. Every list of entries has the newest first.
use Rattle.std.proofs.Common.{◌≡◌, ℕ, ◌<◌, List, [], ◌∷◌, ◌++◌, length, true, false, Option, Some, None, refl, ap, ◌∙◌, sym, subst, arith}
use Rattle.std.proofs.lemmas.Bool.{true≢false}
use Rattle.std.proofs.lemmas.List.{append-nil}
use Rattle.wx_id.specs.declared.numbers.HostNo.{HostNo}
use Rattle.wx_external.specs.World.{WorldLists}
use Rattle.wx_native_frame.specs.Splits.{IsSplit}
use Rattle.wx_native_frame.proofs.FrameLaws.{short_under_way}
use Rattle.wx_machine.specs.declared.entries.Call.{Call}
use Rattle.wx_machine.specs.declared.entries.Entry.{Entry}
use Rattle.wx_machine.specs.Words.{hosts, is_by_host, has_ended, is_host_end}
use Rattle.wx_machine.specs.declared.entries.Call.TheVariants.{HostEnded}
use Rattle.wx_machine.specs.declared.entries.TheConstants.{LONGEST_SAID}
use Rattle.wx_host_launch.specs.Halves.{Sends, whole}
use Rattle.wx_host_launch.specs.Pipes.{Stream}
use Rattle.wx_host_launch.specs.Reading.{Keeps}
use Rattle.wx_host_launch.specs.Records.{Program, Account, HostRecord, Writing, StarterState, slot_like, with_bytes, finished}
use Rattle.wx_host_slot.specs.Journals.{entries_of, taken_by, said_by, EachOf, IsInPlace, program_of}
use Rattle.wx_host_slot.specs.Meets.{IsHeard, ToldEnd, CountedEnd, MeetsAccount, ToldAccount, MeetsStarted, RecordMeets, was_started, never_started}
use Rattle.wx_host_slot.specs.Slots.{ChildState, SlotState, waiting_slot, record_after, closing_record, PipesTold, Runs, IsStartedRecord, StandsRunning, StandsUntold, StandsAs, waiting, untold, running, at_end, Stands}
use Rattle.wx_host_slot.proofs.JournalLemmas.{each_unended, entries_others, taken_others, said_others, ended_others, each_others, none_ended, none_taken, none_said, none_each, program_later}

-- Where a child's pipe tells, its program is known

pub pipes_program : (writing : Option Writing) (program : Option Program) (taken : List (List ℕ)) (read : List ℕ) (sent : Option (List ℕ)) (stream : Option Stream) → PipesTold writing program taken read sent stream → (p : Program) × (program ≡ Some p)
pipes_program writing (Some p) taken read sent stream told = (p, refl)
pipes_program None None taken read sent stream told = absurd told
pipes_program (Some w) None taken read sent stream told = absurd told

-- An entry of others

same_program : (world : WorldLists) (past : List Entry) (e : Entry) (h : HostNo) (p : Program) → program_of world past h ≡ Some p → program_of world (e ∷ past) h ≡ program_of world past h
same_program world past e h p is = program_later world past e h p is ∙ sym is

-- a child runs, by what its host's journal says
pub runs_by : (writing : Option Writing) (world : WorldLists) (past : List Entry) (h : HostNo) (child : ChildState) (program : Option Program) (taken said : List (List ℕ)) (read rest : List ℕ) → program_of world past h ≡ program → taken_by h past ≡ taken → said_by h past ≡ said
    → child.reader.limit ≡ LONGEST_SAID → IsSplit LONGEST_SAID read said rest → Keeps rest child.reader.bytes → PipesTold writing program taken read child.input.sent child.output.stream → Runs writing world past h child
runs_by writing world past h child program taken said read rest program_is taken_is said_is limit split in_hand pipes =
    let P : Option Program → Type 0 = λ p. PipesTold writing p (taken_by h past) read child.input.sent child.output.stream in
    let T : List (List ℕ) → Type 0 = λ ts. PipesTold writing program ts read child.input.sent child.output.stream in
    let S : List (List ℕ) → Type 0 = λ ts. IsSplit LONGEST_SAID read ts rest in
    record {
      limit = limit;
      read = read;
      rest = rest;
      split = subst S (sym said_is) split;
      in_hand = in_hand;
      pipes = subst P (sym program_is) (subst T (sym taken_is) pipes);
    }

running_later : (writing : Option Writing) (world : WorldLists) (past : List Entry) (e : Entry) (h : HostNo) (slot : SlotState) (child : ChildState) → is_by_host e.who h ≡ false → StandsRunning writing world past h slot child → StandsRunning writing world (e ∷ past) h slot child
running_later writing world past e h slot child other s =
    let (p, is) = pipes_program writing (program_of world past h) (taken_by h past) s.runs.read child.input.sent child.output.stream s.runs.pipes in
    let program = same_program world past e h p is in
    let R : Option Program → Type 0 = λ o. IsStartedRecord writing o slot.starter.slot in
    record {
      has_child = s.has_child;
      unended = s.unended;
      host_unended = ended_others e past h other ∙ s.host_unended;
      starter_record = subst R (sym program) s.starter_record;
      runs = runs_by writing world (e ∷ past) h child (program_of world past h) (taken_by h past) (said_by h past) s.runs.read s.runs.rest program (taken_others e past h other) (said_others e past h other) s.runs.limit s.runs.split s.runs.in_hand s.runs.pipes;
      in_place = each_others (IsInPlace h) e past h other s.in_place;
    }

account_later : (world : WorldLists) (past : List Entry) (e : Entry) (h : HostNo) (r : HostRecord) (writing : Writing) (account : Account) → is_by_host e.who h ≡ false → MeetsAccount world past h r writing account → MeetsAccount world (e ∷ past) h r writing account
account_later world past e h r writing account other m =
    let T : List (List ℕ) → Type 0 = λ ts. Sends (0 < r.failed_writes) ts account.sent true in
    record {
      program = m.program;
      its_own = program_later world past e h m.program m.its_own;
      started = m.started;
      sent = subst T (sym (taken_others e past h other)) m.sent;
      heard = m.heard;
      unsaid = m.unsaid;
      said_first = m.said_first ∙ ap (λ ts. ts ++ m.unsaid) (sym (said_others e past h other));
      ends = each_others (ToldEnd m.heard m.unsaid account) e past h other m.ends;
    }

told_map : (P Q : Writing → Account → Type 0) (writing : Option Writing) (account : Option Account) → ((w : Writing) (a : Account) → P w a → Q w a) → ToldAccount P writing account → ToldAccount Q writing account
told_map P Q None None f told = tt
told_map P Q (Some w) (Some a) f told = f w a told
told_map P Q None (Some a) f told = absurd told
told_map P Q (Some w) None f told = absurd told

meets_later : (writing : Option Writing) (world : WorldLists) (past : List Entry) (e : Entry) (h : HostNo) (r : HostRecord) → is_by_host e.who h ≡ false → MeetsStarted writing world past h r → MeetsStarted writing world (e ∷ past) h r
meets_later writing world past e h r other m =
    let C : ℕ → Type 0 = λ made. EachOf h (CountedEnd h made r) (e ∷ past) in
    record {
      once = m.once;
      in_place = each_others (IsInPlace h) e past h other m.in_place;
      counted = subst C (sym (entries_others e past h other)) (each_others (CountedEnd h (entries_of h past) r) e past h other m.counted);
      told = told_map (MeetsAccount world past h r) (MeetsAccount world (e ∷ past) h r) writing r.account (λ w a m. account_later world past e h r w a other m) m.told;
    }

as_later : (writing : Option Writing) (world : WorldLists) (past : List Entry) (e : Entry) (h : HostNo) (slot : SlotState) → is_by_host e.who h ≡ false → StandsAs writing world past h slot → StandsAs writing world (e ∷ past) h slot
as_later writing world past e h slot other (waiting unended empty is) = waiting (ended_others e past h other ∙ unended) empty is
as_later writing world past e h slot other (untold s) = untold (record {
  failed = s.failed;
  no_child = s.no_child;
  none_made = s.none_made;
  unended = s.unended;
  program = s.program;
  its_own = program_later world past e h s.program s.its_own;
  starter_record = s.starter_record;
  failed_starts = s.failed_starts;
})
as_later writing world past e h slot other (running child s) = running child (running_later writing world past e h slot child other s)
as_later writing world past e h slot other (at_end ended was meets) = at_end ended (ended_others e past h other ∙ was) (meets_later writing world past e h (closing_record slot) other meets)

-- A slot stands as it stood after an entry of others.
pub stands_later : (writing : Option Writing) (world : WorldLists) (past : List Entry) (e : Entry) (h : HostNo) (slot : SlotState) → h.0 < length (hosts past) → is_by_host e.who h ≡ false → Stands writing world past h slot → Stands writing world (e ∷ past) h slot
stands_later writing world past e h slot is_host other s = record {
  alone = s.alone;
  counted = s.counted ∙ sym (entries_others e past h other);
  stands = as_later writing world past e h slot other s.stands;
}

-- At the end

pub counted_unended : (h : HostNo) (made : ℕ) (r : HostRecord) (before : List Entry) (call : Call) → is_host_end call ≡ false → CountedEnd h made r before call
counted_unended h made r before (HostEnded reason) un = absurd (true≢false un)
counted_unended h made r before _ un = tt

pub told_unended : (writes read : List ℕ) (heard : IsHeard writes read) (unsaid : List (List ℕ)) (account : Account) (before : List Entry) (call : Call) → is_host_end call ≡ false → ToldEnd heard unsaid account before call
told_unended writes read heard unsaid account before (HostEnded reason) un = absurd (true≢false un)
told_unended writes read heard unsaid account before _ un = tt

-- what runs is told as it stands
told_running : (writing : Option Writing) (world : WorldLists) (past : List Entry) (h : HostNo) (r : HostRecord) (old : HostRecord) (program : Option Program) (read rest : List ℕ) (sent : Option (List ℕ)) (stream : Option Stream) → has_ended past h ≡ false → program_of world past h ≡ program
    → IsSplit LONGEST_SAID read (said_by h past) rest → IsStartedRecord writing program old → PipesTold writing program (taken_by h past) read sent stream → ToldAccount (MeetsAccount world past h r) writing (with_bytes old.account sent stream)
told_running (Some w) world past h r old (Some p) read rest (Some sent) (Some stream) un is split starts told =
    let account : Account = record { program = Some p; read = stream.read; sent = sent } in
    let S : List ℕ → Type 0 = λ x. IsSplit LONGEST_SAID x (said_by h past) rest in
    let heard : IsHeard (w p.path) stream.read = record { unread = stream.coming; front = told.2; texts = said_by h past; rest = rest; split = subst S (sym told.1) split } in
    let M : Option Account → Type 0 = λ a. ToldAccount (MeetsAccount world past h r) (Some w) (with_bytes a (Some sent) (Some stream)) in
    subst M (sym starts.account) (record {
      program = p;
      its_own = is;
      started = refl;
      sent = whole told.0;
      heard = heard;
      unsaid = [];
      said_first = sym (append-nil (said_by h past));
      ends = each_unended (ToldEnd heard [] account) h past (λ before call. told_unended (w p.path) stream.read heard [] account before call) un;
    })
told_running None world past h r old (Some p) read rest None None un is split starts told =
    let M : Option Account → Type 0 = λ a. ToldAccount (MeetsAccount world past h r) None (with_bytes a None None) in
    subst M (sym starts.account) tt
told_running _ world past h r old _ read rest _ _ un is split starts told = absurd told

-- the record that a child leaves that runs yet meets the journal
meets_running : (writing : Option Writing) (world : WorldLists) (past : List Entry) (h : HostNo) (slot : SlotState) (child : ChildState) → StandsRunning writing world past h slot child → MeetsStarted writing world past h (finished slot.starter.slot child.input child.output)
meets_running writing world past h slot child s =
    let r = finished slot.starter.slot child.input child.output in
    record {
      once = s.starter_record.once;
      in_place = s.in_place;
      counted = each_unended (CountedEnd h (entries_of h past) r) h past (λ before call. counted_unended h (entries_of h past) r before call) s.host_unended;
      told = told_running writing world past h r slot.starter.slot (program_of world past h) s.runs.read s.runs.rest child.input.sent child.output.stream s.host_unended refl s.runs.split s.starter_record s.runs.pipes;
    }

-- what is told of a host whose program could not be started, before it made an entry
told_untold : (writing : Option Writing) (world : WorldLists) (past : List Entry) (h : HostNo) (r old : HostRecord) (p : Program) → entries_of h past ≡ 0 → program_of world past h ≡ Some p → IsStartedRecord writing (Some p) old → ToldAccount (MeetsAccount world past h r) writing old.account
told_untold None world past h r old p none is starts =
    let M : Option Account → Type 0 = ToldAccount (MeetsAccount world past h r) None in
    subst M (sym starts.account) tt
told_untold (Some w) world past h r old p none is starts =
    let account : Account = record { program = Some p; read = []; sent = [] } in
    let M : Option Account → Type 0 = ToldAccount (MeetsAccount world past h r) (Some w) in
    let T : List (List ℕ) → Type 0 = λ ts. Sends (0 < r.failed_writes) ts [] true in
    let no_frame = (short_under_way [] LONGEST_SAID (omega arith)).no_frame in
    let heard : IsHeard (w p.path) [] = record { unread = w p.path; front = refl; texts = []; rest = []; split = record { fit = tt; stream_is = refl; no_frame = no_frame } } in
    subst M (sym starts.account) (record {
      program = p;
      its_own = is;
      started = refl;
      sent = subst T (sym (none_taken past h none)) (whole refl);
      heard = heard;
      unsaid = [];
      said_first = sym (none_said past h none) ∙ sym (append-nil (said_by h past));
      ends = none_each (ToldEnd heard [] account) past h none;
    })

meets_untold : (writing : Option Writing) (world : WorldLists) (past : List Entry) (h : HostNo) (slot : SlotState) → entries_of h past ≡ 0 → StandsUntold writing world past h slot → MeetsStarted writing world past h slot.starter.slot
meets_untold writing world past h slot none s = record {
  once = s.starter_record.once;
  in_place = none_each (IsInPlace h) past h none;
  counted = none_each (CountedEnd h (entries_of h past) slot.starter.slot) past h none;
  told = told_untold writing world past h slot.starter.slot slot.starter.slot s.program none s.its_own s.starter_record;
}

as_at_end : (spent : Type 0) (writing : Option Writing) (world : WorldLists) (past : List Entry) (h : HostNo) (slot : SlotState) → slot.made ≡ entries_of h past → StandsAs writing world past h slot → (has_ended past h ≡ false → spent) → RecordMeets spent writing world past h (closing_record slot)
as_at_end spent writing world past h slot counted (waiting unended empty is) cause =
    let none : closing_record slot ≡ slot.starter.slot = ap (λ (s : SlotState). record_after slot.starter.slot s.child) is in
    never_started (cause unended) (sym counted ∙ ap (λ (s : SlotState). s.made) is) (none ∙ empty)
as_at_end spent writing world past h slot counted (untold s) cause =
    let M : Option ChildState → Type 0 = λ c. MeetsStarted writing world past h (record_after slot.starter.slot c) in
    was_started (subst M (sym s.no_child) (meets_untold writing world past h slot (sym counted ∙ s.none_made) s))
as_at_end spent writing world past h slot counted (running child s) cause =
    let M : Option ChildState → Type 0 = λ c. MeetsStarted writing world past h (record_after slot.starter.slot c) in
    was_started (subst M (sym s.has_child) (meets_running writing world past h slot child s))
as_at_end spent writing world past h slot counted (at_end ended was meets) cause = was_started meets

-- At a run's end the record that a slot leaves meets the journal.
pub meets_at_end : (spent : Type 0) (writing : Option Writing) (world : WorldLists) (past : List Entry) (h : HostNo) (slot : SlotState) → Stands writing world past h slot → (has_ended past h ≡ false → spent) → RecordMeets spent writing world past h (closing_record slot)
meets_at_end spent writing world past h slot s cause = as_at_end spent writing world past h slot s.counted s.stands cause

-- A new slot stands to a journal in which its host has no entry.
pub waiting_stands : (world : WorldLists) (past : List Entry) (h : HostNo) (starter : StarterState) → entries_of h past ≡ 0 → Stands starter.writing world past h (waiting_slot (slot_like starter))
waiting_stands world past h starter none = record {
  alone = refl;
  counted = sym none;
  stands = waiting (none_ended past h none) refl refl;
}
