-- A host ends by an own entry, and how a slot stands after own entries. Every list of entries has the newest first.
use Rattle.std.proofs.Common.{◌≡◌, ℕ, ◌+◌, ◌-◌, ◌<◌, List, ◌∷◌, ◌++◌, Bool, true, false, Option, Some, None, refl, ap, ◌∙◌, sym, subst, arith}
use Rattle.std.specs.Prelude.{not, ◌&&◌, nat_le}
use Rattle.std.proofs.lemmas.Bool.{true≢false, leb-false}
use Rattle.std.proofs.lemmas.List.{append-nil}
use Rattle.wx_id.specs.declared.numbers.HostNo.{HostNo}
use Rattle.wx_external.specs.World.{WorldLists}
use Rattle.wx_machine.specs.declared.entries.Call.{Call}
use Rattle.wx_machine.specs.declared.entries.Reason.{Reason}
use Rattle.wx_machine.specs.declared.entries.Answer.{Answer}
use Rattle.wx_machine.specs.declared.entries.Entry.{Entry}
use Rattle.wx_machine.specs.Words.{has_ended, is_host_end, next_text}
use Rattle.wx_machine.specs.declared.entries.Call.TheVariants.{HostEnded}
use Rattle.wx_machine.specs.declared.entries.Reason.TheVariants.{StartFailed, ReadFailed, WriteFailed, TooLong, BadJson, Cut, Exited, Closed}
use Rattle.wx_host_launch.specs.Halves.{Sends}
use Rattle.wx_host_launch.specs.Records.{Program, Account, HostRecord, Writing, for_slot}
use Rattle.wx_host_slot.specs.Journals.{entries_of, taken_by, said_by, EachOf, LeavesNoText, IsInPlace, program_of}
use Rattle.wx_host_slot.specs.Meets.{IsHeard, ToldCause, ToldEnd, CountedCause, CountedEnd, MeetsAccount, ToldAccount, MeetsStarted}
use Rattle.wx_host_slot.specs.Slots.{ChildState, SlotState, closing_record, Runs, IsStartedRecord, StandsRunning, running, at_end, Stands, WasStarted, host_limit, is_spent_at, left_with, turns_left}
use Rattle.wx_host_slot.proofs.JournalLemmas.{own, each_unended, entries_own, taken_own, said_own, ended_own, program_later}
use Rattle.wx_host_slot.proofs.StandsLater.{pipes_program, counted_unended, told_unended}

-- A host ends

-- What a child leaves by whose end its host ends: what was sent, what was heard, and the cause.
pub record Leaves (failed : Type 0) (writes : List ℕ) (taken said : List (List ℕ)) (account : Account) (reason : Reason) : Type 0 where
  pub sent : Sends failed taken account.sent true
  pub heard : IsHeard writes account.read
  pub unsaid : List (List ℕ)
  pub said_first : heard.texts ≡ said ++ unsaid
  pub cause : ToldCause heard unsaid account reason

pub account_ended : (world : WorldLists) (past : List Entry) (h : HostNo) (r : HostRecord) (w : Writing) (account : Account) (reason : Reason) (a : Answer) (p : Program) → has_ended past h ≡ false → program_of world past h ≡ Some p → account.program ≡ Some p
    → Leaves (0 < r.failed_writes) (w p.path) (taken_by h past) (said_by h past) account reason → MeetsAccount world (own h (HostEnded reason) a ∷ past) h r w account
account_ended world past h r w account reason a p unended its_own started l =
    let T : List (List ℕ) → Type 0 = λ ts. Sends (0 < r.failed_writes) ts account.sent true in
    record {
      program = p;
      its_own = program_later world past (own h (HostEnded reason) a) h p its_own;
      started = started;
      sent = subst T (sym (taken_own h (HostEnded reason) a past ∙ append-nil (taken_by h past))) l.sent;
      heard = l.heard;
      unsaid = l.unsaid;
      said_first = l.said_first ∙ ap (λ ts. ts ++ l.unsaid) (sym (said_own h (HostEnded reason) a past ∙ append-nil (said_by h past)));
      ends = (each_unended (ToldEnd l.heard l.unsaid account) h past (λ before call. told_unended (w p.path) account.read l.heard l.unsaid account before call) unended, λ is. l.cause);
    }

pub meets_ended : (writing : Option Writing) (world : WorldLists) (past : List Entry) (h : HostNo) (r : HostRecord) (reason : Reason) (a : Answer) → has_ended past h ≡ false → EachOf h (IsInPlace h) past → LeavesNoText h past reason → r.starts ≡ 1
    → CountedCause h (entries_of h past + 1) r past reason → ToldAccount (MeetsAccount world (own h (HostEnded reason) a ∷ past) h r) writing r.account → MeetsStarted writing world (own h (HostEnded reason) a ∷ past) h r
meets_ended writing world past h r reason a unended in_place leaves once cause told =
    let C : ℕ → Type 0 = λ made. CountedCause h made r past reason in
    let made = entries_of h (own h (HostEnded reason) a ∷ past) in
    record {
      once = once;
      in_place = (in_place, λ is. leaves);
      counted = (each_unended (CountedEnd h made r) h past (λ before call. counted_unended h made r before call) unended, λ is. subst C (sym (entries_own h (HostEnded reason) a past)) cause);
      told = told;
    }

-- no text was left, whatever the reason
pub leaves_none : (h : HostNo) (past : List Entry) (reason : Reason) → next_text past h ≡ None → LeavesNoText h past reason
leaves_none h past StartFailed none = tt
leaves_none h past WriteFailed none = tt
leaves_none h past ReadFailed none = none
leaves_none h past (TooLong n) none = none
leaves_none h past (BadJson place kind) none = none
leaves_none h past (Cut have) none = none
leaves_none h past Exited none = none
leaves_none h past Closed none = none

-- The slot after a turn

-- the slot with its child left so, and more entries made
abbrev pub after_turn_of : SlotState → ChildState → ℕ → Bool → SlotState
after_turn_of slot child more ended = record { starter = slot.starter; child = Some child; failed = slot.failed; made = slot.made + more; ended = ended }

pub room_left : (slot : SlotState) → is_spent_at slot ≡ false → slot.ended ≡ false → slot.made < 65536
room_left slot unspent unended = within (nat_le host_limit slot.made) refl (ap (λ b. nat_le host_limit slot.made && not b) (sym unended) ∙ unspent)
  where
    within : (b : Bool) → nat_le host_limit slot.made ≡ b → (nat_le host_limit slot.made && true) ≡ false → slot.made < 65536
    within true is e = absurd (true≢false (sym (ap (λ b. b && true) is) ∙ e))
    within false is e = leb-false host_limit slot.made is

-- fewer turns are left after an entry
pub fewer_left : (slot : SlotState) (child next : ChildState) (more : ℕ) (ended : Bool) → slot.child ≡ Some child → slot.ended ≡ false → slot.made < 65536 → 0 < more → turns_left (after_turn_of slot next more ended) < turns_left slot
fewer_left slot child next more ended has unended room some =
    let before : turns_left slot ≡ (host_limit + 3) - slot.made = ap (λ b. left_with b slot.child slot.made) unended ∙ ap (λ c. left_with false c slot.made) has in
    after ended before
  where
    after : (b : Bool) → turns_left slot ≡ (host_limit + 3) - slot.made → left_with b (Some next) (slot.made + more) < turns_left slot
    after true before = omega (arith, before, room)
    after false before = omega (arith, before, room, some)

-- the host goes on, and its child runs
pub goes_on : (writing : Option Writing) (world : WorldLists) (past : List Entry) (h : HostNo) (slot : SlotState) (child next : ChildState) (call : Call) (a : Answer) → Stands writing world past h slot → StandsRunning writing world past h slot child → is_host_end call ≡ false → IsInPlace h past call
    → Runs writing world (own h call a ∷ past) h next → Stands writing world (own h call a ∷ past) h (after_turn_of slot next 1 false)
goes_on writing world past h slot child next call a s run no_end in_place runs =
    let (p, is) = pipes_program writing (program_of world past h) (taken_by h past) run.runs.read child.input.sent child.output.stream run.runs.pipes in
    let now : List Entry = own h call a ∷ past in
    let same : program_of world now h ≡ program_of world past h = program_later world past (own h call a) h p is ∙ sym is in
    let R : Option Program → Type 0 = λ o. IsStartedRecord writing o slot.starter.slot in
    record {
      alone = s.alone;
      counted = ap (λ n. n + 1) s.counted ∙ sym (entries_own h call a past);
      stands = running next (record {
        has_child = refl;
        unended = refl;
        host_unended = ended_own h call a past run.host_unended ∙ no_end;
        starter_record = subst R (sym same) run.starter_record;
        runs = runs;
        in_place = (run.in_place, λ is. in_place);
      });
    }

-- the host ended
pub is_over : (writing : Option Writing) (world : WorldLists) (past : List Entry) (h : HostNo) (slot : SlotState) (next : ChildState) (more : ℕ) (reason : Reason) (a : Answer) → slot.starter ≡ for_slot writing slot.starter.slot → slot.made + more ≡ entries_of h past + 1 → has_ended past h ≡ false
    → MeetsStarted writing world (own h (HostEnded reason) a ∷ past) h (closing_record (after_turn_of slot next more true)) → Stands writing world (own h (HostEnded reason) a ∷ past) h (after_turn_of slot next more true)
is_over writing world past h slot next more reason a alone counted unended meets = record {
  alone = alone;
  counted = counted ∙ sym (entries_own h (HostEnded reason) a past);
  stands = at_end refl (ended_own h (HostEnded reason) a past unended) meets;
}

pub was_started_by : (slot : SlotState) (next : ChildState) (more : ℕ) (ended : Bool) → WasStarted (after_turn_of slot next more ended)
was_started_by slot next more ended = λ is. refl
