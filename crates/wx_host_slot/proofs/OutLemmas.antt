-- What a turn of a child's output comes to at a desk over a broker. Every list of entries has the newest first.
use Rattle.std.proofs.Common.{◌≡◌, ℕ, ◌+◌, ◌<◌, List, [], ◌∷◌, ◌++◌, Bool, true, false, not, ◌&&◌, ◌||◌, Option, Some, None, refl, ap, ◌∙◌, sym, subst, arith, append_assoc}
use Rattle.std.specs.Prelude.{is_some}
use Rattle.std.proofs.lemmas.Bool.{false≢true, true≢false}
use Rattle.std.proofs.lemmas.List.{append-nil}
use Rattle.wx_id.specs.declared.numbers.HostNo.{HostNo}
use Rattle.wx_id.specs.declared.numbers.EntryNo.{EntryNo}
use Rattle.wx_external.specs.World.{WorldLists}
use Rattle.wx_native_frame.specs.Frames.{Unfinished}
use Rattle.wx_native_frame.specs.Splits.{frames, AllFit, IsSplit}
use Rattle.wx_machine.specs.declared.entries.Call.TheVariants.{HostSaid, HostEnded}
use Rattle.wx_machine.specs.declared.entries.Reason.{Reason}
use Rattle.wx_machine.specs.declared.entries.Answer.{Answer}
use Rattle.wx_machine.specs.declared.entries.Entry.{Entry}
use Rattle.wx_machine.specs.Words.{is_host_ready, is_news, text_or_end, work_of, has_ended, next_text, is_over as is_done, knows_end}
use Rattle.wx_machine.specs.declared.entries.Reason.TheVariants.{StartFailed, ReadFailed, WriteFailed, TooLong, BadJson, Cut, Exited, Closed}
use Rattle.wx_machine.specs.declared.entries.TheConstants.{LONGEST_SAID}
use Rattle.wx_outside.specs.Causes.{Rose}
use Rattle.wx_host_launch.specs.Halves.{texts_said, last_said_closed, IsCause, whole}
use Rattle.wx_host_launch.specs.Pipes.{OutState, Stream, Gives, NoneComes}
use Rattle.wx_host_launch.specs.Reading.{HasEnded, Keeps}
use Rattle.wx_host_launch.specs.Records.{Program, Account, HostRecord, Writing, with_bytes, finished}
use Rattle.wx_desk.specs.Desks.{HostDeskState}
use Rattle.wx_host_launch.proofs.KeepsLemmas.{ReadsOn, reads_on}
use Rattle.wx_host_launch.specs.Turns.{IsOutTurn}
use Rattle.wx_host_launch.specs.declared.turns.OutTurn.TheVariants as out
use Rattle.wx_host_slot.specs.Journals.{entries_of, taken_by, said_by, program_of}
use Rattle.wx_host_slot.specs.Meets.{IsHeard, ToldCause, CountedCause, MeetsAccount, ToldAccount}
use Rattle.wx_host_slot.specs.Slots.{ChildState, SlotState, PipesTold, IsStartedRecord, Runs, StandsRunning, Stands, HasSaidOrEnded}
use Rattle.wx_host_slot.specs.Turns.{IsHeardEnd, said, ended}
use Rattle.wx_host_slot.proofs.JournalLemmas.{own, taken_own, said_own, program_later}
use Rattle.wx_host_slot.proofs.StandsLater.{pipes_program, runs_by}
use Rattle.wx_host_slot.proofs.DeskLemmas.{IsAt, past_at, one_at, ends_at, text_at, more_at, words_own}
use Rattle.wx_host_slot.proofs.PipeLemmas.{split_on, pipes_read}
use Rattle.wx_host_slot.proofs.EndLemmas.{Leaves, account_ended, meets_ended, leaves_none, after_turn_of, fewer_left, goes_on, is_over, was_started_by}

-- the child with its output and its reader left so
abbrev pub with_output : ChildState → OutState → Unfinished → ChildState
with_output child output reader = record { input = child.input; output = output; reader = reader }

-- What a turn leaves at the desk and in the slot.
pub record Speaks (writing : Option Writing) (world : WorldLists) (h : HostNo) (past : List Entry) (slot after : SlotState) (desk : HostDeskState) : Type 0 where
  pub now : List Entry
  pub at : IsAt h world now desk
  pub spoken : HasSaidOrEnded writing world h past now slot after

-- Nothing to take

nothing_new : (o : Option EntryNo) (over knows : Bool) → is_news (text_or_end o over) knows ≡ false → o ≡ None
nothing_new (Some n) over knows e = absurd (true≢false e)
nothing_new None over knows e = refl

not_ready : (ended news : Bool) → (not ended && news) ≡ false → ended ≡ false → news ≡ false
not_ready true news e is = absurd (true≢false is)
not_ready false news e is = e

-- a host that did not end and has nothing new to take has no next text
none_next : (past : List Entry) (h : HostNo) → is_host_ready past h ≡ false → has_ended past h ≡ false → next_text past h ≡ None
none_next past h ready unended =
    nothing_new (next_text past h) (has_ended past h || is_done past (work_of past h)) (knows_end past h) (not_ready (has_ended past h) (is_news (text_or_end (next_text past h) (has_ended past h || is_done past (work_of past h))) (knows_end past h)) ready unended)

-- So a turn doesn't wait.
pub never_waits : (h : HostNo) (world : WorldLists) (past : List Entry) (old new : HostDeskState) (reader after : Unfinished) (before now : OutState) → IsAt h world past old → is_host_ready past h ≡ false → has_ended past h ≡ false → ¬ IsOutTurn old new reader after before now out.Waits
never_waits h world past old new reader after before now at ready unended turn =
    false≢true (sym (ap is_some (none_next past h ready unended)) ∙ text_at h world past old new at turn.came.0)

-- A text

-- what a turn reads on after what the reader has in hand
reads : (writing : Option Writing) (world : WorldLists) (past : List Entry) (h : HostNo) (child : ChildState) (bytes : List ℕ) (texts now : List (List ℕ)) (rest : List ℕ) → (runs : Runs writing world past h child) → texts ≡ now → IsSplit LONGEST_SAID (child.reader.bytes ++ bytes) texts rest → ReadsOn runs.rest bytes now rest
reads writing world past h child bytes texts now rest runs texts_are split =
    let T : List (List ℕ) → Type 0 = λ ts. IsSplit LONGEST_SAID (child.reader.bytes ++ bytes) ts rest in
    reads_on runs.rest child.reader.bytes bytes now rest runs.in_hand (subst T texts_are split)

-- a child runs on, of which a text was read
runs_saying : (writing : Option Writing) (world : WorldLists) (past : List Entry) (h : HostNo) (child : ChildState) (output : OutState) (reader : Unfinished) (t bytes rest : List ℕ) (a : Answer) → (runs : Runs writing world past h child) → reader.limit ≡ LONGEST_SAID → Keeps rest reader.bytes → Gives child.output.stream output.stream bytes
    → AllFit LONGEST_SAID (t ∷ []) → ReadsOn runs.rest bytes (t ∷ []) rest → Runs writing world (own h (HostSaid t) a ∷ past) h (with_output child output reader)
runs_saying writing world past h child output reader t bytes rest a runs limit kept given fit on =
    let program = program_of world past h in
    let (p, is) = pipes_program writing program (taken_by h past) runs.read child.input.sent child.output.stream runs.pipes in
    runs_by writing world (own h (HostSaid t) a ∷ past) h (with_output child output reader) program (taken_by h past) (said_by h past ++ t ∷ []) (runs.read ++ bytes) on.whole
    (program_later world past (own h (HostSaid t) a) h p is ∙ sym is) (taken_own h (HostSaid t) a past ∙ append-nil (taken_by h past)) (said_own h (HostSaid t) a past) limit
    (split_on runs.read runs.rest bytes (said_by h past) (t ∷ []) rest runs.split fit on) (on.keeps reader.bytes kept)
    (pipes_read writing program (taken_by h past) runs.read child.input.sent child.output.stream output.stream bytes given runs.pipes)

pub out_moved : (writing : Option Writing) (world : WorldLists) (past : List Entry) (h : HostNo) (slot : SlotState) (child : ChildState) (old new : HostDeskState) (output : OutState) (reader : Unfinished) → IsAt h world past old → Stands writing world past h slot → StandsRunning writing world past h slot child → slot.made < 65536 → reader.limit ≡ LONGEST_SAID
    → IsOutTurn old new child.reader reader child.output output out.Moved → Speaks writing world h past slot (after_turn_of slot (with_output child output reader) 1 false) new
out_moved writing world past h slot child old new output reader at s run room limit turn =
    let (t, a, one) = turn.came.0 in
    let half = turn.half in
    let now = one_at h world past old new (HostSaid t) a at one in
    let more = more_at h world past (own h (HostSaid t) a ∷ []) old new half.more at now half.seen in
    let texts : half.texts ≡ t ∷ [] = half.said ∙ ap (λ u. texts_said half.more ++ u) (half.all refl) ∙ append-nil (texts_said half.more) ∙ ap texts_said more ∙ words_own h (HostSaid t) a [] in
    let on = reads writing world past h child half.bytes half.texts (t ∷ []) half.rest run.runs texts half.split in
    let fit = subst (AllFit LONGEST_SAID) texts half.split.fit in
    record {
      now = own h (HostSaid t) a ∷ past;
      at = now;
      spoken = record {
        turn = said t (record { answer = a; made = refl });
        stands = goes_on writing world past h slot child (with_output child output reader) (HostSaid t) a s run refl tt (runs_saying writing world past h child output reader t half.bytes half.rest a run.runs limit (half.kept refl) half.given fit on);
        started = was_started_by slot (with_output child output reader) 1 false;
        less = fewer_left slot child (with_output child output reader) 1 false run.has_child run.unended room (omega arith);
      };
    }

-- An end

-- the cause in what is told, where no byte is to come once the output has ended
told_cause : (writes read : List ℕ) (heard : IsHeard writes read) (account : Account) (all_said : Type 0) (before now : OutState) (closed : Bool) (reason : Reason) → IsCause all_said heard.rest before now closed reason → (HasEnded now → heard.unread ≡ []) → ToldCause heard [] account reason
told_cause writes read heard account all_said before now closed StartFailed (all, cause) ends = absurd cause
told_cause writes read heard account all_said before now closed ReadFailed (all, (rose, none)) ends = (refl, none)
told_cause writes read heard account all_said before now closed WriteFailed (all, cause) ends = tt
told_cause writes read heard account all_said before now closed (TooLong n) (all, cause) ends = (refl, cause)
told_cause writes read heard account all_said before now closed (BadJson place kind) (all, cause) ends = (refl, cause)
told_cause writes read heard account all_said before now closed (Cut have) (all, (at_end, none, long, some)) ends = (refl, ends at_end, none, long, some)
told_cause writes read heard account all_said before now closed Exited (all, (at_end, none)) ends = (refl, ends at_end, none)
told_cause writes read heard account all_said before now closed Closed cause ends = tt

-- the cause in what is told always
counted_cause : (h : HostNo) (made : ℕ) (r : HostRecord) (past : List Entry) (all_said : Type 0) (rest : List ℕ) (before now : OutState) (reason : Reason) → IsCause all_said rest before now (last_said_closed past h) reason → (Rose before.faults now.faults → 0 < r.failed_reads) → CountedCause h made r past reason
counted_cause h made r past all_said rest before now StartFailed (all, cause) counts = absurd cause
counted_cause h made r past all_said rest before now ReadFailed (all, (rose, none)) counts = counts rose
counted_cause h made r past all_said rest before now WriteFailed (all, cause) counts = absurd cause
counted_cause h made r past all_said rest before now (TooLong n) cause counts = tt
counted_cause h made r past all_said rest before now (BadJson place kind) cause counts = tt
counted_cause h made r past all_said rest before now (Cut have) cause counts = tt
counted_cause h made r past all_said rest before now Exited cause counts = tt
counted_cause h made r past all_said rest before now Closed cause counts = cause

-- a cause in what a turn read is one in what was read in all
cause_on : (all_said : Type 0) (rest bytes left : List ℕ) (texts : List (List ℕ)) (before now : OutState) (closed : Bool) (reason : Reason) → (on : ReadsOn rest bytes texts left) → IsCause all_said left before now closed reason → IsCause all_said on.whole before now closed reason
cause_on all_said rest bytes left texts before now closed Closed on cause = cause
cause_on all_said rest bytes left texts before now closed StartFailed on cause = (cause.0, on.reason before now StartFailed cause.1)
cause_on all_said rest bytes left texts before now closed ReadFailed on cause = (cause.0, on.reason before now ReadFailed cause.1)
cause_on all_said rest bytes left texts before now closed WriteFailed on cause = (cause.0, on.reason before now WriteFailed cause.1)
cause_on all_said rest bytes left texts before now closed (TooLong n) on cause = (cause.0, on.reason before now (TooLong n) cause.1)
cause_on all_said rest bytes left texts before now closed (BadJson place kind) on cause = (cause.0, on.reason before now (BadJson place kind) cause.1)
cause_on all_said rest bytes left texts before now closed (Cut have) on cause = (cause.0, on.reason before now (Cut have) cause.1)
cause_on all_said rest bytes left texts before now closed Exited on cause = (cause.0, on.reason before now Exited cause.1)

-- what is told of a child by whose end its host ends
told_ended : (writing : Option Writing) (world : WorldLists) (past : List Entry) (h : HostNo) (r old : HostRecord) (program : Option Program) (sent : Option (List ℕ)) (before now : OutState) (all_said : Type 0) (closed : Bool) (read rest bytes : List ℕ) (reason : Reason) (a : Answer) → has_ended past h ≡ false → program_of world past h ≡ program
    → IsSplit LONGEST_SAID (read ++ bytes) (said_by h past) rest → IsStartedRecord writing program old → (was is : Option Stream) → before.stream ≡ was → now.stream ≡ is → PipesTold writing program (taken_by h past) read sent was → Gives was is bytes → IsCause all_said rest before now closed reason
    → ToldAccount (MeetsAccount world (own h (HostEnded reason) a ∷ past) h r) writing (with_bytes old.account sent is)
told_ended (Some w) world past h r old (Some p) (Some sent) before now all_said closed read rest bytes reason a un its_own split starts (Some was) (Some is) was_is is_is told given cause =
    let account : Account = record { program = Some p; read = is.read; sent = sent } in
    let heard : IsHeard (w p.path) is.read = record {
      unread = is.coming;
      front = told.2 ∙ ap (λ x. was.read ++ x) given.coming ∙ sym (append_assoc was.read bytes is.coming) ∙ ap (λ x. x ++ is.coming) (sym given.read);
      texts = said_by h past;
      rest = rest;
      split = (let S : List ℕ → Type 0 = λ x. IsSplit LONGEST_SAID x (said_by h past) rest in subst S (sym (given.read ∙ ap (λ x. x ++ bytes) told.1)) split);
    } in
    let none : HasEnded now → is.coming ≡ [] = λ e. (let N : Option Stream → Type 0 = NoneComes in subst N is_is e.none_comes) in
    let leaves : Leaves (0 < r.failed_writes) (w p.path) (taken_by h past) (said_by h past) account reason = record {
      sent = whole told.0;
      heard = heard;
      unsaid = [];
      said_first = sym (append-nil (said_by h past));
      cause = told_cause (w p.path) is.read heard account all_said before now closed reason cause none;
    } in
    let M : Option Account → Type 0 = λ x. ToldAccount (MeetsAccount world (own h (HostEnded reason) a ∷ past) h r) (Some w) (with_bytes x (Some sent) (Some is)) in
    subst M (sym starts.account) (account_ended world past h r w account reason a p un its_own refl leaves)
told_ended (Some w) world past h r old (Some p) (Some sent) before now all_said closed read rest bytes reason a un its_own split starts (Some was) None was_is is_is told given cause = absurd given
told_ended None world past h r old (Some p) None before now all_said closed read rest bytes reason a un its_own split starts None is was_is is_is told given cause =
    let M : Option Account → Type 0 = λ x. ToldAccount (MeetsAccount world (own h (HostEnded reason) a ∷ past) h r) None (with_bytes x None is) in
    subst M (sym starts.account) tt
told_ended _ world past h r old _ _ before now all_said closed read rest bytes reason a un its_own split starts _ is was_is is_is told given cause = absurd told

-- a host that is heard ends by its output, or as its channel was closed
heard_end : (all_said : Type 0) (rest : List ℕ) (before now : OutState) (closed : Bool) (reason : Reason) → IsCause all_said rest before now closed reason → IsHeardEnd reason
heard_end all_said rest before now closed StartFailed (all, cause) = cause
heard_end all_said rest before now closed ReadFailed cause = tt
heard_end all_said rest before now closed WriteFailed (all, cause) = cause
heard_end all_said rest before now closed (TooLong n) cause = tt
heard_end all_said rest before now closed (BadJson place kind) cause = tt
heard_end all_said rest before now closed (Cut have) cause = tt
heard_end all_said rest before now closed Exited cause = tt
heard_end all_said rest before now closed Closed cause = tt

pub out_ended : (writing : Option Writing) (world : WorldLists) (past : List Entry) (h : HostNo) (slot : SlotState) (child : ChildState) (old new : HostDeskState) (output : OutState) (reader : Unfinished) → IsAt h world past old → Stands writing world past h slot → StandsRunning writing world past h slot child → slot.made < 65536
    → IsOutTurn old new child.reader reader child.output output out.Ended → Speaks writing world h past slot (after_turn_of slot (with_output child output reader) 1 true) new
out_ended writing world past h slot child old new output reader at s run room turn =
    let (reason, a, ends, caused) = turn.came in
    let half = turn.half in
    let next = with_output child output reader in
    let (now, none) = ends_at h world past old new reason a at ends in
    let after : List Entry = own h (HostEnded reason) a ∷ past in
    let said_none : texts_said half.more ≡ [] = ap texts_said (more_at h world past (own h (HostEnded reason) a ∷ []) old new half.more at now half.seen) ∙ words_own h (HostEnded reason) a [] in
    let texts : half.texts ≡ [] = half.said ∙ ap (λ u. texts_said half.more ++ u) (half.all refl) ∙ append-nil (texts_said half.more) ∙ said_none in
    let on = reads writing world past h child half.bytes half.texts [] half.rest run.runs texts half.split in
    let All : Type 0 = texts_said half.more ≡ half.texts in
    let P : List Entry → Type 0 = λ p. IsCause All half.rest child.output output (last_said_closed p new.who) reason in
    let H : HostNo → Type 0 = λ g. IsCause All half.rest child.output output (last_said_closed after g) reason in
    let cause : IsCause All half.rest child.output output (last_said_closed past h) reason = subst H now.same_who (subst P (past_at h world after new now) caused) in
    let cause_in_all = cause_on All run.runs.rest half.bytes half.rest [] child.output output (last_said_closed past h) reason on cause in
    let split = split_on run.runs.read run.runs.rest half.bytes (said_by h past) [] half.rest run.runs.split tt on in
    let N : List (List ℕ) → Type 0 = λ ts. IsSplit LONGEST_SAID (run.runs.read ++ half.bytes) ts on.whole in
    let r : HostRecord = finished slot.starter.slot child.input output in
    let counts : Rose child.output.faults output.faults → 0 < r.failed_reads = λ rose. (let no = run.starter_record.no_reads in omega (arith, no, rose)) in
    let counted = s.counted in
    record {
      now = after;
      at = now;
      spoken = record {
        turn = ended reason (heard_end All half.rest child.output output (last_said_closed past h) reason cause) (record { answer = a; made = refl });
        stands = is_over writing world past h slot next 1 reason a s.alone (ap (λ n. n + 1) counted) run.host_unended
            (meets_ended writing world past h r reason a run.host_unended run.in_place (leaves_none h past reason none) run.starter_record.once
            (counted_cause h (entries_of h past + 1) r past All half.rest child.output output reason cause counts)
            (told_ended writing world past h r slot.starter.slot (program_of world past h) child.input.sent child.output output All (last_said_closed past h) run.runs.read on.whole half.bytes reason a run.host_unended refl (subst N (append-nil (said_by h past)) split) run.starter_record child.output.stream output.stream refl refl run.runs.pipes half.given cause_in_all));
        started = was_started_by slot next 1 true;
        less = fewer_left slot child next 1 true run.has_child run.unended room (omega arith);
      };
    }
