-- What a turn of a child's input comes to at a desk over a broker. Every list of entries has the newest first.
use Rattle.std.proofs.Common.{◌≡◌, ℕ, ◌<◌, List, [], ◌∷◌, ◌++◌, Bool, true, false, ◌||◌, Option, Some, None, refl, ap, ◌∙◌, sym, subst, arith}
use Rattle.std.specs.Prelude.{option_to_list}
use Rattle.std.proofs.lemmas.List.{append-nil}
use Rattle.wx_id.specs.declared.numbers.HostNo.{HostNo}
use Rattle.wx_id.specs.declared.numbers.EntryNo.{EntryNo}
use Rattle.wx_external.specs.World.{WorldLists}
use Rattle.wx_native_frame.specs.Splits.{frames, IsSplit}
use Rattle.wx_machine.specs.declared.entries.Call.TheVariants.{HostTake, HostEnded}
use Rattle.wx_machine.specs.declared.entries.Reason.TheVariants.{WriteFailed}
use Rattle.wx_machine.specs.declared.entries.Answer.{Answer}
use Rattle.wx_machine.specs.declared.entries.Entry.{Entry}
use Rattle.wx_machine.specs.Words.{FollowsMachine, is_host_ready, EachAfter, has_ended}
use Rattle.wx_machine.specs.declared.entries.Answer.TheVariants.{Text as HasText, End as NoMore}
use Rattle.wx_machine.specs.declared.entries.TheConstants.{LONGEST_SAID}
use Rattle.wx_outside.specs.Causes.{Rose}
use Rattle.wx_outside.specs.Sink.{added}
use Rattle.wx_machine.specs.declared.entries.Who.TheVariants.{Host as ByHost}
use Rattle.wx_desk.specs.History.{Seen, calls_in, seen_by}
use Rattle.wx_desk.specs.Desks.{HostDeskState, past_of}
use Rattle.wx_desk.proofs.TextLemmas.{text_stays}
use Rattle.wx_host_launch.specs.Halves.{text_of_take, texts_of_takes, Sends, ends_by_write}
use Rattle.wx_host_launch.specs.Pipes.{InState, Stream}
use Rattle.wx_host_launch.specs.Records.{Program, Account, HostRecord, Writing, with_bytes, finished}
use Rattle.wx_host_launch.specs.Turns.{IsInTurn}
use Rattle.wx_host_launch.specs.declared.turns.InTurn.TheVariants as into
use Rattle.wx_host_launch.proofs.HostLemmas.{HasShortText, taken_short}
use Rattle.wx_host_launch.proofs.TurnLemmas.{added_nothing}
use Rattle.wx_host_slot.specs.Journals.{taken_by, said_by, program_of}
use Rattle.wx_host_slot.specs.Meets.{IsHeard, MeetsAccount, ToldAccount, MeetsStarted}
use Rattle.wx_host_slot.specs.Slots.{ChildState, SlotState, closing_record, PipesTold, IsStartedRecord, Runs, StandsRunning, Stands, IsServed}
use Rattle.wx_host_slot.specs.Turns.{took, not_written, rested}
use Rattle.wx_host_slot.specs.declared.slot.Served.{Served}
use Rattle.wx_host_slot.specs.declared.slot.Served.TheVariants.{Moved, Rested}
use Rattle.wx_host_slot.proofs.JournalLemmas.{own, entries_own, taken_own, said_own, ended_own, program_later}
use Rattle.wx_host_slot.proofs.StandsLater.{pipes_program, runs_by}
use Rattle.wx_host_slot.proofs.DeskLemmas.{IsAt, past_at, takes_at, one_at, no_news_at, more_at, calls_own, texts_own, legal_at}
use Rattle.wx_host_slot.proofs.PipeLemmas.{sent_whole, sent_after, pipes_sent}
use Rattle.wx_host_slot.proofs.EndLemmas.{Leaves, account_ended, meets_ended, after_turn_of, fewer_left, goes_on, is_over, was_started_by}

-- the child with its input left so
abbrev pub with_input : ChildState → InState → ChildState
with_input child input = record { input = input; output = child.output; reader = child.reader }

-- What a turn leaves at the desk and in the slot.
pub record Leads (writing : Option Writing) (world : WorldLists) (h : HostNo) (past : List Entry) (slot after : SlotState) (desk : HostDeskState) (came : Served) : Type 0 where
  pub now : List Entry
  pub at : IsAt h world now desk
  pub served : IsServed writing world h past now slot after came

-- The text that a take was answered with

-- it is told by the shorter past too
text_same : (more past : List Entry) (n : EntryNo) → HasShortText past n → text_of_take (more ++ past) HostTake (HasText n) ≡ text_of_take past HostTake (HasText n)
text_same more past n t = ap option_to_list (text_stays more past n t.text t.carried ∙ sym t.carried)

short_taken : (h : HostNo) (world : WorldLists) (past : List Entry) (n : EntryNo) → EachAfter (FollowsMachine world) (own h HostTake (HasText n) ∷ past) → HasShortText past n
short_taken h world past n legal = taken_short world past h n legal.0 legal.1.answered

-- the texts of one take
texts_one : (h : HostNo) (world : WorldLists) (past : List Entry) (old new : HostDeskState) (more : List Seen) (n : EntryNo) → IsAt h world past old → IsAt h world (own h HostTake (HasText n) ∷ past) new → new.history ≡ more ++ old.history → HasShortText past n
    → (texts_of_takes (past_of new) more ≡ text_of_take past HostTake (HasText n)) × (calls_in more ≡ HostTake ∷ [])
texts_one h world past old new more n at now seen short =
    let entries : List Entry = own h HostTake (HasText n) ∷ [] in
    let is = more_at h world past entries old new more at now seen in (
      ap (texts_of_takes (past_of new)) is ∙ texts_own h HostTake (HasText n) [] (past_of new) ∙ ap (λ p. text_of_take p HostTake (HasText n)) (past_at h world (entries ++ past) new now) ∙ text_same entries past n short,
      ap calls_in is ∙ calls_own h HostTake (HasText n) [],
    )

-- of a take, and an end after it
texts_two : (h : HostNo) (world : WorldLists) (past : List Entry) (old new : HostDeskState) (more : List Seen) (n : EntryNo) (b : Answer) → IsAt h world past old → IsAt h world (own h (HostEnded WriteFailed) b ∷ own h HostTake (HasText n) ∷ past) new → new.history ≡ more ++ old.history → HasShortText past n
    → texts_of_takes (past_of new) more ≡ text_of_take past HostTake (HasText n)
texts_two h world past old new more n b at now seen short =
    let entries : List Entry = own h (HostEnded WriteFailed) b ∷ own h HostTake (HasText n) ∷ [] in
    ap (texts_of_takes (past_of new)) (more_at h world past entries old new more at now seen)
    ∙ texts_own h (HostEnded WriteFailed) b (own h HostTake (HasText n) ∷ []) (past_of new)
    ∙ append-nil (texts_of_takes (past_of new) (seen_by (ByHost h) (own h HostTake (HasText n) ∷ [])))
    ∙ texts_own h HostTake (HasText n) [] (past_of new)
    ∙ ap (λ p. text_of_take p HostTake (HasText n)) (past_at h world (entries ++ past) new now)
    ∙ text_same entries past n short

-- After a take

-- a child runs on, whose input was sent the text that was taken
runs_taking : (writing : Option Writing) (world : WorldLists) (past : List Entry) (h : HostNo) (child : ChildState) (input : InState) (a : Answer) (bytes : List ℕ) → Runs writing world past h child → input.sent ≡ added child.input.sent bytes → bytes ≡ frames (text_of_take past HostTake a)
    → Runs writing world (own h HostTake a ∷ past) h (with_input child input)
runs_taking writing world past h child input a bytes runs sent whole =
    let program = program_of world past h in
    let (p, is) = pipes_program writing program (taken_by h past) runs.read child.input.sent child.output.stream runs.pipes in
    runs_by writing world (own h HostTake a ∷ past) h (with_input child input) program (taken_by h past ++ text_of_take past HostTake a) (said_by h past) runs.read runs.rest
    (program_later world past (own h HostTake a) h p is ∙ sym is) (taken_own h HostTake a past) (said_own h HostTake a past ∙ append-nil (said_by h past)) runs.limit runs.split runs.in_hand
    (pipes_sent writing program (taken_by h past) (text_of_take past HostTake a) runs.read child.input.sent input.sent child.output.stream bytes sent whole runs.pipes)

-- the host took, and goes on
took_on : (writing : Option Writing) (world : WorldLists) (past : List Entry) (h : HostNo) (slot : SlotState) (child : ChildState) (input : InState) (a : Answer) (bytes : List ℕ) (desk : HostDeskState) → IsAt h world (own h HostTake a ∷ past) desk → is_host_ready past h ≡ true → Stands writing world past h slot → StandsRunning writing world past h slot child
    → slot.made < 65536 → input.sent ≡ added child.input.sent bytes → bytes ≡ frames (text_of_take past HostTake a) → Leads writing world h past slot (after_turn_of slot (with_input child input) 1 false) desk Moved
took_on writing world past h slot child input a bytes desk at ready s run room sent whole = record {
  now = own h HostTake a ∷ past;
  at = at;
  served = record {
    turn = took ready (record { answer = a; made = refl });
    stands = goes_on writing world past h slot child (with_input child input) HostTake a s run refl ready (runs_taking writing world past h child input a bytes run.runs sent whole);
    started = was_started_by slot (with_input child input) 1 false;
    came = fewer_left slot child (with_input child input) 1 false run.has_child run.unended room (omega arith);
  };
}

pub in_moved : (writing : Option Writing) (world : WorldLists) (past : List Entry) (h : HostNo) (slot : SlotState) (child : ChildState) (old new : HostDeskState) (input : InState) → IsAt h world past old → EachAfter (FollowsMachine world) (past_of new) → Stands writing world past h slot → StandsRunning writing world past h slot child → slot.made < 65536
    → IsInTurn old new child.input input into.Moved → Leads writing world h past slot (after_turn_of slot (with_input child input) 1 false) new Moved
in_moved writing world past h slot child old new input at legal s run room turn =
    let (n, takes) = turn.came.0 in
    let (now, ready) = takes_at h world past old new (HasText n) at takes in
    let short = short_taken h world past n (legal_at h world (own h HostTake (HasText n) ∷ past) new now legal) in
    let (texts, calls) = texts_one h world past old new turn.half.more n at now turn.half.seen short in
    let whole = sent_whole (Rose child.input.faults input.faults) (texts_of_takes (past_of new) turn.half.more) turn.half.bytes (ends_by_write (calls_in turn.half.more) || false) turn.half.frames (ap (λ cs. ends_by_write cs || false) calls) in
    took_on writing world past h slot child input (HasText n) turn.half.bytes new now ready s run room turn.half.sent (whole ∙ ap frames texts)

pub in_closed : (writing : Option Writing) (world : WorldLists) (past : List Entry) (h : HostNo) (slot : SlotState) (child : ChildState) (old new : HostDeskState) (input : InState) → IsAt h world past old → Stands writing world past h slot → StandsRunning writing world past h slot child → slot.made < 65536
    → IsInTurn old new child.input input into.Closed → Leads writing world h past slot (after_turn_of slot (with_input child input) 1 false) new Moved
in_closed writing world past h slot child old new input at s run room turn =
    let (takes, closed) = turn.came in
    let (now, ready) = takes_at h world past old new NoMore at takes in
    took_on writing world past h slot child input NoMore [] new now ready s run room (ap (λ (i : InState). i.sent) closed ∙ added_nothing child.input.sent) refl

pub in_waits : (writing : Option Writing) (world : WorldLists) (past : List Entry) (h : HostNo) (slot : SlotState) (child : ChildState) (old new : HostDeskState) (input : InState) → IsAt h world past old → Stands writing world past h slot → StandsRunning writing world past h slot child
    → IsInTurn old new child.input input into.Waits → Leads writing world h past slot (record slot { child = Some (with_input child input) }) new Rested
in_waits writing world past h slot child old new input at s run turn =
    let (finds, same) = turn.came in
    let (now, not_ready) = no_news_at h world past old new at finds in
    let as_before : record slot { child = Some (with_input child input) } ≡ slot =
    ap (λ i. record slot { child = Some (with_input child i) }) same ∙ ap (λ (c : Option ChildState). record slot { child = c }) (sym run.has_child) in
    let S : SlotState → Type 0 = Stands writing world past h in
    record {
      now = past;
      at = now;
      served = record { turn = rested not_ready refl; stands = subst S (sym as_before) s; started = λ is. refl; came = (refl, not_ready, as_before) };
    }

-- After a failed write

-- what is told of a child that could not be written to
told_unwritten : (writing : Option Writing) (world : WorldLists) (before : List Entry) (h : HostNo) (r old : HostRecord) (program : Option Program) (read rest : List ℕ) (sent now : Option (List ℕ)) (stream : Option Stream) (failed : Type 0) (taken texts : List (List ℕ)) (bytes : List ℕ) (stopped : Bool) (b : Answer) → has_ended before h ≡ false → program_of world before h ≡ program → taken_by h before ≡ taken ++ texts
    → IsSplit LONGEST_SAID read (said_by h before) rest → IsStartedRecord writing program old → PipesTold writing program taken read sent stream → now ≡ added sent bytes → (failed → 0 < r.failed_writes) → Sends failed texts bytes stopped
    → ToldAccount (MeetsAccount world (own h (HostEnded WriteFailed) b ∷ before) h r) writing (with_bytes old.account now stream)
told_unwritten (Some w) world before h r old (Some p) read rest (Some sent) now (Some stream) failed taken texts bytes stopped b un its_own is_taken split starts told is counted sends =
    let after : List Entry = own h (HostEnded WriteFailed) b ∷ before in
    let account : Account = record { program = Some p; read = stream.read; sent = sent ++ bytes } in
    let S : List ℕ → Type 0 = λ x. IsSplit LONGEST_SAID x (said_by h before) rest in
    let heard : IsHeard (w p.path) stream.read = record { unread = stream.coming; front = told.2; texts = said_by h before; rest = rest; split = subst S (sym told.1) split } in
    let B : List ℕ → Type 0 = λ x. Sends (0 < r.failed_writes) (taken ++ texts) (x ++ bytes) true in
    let T : List (List ℕ) → Type 0 = λ ts. Sends (0 < r.failed_writes) ts (sent ++ bytes) true in
    let leaves : Leaves (0 < r.failed_writes) (w p.path) (taken_by h before) (said_by h before) account WriteFailed = record {
      sent = subst T (sym is_taken) (subst B (sym told.0) (sent_after failed (0 < r.failed_writes) taken texts bytes stopped counted sends));
      heard = heard;
      unsaid = [];
      said_first = sym (append-nil (said_by h before));
      cause = tt;
    } in
    let M : Option Account → Type 0 = λ a. ToldAccount (MeetsAccount world after h r) (Some w) (with_bytes a now (Some stream)) in
    let N : Option (List ℕ) → Type 0 = λ n. ToldAccount (MeetsAccount world after h r) (Some w) (with_bytes (Some (record { program = Some p; read = []; sent = [] })) n (Some stream)) in
    subst M (sym starts.account) (subst N (sym is) (account_ended world before h r w account WriteFailed b p un its_own refl leaves))
told_unwritten None world before h r old (Some p) read rest None now None failed taken texts bytes stopped b un its_own is_taken split starts told is counted sends =
    let M : Option Account → Type 0 = λ a. ToldAccount (MeetsAccount world (own h (HostEnded WriteFailed) b ∷ before) h r) None (with_bytes a now None) in
    subst M (sym starts.account) tt
told_unwritten _ world before h r old _ read rest _ now _ failed taken texts bytes stopped b un its_own is_taken split starts told is counted sends = absurd told

-- the record of a host that could not be written to meets the journal
meets_unwritten : (writing : Option Writing) (world : WorldLists) (past : List Entry) (h : HostNo) (slot : SlotState) (child : ChildState) (input : InState) (n : EntryNo) (b : Answer) (bytes : List ℕ) (stopped : Bool) → StandsRunning writing world past h slot child → is_host_ready past h ≡ true
    → input.sent ≡ added child.input.sent bytes → Rose child.input.faults input.faults → Sends (Rose child.input.faults input.faults) (text_of_take past HostTake (HasText n)) bytes stopped
    → MeetsStarted writing world (own h (HostEnded WriteFailed) b ∷ own h HostTake (HasText n) ∷ past) h (closing_record (after_turn_of slot (with_input child input) 2 true))
meets_unwritten writing world past h slot child input n b bytes stopped run ready sent rose sends =
    let take : Entry = own h HostTake (HasText n) in
    let before : List Entry = take ∷ past in
    let r : HostRecord = finished slot.starter.slot input child.output in
    let (p, is) = pipes_program writing (program_of world past h) (taken_by h past) run.runs.read child.input.sent child.output.stream run.runs.pipes in
    let said : said_by h before ≡ said_by h past = said_own h HostTake (HasText n) past ∙ append-nil (said_by h past) in
    let S : List (List ℕ) → Type 0 = λ ts. IsSplit LONGEST_SAID run.runs.read ts run.runs.rest in
    let unended : has_ended before h ≡ false = ended_own h HostTake (HasText n) past run.host_unended in
    let counted : 0 < r.failed_writes = (let none = run.starter_record.no_writes in omega (arith, none, rose)) in
    meets_ended writing world before h r WriteFailed b unended (run.in_place, λ _. ready) tt run.starter_record.once counted
    (told_unwritten writing world before h r slot.starter.slot (program_of world past h) run.runs.read run.runs.rest child.input.sent input.sent child.output.stream (Rose child.input.faults input.faults) (taken_by h past) (text_of_take past HostTake (HasText n)) bytes stopped b unended
    (program_later world past take h p is ∙ sym is) (taken_own h HostTake (HasText n) past) (subst S (sym said) run.runs.split) run.starter_record run.runs.pipes sent (λ _. counted) sends)

pub in_ended : (writing : Option Writing) (world : WorldLists) (past : List Entry) (h : HostNo) (slot : SlotState) (child : ChildState) (old new : HostDeskState) (input : InState) → IsAt h world past old → EachAfter (FollowsMachine world) (past_of new) → Stands writing world past h slot → StandsRunning writing world past h slot child → slot.made < 65536
    → IsInTurn old new child.input input into.Ended → Leads writing world h past slot (after_turn_of slot (with_input child input) 2 true) new Moved
in_ended writing world past h slot child old new input at legal s run room turn =
    let f = turn.came.0 in
    let n = f.text in
    let (b, one) = f.left in
    let (middle, ready) = takes_at h world past old f.between (HasText n) at f.taken in
    let before : List Entry = own h HostTake (HasText n) ∷ past in
    let after : List Entry = own h (HostEnded WriteFailed) b ∷ before in
    let now = one_at h world before f.between new (HostEnded WriteFailed) b middle one in
    let short = short_taken h world past n (legal_at h world after new now legal).0 in
    let texts = texts_two h world past old new turn.half.more n b at now turn.half.seen short in
    let T : List (List ℕ) → Type 0 = λ ts. Sends (Rose child.input.faults input.faults) ts turn.half.bytes (ends_by_write (calls_in turn.half.more) || false) in
    let meets = meets_unwritten writing world past h slot child input n b turn.half.bytes (ends_by_write (calls_in turn.half.more) || false) run ready turn.half.sent f.failed (subst T texts turn.half.frames) in
    let made = entries_own h HostTake (HasText n) past in
    let counted = s.counted in
    record {
      now = after;
      at = now;
      served = record {
        turn = not_written ready before (record { text = n; made = refl }) (record { answer = b; made = refl });
        stands = is_over writing world before h slot (with_input child input) 2 WriteFailed b s.alone (omega (arith, made, counted)) (ended_own h HostTake (HasText n) past run.host_unended) meets;
        started = was_started_by slot (with_input child input) 2 true;
        came = fewer_left slot child (with_input child input) 2 true run.has_child run.unended room (omega arith);
      };
    }
