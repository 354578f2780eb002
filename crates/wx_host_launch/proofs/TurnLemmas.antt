-- The two halves of a turn.
use Rattle.std.proofs.Common.{◌≡◌, ℕ, ◌≤◌, List, [], ◌∷◌, ◌++◌, length, take, Bool, true, false, ◌||◌, Option, Some, None, refl, ap, ◌∙◌, sym, subst, arith}
use Rattle.std.specs.Prelude.{option_to_list}
use Rattle.std.proofs.lemmas.List.{append-nil, map-append}
use Rattle.wx_id.specs.declared.numbers.HostNo.{HostNo}
use Rattle.wx_id.specs.declared.numbers.EntryNo.{EntryNo}
use Rattle.wx_native_frame.specs.Frames.{Unfinished, frame, IsFrame}
use Rattle.wx_native_frame.specs.Splits.{frames, IsSplit}
use Rattle.wx_native_frame.proofs.SplitLaws.{split_nothing, split_frame, split_rest}
use Rattle.wx_native_frame.proofs.FrameLaws.{short_under_way}
use Rattle.wx_machine.specs.declared.entries.Call.{Call}
use Rattle.wx_machine.specs.declared.entries.Reason.{Reason}
use Rattle.wx_machine.specs.declared.entries.Answer.{Answer}
use Rattle.wx_machine.specs.declared.entries.Entry.{Entry}
use Rattle.wx_machine.specs.Words.{FollowsMachine, is_host_ready, text_of, EachAfter, next_text, said_closed}
use Rattle.wx_machine.specs.declared.entries.Call.TheVariants.{HostTake, HostSaid, HostEnded}
use Rattle.wx_machine.specs.declared.entries.Reason.TheVariants.{StartFailed, ReadFailed, WriteFailed, TooLong, BadJson, Cut, Exited, Closed}
use Rattle.wx_machine.specs.declared.entries.Answer.TheVariants as answer
use Rattle.wx_machine.specs.declared.entries.TheConstants.{LONGEST, LONGEST_SAID}
use Rattle.wx_external.specs.World.{WorldLists}
use Rattle.wx_outside.specs.Causes.{Rose}
use Rattle.wx_outside.specs.Sink.{added, AddsFront}
use Rattle.wx_desk.specs.History.{Seen, entries_in, EachOwn}
use Rattle.wx_desk.specs.Desks.{HostDeskState, IsSound, past_of, MakesNone, MakesOne}
use Rattle.wx_desk.proofs.TextLemmas.{text_stays}
use Rattle.wx_desk.proofs.HistoryLemmas.{past_grown, none_twice, none_then_one}
use Rattle.wx_host_launch.specs.Pipes.{InState, OutState, Gives}
use Rattle.wx_host_launch.specs.Steps.{TakesNews, FindsNoNews, Ends}
use Rattle.wx_host_launch.specs.Halves.{text_of_take, texts_of_takes, Sends, whole, in_part, ends_by_write, EndsLast, TakesReady, IsInHalf, EndsFor, last_said_closed, IsCause, IsOutHalf}
use Rattle.wx_host_launch.specs.Turns.{IsInTurn, IsOutTurn, IsClosedTurn, at_once, behind_write, Says, EndsOrWaits}
use Rattle.wx_host_launch.specs.declared.turns.InTurn.TheVariants as into
use Rattle.wx_host_launch.specs.declared.turns.OutTurn.{OutTurn}
use Rattle.wx_host_launch.specs.declared.turns.OutTurn.TheVariants as out
use Rattle.wx_host_launch.specs.Reading.{HasNoFrame, IsReadingEnd, Keeps, all, IsRead}
use Rattle.wx_host_launch.specs.declared.reading.Heard.TheVariants.{Text, Ends as HasEnd, NoMemory}
use Rattle.wx_host_launch.proofs.ReadingLemmas.{gives_nothing}
use Rattle.wx_host_launch.proofs.HostLemmas.{HasShortText, taken_short}
use Rattle.wx_host_launch.proofs.ClosedLemmas.{said_closed-more, last_closed, said_at_last}
use Rattle.wx_host_launch.proofs.StepLemmas.{none_then_ends, none_then_text, Stretch, stretch_none, stretch_own, stretch_twice}

-- Taking

-- the text that a take named stands in its entry, and is not too long
pub text_lent : (start old : HostDeskState) (n : EntryNo) → IsSound old → TakesNews start old (answer.Text n) → HasShortText (past_of old) n
text_lent start old n sound h =
    let between = h.one.between in
    let D : HostDeskState → Type 0 = IsSound in
    let grown = subst D h.one.made sound in
    let short = taken_short between.world (past_of between) between.who n grown.legal.0 grown.legal.1.answered in
    let P : HostDeskState → Type 0 = λ d. HasShortText (past_of d) n in
    subst P (sym h.one.made) (record { text = short.text; carried = text_stays (_ ∷ []) (past_of between) n short.text short.carried; short = short.short })

taken_stretch : (start old : HostDeskState) (a : Answer) → TakesNews start old a → Stretch (TakesReady start.who) start old (HostTake ∷ []) (λ past. text_of_take past HostTake a) []
taken_stretch start old a h =
    stretch_own (TakesReady start.who) start h.one.between old HostTake a h.one.others (ap (λ (d : HostDeskState). d.history) h.one.made) (ap (is_host_ready (past_of h.one.between)) (sym h.one.others.same_who) ∙ h.ready)

pub lent_short : (past : List Entry) (n : EntryNo) (t : List ℕ) → HasShortText past n → text_of past n ≡ Some t → length t ≤ LONGEST
lent_short past n t h carried =
    let both : Some h.text ≡ Some t = sym h.carried ∙ carried in
    let same : h.text ≡ t = cc in
    let short = h.short in
    omega (arith, ap length same)

-- The half of the input

pub in_half : (old new : HostDeskState) (before now : InState) (refused : Bool) (bytes : List ℕ) (calls : List Call) (taken : List Entry → List (List ℕ)) (said : List (List ℕ)) → Stretch (TakesReady old.who) old new calls taken said → now.sent ≡ added before.sent bytes
    → Sends (Rose before.faults now.faults) (taken (past_of new)) bytes (ends_by_write calls || refused) → EndsLast (Rose before.faults now.faults) calls → IsInHalf old new before now refused
in_half old new before now refused bytes calls taken said s sent sends ends =
    let T : List (List ℕ) → Type 0 = λ ts. Sends (Rose before.faults now.faults) ts bytes (ends_by_write calls || refused) in
    let C : List Call → Type 0 = λ cs. Sends (Rose before.faults now.faults) (texts_of_takes (past_of new) s.more) bytes (ends_by_write cs || refused) in
    record {
      more = s.more;
      seen = s.seen;
      bytes = bytes;
      sent = sent;
      frames = subst C (sym s.calls_are) (subst T (sym (s.taken_are (past_of new))) sends);
      ended = subst (EndsLast (Rose before.faults now.faults)) (sym s.calls_are) ends;
      ready = s.each;
    }

pub added_nothing : (sent : Option (List ℕ)) → sent ≡ added sent []
added_nothing None = refl
added_nothing (Some s) = ap Some (sym (append-nil s))

same_sent : (before now : InState) → now ≡ before → now.sent ≡ added before.sent []
same_sent before now same = ap (λ (i : InState). i.sent) same ∙ added_nothing before.sent

-- nothing was taken
pub nothing_in : (old new : HostDeskState) (before now : InState) (refused : Bool) → MakesNone old new → now ≡ before → IsInHalf old new before now refused
nothing_in old new before now refused none is =
    in_half old new before now refused [] [] (λ past. []) [] (stretch_none (TakesReady old.who) old new new none refl) (same_sent before now is) (whole refl) tt

pub waits_in : (old new : HostDeskState) (before now : InState) → FindsNoNews old new → now ≡ before → IsInTurn old new before now into.Waits
waits_in old new before now h is = record { half = nothing_in old new before now false h.others is; came = (h, is) }

pub refused_in : (old new : HostDeskState) (before now : InState) → MakesNone old new → now ≡ before → IsInTurn old new before now into.NoMemory
refused_in old new before now h is = record { half = nothing_in old new before now true h is; came = at_once h is }

pub closed_in : (old new : HostDeskState) (before now : InState) → TakesNews old new answer.End → now ≡ record before { closed = true } → IsInTurn old new before now into.Closed
closed_in old new before now h is = record {
  half = in_half old new before now false [] (HostTake ∷ []) (λ past. []) [] (taken_stretch old new answer.End h) (ap (λ (i : InState). i.sent) is ∙ added_nothing before.sent) (whole refl) (tt, tt);
  came = (h, is);
}

-- the text that was taken
one_taken : (past : List Entry) (n : EntryNo) (t : List ℕ) → text_of past n ≡ Some t → text_of_take past HostTake (answer.Text n) ≡ t ∷ []
one_taken past n t e = ap option_to_list e

pub moved_in : (old new : HostDeskState) (before now : InState) (n : EntryNo) (t : List ℕ) → TakesNews old new (answer.Text n) → text_of (past_of new) n ≡ Some t → now.sent ≡ added before.sent (frame t) → now.closed ≡ before.closed → IsInTurn old new before now into.Moved
moved_in old new before now n t h carried sent closed = record {
  half = in_half old new before now false (frame t) (HostTake ∷ []) (λ past. text_of_take past HostTake (answer.Text n)) [] (taken_stretch old new (answer.Text n) h) sent (whole (sym (append-nil (frame t)) ∙ ap frames (sym (one_taken (past_of new) n t carried)))) (tt, tt);
  came = ((n, h), closed);
}

-- the text that was taken, in a journal that went on
taken_later : (mid new : HostDeskState) (more : List Seen) (n : EntryNo) (t : List ℕ) → new.history ≡ more ++ mid.history → text_of (past_of mid) n ≡ Some t → text_of (past_of new) n ≡ Some t
taken_later mid new more n t seen carried =
    let P : List Entry → Type 0 = λ past. text_of past n ≡ Some t in
    subst P (sym (ap entries_in seen ∙ map-append (λ (s : Seen). s.entry) more mid.history)) (text_stays (entries_in more) (past_of mid) n t carried)

-- a text was taken, and a front of its frame was sent
cut_short : (old mid new : HostDeskState) (before now : InState) (refused : Bool) (n : EntryNo) (t : List ℕ) (calls : List Call) → TakesNews old mid (answer.Text n) → text_of (past_of mid) n ≡ Some t → AddsFront before.sent now.sent (frame t) → Rose before.faults now.faults
    → Stretch (TakesReady old.who) mid new calls (λ past. []) [] → ends_by_write (calls ++ HostTake ∷ []) || refused ≡ true → EndsLast (Rose before.faults now.faults) (calls ++ HostTake ∷ []) → IsInHalf old new before now refused
cut_short old mid new before now refused n t calls h carried (m, le, sent) rose s stops ends =
    let texts : text_of_take (past_of new) HostTake (answer.Text n) ++ [] ≡ [] ++ t ∷ [] = append-nil (text_of_take (past_of new) HostTake (answer.Text n)) ∙ one_taken (past_of new) n t (taken_later mid new s.more n t s.seen carried) in
    let B : Bool → Type 0 = Sends (Rose before.faults now.faults) (text_of_take (past_of new) HostTake (answer.Text n) ++ []) (take m (frame t)) in
    in_half old new before now refused (take m (frame t)) (calls ++ HostTake ∷ []) (λ past. text_of_take past HostTake (answer.Text n) ++ []) []
    (stretch_twice (TakesReady old.who) old mid new (HostTake ∷ []) calls (λ past. text_of_take past HostTake (answer.Text n)) (λ past. []) [] [] (taken_stretch old mid (answer.Text n) h) s)
    sent (subst B (sym stops) (in_part rose [] t m texts refl)) ends

pub failed_in : (old mid new : HostDeskState) (before now : InState) (n : EntryNo) (t : List ℕ) (a : Answer) → TakesNews old mid (answer.Text n) → text_of (past_of mid) n ≡ Some t → AddsFront before.sent now.sent (frame t) → Rose before.faults now.faults → now.closed ≡ before.closed
    → MakesOne mid new (HostEnded WriteFailed) a → IsInTurn old new before now into.Ended
failed_in old mid new before now n t a h carried sent rose closed ended = record {
  half = cut_short old mid new before now false n t (HostEnded WriteFailed ∷ []) h carried sent rose
      (stretch_own (TakesReady old.who) mid ended.between new (HostEnded WriteFailed) a ended.others (ap (λ (d : HostDeskState). d.history) ended.made) tt) refl ((refl, tt), (refl, rose));
  came = (record { text = n; between = mid; taken = h; failed = rose; left = (a, ended) }, closed);
}

pub failed_refused_in : (old mid new : HostDeskState) (before now : InState) (n : EntryNo) (t : List ℕ) → TakesNews old mid (answer.Text n) → text_of (past_of mid) n ≡ Some t → AddsFront before.sent now.sent (frame t) → Rose before.faults now.faults → MakesNone mid new
    → IsInTurn old new before now into.NoMemory
failed_refused_in old mid new before now n t h carried sent rose none = record {
  half = cut_short old mid new before now true n t [] h carried sent rose (stretch_none (TakesReady old.who) mid new new none refl) refl (tt, tt);
  came = behind_write (record { text = n; between = mid; taken = h; failed = rose; left = none });
}

-- The half of the output

pub out_half : (old new : HostDeskState) (reader after : Unfinished) (before now : OutState) (refused : Bool) (bytes : List ℕ) (texts : List (List ℕ)) (rest : List ℕ) (unsaid : List (List ℕ)) (calls : List Call) (taken : List Entry → List (List ℕ)) (said : List (List ℕ))
    → Stretch (EndsFor (IsCause (said ≡ texts) rest before now) old.who) old new calls taken said → Gives before.stream now.stream bytes → IsSplit LONGEST_SAID (reader.bytes ++ bytes) texts rest → texts ≡ said ++ unsaid
    → (refused ≡ false → unsaid ≡ []) → (refused ≡ false → Keeps rest after.bytes) → IsOutHalf old new reader after before now refused
out_half old new reader after before now refused bytes texts rest unsaid calls taken said s given split is all_said kept =
    let E : List (List ℕ) → Type 0 = λ x. EachOwn (EndsFor (IsCause (x ≡ texts) rest before now) old.who) (past_of old) s.more in
    record {
      more = s.more;
      seen = s.seen;
      bytes = bytes;
      given = given;
      texts = texts;
      rest = rest;
      split = split;
      unsaid = unsaid;
      said = is ∙ ap (λ x. x ++ unsaid) (sym s.said_are);
      all = all_said;
      kept = kept;
      ends = subst E (sym s.said_are) s.each;
    }

-- bytes that no frame begins are the rest
pub split_none : (r : List ℕ) → HasNoFrame r → IsSplit LONGEST_SAID r [] r
split_none r none = split_rest LONGEST_SAID [] [] [] r (split_nothing LONGEST_SAID) none

split_one : (r t : List ℕ) → IsFrame LONGEST_SAID r t → IsSplit LONGEST_SAID r (t ∷ []) []
split_one r t h = split_frame LONGEST_SAID [] [] [] r t (split_nothing LONGEST_SAID) h

cause_of : (all_said : Type 0) (r : List ℕ) (before now : OutState) (closed : Bool) (reason : Reason) → all_said → IsReadingEnd r before now reason → IsCause all_said r before now closed reason
cause_of all_said r before now closed Closed a h = absurd h
cause_of all_said r before now closed StartFailed a h = (a, h)
cause_of all_said r before now closed ReadFailed a h = (a, h)
cause_of all_said r before now closed WriteFailed a h = (a, h)
cause_of all_said r before now closed (TooLong n) a h = (a, h)
cause_of all_said r before now closed (BadJson place kind) a h = (a, h)
cause_of all_said r before now closed (Cut have) a h = (a, h)
cause_of all_said r before now closed Exited a h = (a, h)

-- a text was read, and the host says it
pub says_out : (start old new : HostDeskState) (reader after : Unfinished) (before now : OutState) (t : List ℕ) (result : OutTurn) → MakesNone start old → IsRead reader after before now (Some (Text t)) → Says old new t result → IsOutTurn start new reader after before now result
unfolding out_half
says_out start old new reader after before now t out.Moved none read (a, h) =
    let one = none_then_one start old new (HostSaid t) a none h in
    let K : List ℕ → Type 0 = Keeps [] in
    record {
      half = out_half start new reader after before now false read.bytes (t ∷ []) [] [] (HostSaid t ∷ []) (λ past. text_of_take past (HostSaid t) a) (t ∷ [])
          (stretch_own (EndsFor (IsCause (t ∷ [] ≡ t ∷ []) [] before now) start.who) start one.between new (HostSaid t) a one.others (ap (λ (d : HostDeskState). d.history) one.made) tt)
          read.given (split_one (reader.bytes ++ read.bytes) t read.came.0) refl (λ e. refl) (λ e. subst K (sym read.came.1) (all (short_under_way [] LONGEST_SAID (omega arith)).no_trouble));
      came = ((t, a, one), refl);
    }
says_out start old new reader after before now t out.Waits none read h = absurd h
says_out start old new reader after before now t out.Ended none read h = absurd h
says_out start old new reader after before now t out.NoMemory none read h =
    let both = none_twice start old new none h in
    record {
      half = out_half start new reader after before now true read.bytes (t ∷ []) [] (t ∷ []) [] (λ past. []) [] (stretch_none (EndsFor (IsCause ([] ≡ t ∷ []) [] before now) start.who) start new new both refl)
          read.given (split_one (reader.bytes ++ read.bytes) t read.came.0) refl (λ e. absurd cc) (λ e. absurd cc);
      came = both;
    }

-- nothing was to be said
abbrev pub nothing : List (List ℕ)
nothing = []

abbrev pub NoneToSay : Type 0
NoneToSay = nothing ≡ nothing

-- a cause, whatever others enter in a legal journal
abbrev pub CauseStays : HostDeskState → List ℕ → OutState → OutState → Reason → Type 0
CauseStays old r before now reason = (world : WorldLists) (more : List Entry) → EachAfter (FollowsMachine world) (more ++ past_of old) → IsCause NoneToSay r before now (last_said_closed (more ++ past_of old) old.who) reason

cause_at : (old new : HostDeskState) (r : List ℕ) (before now : OutState) (reason : Reason) (none : MakesNone old new) → EachAfter (FollowsMachine new.world) (past_of new) → CauseStays old r before now reason → IsCause NoneToSay r before now (last_said_closed (past_of new) new.who) reason
cause_at old new r before now reason none legal cause =
    let E : List Entry → Type 0 = EachAfter (FollowsMachine new.world) in
    let P : List Entry → Type 0 = λ past. IsCause NoneToSay r before now (last_said_closed past new.who) reason in
    let H : HostNo → Type 0 = λ h. IsCause NoneToSay r before now (last_said_closed (entries_in none.others ++ past_of old) h) reason in
    subst P (sym (past_grown old new none)) (subst H (sym none.same_who) (cause new.world (entries_in none.others) (subst E (past_grown old new none) legal)))

-- a cause at the step by which a host ended stands behind it
cause_behind : (old new : HostDeskState) (r : List ℕ) (before now : OutState) (reason : Reason) (a : Answer) (h : Ends old new reason a) → IsCause NoneToSay r before now (last_said_closed (past_of h.one.between) h.one.between.who) reason → IsCause NoneToSay r before now (last_said_closed (past_of new) new.who) reason
cause_behind old new r before now reason a h cause =
    let D : HostDeskState → Type 0 = λ d. IsCause NoneToSay r before now (last_said_closed (past_of d) d.who) reason in
    subst D (sym h.one.made) cause

-- no frame was read, there is a cause to end, and the host ends or waits
ends_out : (start old new : HostDeskState) (reader after : Unfinished) (before now : OutState) (bytes : List ℕ) (reason : Reason) (result : OutTurn) → MakesNone start old → Gives before.stream now.stream bytes → HasNoFrame (reader.bytes ++ bytes) → Keeps (reader.bytes ++ bytes) after.bytes
    → CauseStays old (reader.bytes ++ bytes) before now reason → IsSound new → EndsOrWaits old new reason result → IsOutTurn start new reader after before now result
unfolding out_half
ends_out start old new reader after before now bytes reason out.Moved none given no_frame kept cause sound h = absurd h
ends_out start old new reader after before now bytes reason out.Waits none given no_frame kept cause sound h =
    let finds = none_then_text start old new none h in
    let r : List ℕ = reader.bytes ++ bytes in
    let s = stretch_none (EndsFor (IsCause NoneToSay r before now) start.who) start new new finds.others refl in
    let C : List (List ℕ) → Type 0 = λ x. IsCause (x ≡ []) r before now (last_said_closed (past_of new) new.who) reason in
    record {
      half = out_half start new reader after before now false bytes [] r [] [] (λ past. []) [] s given (split_none r no_frame) refl (λ e. refl) (λ e. kept);
      came = (finds, (reason, subst C (sym s.said_are) (cause_at old new r before now reason h.others sound.legal cause)));
    }
ends_out start old new reader after before now bytes reason out.Ended none given no_frame kept cause sound (a, h) =
    let ends = none_then_ends start old new reason a none h in
    let r : List ℕ = reader.bytes ++ bytes in
    let same : h.one.between.who ≡ start.who = h.one.others.same_who ∙ none.same_who in
    let D : HostDeskState → Type 0 = IsSound in
    let had = cause_at old h.one.between r before now reason h.one.others (subst D h.one.made sound).legal.0 cause in
    let N : HostNo → Type 0 = λ g. (next_text (past_of h.one.between) g ≡ None) × IsCause NoneToSay r before now (last_said_closed (past_of h.one.between) g) reason in
    let s = stretch_own (EndsFor (IsCause NoneToSay r before now) start.who) start h.one.between new (HostEnded reason) a (none_twice start old h.one.between none h.one.others) (ap (λ (d : HostDeskState). d.history) h.one.made) (subst N same (h.none_left, had)) in
    let C : List (List ℕ) → Type 0 = λ x. IsCause (x ≡ []) r before now (last_said_closed (past_of new) new.who) reason in
    record {
      half = out_half start new reader after before now false bytes [] r [] (HostEnded reason ∷ []) (λ past. text_of_take past (HostEnded reason) a) [] s given (split_none r no_frame) refl (λ e. refl) (λ e. kept);
      came = (reason, a, ends, subst C (sym s.said_are) (cause_behind old new r before now reason a h had));
    }
ends_out start old new reader after before now bytes reason out.NoMemory none given no_frame kept cause sound h =
    let both = none_twice start old new none h in
    let r : List ℕ = reader.bytes ++ bytes in
    record {
      half = out_half start new reader after before now true bytes [] r [] [] (λ past. []) [] (stretch_none (EndsFor (IsCause NoneToSay r before now) start.who) start new new both refl) given (split_none r no_frame) refl (λ e. refl) (λ e. absurd cc);
      came = both;
    }

-- reading came to an end
pub ends_read : (start old new : HostDeskState) (reader after : Unfinished) (before now : OutState) (reason : Reason) (result : OutTurn) → MakesNone start old → IsRead reader after before now (Some (HasEnd reason)) → IsSound new → EndsOrWaits old new reason result → IsOutTurn start new reader after before now result
ends_read start old new reader after before now reason result none read sound h =
    let r : List ℕ = reader.bytes ++ read.bytes in
    ends_out start old new reader after before now read.bytes reason result none read.given read.came.2 read.came.1 (λ world more legal. cause_of NoneToSay r before now (last_said_closed (more ++ past_of old) old.who) reason refl read.came.0) sound h

-- the channel was closed
pub ends_closed : (start old new : HostDeskState) (reader : Unfinished) (output : OutState) (result : OutTurn) → MakesNone start old → said_closed (past_of old) old.who ≡ true → HasNoFrame reader.bytes → Keeps reader.bytes reader.bytes → IsSound new → EndsOrWaits old new Closed result
    → IsOutTurn start new reader reader output output result
ends_closed start old new reader output result none closed no_frame kept sound h =
    let F : List ℕ → Type 0 = HasNoFrame in
    let K : List ℕ → Type 0 = λ r. Keeps r reader.bytes in
    ends_out start old new reader reader output output [] Closed result none (gives_nothing output.stream) (subst F (sym (append-nil reader.bytes)) no_frame) (subst K (sym (append-nil reader.bytes)) kept) (λ world more legal. last_closed world (more ++ past_of old) old.who legal (said_closed-more more (past_of old) old.who closed)) sound h

pub is_closed_turn : (start old new : HostDeskState) (reader : Unfinished) (output : OutState) (result : OutTurn) → MakesNone start old → EndsOrWaits old new Closed result → IsClosedTurn start new reader reader output output result
is_closed_turn start old new reader output out.Moved none h = absurd h
is_closed_turn start old new reader output out.Waits none h = record { same_reader = refl; nothing_read = refl; came = none_then_text start old new none h }
is_closed_turn start old new reader output out.Ended none (a, h) = record { same_reader = refl; nothing_read = refl; came = (a, none_then_ends start old new Closed a none h) }
is_closed_turn start old new reader output out.NoMemory none h = record { same_reader = refl; nothing_read = refl; came = none_twice start old new none h }

-- a host whose channel was closed is found so
pub found_closed : (start old : HostDeskState) → MakesNone start old → last_said_closed (past_of start) start.who ≡ true → said_closed (past_of old) old.who ≡ true
found_closed start old none is =
    let P : List Entry → Type 0 = λ past. said_closed past old.who ≡ true in
    let H : HostNo → Type 0 = λ h. said_closed (entries_in none.others ++ past_of start) h ≡ true in
    subst P (sym (past_grown start old none)) (subst H (sym none.same_who) (said_closed-more (entries_in none.others) (past_of start) start.who (said_at_last (past_of start) start.who is)))

-- memory was refused while a frame was read
pub refused_read : (start old : HostDeskState) (reader after : Unfinished) (before now : OutState) → MakesNone start old → IsRead reader after before now (Some NoMemory) → IsOutTurn start old reader after before now out.NoMemory
refused_read start old reader after before now none read =
    let r : List ℕ = reader.bytes ++ read.bytes in
    record {
      half = out_half start old reader after before now true read.bytes [] r [] [] (λ past. []) [] (stretch_none (EndsFor (IsCause NoneToSay r before now) start.who) start old old none refl) read.given (split_none r read.came) refl (λ e. refl) (λ e. absurd cc);
      came = none;
    }
