-- Two halves of a host's record, of which the second goes on where the first stopped.
use Rattle.std.proofs.Common.{◌≡◌, ℕ, ◌≤◌, List, [], ◌∷◌, ◌++◌, take, Bool, true, false, ◌||◌, cond, refl, ap, ◌∙◌, sym, subst, append_assoc, arith}
use Rattle.std.proofs.lemmas.List.{append-nil}
use Rattle.wx_id.specs.declared.numbers.HostNo.{HostNo}
use Rattle.wx_native_frame.specs.Frames.{Unfinished, frame}
use Rattle.wx_native_frame.specs.Splits.{frames, IsSplit}
use Rattle.wx_machine.specs.declared.entries.Call.{Call}
use Rattle.wx_machine.specs.declared.entries.Reason.{Reason}
use Rattle.wx_machine.specs.declared.entries.Entry.{Entry}
use Rattle.wx_machine.specs.declared.entries.Call.TheVariants.{HostEnded}
use Rattle.wx_machine.specs.declared.entries.Reason.TheVariants.{StartFailed, ReadFailed, WriteFailed, TooLong, BadJson, Cut, Exited, Closed}
use Rattle.wx_machine.specs.declared.entries.TheConstants.{LONGEST_SAID}
use Rattle.wx_machine.specs.Words.{is_host_end}
use Rattle.wx_outside.specs.Causes.{Rose}
use Rattle.wx_outside.specs.Sink.{added}
use Rattle.wx_desk.specs.History.{Seen, entries_in, calls_in, EachOwn}
use Rattle.wx_desk.specs.Desks.{HostDeskState, past_of}
use Rattle.wx_host_launch.specs.Pipes.{InState, OutState}
use Rattle.wx_host_launch.specs.Reading.{IsReadingEnd}
use Rattle.wx_host_launch.specs.Halves.{texts_of_takes, Sends, whole, in_part, ends_by_write, NoneEnds, EndsAsWriteFailed, EndsLast, TakesReady, IsInHalf, texts_said, EndsFor, IsCause, IsOutHalf}
use Rattle.wx_host_launch.proofs.PipeLemmas.{added_twice}
use Rattle.wx_host_launch.proofs.ReadingLemmas.{gives_more}
use Rattle.wx_host_launch.proofs.StepLemmas.{calls-append, taken-append, said-append, each-append}
use Rattle.wx_host_launch.proofs.KeepsLemmas.{ReadsOn, reads_on}
use Rattle.wx_host_slot.proofs.PipeLemmas.{frames-append, sent_whole, split_on}
use Rattle.wx_pump.specs.Pumps.{TextsStay}
use Rattle.wx_pump.proofs.PumpLemmas.{none_ends_append, past_between}

-- The input

pub not_by_write : (cs : List Call) → NoneEnds cs → ends_by_write cs ≡ false
not_by_write [] h = refl
not_by_write (HostEnded r ∷ cs) (e, h) = absurd cc
not_by_write (_ ∷ cs) (e, h) = refl

pub by_write_front : (cs ds : List Call) → NoneEnds ds → ends_by_write (cs ++ ds) ≡ ends_by_write cs
by_write_front [] ds h = not_by_write ds h
by_write_front (HostEnded r ∷ cs) ds h = refl
by_write_front (_ ∷ cs) ds h = refl

as_failed : (F : Type 0) (c : Call) → is_host_end c ≡ false → EndsAsWriteFailed F c
as_failed F (HostEnded r) e = absurd cc
as_failed F _ e = tt

ends_none : (F : Type 0) (cs : List Call) → NoneEnds cs → EndsLast F cs
ends_none F [] h = tt
ends_none F (c ∷ cs) (e, h) = (h, as_failed F c e)

as_failed_from : (F G : Type 0) (c : Call) → (F → G) → EndsAsWriteFailed F c → EndsAsWriteFailed G c
as_failed_from F G (HostEnded r) f (e, h) = (e, f h)
as_failed_from F G _ f h = tt

pub ends_last : (F G : Type 0) (cs ds : List Call) → (F → G) → NoneEnds ds → EndsLast F cs → EndsLast G (cs ++ ds)
ends_last F G [] ds f h k = ends_none G ds h
ends_last F G (c ∷ cs) ds f h (k, e) = (none_ends_append cs ds k h, as_failed_from F G c f e)

-- frames, and behind them what was sent later
pub sends_after : (F G : Type 0) (ts us : List (List ℕ)) (b c : List ℕ) (s : Bool) → (F → G) → b ≡ frames ts → Sends F us c s → Sends G (ts ++ us) (b ++ c) s
sends_after F G ts us b c s f is (whole e) = whole (ap (λ x. x ++ c) is ∙ ap (λ x. frames ts ++ x) e ∙ sym (frames-append ts us))
sends_after F G ts us b c true f is (in_part h before last n x y) =
    in_part (f h) (ts ++ before) last n (ap (λ z. ts ++ z) x ∙ sym (append_assoc ts before (last ∷ [])))
    (ap (λ z. z ++ c) is ∙ ap (λ z. frames ts ++ z) y ∙ sym (append_assoc (frames ts) (frames before) (take n (frame last))) ∙ ap (λ z. z ++ take n (frame last)) (sym (frames-append ts before)))

pub rose_later : (a b c : ℕ) → a ≤ b → Rose b c → Rose a c
rose_later a b c le h = omega (arith, le, h)

-- two halves in one, whose entries are those of both
pub record AddedIn (a c : HostDeskState) (x z : InState) (refused : Bool) (before more : List Seen) : Type 0 where
  pub half : IsInHalf a c x z refused
  pub more_is : half.more ≡ more ++ before

pub added_in : (a b c : HostDeskState) (x y z : InState) (refused : Bool) (h : IsInHalf a b x y false) (k : IsInHalf b c y z refused) → NoneEnds (calls_in h.more) → TextsStay (past_of b) h.more → b.who ≡ a.who → x.faults ≤ y.faults → AddedIn a c x z refused h.more k.more
added_in a b c x y z refused h k none stays who later =
    let F : Type 0 = Rose y.faults z.faults in
    let G : Type 0 = Rose x.faults z.faults in
    let f : F → G = rose_later x.faults y.faults z.faults later in
    let taken_then : List (List ℕ) = texts_of_takes (past_of b) h.more in
    let taken_now : List (List ℕ) = texts_of_takes (past_of c) h.more in
    let on : List (List ℕ) = texts_of_takes (past_of c) k.more in
    let same : taken_then ≡ taken_now = sym (ap (λ p. texts_of_takes p h.more) (past_between b c k.more k.seen) ∙ stays (entries_in k.more)) in
    let first : h.bytes ≡ frames taken_then = sent_whole (Rose x.faults y.faults) taken_then h.bytes (ends_by_write (calls_in h.more) || false) h.frames (ap (λ o. o || false) (not_by_write (calls_in h.more) none)) in
    let stopped : Bool = ends_by_write (calls_in k.more) || refused in
    let both = sends_after F G taken_now on h.bytes k.bytes stopped f (first ∙ ap frames same) k.frames in
    let T : List (List ℕ) → Type 0 = λ ts. Sends G ts (h.bytes ++ k.bytes) stopped in
    let B : Bool → Type 0 = λ o. Sends G (texts_of_takes (past_of c) (k.more ++ h.more)) (h.bytes ++ k.bytes) (o || refused) in
    let flag : ends_by_write (calls_in (k.more ++ h.more)) ≡ ends_by_write (calls_in k.more) = ap ends_by_write (calls-append k.more h.more) ∙ by_write_front (calls_in k.more) (calls_in h.more) none in
    let H : HostNo → Type 0 = λ g. EachOwn (TakesReady g) (past_of b) k.more in
    let E : List Entry → Type 0 = λ es. EachOwn (TakesReady a.who) es k.more in
    record {
      half = record {
        more = k.more ++ h.more;
        seen = k.seen ∙ ap (λ xs. k.more ++ xs) h.seen ∙ sym (append_assoc k.more h.more a.history);
        bytes = h.bytes ++ k.bytes;
        sent = k.sent ∙ ap (λ s. added s k.bytes) h.sent ∙ added_twice x.sent h.bytes k.bytes;
        frames = subst B (sym flag) (subst T (sym (taken-append (past_of c) k.more h.more)) both);
        ended = subst (EndsLast G) (sym (calls-append k.more h.more)) (ends_last F G (calls_in k.more) (calls_in h.more) f none k.ended);
        ready = each-append (TakesReady a.who) (past_of a) k.more h.more (subst E (past_between a b h.more h.seen) (subst H who k.ready)) h.ready;
      };
      more_is = refl;
    }

-- The output

each_map : (P Q : List Entry → Call → Type 0) → ((es : List Entry) (c : Call) → P es c → Q es c) → (past : List Entry) (more : List Seen) → EachOwn P past more → EachOwn Q past more
each_map P Q f past [] h = tt
each_map P Q f past (s ∷ more) (h, own) = (each_map P Q f past more h, λ is. f (entries_in more ++ past) s.entry.call (own is))

ends_map : (C D : Bool → Reason → Type 0) (h : HostNo) (past : List Entry) (call : Call) → ((closed : Bool) (reason : Reason) → C closed reason → D closed reason) → EndsFor C h past call → EndsFor D h past call
ends_map C D h past (HostEnded reason) f (none, c) = (none, f _ reason c)
ends_map C D h past _ f e = tt

-- a cause in what was read later is one in what was read in all
cause_later : (A B : Type 0) (r w : List ℕ) (x y z : OutState) → (A → B) → x.faults ≤ y.faults → ((old new : OutState) (reason : Reason) → IsReadingEnd r old new reason → IsReadingEnd w old new reason) → (closed : Bool) (reason : Reason) → IsCause A r y z closed reason → IsCause B w x z closed reason
cause_later A B r w x y z f le on closed Closed h = h
cause_later A B r w x y z f le on closed StartFailed h = (f h.0, on y z StartFailed h.1)
cause_later A B r w x y z f le on closed ReadFailed h = let (rose, none) = on y z ReadFailed h.1 in (f h.0, (rose_later x.faults y.faults z.faults le rose, none))
cause_later A B r w x y z f le on closed WriteFailed h = (f h.0, on y z WriteFailed h.1)
cause_later A B r w x y z f le on closed (TooLong n) h = (f h.0, on y z (TooLong n) h.1)
cause_later A B r w x y z f le on closed (BadJson place kind) h = (f h.0, on y z (BadJson place kind) h.1)
cause_later A B r w x y z f le on closed (Cut have) h = (f h.0, on y z (Cut have) h.1)
cause_later A B r w x y z f le on closed Exited h = (f h.0, on y z Exited h.1)

no_end : (C : Bool → Reason → Type 0) (h : HostNo) (past : List Entry) (call : Call) → is_host_end call ≡ false → EndsFor C h past call
no_end C h past (HostEnded reason) e = absurd cc
no_end C h past _ e = tt

none_of : (b : Bool) (call : Call) (cs : List Call) → NoneEnds (cond b (call ∷ []) [] ++ cs) → (b ≡ true → is_host_end call ≡ false) × NoneEnds cs
none_of true call cs (e, h) = (λ is. e, h)
none_of false call cs h = (λ is. absurd cc, h)

each_no_end : (C : Bool → Reason → Type 0) (h : HostNo) (past : List Entry) (more : List Seen) → NoneEnds (calls_in more) → EachOwn (EndsFor C h) past more
each_no_end C h past [] none = tt
each_no_end C h past (s ∷ more) none =
    let (first, others) = none_of s.own s.entry.call (calls_in more) none in
    (each_no_end C h past more others, λ is. no_end C h (entries_in more ++ past) s.entry.call (first is))

pub record AddedOut (a c : HostDeskState) (r t : Unfinished) (x z : OutState) (refused : Bool) (before more : List Seen) : Type 0 where
  pub half : IsOutHalf a c r t x z refused
  pub more_is : half.more ≡ more ++ before

read_on : (a b c : HostDeskState) (r s t : Unfinished) (x y z : OutState) (refused : Bool) (h : IsOutHalf a b r s x y false) (k : IsOutHalf b c s t y z refused) → NoneEnds (calls_in h.more) → b.who ≡ a.who → x.faults ≤ y.faults → ReadsOn h.rest k.bytes k.texts k.rest → AddedOut a c r t x z refused h.more k.more
read_on a b c r s t x y z refused h k none who later on =
    let all_said : h.texts ≡ texts_said h.more = h.said ∙ ap (λ u. texts_said h.more ++ u) (h.all refl) ∙ append-nil (texts_said h.more) in
    let said_both : texts_said (k.more ++ h.more) ≡ texts_said h.more ++ texts_said k.more = said-append k.more h.more in
    let A : Type 0 = texts_said k.more ≡ k.texts in
    let B : Type 0 = texts_said (k.more ++ h.more) ≡ h.texts ++ k.texts in
    let f : A → B = λ e. said_both ∙ ap (λ w. w ++ texts_said k.more) (sym all_said) ∙ ap (λ w. h.texts ++ w) e in
    let C : Bool → Reason → Type 0 = IsCause A k.rest y z in
    let D : Bool → Reason → Type 0 = IsCause B on.whole x z in
    let H : HostNo → Type 0 = λ g. EachOwn (EndsFor C g) (past_of b) k.more in
    let E : List Entry → Type 0 = λ es. EachOwn (EndsFor C a.who) es k.more in
    let second = subst E (past_between a b h.more h.seen) (subst H who k.ends) in
    let ends = each_map (EndsFor C a.who) (EndsFor D a.who) (λ es call e. ends_map C D a.who es call (cause_later A B k.rest on.whole x y z f later on.reason) e) (entries_in h.more ++ past_of a) k.more second in
    let S : List ℕ → Type 0 = λ z. IsSplit LONGEST_SAID z (h.texts ++ k.texts) on.whole in
    record {
      half = record {
        more = k.more ++ h.more;
        seen = k.seen ∙ ap (λ xs. k.more ++ xs) h.seen ∙ sym (append_assoc k.more h.more a.history);
        bytes = h.bytes ++ k.bytes;
        given = gives_more x.stream y.stream z.stream h.bytes k.bytes h.given k.given;
        texts = h.texts ++ k.texts;
        rest = on.whole;
        split = subst S (append_assoc r.bytes h.bytes k.bytes) (split_on (r.bytes ++ h.bytes) h.rest k.bytes h.texts k.texts k.rest h.split k.split.fit on);
        unsaid = k.unsaid;
        said = ap (λ w. w ++ k.texts) all_said ∙ ap (λ w. texts_said h.more ++ w) k.said ∙ sym (append_assoc (texts_said h.more) (texts_said k.more) k.unsaid) ∙ ap (λ w. w ++ k.unsaid) (sym said_both);
        all = k.all;
        kept = λ e. on.keeps t.bytes (k.kept e);
        ends = each-append (EndsFor D a.who) (past_of a) k.more h.more ends (each_no_end D a.who (past_of a) h.more none);
      };
      more_is = refl;
    }

pub added_out : (a b c : HostDeskState) (r s t : Unfinished) (x y z : OutState) (refused : Bool) (h : IsOutHalf a b r s x y false) (k : IsOutHalf b c s t y z refused) → NoneEnds (calls_in h.more) → b.who ≡ a.who → x.faults ≤ y.faults → AddedOut a c r t x z refused h.more k.more
added_out a b c r s t x y z refused h k none who later = read_on a b c r s t x y z refused h k none who later (reads_on h.rest s.bytes k.bytes k.texts k.rest (h.kept refl) k.split)
