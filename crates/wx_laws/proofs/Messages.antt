-- The texts that a context takes on a channel, in order.
use Rattle.std.proofs.Common.{◌≡◌, ℕ, suc, zero, ◌<◌, List, [], ◌∷◌, ◌++◌, length, map, refl, ap, ◌∙◌, Bool, true, false, cond, not, arith, subst, sym, append_assoc, ◌⊎◌, inl, inr}
use Rattle.std.specs.Prelude.{Option, Some, None, ◌||◌, ◌&&◌, filter, ◌==◌, slice_get, option_to_list, reverse}
use Rattle.std.specs.Option.{option_or}
use Rattle.std.proofs.lemmas.Bool.{eqb-true, and_parts, or_parts}
use Rattle.std.proofs.lemmas.List.{append-nil, reverse-append, length-reverse, map-append}
use Rattle.std.proofs.lemmas.List.Elements.{filter-append}
use Rattle.wx_id.proofs.ContextLemmas.{same_context_is}
use Rattle.wx_id.specs.Numbers.{entry_no}
use Rattle.wx_id.specs.Contexts.{is_among, same_context}
use Rattle.wx_id.specs.declared.numbers.ContextNo.{ContextNo}
use Rattle.wx_id.specs.declared.numbers.HostNo.{HostNo}
use Rattle.wx_id.specs.declared.numbers.EntryNo.{EntryNo}
use Rattle.wx_id.specs.declared.events.Event.{Event}
use Rattle.wx_id.specs.declared.events.EventKind.{EventKind}
use Rattle.wx_id.specs.declared.events.End.{End}
use Rattle.wx_id.specs.declared.events.End.TheVariants.{Opener, Receiver, Neither}
use Rattle.wx_id.specs.declared.events.EventKind.TheVariants.{Connected, Message, Asked}
use Rattle.wx_context.specs.declared.contexts.Context.{Context}
use Rattle.wx_context.specs.declared.contexts.Target.{Target}
use Rattle.wx_external.specs.World.{WorldLists}
use Rattle.wx_machine.specs.declared.entries.Who.{Who}
use Rattle.wx_machine.specs.declared.entries.Call.{Call}
use Rattle.wx_machine.specs.declared.entries.Answer.{Answer}
use Rattle.wx_machine.specs.declared.entries.Entry.{Entry}
use Rattle.wx_machine.specs.declared.work.Work.{Work}
use Rattle.wx_machine.specs.Words.{first, text_in, text_carried, text_of, is_by, enters, if_numbered, context_of, is_there, has_left, is_live, listens_of, numbers}
use Rattle.wx_machine.specs.Words.{reaches_from, is_receiver, receivers_of, Ends, opened_by, opens, channels, channel, end_in, asks, requests, is_asked, work_of, is_for_channel}
use Rattle.wx_machine.specs.Words.{is_one, ends_by, is_closed, is_receiving, on, connected, side_of, goes, goes_to, said, message, disconnected, asked, replied, unanswered}
use Rattle.wx_machine.specs.Words.{tells, marked, delivered, queued, event_in, taken, is_of, drops_by, pending, at_end, answer_after}
use Rattle.wx_machine.specs.declared.entries.Who.TheVariants.{Context as ByContext, Host as ByHost}
use Rattle.wx_machine.specs.declared.entries.Call.TheVariants.{Connect, Post, Disconnect, Take, ConnectNative, HostSaid}
use Rattle.wx_machine.specs.declared.entries.Answer.TheVariants.{Done, Gone, Posted, NoEffect, Passed, Channel as OnChannel, Event as Told}
use Rattle.wx_machine.specs.declared.work.Work.TheVariants.{Channel as ForChannel, Request as ForRequest}
use Rattle.wx_machine.specs.declared.sorts.Sort.TheVariants.{Connection}
use Rattle.wx_laws.specs.ClosingLaw.{are_across, disconnects}
use Rattle.wx_laws.specs.Legal.{IsLegalPast}
use Rattle.wx_laws.specs.Prefix.{IsPrefix}
use Rattle.wx_laws.specs.PrefixLaw.{is_message, messages, is_opening, gives, given, TakesInOrder, texts, given_texts, TakesTextsInOrder}
use Rattle.wx_laws.proofs.Closings.{tells_no_more_lem, drops_not, filter_under, of_marked, done_open}
use Rattle.wx_laws.proofs.Endings.{no_replies, no_disconnected, no_unanswered}
use Rattle.wx_laws.proofs.Numbers.{eqb_refl, at_number, none_on, of_six}
use Rattle.wx_laws.proofs.Places.{channel_later, host_within, closed_later}
use Rattle.wx_laws.proofs.Taking.{takes, leaves_others}
use Rattle.wx_laws.proofs.Waiting.{leaves_waiting, told_first, waits_after}

abbrev pub of_messages : ℕ → List Event → List Event
of_messages k events = filter (λ event. is_message k event.kind) events

is_of_message : (kind : EventKind) (k : ℕ) → is_message k kind ≡ true → is_of k kind ≡ true
is_of_message (Message j) k h = h
is_of_message _ k h = absurd (let q : false ≡ true = h in cc)

-- of what an entry tells only its message is one
only_message : (past : List Entry) (e : Entry) (c : ContextNo) (k : ℕ) → filter (is_message k) (tells past e c) ≡ filter (is_message k) (message past e.who e.call e.answer c)
only_message past e c k =
    let n = length (channels past) in
    of_six (is_message k) (connected n (opens past e) c) (message past e.who e.call e.answer c) (disconnected past e e.call c)
    (asked (length (requests past)) (asks past e) c) (replied past e.who e.call e.answer c) (unanswered past e e.call c)
    [] (filter (is_message k) (message past e.who e.call e.answer c)) [] [] [] []
    (none_on (is_message k) (is_receiving (end_in (opens past e) c)) (Connected (record { 0 = n })) refl)
    refl
    (no_disconnected (is_message k) (λ j. refl) past e e.call c)
    (none_on (is_message k) (is_asked (asks past e) c) (Asked (record { 0 = length (requests past) })) refl)
    (no_replies (is_message k) (λ j. refl) past c e.who e.call e.answer)
    (no_unanswered (is_message k) (λ j. refl) past e e.call c)
    ∙ ends (filter (is_message k) (message past e.who e.call e.answer c))
  where
    ends : (xs : List EventKind) → (xs ++ []) ++ [] ≡ xs
    ends xs = append-nil (xs ++ []) ∙ append-nil xs

-- a filter that keeps all, and one that keeps none
keep_all : (xs : List Event) → filter (λ x. true) xs ≡ xs
keep_all [] = refl
keep_all (x ∷ xs) = ap (λ l. x ∷ l) (keep_all xs)

keep_none : (xs : List Event) → filter (λ x. false) xs ≡ []
keep_none [] = refl
keep_none (x ∷ xs) = keep_none xs

-- an entry takes an event for context c, or none
takes_or : (call : Call) (answer : Answer) (mine : Bool) → ((event : Event) × (call ≡ Take) × (answer ≡ Told event) × (mine ≡ true)) ⊎ (event_in call answer mine ≡ [])
takes_or Take (Told event) true = inl (event, refl, refl, refl)
takes_or Take (Told event) false = inr refl
takes_or _ _ _ = inr refl

by_is : (who : Who) (c : ContextNo) → is_by who c ≡ true → who ≡ ByContext c
by_is (ByContext d) c h = ap (λ (x : ContextNo). ByContext x) (same_context_is d c h)
by_is (ByHost g) c h = absurd (let q : false ≡ true = h in cc)

first_is : (xs : List Event) (event : Event) → first xs ≡ Some event → (others : List Event) × (xs ≡ event ∷ others)
first_is [] event h = absurd (cc)
first_is (x ∷ xs) event h = let same : x ≡ event = cc in (xs, ap (λ y. y ∷ xs) same)

-- what an entry takes and leaves of the messages of channel k is what waited, unless c disconnects it
abbrev Keeps : List Entry → ContextNo → ℕ → Entry → Type 0
Keeps past c k e =
    of_messages k (event_in e.call e.answer (is_by e.who c)) ++ of_messages k (filter (leaves_waiting e c) (pending past c)) ≡ of_messages k (pending past c)

keeps_none_taken : (past : List Entry) (e : Entry) (c : ContextNo) (k : ℕ) → event_in e.call e.answer (is_by e.who c) ≡ [] → (is_by e.who c && disconnects k e.call e.answer) ≡ false → Keeps past c k e
keeps_none_taken past e c k none stays =
    rw none
    (filter_under (λ event. is_message k event.kind) (leaves_waiting e c) (λ event. true)
    (λ event is. rw none (left (is_by e.who c && drops_by e.call e.answer event.kind) (drops_not (is_by e.who c) e.call e.answer event.kind k (is_of_message event.kind k is) stays)))
    (pending past c)
    ∙ ap (of_messages k) (keep_all (pending past c)))
  where
    left : (b : Bool) → b ≡ false → (not false && not b) ≡ true
    left true h = absurd (let q : true ≡ false = h in cc)
    left false h = refl

keeps_taken : (past : List Entry) (c : ContextNo) (k : ℕ) (event : Event) (others : List Event) → pending past c ≡ event ∷ others → Keeps past c k (takes c event)
keeps_taken past c k event others is =
    rw (eqb_refl c.0, leaves_others past c event others is, is) (one (is_message k event.kind))
  where
    one : (b : Bool) → cond b (event ∷ []) [] ++ of_messages k others ≡ cond b (event ∷ of_messages k others) (of_messages k others)
    one true = refl
    one false = refl

keeps : (world : WorldLists) (past : List Entry) (e : Entry) (c : ContextNo) (k : ℕ) → IsLegalPast world (e ∷ past) → (is_by e.who c && disconnects k e.call e.answer) ≡ false → Keeps past c k e
keeps world past e c k legal stays = parts (takes_or e.call e.answer (is_by e.who c))
  where
    took_one : (event : Event) → e.call ≡ Take → e.answer ≡ Told event → e.who ≡ ByContext c → Keeps past c k e
    took_one event p q r =
        let l : Told event ≡ answer_after world past (ByContext c) Take =
        sym q ∙ legal.1.answered ∙ ap (λ (w : Who). answer_after world past w e.call) r ∙ ap (λ (x : Call). answer_after world past (ByContext c) x) p in
        let f = first_is (pending past c) event (told_first (is_live past c) (first (pending past c)) event l) in
        let same : takes c event ≡ e =
        sym (ap (λ (w : Who). record { who = w; call = e.call; answer = e.answer }) r
        ∙ ap (λ (l : Call). record { who = ByContext c; call = l; answer = e.answer }) p
        ∙ ap (λ (a : Answer). record { who = ByContext c; call = Take; answer = a }) q) in
        subst (λ (x : Entry). Keeps past c k x) same (keeps_taken past c k event f.0 f.1)

    parts : ((event : Event) × (e.call ≡ Take) × (e.answer ≡ Told event) × (is_by e.who c ≡ true)) ⊎ (event_in e.call e.answer (is_by e.who c) ≡ []) → Keeps past c k e
    parts (inl t) = took_one t.0 t.1 t.2 (by_is e.who c t.3)
    parts (inr none) = keeps_none_taken past e c k none stays

-- where c disconnects channel k it takes nothing, leaves no message of it, is told none, and the channel is closed
abbrev Drops : List Entry → ContextNo → ℕ → Entry → Who → Call → Answer → Type 0
Drops past c k e who call answer =
    (event_in call answer (is_by who c) ≡ []) × (filter (is_message k) (message past who call answer c) ≡ []) × (ends_by past e k (channel past k) who call ≡ true)
    × ((event : Event) → is_of k event.kind ≡ true → drops_by call answer event.kind ≡ true)

done_all : (live closed : Bool) (x : End) → Done ≡ cond live (at_end x closed NoEffect Done) Gone → (live ≡ true) × (is_one x ≡ true)
done_all false closed x h = absurd (cc)
done_all true closed Neither h = absurd (cc)
done_all true closed Opener h = (refl, refl)
done_all true closed Receiver h = (refl, refl)

drops : (world : WorldLists) (past : List Entry) (c : ContextNo) (k : ℕ) (e : Entry) (who : Who) (call : Call) (answer : Answer)
    → answer ≡ answer_after world past who call → disconnects k call answer ≡ true → Drops past c k e who call answer
drops world past c k e (ByContext d) (Disconnect j) Done l is =
    let same : j.0 ≡ k = eqb-true j.0 k is in
    let t = done_all (is_live past d) (is_closed past j.0) (end_in (channel past j.0) d) l in
    let one : is_one (end_in (channel past k) d) ≡ true = subst (λ (n : ℕ). is_one (end_in (channel past n) d) ≡ true) same t.1 in
    (refl, refl, rw (is, one, t.0) refl, λ event p. subst (λ (n : ℕ). is_of n event.kind ≡ true) (sym same) p)
drops world past c k e (ByHost h) (Disconnect j) Done l is = absurd (let q : Done ≡ Gone = l in cc)
drops world past c k e _ _ _ l is = absurd (let q : false ≡ true = is in cc)

-- the messages that c took and those that wait are those delivered, or the channel was cut off from c
data Order (past : List Entry) (c : ContextNo) (k : ℕ) : Type 0 where
  Whole : of_messages k (taken past c) ++ of_messages k (pending past c) ≡ of_messages k (queued past c) → Order past c k
  Cut : is_closed past k ≡ true → of_messages k (pending past c) ≡ [] → IsPrefix (of_messages k (taken past c)) (of_messages k (queued past c)) → Order past c k

regroup : (t f l d : List Event) → (t ++ f) ++ (l ++ d) ≡ (t ++ (f ++ l)) ++ d
regroup t f l d = simp append_assoc

empty_parts : (f l : List Event) → f ++ l ≡ [] → (f ≡ []) × (l ≡ [])
empty_parts [] l h = (refl, h)
empty_parts (x ∷ f) l h = absurd (cc)

ordered : (world : WorldLists) (past : List Entry) (c : ContextNo) (k : ℕ) → IsLegalPast world past → Order past c k
ordered world [] c k legal = Whole refl
ordered world (e ∷ past) c k legal = step (is_by e.who c && disconnects k e.call e.answer) refl (ordered world past c k legal.0)
  where
    -- the messages taken, left and delivered by e
    took : List Event
    took = of_messages k (event_in e.call e.answer (is_by e.who c))

    left : List Event
    left = of_messages k (filter (leaves_waiting e c) (pending past c))

    told : List Event
    told = of_messages k (delivered past e c)

    taken_is : of_messages k (taken (e ∷ past) c) ≡ of_messages k (taken past c) ++ took
    taken_is = filter-append (λ event. is_message k event.kind) (taken past c) (event_in e.call e.answer (is_by e.who c))

    pending_is : of_messages k (pending (e ∷ past) c) ≡ left ++ told
    pending_is = ap (of_messages k) (waits_after world past e c legal) ∙ filter-append (λ event. is_message k event.kind) (filter (leaves_waiting e c) (pending past c)) (delivered past e c)

    queued_is : of_messages k (queued (e ∷ past) c) ≡ of_messages k (queued past c) ++ told
    queued_is = filter-append (λ event. is_message k event.kind) (queued past c) (delivered past e c)

    told_is : told ≡ map (marked (length past)) (filter (is_message k) (message past e.who e.call e.answer c))
    told_is = of_marked (length past) (is_message k) (tells past e c) ∙ ap (map (marked (length past))) (only_message past e c k)

    closed_still : is_closed past k ≡ true → is_closed (e ∷ past) k ≡ true
    closed_still h = closed_later past e k ∙ rw h refl

    none_told : is_closed past k ≡ true → told ≡ []
    none_told h =
        of_marked (length past) (is_message k) (tells past e c)
        ∙ ap (map (marked (length past))) (fewer (tells past e c) (tells_no_more_lem world past e c k legal h))
      where
        fewer : (kinds : List EventKind) → filter (is_of k) kinds ≡ [] → filter (is_message k) kinds ≡ []
        fewer [] h = refl
        fewer (x ∷ xs) h = one (is_of k x) refl (is_message k x) refl h (fewer xs)
          where
            one : (a : Bool) → is_of k x ≡ a → (b : Bool) → is_message k x ≡ b → cond a (x ∷ filter (is_of k) xs) (filter (is_of k) xs) ≡ []
                → (filter (is_of k) xs ≡ [] → filter (is_message k) xs ≡ []) → cond b (x ∷ filter (is_message k) xs) (filter (is_message k) xs) ≡ []
            one true i b j h rest = absurd (cc)
            one false i true j h rest = let q : is_of k x ≡ true = is_of_message x k j in absurd (let z : false ≡ true = sym i ∙ q in cc)
            one false i false j h rest = rest h

    step : (b : Bool) → (is_by e.who c && disconnects k e.call e.answer) ≡ b → Order past c k → Order (e ∷ past) c k
    step false is (Whole w) =
        Whole (rw (taken_is, pending_is, queued_is, regroup (of_messages k (taken past c)) took left told, keeps world past e c k legal is, w) refl)
    step false is (Cut closed none pre) =
        let t = empty_parts took left (keeps world past e c k legal is ∙ none) in
        Cut (closed_still closed) (rw (pending_is, t.1, none_told closed) refl)
        (rw (taken_is, queued_is, t.0, none_told closed, append-nil (of_messages k (taken past c)), append-nil (of_messages k (queued past c))) pre)
    step true is (Whole w) =
        let m = and_parts (is_by e.who c) (disconnects k e.call e.answer) is in
        let d = drops world past c k e e.who e.call e.answer legal.1.answered m.1 in
        let nothing_left : left ≡ [] =
        filter_under (λ event. is_message k event.kind) (leaves_waiting e c) (λ event. false)
        (λ event p. rw (d.0, m.0, d.3 event (is_of_message event.kind k p)) refl) (pending past c)
        ∙ ap (of_messages k) (keep_none (pending past c)) in
        let nothing_told : told ≡ [] = told_is ∙ ap (map (marked (length past))) d.1 in
        Cut (closed_later past e k ∙ rw d.2 (or_true (is_closed past k))) (rw (pending_is, nothing_left, nothing_told) refl)
        (rw (taken_is, queued_is, d.0, nothing_told, append-nil (of_messages k (taken past c)), append-nil (of_messages k (queued past c))) (of_messages k (pending past c), sym w))
      where
        or_true : (b : Bool) → (b || true) ≡ true
        or_true true = refl
        or_true false = refl
    step true is (Cut closed none pre) =
        let m = and_parts (is_by e.who c) (disconnects k e.call e.answer) is in
        let q : is_closed past k ≡ false = done_open world past k e.who e.call e.answer legal.1.answered m.1 in
        absurd (let z : true ≡ false = sym closed ∙ q in cc)

taken_first : (past : List Entry) (c : ContextNo) (k : ℕ) → Order past c k → IsPrefix (of_messages k (taken past c)) (of_messages k (queued past c))
taken_first past c k (Whole w) = (of_messages k (pending past c), sym w)
taken_first past c k (Cut closed none pre) = pre

-- what end c is of channel k, once the channel is there
abbrev IsEnd : List Entry → ContextNo → ℕ → End → Type 0
IsEnd past c k end = (channel past k ≡ None) ⊎ (end_in (channel past k) c ≡ end)

end_before : (past : List Entry) (e : Entry) (c : ContextNo) (k : ℕ) (end : End) → IsEnd (e ∷ past) c k end → IsEnd past c k end
end_before past e c k end h = parts (channel past k) refl (subst (λ (o : Option Ends). (o ≡ None) ⊎ (end_in o c ≡ end)) (channel_later past e k) h)
  where
    parts : (o : Option Ends) → channel past k ≡ o → (option_or o (cond (length (channels past) == k) (opens past e) None) ≡ None) ⊎ (end_in (option_or o (cond (length (channels past) == k) (opens past e) None)) c ≡ end) → IsEnd past c k end
    parts None is h = inl is
    parts (Some x) is (inl n) = absurd (cc)
    parts (Some x) is (inr m) = inr (rw is m)

within_some : {X : Type 0} (xs : List X) (k : ℕ) → k < length xs → slice_get xs k ≡ None → ⊥
within_some [] k h n = omega arith
within_some (x ∷ xs) zero h n = cc
within_some (x ∷ xs) (suc k) h n = within_some xs k (omega arith) n

goes_is : (a : Bool) (y x : End) (live : Bool) → (a && goes y x live) ≡ ((a && are_across y x) && (is_opening x || live))
goes_is false y x live = refl
goes_is true Opener Opener live = refl
goes_is true Opener Receiver live = refl
goes_is true Opener Neither live = refl
goes_is true Receiver Opener live = refl
goes_is true Receiver Receiver live = refl
goes_is true Receiver Neither live = refl
goes_is true Neither Opener live = refl
goes_is true Neither Receiver live = refl
goes_is true Neither Neither live = refl

said_is : (a : Bool) (x : End) (live : Bool) → (a && goes Receiver x live) ≡ ((a && is_opening x) && (is_opening x || live))
said_is false x live = refl
said_is true Opener live = refl
said_is true Receiver live = refl
said_is true Neither live = refl

none_given : (a b : Bool) → (a && false) ≡ ((a && false) && b)
none_given true b = refl
none_given false b = refl

host_message : (past : List Entry) (c : ContextNo) (k : ℕ) (end : End) (g : HostNo) (work : Option Work) → (is_for_channel k work ≡ true → k < length (channels past)) → IsEnd past c k end
    → filter (is_message k) (said past (ByHost g) work c) ≡ on ((is_for_channel k work && is_opening end) && (is_opening end || is_live past c)) (Message (record { 0 = k }))
host_message past c k end g None there h = refl
host_message past c k end g (Some (ForRequest r)) there h = refl
host_message past c k end g (Some (ForChannel j)) there h =
    at_number (is_message k) (λ n. Message (record { 0 = n })) k (λ n. refl) (λ n. goes_to past (channel past n) (ByHost g) c) j.0
    ∙ ap (λ b. on b (Message (record { 0 = k }))) (parts h (j.0 == k) refl)
  where
    parts : IsEnd past c k end → (b : Bool) → (j.0 == k) ≡ b → ((j.0 == k) && goes Receiver (end_in (channel past k) c) (is_live past c)) ≡ (((j.0 == k) && is_opening end) && (is_opening end || is_live past c))
    parts h false is = rw is refl
    parts (inl n) true is = absurd (within_some (channels past) k (there is) n)
    parts (inr m) true is = rw m (said_is (j.0 == k) end (is_live past c))

told_messages : (world : WorldLists) (past : List Entry) (c : ContextNo) (k : ℕ) (end : End) (who : Who) (call : Call) (answer : Answer)
    → answer ≡ answer_after world past who call → IsEnd past c k end
    → filter (is_message k) (message past who call answer c) ≡ on (gives past k end who call answer && (is_opening end || is_live past c)) (Message (record { 0 = k }))
told_messages world past c k end (ByContext d) (Post j text) Posted l h =
    at_number (is_message k) (λ n. Message (record { 0 = n })) k (λ n. refl) (λ n. goes_to past (channel past n) (ByContext d) c) j.0
    ∙ ap (λ b. on b (Message (record { 0 = k }))) (parts h)
  where
    parts : IsEnd past c k end → ((j.0 == k) && goes (end_in (channel past k) d) (end_in (channel past k) c) (is_live past c)) ≡ (((j.0 == k) && are_across (end_in (channel past k) d) end) && (is_opening end || is_live past c))
    parts (inl n) = rw n (none_given (j.0 == k) (is_opening end || is_live past c))
    parts (inr m) = rw m (goes_is (j.0 == k) (end_in (channel past k) d) end (is_live past c))
told_messages world past c k end (ByHost g) (Post j text) Posted l h = absurd (let q : Posted ≡ Gone = l in cc)
told_messages world past c k end (ByHost g) (HostSaid text) Passed l h = host_message past c k end g (work_of past g) (λ is. host_within past g k is) h
told_messages world past c k end (ByContext d) (HostSaid text) Passed l h = refl
told_messages world past c k end _ _ _ l h = refl

-- nothing is given on a channel that is not there, nor at no end
gives_later : (world : WorldLists) (past : List Entry) (k : ℕ) (end : End) (who : Who) (call : Call) (answer : Answer)
    → answer ≡ answer_after world past who call → channel past k ≡ None → gives past k end who call answer ≡ false
gives_later world past k end (ByContext d) (Post j text) Posted l n = rw n (none (j.0 == k))
  where
    none : (b : Bool) → (b && false) ≡ false
    none true = refl
    none false = refl
gives_later world past k end (ByHost g) (Post j text) Posted l n = absurd (let q : Posted ≡ Gone = l in cc)
gives_later world past k end (ByHost g) (HostSaid text) Passed l n = parts (is_for_channel k (work_of past g)) refl
  where
    parts : (b : Bool) → is_for_channel k (work_of past g) ≡ b → (b && is_opening end) ≡ false
    parts true is = absurd (within_some (channels past) k (host_within past g k is) n)
    parts false is = refl
gives_later world past k end (ByContext d) (HostSaid text) Passed l n = refl
gives_later world past k end _ _ _ l n = refl

gives_to_one : (past : List Entry) (k : ℕ) (who : Who) (call : Call) (answer : Answer) → gives past k Neither who call answer ≡ false
gives_to_one past k who (Post j text) Posted = parts (j.0 == k) (side_of (channel past k) who)
  where
    parts : (b : Bool) (y : End) → (b && are_across y Neither) ≡ false
    parts true Opener = refl
    parts true Receiver = refl
    parts true Neither = refl
    parts false y = refl
gives_to_one past k (ByHost g) (HostSaid text) Passed = parts (is_for_channel k (work_of past g))
  where
    parts : (b : Bool) → (b && false) ≡ false
    parts true = refl
    parts false = refl
gives_to_one past k (ByContext d) (HostSaid text) Passed = refl
gives_to_one past k _ _ _ = refl

-- a receiver of a channel came in
among_lives : (past : List Entry) (o : ContextNo) (target : Target) (c : ContextNo) (xs : List ContextNo) → is_among (filter (is_receiver past o target Connection) xs) c ≡ true → is_live past c ≡ true
among_lives past o target c [] h = absurd (let q : false ≡ true = h in cc)
among_lives past o target c (x ∷ xs) h = parts (is_receiver past o target Connection x) refl h (among_lives past o target c xs)
  where
    live_of : (a b d : Bool) → (not a && b && d) ≡ true → b ≡ true
    live_of true b d h = absurd (cc)
    live_of false true d h = refl
    live_of false false d h = absurd (cc)

    here : (b : Bool) → same_context x c ≡ b → is_receiver past o target Connection x ≡ true → (b || is_among (filter (is_receiver past o target Connection) xs) c) ≡ true
        → (is_among (filter (is_receiver past o target Connection) xs) c ≡ true → is_live past c ≡ true) → is_live past c ≡ true
    here true is w h rest =
        subst (λ (y : ContextNo). is_live past y ≡ true) (same_context_is x c is)
        (live_of (same_context x o) (is_live past x) (reaches_from (context_of past o) target Connection (context_of past x) (listens_of past x)) w)
    here false is w h rest = rest h

    parts : (b : Bool) → is_receiver past o target Connection x ≡ b → is_among (cond b (x ∷ filter (is_receiver past o target Connection) xs) (filter (is_receiver past o target Connection) xs)) c ≡ true
        → (is_among (filter (is_receiver past o target Connection) xs) c ≡ true → is_live past c ≡ true) → is_live past c ≡ true
    parts true is h rest = here (same_context x c) refl is h rest
    parts false is h rest = rest h

receiver_is : (a b : Bool) → cond a Opener (cond b Receiver Neither) ≡ Receiver → b ≡ true
receiver_is true b h = absurd (cc)
receiver_is false true h = refl
receiver_is false false h = absurd (cc)

none_receives : Neither ≡ Receiver → ⊥
none_receives h = cc

there_if : (a b : Bool) → (a && b) ≡ true → a ≡ true
there_if true b h = refl
there_if false b h = absurd (cc)

new_receiver : (past : List Entry) (c : ContextNo) (who : Who) (call : Call) (answer : Answer) → end_in (opened_by past who call answer) c ≡ Receiver → is_live past c ≡ true
new_receiver past c (ByContext o) (Connect target name) (OnChannel j) h =
    among_lives past o target c (numbers past) (receiver_is (same_context o c) (is_among (receivers_of past o target Connection) c) h)
new_receiver past c (ByContext o) (ConnectNative name) (OnChannel j) h = absurd (let q : false ≡ true = receiver_is (same_context o c) false h in cc)
new_receiver past c _ _ _ h = absurd (none_receives h)

there_on : (o x : Option Context) → is_there o ≡ true → is_there (option_or o x) ≡ true
there_on None x h = absurd (cc)
there_on (Some y) x h = refl

receiver_there : (past : List Entry) (c : ContextNo) (k : ℕ) → end_in (channel past k) c ≡ Receiver → is_there (context_of past c) ≡ true
receiver_there [] c k h = absurd (none_receives h)
receiver_there (e ∷ past) c k h =
    there_on (context_of past c) (if_numbered c (enters e)) (parts (channel past k) refl (subst (λ (o : Option Ends). end_in o c ≡ Receiver) (channel_later past e k) h) (receiver_there past c k))
  where
    newly : (b : Bool) → end_in (cond b (opens past e) None) c ≡ Receiver → is_there (context_of past c) ≡ true
    newly true h = there_if (is_there (context_of past c)) (not (has_left past c)) (new_receiver past c e.who e.call e.answer h)
    newly false h = absurd (none_receives h)

    parts : (o : Option Ends) → channel past k ≡ o → end_in (option_or o (cond (length (channels past) == k) (opens past e) None)) c ≡ Receiver
        → (end_in (channel past k) c ≡ Receiver → is_there (context_of past c) ≡ true) → is_there (context_of past c) ≡ true
    parts None is h before = newly (length (channels past) == k) h
    parts (Some x) is h before = before (rw is h)

-- where a message is given and does not come, its end had left
left_if : (world : WorldLists) (past : List Entry) (c : ContextNo) (k : ℕ) (end : End) (e : Entry) → e.answer ≡ answer_after world past e.who e.call → IsEnd past c k end
    → gives past k end e.who e.call e.answer ≡ true → (is_opening end || is_live past c) ≡ false → has_left past c ≡ true
left_if world past c k Opener e l h g w = absurd (cc)
left_if world past c k Neither e l h g w = let q = gives_to_one past k e.who e.call e.answer in absurd (let z : true ≡ false = sym g ∙ q in cc)
left_if world past c k Receiver e l (inl n) g w = let q = gives_later world past k Receiver e.who e.call e.answer l n in absurd (let z : true ≡ false = sym g ∙ q in cc)
left_if world past c k Receiver e l (inr m) g w = gone (is_there (context_of past c)) (has_left past c) (receiver_there past c k m) w
  where
    gone : (a b : Bool) → a ≡ true → (a && not b) ≡ false → b ≡ true
    gone true true h w = refl
    gone true false h w = absurd (cc)
    gone false b h w = absurd (cc)

-- the messages delivered to an end are those given at it, or it left and they are the first of these
data Got (past : List Entry) (c : ContextNo) (k : ℕ) (end : End) : Type 0 where
  AllOf : messages k (queued past c) ≡ given past k end → Got past c k end
  FirstOf : is_opening end ≡ false → has_left past c ≡ true → IsPrefix (messages k (queued past c)) (given past k end) → Got past c k end

dead : (a b : Bool) → b ≡ true → (a && not b) ≡ false
dead true true h = refl
dead true false h = absurd (cc)
dead false b h = refl

got : (world : WorldLists) (past : List Entry) (c : ContextNo) (k : ℕ) (end : End) → IsLegalPast world past → IsEnd past c k end → Got past c k end
got world [] c k end legal h = AllOf refl
got world (e ∷ past) c k end legal h =
    step (gives past k end e.who e.call e.answer) refl (is_opening end || is_live past c) refl (got world past c k end legal.0 (end_before past e c k end h))
  where
    n : ℕ
    n = length past

    both : messages k (queued (e ∷ past) c) ≡ messages k (queued past c) ++ cond (gives past k end e.who e.call e.answer && (is_opening end || is_live past c)) (entry_no n ∷ []) []
    both =
        ap (map (λ event. event.entry)) (filter-append (λ event. is_message k event.kind) (queued past c) (delivered past e c)
        ∙ ap (λ l. of_messages k (queued past c) ++ l)
        (of_marked n (is_message k) (tells past e c)
        ∙ ap (map (marked n)) (only_message past e c k ∙ told_messages world past c k end e.who e.call e.answer legal.1.answered (end_before past e c k end h))))
        ∙ map-append (λ event. event.entry) (of_messages k (queued past c)) (map (marked n) (on (gives past k end e.who e.call e.answer && (is_opening end || is_live past c)) (Message (record { 0 = k }))))
        ∙ ap (λ l. messages k (queued past c) ++ l) (numbered (gives past k end e.who e.call e.answer && (is_opening end || is_live past c)))
      where
        numbered : (b : Bool) → map (λ event. event.entry) (map (marked n) (on b (Message (record { 0 = k })))) ≡ cond b (entry_no n ∷ []) []
        numbered true = refl
        numbered false = refl

    still_left : has_left past c ≡ true → has_left (e ∷ past) c ≡ true
    still_left h = rw h refl

    step : (g : Bool) → gives past k end e.who e.call e.answer ≡ g → (w : Bool) → (is_opening end || is_live past c) ≡ w → Got past c k end → Got (e ∷ past) c k end
    step false i w j (AllOf a) = AllOf (both ∙ rw (i, a) refl)
    step true i true j (AllOf a) = AllOf (both ∙ rw (i, j, a) refl)
    step true i false j (AllOf a) =
        FirstOf (or_parts (is_opening end) (is_live past c) j).0 (still_left (left_if world past c k end e legal.1.answered (end_before past e c k end h) i j))
        (rw (both, i, j, a, append-nil (given past k end)) (entry_no n ∷ [], refl))
    step g i w j (FirstOf o l p) =
        FirstOf o (still_left l)
        (rw (both, o, dead (is_there (context_of past c)) (has_left past c) l) (longer (gives past k end e.who e.call e.answer) p))
      where
        longer : (b : Bool) → IsPrefix (messages k (queued past c)) (given past k end) → IsPrefix (messages k (queued past c) ++ cond (b && false) (entry_no n ∷ []) []) (given past k end ++ cond b (entry_no n ∷ []) [])
        longer true p = (p.0 ++ entry_no n ∷ [], rw (append-nil (messages k (queued past c)), p.1) append_assoc_at)
          where
            append_assoc_at : (messages k (queued past c) ++ p.0) ++ entry_no n ∷ [] ≡ messages k (queued past c) ++ (p.0 ++ entry_no n ∷ [])
            append_assoc_at = simp append_assoc
        longer false p = (p.0, rw (append-nil (messages k (queued past c)), append-nil (given past k end)) p.1)

got_first : (past : List Entry) (c : ContextNo) (k : ℕ) (end : End) → Got past c k end → IsPrefix (messages k (queued past c)) (given past k end)
got_first past c k end (AllOf a) = ([], sym a ∙ sym (append-nil (messages k (queued past c))))
got_first past c k end (FirstOf o l p) = p

pub prefix_map : {X Y : Type 0} (f : X → Y) (xs ys : List X) → IsPrefix xs ys → IsPrefix (map f xs) (map f ys)
prefix_map f xs ys p = (map f p.0, ap (map f) p.1 ∙ map-append f xs p.0)

pub prefix_of : {X : Type 0} (xs ys zs : List X) → IsPrefix xs ys → IsPrefix ys zs → IsPrefix xs zs
prefix_of xs ys zs p q = (p.0 ++ q.0, q.1 ∙ ap (λ l. l ++ q.0) p.1 ∙ simp append_assoc)

-- the texts of entries that stand before
abbrev pub Under : ℕ → List EntryNo → Type 0
Under n [] = Unit {0}
Under n (x ∷ xs) = (x.0 < n) × Under n xs

pub under_more : (n : ℕ) (xs : List EntryNo) → Under n xs → Under (suc n) xs
under_more n [] p = tt
under_more n (x ∷ xs) p = let h : x.0 < n = p.0 in (omega arith, under_more n xs p.1)

pub under_new : (n : ℕ) (b : Bool) → Under (suc n) (cond b (entry_no n ∷ []) [])
under_new n true = (omega arith, tt)
under_new n false = tt

pub under-append : (n : ℕ) (xs ys : List EntryNo) → Under n xs → Under n ys → Under n (xs ++ ys)
under-append n [] ys p q = q
under-append n (x ∷ xs) ys p q = (p.0, under-append n xs ys p.1 q)

given_under : (past : List Entry) (k : ℕ) (end : End) → Under (length past) (given past k end)
given_under [] k end = tt
given_under (e ∷ past) k end =
    let b = gives past k end e.who e.call e.answer in
    under-append (suc (length past)) (given past k end) (cond b (entry_no (length past) ∷ []) []) (under_more (length past) (given past k end) (given_under past k end)) (under_new (length past) b)

pub get_before : {X : Type 0} (xs ys : List X) (k : ℕ) → k < length xs → slice_get (xs ++ ys) k ≡ slice_get xs k
get_before [] ys k h = absurd (omega arith)
get_before (x ∷ xs) ys zero h = refl
get_before (x ∷ xs) ys (suc k) h = get_before xs ys k (omega arith)

pub get_last : {X : Type 0} (xs : List X) (x : X) → slice_get (xs ++ x ∷ []) (length xs) ≡ Some x
get_last [] x = refl
get_last (z ∷ xs) x = get_last xs x

later_text : (past : List Entry) (e : Entry) (n : EntryNo) → n.0 < length past → text_of (e ∷ past) n ≡ text_of past n
later_text past e n h =
    let within : n.0 < length (reverse past) = subst (λ (m : ℕ). n.0 < m) (sym (length-reverse past)) h in
    ap text_carried (ap (λ (l : List Entry). slice_get l n.0) (reverse-append (e ∷ []) past) ∙ get_before (reverse past) (e ∷ []) n.0 within)

later_texts : (past : List Entry) (e : Entry) (ns : List EntryNo) → Under (length past) ns → texts (e ∷ past) ns ≡ texts past ns
later_texts past e [] u = refl
later_texts past e (n ∷ ns) u =
    ap (λ t. t ∷ texts (e ∷ past) ns) (later_text past e n u.0) ∙ ap (λ l. text_of past n ∷ l) (later_texts past e ns u.1)

new_text : (past : List Entry) (e : Entry) → text_of (e ∷ past) (entry_no (length past)) ≡ text_in e.call
new_text past e =
    ap text_carried
    (ap (λ (l : List Entry). slice_get l (length past)) (reverse-append (e ∷ []) past)
    ∙ subst (λ (m : ℕ). slice_get (reverse past ++ e ∷ []) m ≡ Some e) (length-reverse past) (get_last (reverse past) e))

gives_text : (past : List Entry) (k : ℕ) (end : End) (who : Who) (call : Call) (answer : Answer) → gives past k end who call answer ≡ true → text_in call ∷ [] ≡ map Some (option_to_list (text_in call))
gives_text past k end who (Post j text) Posted h = refl
gives_text past k end (ByHost g) (HostSaid text) Passed h = refl
gives_text past k end _ _ _ h = absurd (let q : false ≡ true = h in cc)

texts_given : (past : List Entry) (k : ℕ) (end : End) → texts past (given past k end) ≡ map Some (given_texts past k end)
texts_given [] k end = refl
texts_given (e ∷ past) k end =
    map-append (text_of (e ∷ past)) (given past k end) (cond (gives past k end e.who e.call e.answer) (entry_no (length past) ∷ []) [])
    ∙ ap (λ l. l ++ texts (e ∷ past) (cond (gives past k end e.who e.call e.answer) (entry_no (length past) ∷ []) [])) (later_texts past e (given past k end) (given_under past k end) ∙ texts_given past k end)
    ∙ ap (λ l. map Some (given_texts past k end) ++ l) (one (gives past k end e.who e.call e.answer) refl)
    ∙ sym (map-append Some (given_texts past k end) (cond (gives past k end e.who e.call e.answer) (option_to_list (text_in e.call)) []))
  where
    one : (b : Bool) → gives past k end e.who e.call e.answer ≡ b → texts (e ∷ past) (cond b (entry_no (length past) ∷ []) []) ≡ map Some (cond b (option_to_list (text_in e.call)) [])
    one true is = ap (λ t. t ∷ []) (new_text past e) ∙ gives_text past k end e.who e.call e.answer is
    one false is = refl

pub takes_in_order_lem : TakesInOrder
takes_in_order_lem world past c k legal =
    let end = end_in (channel past k) c in
    prefix_of (messages k (taken past c)) (messages k (queued past c)) (given past k end)
    (prefix_map (λ event. event.entry) (of_messages k (taken past c)) (of_messages k (queued past c)) (taken_first past c k (ordered world past c k legal)))
    (got_first past c k end (got world past c k end legal (inr refl)))

pub takes_texts_in_order_lem : TakesTextsInOrder
takes_texts_in_order_lem world past c k legal =
    let end = end_in (channel past k) c in
    subst (IsPrefix (texts past (messages k (taken past c)))) (texts_given past k end)
    (prefix_map (text_of past) (messages k (taken past c)) (given past k end) (takes_in_order_lem world past c k legal))
