-- Whom the closing of a channel is told, and what stays pending.
use Rattle.std.proofs.Common.{◌≡◌, ℕ, ◌<◌, List, [], ◌∷◌, ◌++◌, length, map, refl, ap, ◌∙◌, Bool, true, false, cond, not, arith, subst, sym}
use Rattle.std.specs.Prelude.{Option, Some, None, ◌||◌, ◌&&◌, filter, ◌==◌, nat_lt}
use Rattle.std.specs.Option.{option_or}
use Rattle.std.specs.List.{list_any}
use Rattle.std.proofs.lemmas.Bool.{eqb-true, and_parts, not-true, or_parts}
use Rattle.std.proofs.lemmas.Bool.Decides.{nat_tests}
use Rattle.std.proofs.lemmas.List.{append-nil}
use Rattle.std.proofs.lemmas.List.Elements.{filter-append}
use Rattle.wx_id.proofs.ContextLemmas.{same_context_is}
use Rattle.wx_id.specs.Contexts.{is_among, same_context}
use Rattle.wx_id.specs.declared.numbers.ContextNo.{ContextNo}
use Rattle.wx_id.specs.declared.numbers.ChannelNo.{ChannelNo}
use Rattle.wx_id.specs.declared.events.Event.{Event}
use Rattle.wx_id.specs.declared.events.EventKind.{EventKind}
use Rattle.wx_id.specs.declared.events.End.{End}
use Rattle.wx_id.specs.declared.events.End.TheVariants.{Opener, Receiver, Neither}
use Rattle.wx_id.specs.declared.events.EventKind.TheVariants.{Connected, Message, Disconnected, Asked}
use Rattle.wx_external.specs.World.{WorldLists}
use Rattle.wx_machine.specs.declared.entries.Who.{Who}
use Rattle.wx_machine.specs.declared.entries.Call.{Call}
use Rattle.wx_machine.specs.declared.entries.Answer.{Answer}
use Rattle.wx_machine.specs.declared.entries.Entry.{Entry}
use Rattle.wx_machine.specs.declared.work.Work.{Work}
use Rattle.wx_machine.specs.Words.{is_by, is_leave, is_live, receivers_of, Ends, opened_by, opens, channels, channel, end_in, asks, requests, is_asked}
use Rattle.wx_machine.specs.Words.{work_of, has_live, leaving, ends_by, ends_channel, is_closed, closes, is_receiving, on, connected, side_of, goes}
use Rattle.wx_machine.specs.Words.{goes_to, said, message, disconnected, asked, replied, unanswered, tells, marked, delivered, queued, event_in, taken}
use Rattle.wx_machine.specs.Words.{same_event, is_of, drops_by, is_dropped, is_waiting, pending, at_end, said_for, answer_after}
use Rattle.wx_machine.specs.declared.entries.TheConstants.{LONGEST}
use Rattle.wx_machine.specs.declared.entries.Who.TheVariants.{Context as ByContext, Host as ByHost}
use Rattle.wx_machine.specs.declared.entries.Call.TheVariants.{Leave, Connect, Post, Disconnect, ConnectNative, HostSaid}
use Rattle.wx_machine.specs.declared.entries.Answer.TheVariants.{Done, Gone, Posted, PortClosed, TooLong, NoEffect, Passed, Channel as OnChannel}
use Rattle.wx_machine.specs.declared.work.Work.TheVariants.{Channel as ForChannel, Request as ForRequest}
use Rattle.wx_machine.specs.declared.sorts.Sort.TheVariants.{Connection}
use Rattle.wx_laws.specs.ClosingLaw.{are_across, is_disconnected, TellsTheOtherSide, TellsNoMore, disconnects, has_disconnected, of_channel, is_not_in, StaysPending, StaysBehindClosing}
use Rattle.wx_laws.specs.Legal.{IsLegalPast}
use Rattle.wx_laws.proofs.Endings.{no_messages, no_replies, no_unanswered, ends_of}
use Rattle.wx_laws.proofs.Numbers.{eqb_above, on_false, none_on, of_six}
use Rattle.wx_laws.proofs.Places.{channel_later, channel_within, closed_later, closed_within, lives_on}
use Rattle.wx_laws.proofs.Waiting.{leaves_waiting, waits_after}

-- an end's leave as the opener ends its channel
leave_ends : (past : List Entry) (e : Entry) (k : ℕ) (o : Option Ends) (c : ContextNo) (who : Who) (call : Call)
    → end_in o c ≡ Opener → (is_leave call && is_by who c) ≡ true → ends_by past e k o who call ≡ true
leave_ends past e k o c (ByContext d) Leave opener is =
    subst (λ (x : ContextNo). leaving (end_in o x) (has_live (e ∷ past) o) ≡ true) (sym (same_context_is d c is)) (rw opener refl)
leave_ends past e k o c (ByHost h) Leave opener is = absurd (let q : false ≡ true = is in cc)
leave_ends past e k o c _ _ opener is = absurd (let q : false ≡ true = is in cc)

pub stays_if : (b d : Bool) → (b ≡ true → d ≡ true) → d ≡ false → b ≡ false
stays_if true d h is = absurd (let q : d ≡ true = h refl in cc)
stays_if false d h is = refl

pub live_tells : (j : ChannelNo) (live : Bool) (a : Answer) → OnChannel j ≡ cond live a Gone → live ≡ true
live_tells j true a h = refl
live_tells j false a h = absurd (cc)

opener_is : (o c : ContextNo) (cs : List ContextNo) (b : Bool) → same_context o c ≡ b → cond b Opener (cond (is_among cs c) Receiver Neither) ≡ Opener → o ≡ c
opener_is o c cs true is h = same_context_is o c is
opener_is o c cs false is h = absurd (other (is_among cs c) h)
  where
    other : (b : Bool) → cond b Receiver Neither ≡ Opener → ⊥
    other true h = cc
    other false h = cc

not_neither : Neither ≡ Opener → ⊥
not_neither h = cc

-- who opens a channel lives, and does not leave by that
opener_new : (world : WorldLists) (past : List Entry) (c : ContextNo) (who : Who) (call : Call) (answer : Answer)
    → answer ≡ answer_after world past who call → end_in (opened_by past who call answer) c ≡ Opener → (is_live past c ≡ true) × (is_leave call ≡ false)
opener_new world past c (ByContext o) (Connect target name) (OnChannel j) l h =
    let e : o ≡ c = opener_is o c (receivers_of past o target Connection) (same_context o c) refl h in
    (subst (λ (x : ContextNo). is_live past x ≡ true) e (live_tells j (is_live past o) _ l), refl)
opener_new world past c (ByContext o) (ConnectNative name) (OnChannel j) l h =
    let e : o ≡ c = opener_is o c [] (same_context o c) refl h in
    (subst (λ (x : ContextNo). is_live past x ≡ true) e (live_tells j (is_live past o) _ l), refl)
opener_new world past c _ _ _ l h = absurd (not_neither h)

no_leave : (a b : Bool) → a ≡ false → (a && b) ≡ false
no_leave true b h = absurd (cc)
no_leave false b h = refl

-- the opener of a channel that is not closed lives
pub opener_lives : (world : WorldLists) (past : List Entry) (c : ContextNo) (k : ℕ) → IsLegalPast world past → is_closed past k ≡ false → end_in (channel past k) c ≡ Opener → is_live past c ≡ true
opener_lives world [] c k legal open_still opener = absurd (not_neither opener)
opener_lives world (e ∷ past) c k legal open_still opener =
    let before = or_parts (is_closed past k) (ends_channel past e k) (sym (closed_later past e k) ∙ open_still) in
    parts (channel past k) refl (subst (λ (o : Option Ends). end_in o c ≡ Opener) (channel_later past e k) opener) before.1 (λ h. opener_lives world past c k legal.0 before.0 h)
  where
    newly : (b : Bool) → end_in (cond b (opens past e) None) c ≡ Opener → is_live (e ∷ past) c ≡ true
    newly true h = let t = opener_new world past c e.who e.call e.answer legal.1.answered h in lives_on past e c t.0 (no_leave (is_leave e.call) (is_by e.who c) t.1)
    newly false h = absurd (not_neither h)

    parts : (o : Option Ends) → channel past k ≡ o → end_in (option_or o (cond (length (channels past) == k) (opens past e) None)) c ≡ Opener
        → ends_channel past e k ≡ false → (end_in (channel past k) c ≡ Opener → is_live past c ≡ true) → is_live (e ∷ past) c ≡ true
    parts None is h not_ended before = newly (length (channels past) == k) h
    parts (Some x) is h not_ended before =
        let was : end_in (channel past k) c ≡ Opener = rw is h in
        lives_on past e c (before was)
        (stays_if (is_leave e.call && is_by e.who c) (ends_channel past e k) (λ l. leave_ends past e k (channel past k) c e.who e.call was l) not_ended)

-- what goes to a context goes on a channel that is there
goes_within : (past : List Entry) (k : ℕ) (who : Who) (c : ContextNo) (o : Option Ends) → channel past k ≡ o → goes (side_of o who) (end_in o c) (is_live past c) ≡ true → k < length (channels past)
goes_within past k (ByContext d) c None is h = absurd (let q : false ≡ true = h in cc)
goes_within past k (ByHost g) c None is h = absurd (let q : false ≡ true = h in cc)
goes_within past k who c (Some x) is h = channel_within past k (rw is refl)

pub across : (closed : Bool) (x y : End) (live : Bool) → (closed ≡ true → y ≡ Opener → live ≡ true) → (closed && goes x y live) ≡ (closed && (are_across x y && live))
across false x y live h = refl
across true Opener Opener live h = refl
across true Opener Receiver live h = refl
across true Opener Neither live h = refl
across true Receiver Opener live h = rw (h refl refl) refl
across true Receiver Receiver live h = refl
across true Receiver Neither live h = refl
across true Neither y live h = refl

pub tells_the_other_side_lem : TellsTheOtherSide
tells_the_other_side_lem world past e c k legal =
    let n = length (channels past) in
    let told : List EventKind = on (closes past e k && (are_across (side_of (channel past k) e.who) (end_in (channel past k) c) && is_live past c)) (Disconnected (record { 0 = k })) in
    of_six (is_disconnected k) (connected n (opens past e) c) (message past e.who e.call e.answer c) (disconnected past e e.call c)
    (asked (length (requests past)) (asks past e) c) (replied past e.who e.call e.answer c) (unanswered past e e.call c)
    [] [] told [] [] []
    (none_on (is_disconnected k) (is_receiving (end_in (opens past e) c)) (Connected (record { 0 = n })) refl)
    (no_messages (is_disconnected k) (λ j. refl) past c e.who e.call e.answer)
    (ends_of (is_disconnected k) k (λ j. refl) past c e.who e.call e.answer
    (λ t. goes_within past k e.who c (channel past k) refl ((and_parts (closes past e k) (goes_to past (channel past k) e.who c) t).1))
    ∙ ap (λ b. on b (Disconnected (record { 0 = k })))
    (across (closes past e k) (side_of (channel past k) e.who) (end_in (channel past k) c) (is_live past c)
    (λ closing opener. opener_lives world past c k legal.0 (not-true (is_closed past k) (and_parts (not (is_closed past k)) (ends_channel past e k) closing).0) opener)))
    (none_on (is_disconnected k) (is_asked (asks past e) c) (Asked (record { 0 = length (requests past) })) refl)
    (no_replies (is_disconnected k) (λ j. refl) past c e.who e.call e.answer)
    (no_unanswered (is_disconnected k) (λ j. refl) past e e.call c)
    ∙ append-nil told

-- what the answers on a channel tell
pub posted_tells : (live closed long : Bool) (x : End) → Posted ≡ cond live (at_end x closed PortClosed (cond long TooLong Posted)) Gone → closed ≡ false
posted_tells false closed long x h = absurd (cc)
posted_tells true closed long Neither h = absurd (cc)
posted_tells true true long Opener h = absurd (cc)
posted_tells true true long Receiver h = absurd (cc)
posted_tells true false long Opener h = refl
posted_tells true false long Receiver h = refl

pub done_tells : (live closed : Bool) (x : End) → Done ≡ cond live (at_end x closed NoEffect Done) Gone → closed ≡ false
done_tells false closed x h = absurd (cc)
done_tells true closed Neither h = absurd (cc)
done_tells true true Opener h = absurd (cc)
done_tells true true Receiver h = absurd (cc)
done_tells true false Opener h = refl
done_tells true false Receiver h = refl

pub passed_tells : (closed : Bool) → Passed ≡ cond closed PortClosed Passed → closed ≡ false
passed_tells true h = absurd (cc)
passed_tells false h = refl

closed_apart : (past : List Entry) (j k : ℕ) → is_closed past j ≡ false → is_closed past k ≡ true → (j == k) ≡ false
closed_apart past j k a b = parts (j == k) refl
  where
    parts : (t : Bool) → (j == k) ≡ t → t ≡ false
    parts true is =
        let e : j ≡ k = eqb-true j k is in
        let q : is_closed past k ≡ false = subst (λ (n : ℕ). is_closed past n ≡ false) e a in
        absurd (let z : true ≡ false = sym b ∙ q in cc)
    parts false is = refl

said_when_closed : (past : List Entry) (c : ContextNo) (k : ℕ) (who : Who) (work : Option Work) → Passed ≡ said_for past work → is_closed past k ≡ true → filter (is_of k) (said past who work c) ≡ []
said_when_closed past c k who None l closed = refl
said_when_closed past c k who (Some (ForChannel j)) l closed =
    none_on (is_of k) (goes_to past (channel past j.0) who c) (Message j) (closed_apart past j.0 k (passed_tells (is_closed past j.0) l) closed)
said_when_closed past c k who (Some (ForRequest r)) l closed = refl

message_closed : (world : WorldLists) (past : List Entry) (c : ContextNo) (k : ℕ) (who : Who) (call : Call) (answer : Answer)
    → answer ≡ answer_after world past who call → is_closed past k ≡ true → filter (is_of k) (message past who call answer c) ≡ []
message_closed world past c k (ByContext d) (Post j text) Posted l closed =
    none_on (is_of k) (goes_to past (channel past j.0) (ByContext d) c) (Message j)
    (closed_apart past j.0 k (posted_tells (is_live past d) (is_closed past j.0) (nat_lt LONGEST (length text)) (end_in (channel past j.0) d) l) closed)
message_closed world past c k (ByHost h) (Post j text) Posted l closed = absurd (let q : Posted ≡ Gone = l in cc)
message_closed world past c k (ByHost h) (HostSaid text) Passed l closed = said_when_closed past c k (ByHost h) (work_of past h) l closed
message_closed world past c k (ByContext d) (HostSaid text) Passed l closed = refl
message_closed world past c k _ _ _ l closed = refl

closed_first : (b d f : Bool) → b ≡ true → ((not b && d) && f) ≡ false
closed_first true d f h = refl
closed_first false d f h = absurd (cc)

pub tells_no_more_lem : TellsNoMore
tells_no_more_lem world past e c k legal closed =
    let n = length (channels past) in
    let p : EventKind → Bool = is_of k in
    let no : (closes past e k && goes_to past (channel past k) e.who c) ≡ false = closed_first (is_closed past k) (ends_channel past e k) (goes_to past (channel past k) e.who c) closed in
    of_six p (connected n (opens past e) c) (message past e.who e.call e.answer c) (disconnected past e e.call c)
    (asked (length (requests past)) (asks past e) c) (replied past e.who e.call e.answer c) (unanswered past e e.call c)
    [] [] [] [] [] []
    (none_on p (is_receiving (end_in (opens past e) c)) (Connected (record { 0 = n })) (eqb_above n k (closed_within past k closed)))
    (message_closed world past c k e.who e.call e.answer legal.1.answered closed)
    (ends_of p k (λ j. refl) past c e.who e.call e.answer
    (λ t. closed_within past k closed)
    ∙ on_false (closes past e k && goes_to past (channel past k) e.who c) (Disconnected (record { 0 = k })) no)
    (none_on p (is_asked (asks past e) c) (Asked (record { 0 = length (requests past) })) refl)
    (no_replies p (λ j. refl) past c e.who e.call e.answer)
    (no_unanswered p (λ j. refl) past e e.call c)

-- an event of channel k is dropped only by a disconnect of it
of_one : (kind : EventKind) (j k : ℕ) → is_of k kind ≡ true → is_of j kind ≡ true → (j == k) ≡ true
of_one (Connected a) j k p q = one a.0 j k p q
  where
    one : (a j k : ℕ) → (a == k) ≡ true → (a == j) ≡ true → (j == k) ≡ true
    one a j k p q = grind (arith, nat_tests)
of_one (Message a) j k p q = one a.0 j k p q
  where
    one : (a j k : ℕ) → (a == k) ≡ true → (a == j) ≡ true → (j == k) ≡ true
    one a j k p q = grind (arith, nat_tests)
of_one (Disconnected a) j k p q = one a.0 j k p q
  where
    one : (a j k : ℕ) → (a == k) ≡ true → (a == j) ≡ true → (j == k) ≡ true
    one a j k p q = grind (arith, nat_tests)
of_one _ j k p q = absurd (let z : false ≡ true = p in cc)

drops_if : (call : Call) (answer : Answer) (kind : EventKind) (k : ℕ) → is_of k kind ≡ true → drops_by call answer kind ≡ true → disconnects k call answer ≡ true
drops_if (Disconnect j) Done kind k p q = of_one kind j.0 k p q
drops_if _ _ kind k p q = absurd (let z : false ≡ true = q in cc)

pub drops_not : (mine : Bool) (call : Call) (answer : Answer) (kind : EventKind) (k : ℕ) → is_of k kind ≡ true → (mine && disconnects k call answer) ≡ false → (mine && drops_by call answer kind) ≡ false
drops_not false call answer kind k p q = refl
drops_not true call answer kind k p q = stays_if (drops_by call answer kind) (disconnects k call answer) (λ h. drops_if call answer kind k p h) q

pub not_dropped_of : (past : List Entry) (c : ContextNo) (k : ℕ) (event : Event) → has_disconnected past c k ≡ false → is_of k event.kind ≡ true → is_dropped past c event ≡ false
not_dropped_of [] c k event h p = refl
not_dropped_of (e ∷ past) c k event h p =
    let t = or_parts (has_disconnected past c k) (is_by e.who c && disconnects k e.call e.answer) h in
    both (is_dropped past c event) (is_by e.who c) (drops_by e.call e.answer event.kind) (nat_lt event.entry.0 (length past))
    (not_dropped_of past c k event t.0 p) (drops_not (is_by e.who c) e.call e.answer event.kind k p t.1)
  where
    both : (a m d f : Bool) → a ≡ false → (m && d) ≡ false → (a || (m && d && f)) ≡ false
    both true m d f x y = absurd (let q : true ≡ false = x in cc)
    both false true true f x y = absurd (let q : true ≡ false = y in cc)
    both false true false f x y = refl
    both false false d f x y = refl

-- two filters that agree where a test holds, under that test
pub filter_under : (p w v : Event → Bool) → ((x : Event) → p x ≡ true → w x ≡ v x) → (xs : List Event) → filter p (filter w xs) ≡ filter p (filter v xs)
filter_under p w v h [] = refl
filter_under p w v h (x ∷ xs) = parts (p x) refl (w x) refl (v x) refl (filter_under p w v h xs)
  where
    parts : (a : Bool) → p x ≡ a → (b : Bool) → w x ≡ b → (d : Bool) → v x ≡ d → filter p (filter w xs) ≡ filter p (filter v xs)
        → filter p (cond b (x ∷ filter w xs) (filter w xs)) ≡ filter p (cond d (x ∷ filter v xs) (filter v xs))
    parts a i true j true k rest = ap (λ l. cond (p x) (x ∷ l) l) rest
    parts a i false j false k rest = rest
    parts true i true j false k rest = let q : w x ≡ v x = h x i in absurd (let z : true ≡ false = sym j ∙ q ∙ k in cc)
    parts true i false j true k rest = let q : w x ≡ v x = h x i in absurd (let z : false ≡ true = sym j ∙ q ∙ k in cc)
    parts false i true j false k rest = rw i rest
    parts false i false j true k rest = rw i rest

pub stays_pending_lem : StaysPending
stays_pending_lem past c k h =
    filter_under (λ event. is_of k event.kind) (is_waiting past c) (is_not_in (taken past c))
    (λ event p. rw (not_dropped_of past c k event h p) (whole (list_any (λ t. same_event t event) (taken past c)))) (queued past c)
  where
    whole : (b : Bool) → (not b && true) ≡ not b
    whole true = refl
    whole false = refl

-- the same, where the other filter comes after the test
pub filter_swap : (p w v : Event → Bool) → ((x : Event) → p x ≡ true → w x ≡ v x) → (xs : List Event) → filter p (filter w xs) ≡ filter v (filter p xs)
filter_swap p w v h [] = refl
filter_swap p w v h (x ∷ xs) = parts (p x) refl (w x) refl (filter_swap p w v h xs)
  where
    parts : (a : Bool) → p x ≡ a → (b : Bool) → w x ≡ b → filter p (filter w xs) ≡ filter v (filter p xs)
        → filter p (cond b (x ∷ filter w xs) (filter w xs)) ≡ filter v (cond a (x ∷ filter p xs) (filter p xs))
    parts true i true j rest = let q : v x ≡ true = sym (h x i) ∙ j in rw (i, q) (ap (λ l. x ∷ l) rest)
    parts true i false j rest = let q : v x ≡ false = sym (h x i) ∙ j in rw q rest
    parts false i true j rest = rw i rest
    parts false i false j rest = rest

pub of_marked : (n : ℕ) (p : EventKind → Bool) (kinds : List EventKind) → filter (λ event. p event.kind) (map (marked n) kinds) ≡ map (marked n) (filter p kinds)
of_marked n p [] = refl
of_marked n p (k ∷ kinds) = kept (p k) (of_marked n p kinds)
  where
    kept : (b : Bool) → filter (λ event. p event.kind) (map (marked n) kinds) ≡ map (marked n) (filter p kinds)
        → cond b (marked n k ∷ filter (λ event. p event.kind) (map (marked n) kinds)) (filter (λ event. p event.kind) (map (marked n) kinds)) ≡ map (marked n) (cond b (k ∷ filter p kinds) (filter p kinds))
    kept true rest = ap (λ l. marked n k ∷ l) rest
    kept false rest = rest

-- a disconnect that is done is of a channel that is not closed
pub done_open : (world : WorldLists) (past : List Entry) (k : ℕ) (who : Who) (call : Call) (answer : Answer) → answer ≡ answer_after world past who call → disconnects k call answer ≡ true → is_closed past k ≡ false
done_open world past k (ByContext d) (Disconnect j) Done l is =
    subst (λ (n : ℕ). is_closed past n ≡ false) (eqb-true j.0 k is) (done_tells (is_live past d) (is_closed past j.0) (end_in (channel past j.0) d) l)
done_open world past k (ByHost h) (Disconnect j) Done l is = absurd (let q : Done ≡ Gone = l in cc)
done_open world past k _ _ _ l is = absurd (let q : false ≡ true = is in cc)

pub stays_behind_closing_lem : StaysBehindClosing
stays_behind_closing_lem world past e c k legal closed =
    let p : Event → Bool = λ event. is_of k event.kind in
    let kinds = tells past e c in
    let v : Event → Bool = is_not_in (event_in e.call e.answer (is_by e.who c)) in
    ap (of_channel k) (waits_after world past e c legal)
    ∙ filter-append p (filter (leaves_waiting e c) (pending past c)) (delivered past e c)
    ∙ ap (λ l. filter p (filter (leaves_waiting e c) (pending past c)) ++ l) (of_marked (length past) (is_of k) kinds ∙ ap (map (marked (length past))) (tells_no_more_lem world past e c k legal closed))
    ∙ append-nil (filter p (filter (leaves_waiting e c) (pending past c)))
    ∙ filter_swap p (leaves_waiting e c) v
    (λ event is. kept (list_any (λ t. same_event t event) (event_in e.call e.answer (is_by e.who c))) (is_by e.who c && drops_by e.call e.answer event.kind)
    (drops_not (is_by e.who c) e.call e.answer event.kind k is (never (is_by e.who c) (disconnects k e.call e.answer) refl))) (pending past c)
  where
    kept : (a b : Bool) → b ≡ false → (not a && not b) ≡ not a
    kept a true h = absurd (let q : true ≡ false = h in cc)
    kept true false h = refl
    kept false false h = refl

    never : (m d : Bool) → disconnects k e.call e.answer ≡ d → (m && d) ≡ false
    never false d is = refl
    never true false is = refl
    never true true is =
        let q : is_closed past k ≡ false = done_open world past k e.who e.call e.answer legal.1.answered is in
        absurd (let z : true ≡ false = sym closed ∙ q in cc)
