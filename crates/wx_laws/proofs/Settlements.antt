-- How a request is settled, and whom that is told.
use Rattle.std.proofs.Common.{◌≡◌, ℕ, suc, zero, ◌<◌, List, [], ◌∷◌, ◌++◌, length, map, refl, ap, ◌∙◌, Bool, true, false, cond, not, arith, subst}
use Rattle.std.specs.Prelude.{Option, Some, None, is_some, ◌||◌, ◌&&◌, filter, ◌==◌, nat_lt, slice_get, option_to_list}
use Rattle.std.specs.Option.{option_or}
use Rattle.std.proofs.lemmas.Bool.{eqb-true, and_parts}
use Rattle.std.proofs.lemmas.Bool.Decides.{nat_tests}
use Rattle.std.proofs.lemmas.List.{append-nil, map-append}
use Rattle.std.proofs.lemmas.List.Elements.{filter-append}
use Rattle.std.proofs.lemmas.Option.{slice_get_within}
use Rattle.wx_id.specs.Contexts.{is_among, same_context}
use Rattle.wx_id.specs.declared.numbers.ContextNo.{ContextNo}
use Rattle.wx_id.specs.declared.events.EventKind.{EventKind}
use Rattle.wx_id.specs.declared.events.EventKind.TheVariants.{Connected, Asked, Replied, Closed}
use Rattle.wx_context.specs.declared.contexts.Target.{Target}
use Rattle.wx_external.specs.World.{WorldLists}
use Rattle.wx_machine.specs.declared.entries.Who.{Who}
use Rattle.wx_machine.specs.declared.entries.Call.{Call}
use Rattle.wx_machine.specs.declared.entries.Answer.{Answer}
use Rattle.wx_machine.specs.declared.entries.Entry.{Entry}
use Rattle.wx_machine.specs.declared.work.Work.{Work}
use Rattle.wx_machine.specs.Words.{is_by, context_of, is_live, listens_of, numbers, reaches_from, is_receiver, receivers_of, opens, channels, end_in}
use Rattle.wx_machine.specs.Words.{Parties, asked_by, asks, requests, request, is_asker, is_asked, work_of, is_for_request, has_declined, has_open}
use Rattle.wx_machine.specs.Words.{settles_by, ends_request, settled_at, is_settled, is_receiving, on, connected, message, disconnected, asked, answered}
use Rattle.wx_machine.specs.Words.{replied, unanswered, tells, marked, delivered, queued, on_request, said_for, answer_after}
use Rattle.wx_machine.specs.declared.entries.TheConstants.{LONGEST}
use Rattle.wx_machine.specs.declared.entries.Who.TheVariants.{Context as ByContext, Host as ByHost}
use Rattle.wx_machine.specs.declared.entries.Call.TheVariants.{Leave, Send, Reply, Decline, SendNative, HostSaid, HostEnded}
use Rattle.wx_machine.specs.declared.entries.Answer.TheVariants.{Gone, TooLong, First, Passed, Ignored, Request as OnRequest}
use Rattle.wx_machine.specs.declared.work.Work.TheVariants.{Channel as ForChannel, Request as ForRequest}
use Rattle.wx_machine.specs.declared.sorts.Sort.TheVariants.{Message as AMessage}
use Rattle.wx_laws.specs.Prefix.{IsPrefix}
use Rattle.wx_laws.specs.SettlementLaw.{answers_by, answers, answers_to, AnswersOnce, is_outcome, outcomes, TellsOneOutcome, closes_by, closes_request, TellsTheAsker}
use Rattle.wx_laws.proofs.Endings.{no_messages, no_disconnected, is_silent, closed_of}
use Rattle.wx_laws.proofs.Numbers.{eqb_refl, at_number, none_on, of_last_two}

-- what a first reply tells
first_tells : (live asked settled declined long : Bool)
    → First ≡ cond live (on_request asked (settled || declined) (cond long TooLong First)) Gone
    → (live ≡ true) × (asked ≡ true) × (settled ≡ false) × (declined ≡ false) × (long ≡ false)
first_tells true true false false false h = (refl, refl, refl, refl, refl)
first_tells true true false false true h = absurd (cc)
first_tells true true false true long h = absurd (cc)
first_tells true true true declined long h = absurd (cc)
first_tells true false settled declined long h = absurd (cc)
first_tells false asked settled declined long h = absurd (cc)

passed_tells : (past : List Entry) (r : ℕ) (work : Option Work) → Passed ≡ said_for past work → is_for_request r work ≡ true → is_settled past r ≡ false
passed_tells past r None h is = absurd (cc)
passed_tells past r (Some (ForChannel k)) h is = absurd (cc)
passed_tells past r (Some (ForRequest j)) h is = let e : j.0 ≡ r = eqb-true j.0 r is in rw (← e) (open_still (is_settled past j.0) h)
  where
    open_still : (b : Bool) → Passed ≡ cond b Ignored Passed → b ≡ false
    open_still true h = absurd (cc)
    open_still false h = refl

-- an entry that answers an unsettled request settles it
abbrev Settles : List Entry → Entry → ℕ → Who → Call → Type 0
Settles past e r who call = (is_settled past r ≡ false) × (settles_by past e r (request past r) who call ≡ true)

answers_settle : (world : WorldLists) (past : List Entry) (e : Entry) (r : ℕ) (who : Who) (call : Call) (answer : Answer)
    → answer ≡ answer_after world past who call → answers_by past r who call answer ≡ true → Settles past e r who call
answers_settle world past e r (ByContext c) (Reply j text) First h is =
    let t = first_tells (is_live past c) (is_asked (request past j.0) c) (is_settled past j.0) (has_declined past j.0 c) (nat_lt LONGEST (length text)) h in
    let here : Settles past e j.0 (ByContext c) (Reply j text) = (t.2, rw (eqb_refl j.0, t.1, t.0, t.3, t.4) refl) in
    subst (λ n. Settles past e n (ByContext c) (Reply j text)) (eqb-true j.0 r is) here
answers_settle world past e r (ByHost h) (Reply j text) First l is = absurd (cc)
answers_settle world past e r (ByHost h) (HostSaid text) Passed l is = (passed_tells past r (work_of past h) l is, is)
answers_settle world past e r _ _ _ l is = absurd (cc)

-- one more number, where the place is still free
once_more : (told : List ℕ) (place : Option ℕ) (n : ℕ) (b x : Bool)
    → IsPrefix told (option_to_list place) → (b ≡ true → (is_some place ≡ false) × (x ≡ true))
    → IsPrefix (told ++ cond b (n ∷ []) []) (option_to_list (option_or place (cond x (Some n) None)))
once_more told (Some m) n true x p h = absurd (let q : true ≡ false = (h refl).0 in cc)
once_more told (Some m) n false x p h = rw (append-nil told) p
once_more [] None n true true p h = ([], refl)
once_more [] None n true false p h = absurd (let q : false ≡ true = (h refl).1 in cc)
once_more [] None n false x p h = (option_to_list (option_or None (cond x (Some n) None)), refl)
once_more (m ∷ ms) None n b x p h = absurd (let q : [] ≡ m ∷ (ms ++ p.0) = p.1 in cc)

pub answers_once_lem : AnswersOnce
answers_once_lem world [] r legal = ([], refl)
answers_once_lem world (e ∷ past) r legal =
    once_more (answers_to past r) (settled_at past r) (length past) (answers past e r) (ends_request past e r) (answers_once_lem world past r legal.0)
    (λ is. answers_settle world past e r e.who e.call e.answer legal.1.answered is)

-- no receiver of a request is its asker
abbrev Apart : Parties → Type 0
Apart q = (c : ContextNo) → same_context q.asker c ≡ true → is_among q.receivers c ≡ false

abbrev AllApart : List Parties → Type 0
AllApart [] = Unit {0}
AllApart (q ∷ qs) = Apart q × AllApart qs

apart-append : (qs ps : List Parties) → AllApart qs → AllApart ps → AllApart (qs ++ ps)
apart-append [] ps a b = b
apart-append (q ∷ qs) ps a b = (a.0, apart-append qs ps a.1 b)

both_same : (a b c : ℕ) → (a == c) ≡ true → (b == c) ≡ true → (b == a) ≡ true
both_same a b c p q = grind (arith, nat_tests)

not_among : (w : ContextNo → Bool) (c : ContextNo) (xs : List ContextNo) → ((d : ContextNo) → same_context d c ≡ true → w d ≡ false) → is_among (filter w xs) c ≡ false
not_among w c [] h = refl
not_among w c (x ∷ xs) h = kept (w x) refl (not_among w c xs h)
  where
    other : (b : Bool) → same_context x c ≡ b → w x ≡ true → same_context x c ≡ false
    other true is k = let q : w x ≡ false = h x is in absurd (cc)
    other false is k = is

    kept : (b : Bool) → w x ≡ b → is_among (filter w xs) c ≡ false → is_among (cond b (x ∷ filter w xs) (filter w xs)) c ≡ false
    kept true is rest = rw (other (same_context x c) refl is) rest
    kept false is rest = rest

pub apart_from : (past : List Entry) (o : ContextNo) (target : Target) (c : ContextNo) → same_context o c ≡ true → is_among (receivers_of past o target AMessage) c ≡ false
apart_from past o target c is =
    not_among (is_receiver past o target AMessage) c (numbers past)
    (λ d same. not_itself (same_context d o) (is_live past d) (reaches_from (context_of past o) target AMessage (context_of past d) (listens_of past d)) (both_same o.0 d.0 c.0 is same))
  where
    not_itself : (b x y : Bool) → b ≡ true → (not b && x && y) ≡ false
    not_itself true x y h = refl
    not_itself false x y h = absurd (cc)

asked_apart : (past : List Entry) (who : Who) (call : Call) (answer : Answer) → AllApart (option_to_list (asked_by past who call answer))
asked_apart past (ByContext o) (Send target text) (OnRequest r) = (λ c is. apart_from past o target c is, tt)
asked_apart past (ByContext o) (SendNative name text) (OnRequest r) = (λ c is. refl, tt)
asked_apart past _ _ _ = tt

all_apart : (past : List Entry) → AllApart (requests past)
all_apart [] = tt
all_apart (e ∷ past) = apart-append (requests past) (option_to_list (asks past e)) (all_apart past) (asked_apart past e.who e.call e.answer)

asker_not_asked : (qs : List Parties) (r : ℕ) (c : ContextNo) → AllApart qs → is_asker (slice_get qs r) c ≡ true → is_asked (slice_get qs r) c ≡ false
asker_not_asked [] r c p is = refl
asker_not_asked (q ∷ qs) zero c p is = p.0 c is
asker_not_asked (q ∷ qs) (suc r) c p is = asker_not_asked qs r c p.1 is

asker_within : (past : List Entry) (r : ℕ) (c : ContextNo) (o : Option Parties) → request past r ≡ o → is_asker o c ≡ true → r < length (requests past)
asker_within past r c None e is = absurd (cc)
asker_within past r c (Some q) e is = slice_get_within (requests past) r q e

nothing : (b : Bool) (kind : EventKind) → [] ≡ on (b && false) kind
nothing true kind = refl
nothing false kind = refl

swapped : (a b : Bool) (kind : EventKind) → on (a && b) kind ≡ on (b && a) kind
swapped true true kind = refl
swapped true false kind = refl
swapped false true kind = refl
swapped false false kind = refl

reply_outcome : (past : List Entry) (r : ℕ) (c : ContextNo) (work : Option Work)
    → filter (is_outcome r) (answered past work c) ≡ on (is_asker (request past r) c && is_for_request r work) (Replied (record { 0 = r }))
reply_outcome past r c None = nothing (is_asker (request past r) c) (Replied (record { 0 = r }))
reply_outcome past r c (Some (ForChannel k)) = nothing (is_asker (request past r) c) (Replied (record { 0 = r }))
reply_outcome past r c (Some (ForRequest j)) =
    at_number (is_outcome r) (λ n. Replied (record { 0 = n })) r (λ n. refl) (λ n. is_asker (request past n) c) j.0
    ∙ swapped (j.0 == r) (is_asker (request past r) c) (Replied (record { 0 = r }))

replied_outcome : (past : List Entry) (r : ℕ) (c : ContextNo) (who : Who) (call : Call) (answer : Answer)
    → filter (is_outcome r) (replied past who call answer c) ≡ on (is_asker (request past r) c && answers_by past r who call answer) (Replied (record { 0 = r }))
replied_outcome past r c who (Reply j text) First =
    at_number (is_outcome r) (λ n. Replied (record { 0 = n })) r (λ n. refl) (λ n. is_asker (request past n) c) j.0
    ∙ swapped (j.0 == r) (is_asker (request past r) c) (Replied (record { 0 = r }))
replied_outcome past r c (ByHost h) (HostSaid text) Passed = reply_outcome past r c (work_of past h)
replied_outcome past r c (ByContext d) (HostSaid text) Passed = nothing (is_asker (request past r) c) (Replied (record { 0 = r }))
replied_outcome past r c _ _ _ = nothing (is_asker (request past r) c) (Replied (record { 0 = r }))

-- an entry that settles silently, and is not the asker's, leaves the request without a reply
by_decline : (s a same x : Bool) → (a ≡ true → same ≡ true → x ≡ false) → (true && (not s && x) && a && not same) ≡ (a && (not s && x))
by_decline s true true x h = rw (h refl refl) (dead s)
  where
    dead : (s : Bool) → (true && (not s && false) && true && false) ≡ (true && (not s && false))
    dead true = refl
    dead false = refl
by_decline true true false x h = refl
by_decline false true false true h = refl
by_decline false true false false h = refl
by_decline true false same x h = refl
by_decline false false same true h = refl
by_decline false false same false h = refl

not_asked : (m k v n : Bool) → k ≡ false → (m && k && v && n) ≡ false
not_asked true true v n h = absurd (let q : true ≡ false = h in cc)
not_asked true false v n h = refl
not_asked false k v n h = refl

by_leave : (s a d k n same : Bool) → (a ≡ true → same ≡ true → k ≡ false) → (a ≡ true → same ≡ false → d ≡ false)
    → (true && (not s && (d || (k && n))) && a && not same) ≡ (a && (not s && (k && n)))
by_leave s true d k n true h g = rw (h refl refl) (dead s d)
  where
    dead : (s d : Bool) → (true && (not s && (d || false)) && true && false) ≡ (true && (not s && false))
    dead true d = refl
    dead false true = refl
    dead false false = refl
by_leave s true d k n false h g = rw (g refl refl) (live s k n)
  where
    live : (s k n : Bool) → (true && (not s && (k && n)) && true && true) ≡ (true && (not s && (k && n)))
    live true k n = refl
    live false true true = refl
    live false true false = refl
    live false false n = refl
by_leave true false d k n same h g = refl
by_leave false false true k n same h g = refl
by_leave false false false true true same h g = refl
by_leave false false false true false same h g = refl
by_leave false false false false n same h g = refl

by_end : (s a f : Bool) → (true && (not s && f) && a && true) ≡ (a && (not s && f))
by_end true true f = refl
by_end true false f = refl
by_end false true true = refl
by_end false true false = refl
by_end false false true = refl
by_end false false false = refl

by_none : (s a b : Bool) → (true && (not s && false) && a && not b) ≡ (a && (not s && false))
by_none true true b = refl
by_none true false b = refl
by_none false true b = refl
by_none false false b = refl

by_other : (s a : Bool) → false ≡ (a && (not s && false))
by_other true true = refl
by_other true false = refl
by_other false true = refl
by_other false false = refl

-- the two tests on a context that is the asker
asked_if_same : (q : Option Parties) (c d : ContextNo) → is_asked q c ≡ false → same_context d c ≡ true → is_asked q d ≡ false
asked_if_same q c d h is = let e : d.0 ≡ c.0 = eqb-true d.0 c.0 is in rw e h

asker_if_other : (q : Option Parties) (c d : ContextNo) → is_asker q c ≡ true → same_context d c ≡ false → is_asker q d ≡ false
asker_if_other None c d h is = refl
asker_if_other (Some a) c d h is = other a.asker.0 c.0 d.0 h is
  where
    other : (a c d : ℕ) → (a == c) ≡ true → (d == c) ≡ false → (a == d) ≡ false
    other a c d h is = grind (arith, nat_tests)

same_closing : (past : List Entry) (e : Entry) (r : ℕ) (q : Option Parties) (c : ContextNo) (who : Who) (call : Call) (s : Bool) → (is_asker q c ≡ true → is_asked q c ≡ false)
    → (is_silent call && (not s && settles_by past e r q who call) && is_asker q c && not (is_by who c)) ≡ (is_asker q c && (not s && closes_by past e r q who call))
same_closing past e r q c (ByContext d) (Decline j) s h =
    by_decline s (is_asker q c) (same_context d c) ((j.0 == r) && is_asked q d && is_live past d && not (has_open (e ∷ past) r q))
    (λ a same. not_asked (j.0 == r) (is_asked q d) (is_live past d) (not (has_open (e ∷ past) r q)) (asked_if_same q c d (h a) same))
same_closing past e r q c (ByContext d) Leave s h =
    by_leave s (is_asker q c) (is_asker q d) (is_asked q d) (not (has_open (e ∷ past) r q)) (same_context d c)
    (λ a same. asked_if_same q c d (h a) same) (λ a other. asker_if_other q c d a other)
same_closing past e r q c (ByHost h) (HostEnded reason) s p = by_end s (is_asker q c) (is_for_request r (work_of past h))
same_closing past e r q c (ByHost h) (Decline j) s p = by_none s (is_asker q c) false
same_closing past e r q c (ByHost h) Leave s p = by_none s (is_asker q c) false
same_closing past e r q c (ByContext d) (HostEnded reason) s p = by_none s (is_asker q c) (same_context d c)
same_closing past e r q c _ _ s p = by_other s (is_asker q c)

unanswered_outcome : (past : List Entry) (e : Entry) (r : ℕ) (c : ContextNo)
    → filter (is_outcome r) (unanswered past e e.call c) ≡ on (is_asker (request past r) c && closes_request past e r) (Closed (record { 0 = r }))
unanswered_outcome past e r c =
    closed_of (is_outcome r) r (λ n. refl) past c e.who e.call e.answer (asker_within past r c (request past r) refl)
    ∙ ap (λ b. on b (Closed (record { 0 = r })))
    (same_closing past e r (request past r) c e.who e.call (is_settled past r) (asker_not_asked (requests past) r c (all_apart past)))

pub tells_the_asker_lem : TellsTheAsker
tells_the_asker_lem past e c r =
    let k = length (channels past) in
    of_last_two (is_outcome r) (connected k (opens past e) c) (message past e.who e.call e.answer c) (disconnected past e e.call c)
    (asked (length (requests past)) (asks past e) c) (replied past e.who e.call e.answer c) (unanswered past e e.call c)
    (on (is_asker (request past r) c && answers past e r) (Replied (record { 0 = r })))
    (on (is_asker (request past r) c && closes_request past e r) (Closed (record { 0 = r })))
    (none_on (is_outcome r) (is_receiving (end_in (opens past e) c)) (Connected (record { 0 = k })) refl)
    (no_messages (is_outcome r) (λ j. refl) past c e.who e.call e.answer)
    (no_disconnected (is_outcome r) (λ n. refl) past e e.call c)
    (none_on (is_outcome r) (is_asked (asks past e) c) (Asked (record { 0 = length (requests past) })) refl)
    (replied_outcome past r c e.who e.call e.answer)
    (unanswered_outcome past e r c)

-- a request that is closed is settled by then
closes_settle : (past : List Entry) (e : Entry) (r : ℕ) (q : Option Parties) (who : Who) (call : Call) → closes_by past e r q who call ≡ true → settles_by past e r q who call ≡ true
closes_settle past e r q (ByContext c) (Decline j) is = is
closes_settle past e r q (ByContext c) Leave is = or_true (is_asker q c) (is_asked q c && not (has_open (e ∷ past) r q)) is
  where
    or_true : (a b : Bool) → b ≡ true → (a || b) ≡ true
    or_true true b h = refl
    or_true false b h = h
closes_settle past e r q (ByHost h) (HostEnded reason) is = is
closes_settle past e r q _ _ is = absurd (cc)

-- no entry does both
not_both : (past : List Entry) (e : Entry) (r : ℕ) (q : Option Parties) (who : Who) (call : Call) (answer : Answer) → answers_by past r who call answer ≡ true → closes_by past e r q who call ≡ false
not_both past e r q (ByContext c) (Reply j text) First is = refl
not_both past e r q (ByHost h) (Reply j text) First is = refl
not_both past e r q (ByHost h) (HostSaid text) Passed is = refl
not_both past e r q _ _ _ is = absurd (cc)

-- the numbers of the entries of what one entry tells
told_at : (n : ℕ) (p : EventKind → Bool) (kinds : List EventKind) → map (λ event. event.entry.0) (filter (λ event. p event.kind) (map (marked n) kinds)) ≡ map (λ kind. n) (filter p kinds)
told_at n p [] = refl
told_at n p (k ∷ kinds) = kept (p k) (told_at n p kinds)
  where
    kept : (b : Bool) → map (λ event. event.entry.0) (filter (λ event. p event.kind) (map (marked n) kinds)) ≡ map (λ kind. n) (filter p kinds)
        → map (λ event. event.entry.0) (cond b (marked n k ∷ filter (λ event. p event.kind) (map (marked n) kinds)) (filter (λ event. p event.kind) (map (marked n) kinds)))
        ≡ map (λ kind. n) (cond b (k ∷ filter p kinds) (filter p kinds))
    kept true rest = ap (λ l. n ∷ l) rest
    kept false rest = rest

two_told : (n : ℕ) (a b d : Bool) (x y : EventKind) → (b ≡ true → d ≡ false) → map (λ kind. n) (on (a && b) x ++ on (a && d) y) ≡ cond (a && (b || d)) (n ∷ []) []
two_told n true true true x y h = absurd (let q : true ≡ false = h refl in cc)
two_told n true true false x y h = refl
two_told n true false true x y h = refl
two_told n true false false x y h = refl
two_told n false b d x y h = refl

pub tells_one_outcome_lem : TellsOneOutcome
tells_one_outcome_lem world [] c r legal = ([], refl)
tells_one_outcome_lem world (e ∷ past) c r legal =
    let kinds = tells past e c in
    let n = length past in
    let a = is_asker (request past r) c in
    let both : (answers past e r ≡ true → closes_request past e r ≡ false) = λ is. dead (is_settled past r) (closes_by past e r (request past r) e.who e.call) (not_both past e r (request past r) e.who e.call e.answer is) in
    let split : map (λ event. event.entry.0) (outcomes (e ∷ past) c r) ≡ map (λ event. event.entry.0) (outcomes past c r) ++ cond (a && (answers past e r || closes_request past e r)) (n ∷ []) [] =
    ap (map (λ event. event.entry.0)) (filter-append (λ event. is_outcome r event.kind) (queued past c) (delivered past e c))
    ∙ map-append (λ event. event.entry.0) (outcomes past c r) (filter (λ event. is_outcome r event.kind) (delivered past e c))
    ∙ ap (λ l. map (λ event. event.entry.0) (outcomes past c r) ++ l)
    (told_at n (is_outcome r) kinds ∙ ap (map (λ kind. n)) (tells_the_asker_lem past e c r)
    ∙ two_told n a (answers past e r) (closes_request past e r) (Replied (record { 0 = r })) (Closed (record { 0 = r })) both) in
    rw split
    (once_more (map (λ event. event.entry.0) (outcomes past c r)) (settled_at past r) n (a && (answers past e r || closes_request past e r)) (ends_request past e r) (tells_one_outcome_lem world past c r legal.0)
    (λ is. by_either (answers past e r) refl ((and_parts a (answers past e r || closes_request past e r) is).1)))
  where
    dead : (s b : Bool) → b ≡ false → (not s && b) ≡ false
    dead true b h = refl
    dead false b h = h

    closing : (s b : Bool) → (not s && b) ≡ true → (s ≡ false) × (b ≡ true)
    closing true b h = absurd (cc)
    closing false b h = (refl, h)

    by_either : (b : Bool) → answers past e r ≡ b → (b || closes_request past e r) ≡ true → (is_some (settled_at past r) ≡ false) × (ends_request past e r ≡ true)
    by_either true is h = answers_settle world past e r e.who e.call e.answer legal.1.answered is
    by_either false is h =
        let t = closing (is_settled past r) (closes_by past e r (request past r) e.who e.call) h in
        (t.0, closes_settle past e r (request past r) e.who e.call t.1)
