-- The texts that a host takes, in order.
use Rattle.std.proofs.Common.{◌≡◌, ℕ, suc, zero, ◌<◌, List, [], ◌∷◌, ◌++◌, length, refl, ap, ◌∙◌, Bool, true, false, cond, not, arith, subst, ◌+◌, sym, append_assoc}
use Rattle.std.specs.Prelude.{Option, Some, None, is_some, ◌||◌, filter, ◌==◌, nat_lt, slice_get, option_to_list}
use Rattle.std.specs.Option.{option_or}
use Rattle.std.specs.List.{list_any}
use Rattle.std.proofs.lemmas.Bool.{eqb-true}
use Rattle.std.proofs.lemmas.Bool.Decides.{nat_tests}
use Rattle.std.proofs.lemmas.List.{append-nil, length-append}
use Rattle.std.proofs.lemmas.List.Elements.{filter-append}
use Rattle.std.proofs.lemmas.Option.{slice_get_past, slice_get_within}
use Rattle.wx_id.specs.Numbers.{entry_no}
use Rattle.wx_id.specs.declared.numbers.ContextNo.{ContextNo}
use Rattle.wx_id.specs.declared.numbers.ChannelNo.{ChannelNo}
use Rattle.wx_id.specs.declared.numbers.RequestNo.{RequestNo}
use Rattle.wx_id.specs.declared.numbers.HostNo.{HostNo}
use Rattle.wx_id.specs.declared.numbers.EntryNo.{EntryNo}
use Rattle.wx_external.specs.World.{WorldLists}
use Rattle.wx_machine.specs.declared.entries.Who.{Who}
use Rattle.wx_machine.specs.declared.entries.Call.{Call}
use Rattle.wx_machine.specs.declared.entries.Answer.{Answer}
use Rattle.wx_machine.specs.declared.entries.Entry.{Entry}
use Rattle.wx_machine.specs.declared.work.Work.{Work}
use Rattle.wx_machine.specs.Words.{first, text_of, is_live, Ends, opens, channels, channel, end_in, Parties, asks, requests, Start}
use Rattle.wx_machine.specs.Words.{started_by, starts, hosts, work_in, work_of, is_by_host, is_closed, has_ended, is_text_for, texts_for}
use Rattle.wx_machine.specs.Words.{text_taken, texts_taken, texts_left, is_over, at_end, text_or_end, answer_after}
use Rattle.wx_machine.specs.declared.entries.TheConstants.{LONGEST}
use Rattle.wx_machine.specs.declared.entries.Who.TheVariants.{Context as ByContext, Host as ByHost}
use Rattle.wx_machine.specs.declared.entries.Call.TheVariants.{Post, ConnectNative, SendNative, HostTake}
use Rattle.wx_machine.specs.declared.entries.Answer.TheVariants.{Gone, Posted, PortClosed, TooLong, Channel as OnChannel, Request as OnRequest, Text as HasText}
use Rattle.wx_machine.specs.declared.work.Work.TheVariants.{Channel as ForChannel, Request as ForRequest}
use Rattle.wx_laws.specs.Legal.{IsLegalPast}
use Rattle.wx_laws.specs.Prefix.{IsPrefix}
use Rattle.wx_laws.specs.PrefixLaw.{posts_on, posts, asked_at, for_work, HostsTakeInOrder, HostsTakeTextsInOrder}
use Rattle.wx_laws.proofs.Messages.{prefix_map, Under, under_more, under_new, under-append, get_last}
use Rattle.wx_laws.proofs.Numbers.{eqb_refl, eqb_below, eqb_above}
use Rattle.wx_machine.proofs.Lists.{get_options}
use Rattle.wx_laws.proofs.Places.{channel_later}

-- entries whose numbers rise
abbrev Above : EntryNo → List EntryNo → Type 0
Above x [] = Unit {0}
Above x (y ∷ ys) = (x.0 < y.0) × Above x ys

abbrev Rising : List EntryNo → Type 0
Rising [] = Unit {0}
Rising (x ∷ xs) = Above x xs × Rising xs

above-append : (x : EntryNo) (n : ℕ) (b : Bool) (xs : List EntryNo) → x.0 < n → Above x xs → Above x (xs ++ cond b (entry_no n ∷ []) [])
above-append x n true [] h p = (h, tt)
above-append x n false [] h p = tt
above-append x n b (y ∷ xs) h p = (p.0, above-append x n b xs h p.1)

rising-append : (n : ℕ) (b : Bool) (xs : List EntryNo) → Under n xs → Rising xs → Rising (xs ++ cond b (entry_no n ∷ []) [])
rising-append n true [] u r = (tt, tt)
rising-append n false [] u r = tt
rising-append n b (x ∷ xs) u r = (above-append x n b xs u.0 r.0, rising-append n b xs u.1 r.1)

texts_under : (past : List Entry) (h : HostNo) → Under (length past) (texts_for past h)
texts_under [] h = tt
texts_under (e ∷ past) h =
    let b = is_text_for past e.who e.call e.answer h in
    under-append (suc (length past)) (texts_for past h) (cond b (entry_no (length past) ∷ []) []) (under_more (length past) (texts_for past h) (texts_under past h)) (under_new (length past) b)

texts_rising : (past : List Entry) (h : HostNo) → Rising (texts_for past h)
texts_rising [] h = tt
texts_rising (e ∷ past) h = rising-append (length past) (is_text_for past e.who e.call e.answer h) (texts_for past h) (texts_under past h) (texts_rising past h)

-- the entry is one of these
abbrev is_in : List EntryNo → EntryNo → Bool
is_in ts n = list_any (λ t. t.0 == n.0) ts

-- of entries whose numbers rise, none of the first is among the others
abbrev NoneIn : List EntryNo → List EntryNo → Type 0
NoneIn ts [] = Unit {0}
NoneIn ts (r ∷ rs) = (is_in ts r ≡ false) × NoneIn ts rs

none_in : (rs : List EntryNo) → NoneIn [] rs
none_in [] = tt
none_in (r ∷ rs) = (refl, none_in rs)

one_more_in : (x : EntryNo) (ts rs : List EntryNo) → Above x rs → NoneIn ts rs → NoneIn (x ∷ ts) rs
one_more_in x ts [] a n = tt
one_more_in x ts (r ∷ rs) a n = (rw (eqb_below x.0 r.0 a.0) n.0, one_more_in x ts rs a.1 n.1)

above_last : (x : EntryNo) (ts rs : List EntryNo) → Above x (ts ++ rs) → Above x rs
above_last x [] rs a = a
above_last x (t ∷ ts) rs a = above_last x ts rs a.1

apart : (ts rs : List EntryNo) → Rising (ts ++ rs) → NoneIn ts rs
apart [] rs r = none_in rs
apart (t ∷ ts) rs r = one_more_in t ts rs (above_last t ts rs r.0) (apart ts rs r.1)

any_mid : (p : EntryNo → Bool) (xs ys : List EntryNo) (x : EntryNo) → p x ≡ true → list_any p (xs ++ x ∷ ys) ≡ true
any_mid p [] ys x h = rw h refl
any_mid p (z ∷ xs) ys x h = parts (p z) (any_mid p xs ys x h)
  where
    parts : (b : Bool) → list_any p (xs ++ x ∷ ys) ≡ true → (b || list_any p (xs ++ x ∷ ys)) ≡ true
    parts true h = refl
    parts false h = h

all_out : (xs ts : List EntryNo) → filter (λ n. not (is_in (xs ++ ts) n)) ts ≡ []
all_out xs [] = refl
all_out xs (t ∷ ts) =
    let shift : (xs ++ t ∷ []) ++ ts ≡ xs ++ t ∷ ts = simp append_assoc in
    rw (any_mid (λ x. x.0 == t.0) xs ts t (eqb_refl t.0)) (subst (λ (l : List EntryNo). filter (λ n. not (is_in l n)) ts ≡ []) shift (all_out (xs ++ t ∷ []) ts))

all_in : (ts rs : List EntryNo) → NoneIn ts rs → filter (λ n. not (is_in ts n)) rs ≡ rs
all_in ts [] n = refl
all_in ts (r ∷ rs) n = rw n.0 (ap (λ l. r ∷ l) (all_in ts rs n.1))

-- so what is left of them is the others
left_is : (ts rs : List EntryNo) → Rising (ts ++ rs) → filter (λ n. not (is_in ts n)) (ts ++ rs) ≡ rs
left_is ts rs r =
    filter-append (λ n. not (is_in ts n)) ts rs
    ∙ ap (λ l. l ++ filter (λ n. not (is_in ts n)) rs) (all_out [] ts)
    ∙ all_in ts rs (apart ts rs r)

taken_tells : (ended over : Bool) (left : List EntryNo) (n : EntryNo) → HasText n ≡ text_or_end (cond ended None (first left)) over → (more : List EntryNo) × (left ≡ n ∷ more)
taken_tells true true left n h = absurd (cc)
taken_tells true false left n h = absurd (cc)
taken_tells false true [] n h = absurd (cc)
taken_tells false false [] n h = absurd (cc)
taken_tells false over (m ∷ left) n h = let same : m ≡ n = cc in (left, ap (λ (x : EntryNo). x ∷ left) same)

-- one more text, and one that is taken
grows : (ts xs ys : List EntryNo) → IsPrefix ts xs → IsPrefix ts (xs ++ ys)
grows ts xs ys p = (p.0 ++ ys, rw p.1 (simp append_assoc))

takes_next : (world : WorldLists) (past : List Entry) (h : HostNo) (who : Who) (call : Call) (answer : Answer) → answer ≡ answer_after world past who call
    → IsPrefix (texts_taken past h) (texts_for past h)
    → IsPrefix (texts_taken past h ++ text_taken call answer (is_by_host who h)) (texts_for past h ++ cond (is_text_for past who call answer h) (entry_no (length past) ∷ []) [])
takes_next world past h (ByHost g) HostTake (HasText n) l p = parts (g.0 == h.0) refl
  where
    ts : List EntryNo
    ts = texts_taken past h

    mine : g ≡ h → IsPrefix (ts ++ n ∷ []) (texts_for past h ++ [])
    mine same =
        let left : texts_left past h ≡ p.0 = ap (filter (λ n. not (is_in ts n))) p.1 ∙ left_is ts p.0 (subst Rising p.1 (texts_rising past h)) in
        let t = taken_tells (has_ended past h) (has_ended past h || is_over past (work_of past h)) (texts_left past h) n (subst (λ (x : HostNo). HasText n ≡ answer_after world past (ByHost x) HostTake) same l) in
        (t.0, append-nil (texts_for past h) ∙ p.1 ∙ ap (λ l. ts ++ l) (sym left ∙ t.1) ∙ simp append_assoc)

    parts : (b : Bool) → (g.0 == h.0) ≡ b → IsPrefix (ts ++ text_taken HostTake (HasText n) b) (texts_for past h ++ [])
    parts true is = mine (let P : ℕ → HostNo = λ n. record { 0 = n } in ap P (eqb-true g.0 h.0 is))
    parts false is = rw (append-nil ts) (grows ts (texts_for past h) [] p)
takes_next world past h (ByContext c) HostTake (HasText n) l p = rw (append-nil (texts_taken past h)) (grows (texts_taken past h) (texts_for past h) [] p)
takes_next world past h who call answer l p =
    rw (append-nil (texts_taken past h)) (grows (texts_taken past h) (texts_for past h) (cond (is_text_for past who call answer h) (entry_no (length past) ∷ []) []) p)

pub host_first : (world : WorldLists) (past : List Entry) (h : HostNo) → IsLegalPast world past → IsPrefix (texts_taken past h) (texts_for past h)
host_first world [] h legal = ([], refl)
host_first world (e ∷ past) h legal = takes_next world past h e.who e.call e.answer legal.1.answered (host_first world past h legal.0)

-- the texts for a host, by what it works for
abbrev AreTexts : List Entry → Option Work → List EntryNo → Type 0
AreTexts past None ns = ns ≡ []
AreTexts past (Some (ForChannel k)) ns = ns ≡ posts past k.0
AreTexts past (Some (ForRequest r)) ns = (n : EntryNo) × (slice_get (asked_at past) r.0 ≡ Some n) × (ns ≡ n ∷ [])

posted_at_end : (past : List Entry) (c : ContextNo) (closed long live : Bool) (o : Option Ends) → Posted ≡ cond live (at_end (end_in o c) closed PortClosed (cond long TooLong Posted)) Gone → o ≡ None → ⊥
posted_at_end past c closed long false o h n = cc
posted_at_end past c closed long true None h n = cc
posted_at_end past c closed long true (Some x) h n = cc

not_posted : (world : WorldLists) (past : List Entry) (k : ℕ) (who : Who) (call : Call) (answer : Answer) → answer ≡ answer_after world past who call → channel past k ≡ None → posts_on k who call answer ≡ false
not_posted world past k (ByContext c) (Post j text) Posted l n = parts (j.0 == k) refl
  where
    parts : (b : Bool) → (j.0 == k) ≡ b → b ≡ false
    parts true is =
        let there : channel past j.0 ≡ None = subst (λ (m : ℕ). channel past m ≡ None) (sym (eqb-true j.0 k is)) n in
        absurd (posted_at_end past c (is_closed past j.0) (nat_lt LONGEST (length text)) (is_live past c) (channel past j.0) l there)
    parts false is = refl
not_posted world past k _ _ _ l n = refl

none_before : (o x : Option Ends) (b : Bool) → option_or o (cond b x None) ≡ None → o ≡ None
none_before None x b h = refl
none_before (Some y) x b h = absurd (cc)

-- nothing is posted on a channel that is not there
none_posted : (world : WorldLists) (past : List Entry) (k : ℕ) → IsLegalPast world past → channel past k ≡ None → posts past k ≡ []
none_posted world [] k legal n = refl
none_posted world (e ∷ past) k legal n =
    let before : channel past k ≡ None = none_before (channel past k) (opens past e) (length (channels past) == k) (sym (channel_later past e k) ∙ n) in
    rw (none_posted world past k legal.0 before, not_posted world past k e.who e.call e.answer legal.1.answered before) refl

asked_as_many : (past : List Entry) → length (asked_at past) ≡ length (requests past)
asked_as_many [] = refl
asked_as_many (e ∷ past) =
    length-append (asked_at past) (cond (is_some (asks past e)) (entry_no (length past) ∷ []) [])
    ∙ rw (asked_as_many past) (parts (asks past e))
    ∙ sym (length-append (requests past) (option_to_list (asks past e)))
  where
    parts : (o : Option Parties) → length (requests past) + length (cond (is_some o) (entry_no (length past) ∷ []) []) ≡ length (requests past) + length (option_to_list o)
    parts None = refl
    parts (Some x) = refl

get_left : {X : Type 0} (xs ys : List X) (k : ℕ) (x : X) → slice_get xs k ≡ Some x → slice_get (xs ++ ys) k ≡ Some x
get_left [] ys k x h = absurd (cc)
get_left (z ∷ xs) ys zero x h = h
get_left (z ∷ xs) ys (suc k) x h = get_left xs ys k x h

not_new : (xs : List Start) (h : ℕ) (start : Start) → slice_get xs h ≡ Some start → (length xs == h) ≡ false
not_new xs h start is = let l : h < length xs = slice_get_within xs h start is in eqb_above (length xs) h l

-- a host that is there gets the posts of its channel, and no more of a request
text_on : (past : List Entry) (h : HostNo) (k : ChannelNo) (who : Who) (call : Call) (answer : Answer) → work_of past h ≡ Some (ForChannel k) → (length (hosts past) == h.0) ≡ false
    → is_text_for past who call answer h ≡ posts_on k.0 who call answer
text_on past h k (ByContext c) (Post j text) Posted is old = rw is (flip k.0 j.0)
  where
    flip : (a b : ℕ) → (a == b) ≡ (b == a)
    flip a b = grind (arith, nat_tests)
text_on past h k (ByContext c) (SendNative name text) (OnRequest r) is old = old
text_on past h k _ _ _ is old = refl

no_text_on : (past : List Entry) (h : HostNo) (r : RequestNo) (who : Who) (call : Call) (answer : Answer) → work_of past h ≡ Some (ForRequest r) → (length (hosts past) == h.0) ≡ false
    → is_text_for past who call answer h ≡ false
no_text_on past h r (ByContext c) (Post j text) Posted is old = rw is refl
no_text_on past h r (ByContext c) (SendNative name text) (OnRequest q) is old = old
no_text_on past h r _ _ _ is old = refl

-- a new host
new_host : (world : WorldLists) (past : List Entry) (h : HostNo) (e : Entry) (who : Who) (call : Call) (answer : Answer) → IsLegalPast world past → work_of past h ≡ None
    → who ≡ e.who → call ≡ e.call → answer ≡ e.answer → (b : Bool) → (length (hosts past) == h.0) ≡ b
    → AreTexts (e ∷ past) (work_in (cond b (started_by past who call answer) None)) (cond (is_text_for past who call answer h) (entry_no (length past) ∷ []) [])
new_host world past h e (ByContext c) (ConnectNative name) (OnChannel j) legal none w l a true is =
    rw (none_posted world past (length (channels past)) legal (slice_get_past (channels past) (length (channels past)) (omega arith)), ← w, ← l) refl
new_host world past h e (ByContext c) (SendNative name text) (OnRequest r) legal none w l a true is =
    let made : is_some (asks past e) ≡ true = rw (← w, ← l, ← a) refl in
    let new : slice_get (asked_at (e ∷ past)) (length (requests past)) ≡ Some (entry_no (length past)) =
    subst (λ (m : ℕ). slice_get (asked_at (e ∷ past)) m ≡ Some (entry_no (length past))) (asked_as_many past) (rw made (get_last (asked_at past) (entry_no (length past)))) in
    (entry_no (length past), new, rw is refl)
new_host world past h e (ByContext c) (SendNative name text) (OnRequest r) legal none w l a false is = rw is refl
new_host world past h e (ByContext c) (Post j text) Posted legal none w l a true is = rw none refl
new_host world past h e (ByContext c) (Post j text) Posted legal none w l a false is = rw none refl
new_host world past h e _ _ _ legal none w l a true is = refl
new_host world past h e _ _ _ legal none w l a false is = refl

texts_are : (world : WorldLists) (past : List Entry) (h : HostNo) → IsLegalPast world past → AreTexts past (work_of past h) (texts_for past h)
texts_are world [] h legal = refl
texts_are world (e ∷ past) h legal =
    subst (λ (o : Option Start). AreTexts (e ∷ past) (work_in o) (texts_for (e ∷ past) h)) (sym (get_options (hosts past) (starts past e) h.0))
    (step (slice_get (hosts past) h.0) refl (texts_are world past h legal.0))
  where
    new : List EntryNo
    new = cond (is_text_for past e.who e.call e.answer h) (entry_no (length past) ∷ []) []

    working : (w : Work) → work_of past h ≡ Some w → (length (hosts past) == h.0) ≡ false → AreTexts past (work_of past h) (texts_for past h) → AreTexts (e ∷ past) (Some w) (texts_for past h ++ new)
    working (ForChannel k) is old before =
        let q : texts_for past h ≡ posts past k.0 = subst (λ (o : Option Work). AreTexts past o (texts_for past h)) is before in
        rw (q, text_on past h k e.who e.call e.answer is old) refl
    working (ForRequest r) is old before =
        let q : (n : EntryNo) × (slice_get (asked_at past) r.0 ≡ Some n) × (texts_for past h ≡ n ∷ []) = subst (λ (o : Option Work). AreTexts past o (texts_for past h)) is before in
        (q.0, get_left (asked_at past) (cond (is_some (asks past e)) (entry_no (length past) ∷ []) []) r.0 q.0 q.1, rw (no_text_on past h r e.who e.call e.answer is old) (append-nil (texts_for past h) ∙ q.2))

    step : (o : Option Start) → slice_get (hosts past) h.0 ≡ o → AreTexts past (work_of past h) (texts_for past h)
        → AreTexts (e ∷ past) (work_in (option_or o (cond (length (hosts past) == h.0) (starts past e) None))) (texts_for past h ++ new)
    step (Some start) is before = working start.work (ap work_in is) (not_new (hosts past) h.0 start is) before
    step None is before =
        let none : work_of past h ≡ None = ap work_in is in
        let q : texts_for past h ≡ [] = subst (λ (o : Option Work). AreTexts past o (texts_for past h)) none before in
        subst (λ (l : List EntryNo). AreTexts (e ∷ past) (work_in (cond (length (hosts past) == h.0) (starts past e) None)) (l ++ new)) (sym q)
        (new_host world past h e e.who e.call e.answer legal.0 none refl refl refl (length (hosts past) == h.0) refl)

texts_of : (past : List Entry) (o : Option Work) (ns : List EntryNo) → AreTexts past o ns → ns ≡ for_work past o
texts_of past None ns h = h
texts_of past (Some (ForChannel k)) ns h = h
texts_of past (Some (ForRequest r)) ns h = rw h.1 h.2

pub hosts_take_in_order_lem : HostsTakeInOrder
hosts_take_in_order_lem world past h legal =
    subst (IsPrefix (texts_taken past h)) (texts_of past (work_of past h) (texts_for past h) (texts_are world past h legal)) (host_first world past h legal)

pub hosts_take_texts_in_order_lem : HostsTakeTextsInOrder
hosts_take_texts_in_order_lem world past h legal =
    prefix_map (text_of past) (texts_taken past h) (for_work past (work_of past h)) (hosts_take_in_order_lem world past h legal)
