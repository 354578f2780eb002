-- The texts that wait for a native host, one entry later; and what is told of a host that was not started.
use Rattle.std.proofs.Common.{◌≡◌, ℕ, suc, ◌<◌, ◌≤◌, List, [], ◌∷◌, ◌++◌, length, refl, ap, sym, ◌∙◌, Bool, true, false, cond, not, arith, subst, append-nil, ◌+◌}
use Rattle.std.specs.Prelude.{Some, None, is_some, ◌||◌, ◌&&◌, ◌==◌, filter, drop, nat_lt}
use Rattle.std.specs.List.{list_any}
use Rattle.std.proofs.lemmas.Bool.{false≢true}
use Rattle.std.proofs.lemmas.Bool.Decides.{nat_tests}
use Rattle.std.proofs.lemmas.Option.{slice_get_past}
use Rattle.std.proofs.lemmas.List.Elements.{filter-append, filter_agree}
use Rattle.std.proofs.lemmas.List.Folds.{list_any-append}
use Rattle.wx_id.specs.Numbers.{entry_no}
use Rattle.wx_id.specs.declared.numbers.HostNo.{HostNo}
use Rattle.wx_id.specs.declared.numbers.EntryNo.{EntryNo}
use Rattle.wx_external.specs.World.{WorldLists}
use Rattle.wx_machine.specs.declared.entries.Who.{Who}
use Rattle.wx_machine.specs.declared.entries.Call.{Call}
use Rattle.wx_machine.specs.declared.entries.Answer.{Answer}
use Rattle.wx_machine.specs.declared.entries.Entry.{Entry}
use Rattle.wx_machine.specs.Words.{may_make, first, starts, hosts, work_in, is_for_channel, is_by_host, is_of_host, has_ended}
use Rattle.wx_machine.specs.Words.{is_text_for, knows_end, said_closed, text_taken, texts_for, texts_left, texts_taken, text_or_end}
use Rattle.wx_machine.specs.Answers.{is_short_said}
use Rattle.wx_machine.specs.declared.entries.Who.TheVariants.{Context as ByContext, Host as ByHost}
use Rattle.wx_machine.specs.declared.entries.Call.TheVariants.{Post, SendNative}
use Rattle.wx_machine.specs.declared.entries.Answer.TheVariants.{Posted, Request as OnRequest, Text as HasText}
use Rattle.wx_laws.specs.Legal.{IsLegalPast}
use Rattle.wx_laws.proofs.Numbers.{eqb_refl, eqb_below}
use Rattle.wx_laws.proofs.Messages.{Under, under_more, under_new, under-append}
use Rattle.wx_laws.proofs.HostTexts.{host_first}
use Rattle.wx_laws.proofs.HostsLater.{hosts_more}
use Rattle.wx_broker.proofs.TestsLater.{filter_twice, grown_or_same}

-- the texts for a host stand in earlier entries, and so do those that it took

texts_under : (past : List Entry) (h : HostNo) → Under (length past) (texts_for past h)
texts_under [] h = tt
texts_under (e ∷ past) h =
    let b = is_text_for past e.who e.call e.answer h in
    under-append (suc (length past)) (texts_for past h) (cond b (entry_no (length past) ∷ []) []) (under_more (length past) (texts_for past h) (texts_under past h)) (under_new (length past) b)

under_left : (n : ℕ) (ts rs : List EntryNo) → Under n (ts ++ rs) → Under n ts
under_left n [] rs u = tt
under_left n (t ∷ ts) rs u = (u.0, under_left n ts rs u.1)

taken_under : (world : WorldLists) (past : List Entry) (h : HostNo) → IsLegalPast world past → Under (length past) (texts_taken past h)
taken_under world past h legal =
    let p = host_first world past h legal in
    under_left (length past) (texts_taken past h) p.0 (subst (Under (length past)) p.1 (texts_under past h))

under_passing : (w : EntryNo → Bool) (n : ℕ) (xs : List EntryNo) → Under n xs → Under n (filter w xs)
under_passing w n [] u = tt
under_passing w n (x ∷ xs) u = by (w x) (under_passing w n xs u.1)
  where
    by : (b : Bool) → Under n (filter w xs) → Under n (cond b (x ∷ filter w xs) (filter w xs))
    by true rest = (u.0, rest)
    by false rest = rest

none_at : (n : ℕ) (ts : List EntryNo) → Under n ts → list_any (λ t. t.0 == n) ts ≡ false
none_at n [] u = refl
none_at n (t ∷ ts) u = rw (eqb_below t.0 n u.0) (none_at n ts u.1)

-- what is left of these texts once those were taken
abbrev left_of : List EntryNo → List EntryNo → List EntryNo
left_of ts xs = filter (λ n. not (list_any (λ t. t.0 == n.0) ts)) xs

-- where the entry holds no text for host h, and h takes none, the same are left
pub left_same : (past : List Entry) (e : Entry) (h : HostNo) → is_text_for past e.who e.call e.answer h ≡ false → text_taken e.call e.answer (is_by_host e.who h) ≡ [] → texts_left (e ∷ past) h ≡ texts_left past h
left_same past e h none kept =
    ap (λ ts. left_of (texts_taken past h ++ ts) (texts_for (e ∷ past) h)) kept
    ∙ ap (λ b. left_of (texts_taken past h ++ []) (texts_for past h ++ cond b (entry_no (length past) ∷ []) [])) none
    ∙ ap (λ ts. left_of ts (texts_for past h ++ [])) (append-nil (texts_taken past h))
    ∙ ap (left_of (texts_taken past h)) (append-nil (texts_for past h))

-- where it holds a text for host h, that waits last
pub left_told : (world : WorldLists) (past : List Entry) (e : Entry) (h : HostNo) (n : EntryNo) → IsLegalPast world past → n.0 ≡ length past
    → is_text_for past e.who e.call e.answer h ≡ true → text_taken e.call e.answer (is_by_host e.who h) ≡ [] → texts_left (e ∷ past) h ≡ texts_left past h ++ n ∷ []
left_told world past e h n legal at told kept =
    ap (λ ts. left_of (texts_taken past h ++ ts) (texts_for (e ∷ past) h)) kept
    ∙ ap (λ b. left_of (texts_taken past h ++ []) (texts_for past h ++ cond b (entry_no (length past) ∷ []) [])) told
    ∙ ap (λ ts. left_of ts (texts_for past h ++ entry_no (length past) ∷ [])) (append-nil (texts_taken past h))
    ∙ filter-append (λ n. not (list_any (λ t. t.0 == n.0) (texts_taken past h))) (texts_for past h) (entry_no (length past) ∷ [])
    ∙ ap (λ b. texts_left past h ++ cond (not b) (entry_no (length past) ∷ []) []) (none_at (length past) (texts_taken past h) (taken_under world past h legal))
    ∙ ap (λ (m : ℕ). texts_left past h ++ entry_no m ∷ []) (sym at)

abbrev differs : EntryNo → EntryNo → Bool
differs n m = not (n.0 == m.0)

-- the texts for a host differ: the first that passes a test is no later one
all_differ : (w : EntryNo → Bool) (past : List Entry) (h : HostNo) (n : EntryNo) (more : List EntryNo) → filter w (texts_for past h) ≡ n ∷ more → filter (differs n) more ≡ more
all_differ w [] h n more is = absurd (cc)
all_differ w (e ∷ past) h n more is = by (all_differ w past h) (is_text_for past e.who e.call e.answer h) is
  where
    xs : List EntryNo
    xs = texts_for past h

    new : EntryNo
    new = entry_no (length past)

    end : (l : List EntryNo) → Under (length past) l → ((m : EntryNo) (ms : List EntryNo) → l ≡ m ∷ ms → filter (differs m) ms ≡ ms) → (b : Bool) → l ++ cond b (new ∷ []) [] ≡ n ∷ more → filter (differs n) more ≡ more
    end [] under before true is = let none : [] ≡ more = cc in subst (λ (l : List EntryNo). filter (differs n) l ≡ l) none refl
    end [] under before false is = absurd (cc)
    end (m ∷ ms) under before true is =
        let same : m ≡ n = cc in
        let rest : ms ++ new ∷ [] ≡ more = cc in
        subst (λ (l : List EntryNo). filter (differs n) l ≡ l) rest
        (subst (λ (x : EntryNo). filter (differs x) (ms ++ new ∷ []) ≡ ms ++ new ∷ []) same
        (filter-append (differs m) ms (new ∷ []) ∙ ap (λ b. filter (differs m) ms ++ cond (not b) (new ∷ []) []) (eqb_below m.0 (length past) under.0) ∙ ap (λ l. l ++ new ∷ []) (before m ms refl)))
    end (m ∷ ms) under before false is =
        let same : m ≡ n = cc in
        let rest : ms ++ [] ≡ more = cc in
        subst (λ (l : List EntryNo). filter (differs n) l ≡ l) (sym (append-nil ms) ∙ rest)
        (subst (λ (x : EntryNo). filter (differs x) ms ≡ ms) same (before m ms refl))

    by : ((m : EntryNo) (ms : List EntryNo) → filter w xs ≡ m ∷ ms → filter (differs m) ms ≡ ms) → (b : Bool) → filter w (xs ++ cond b (new ∷ []) []) ≡ n ∷ more → filter (differs n) more ≡ more
    by before true is = end (filter w xs) (under_passing w (length past) xs (texts_under past h)) before (w new) (sym (filter-append w xs (new ∷ [])) ∙ is)
    by before false is = before n more (ap (filter w) (sym (append-nil xs)) ∙ is)

-- where host h takes its first text, the others are left
pub left_taken : (past : List Entry) (e : Entry) (h : HostNo) (n : EntryNo) → is_text_for past e.who e.call e.answer h ≡ false → text_taken e.call e.answer (is_by_host e.who h) ≡ n ∷ [] → first (texts_left past h) ≡ Some n
    → texts_left (e ∷ past) h ≡ drop 1 (texts_left past h)
left_taken past e h n none took next =
    ap (λ ts. left_of (texts_taken past h ++ ts) (texts_for (e ∷ past) h)) took
    ∙ ap (λ b. left_of (texts_taken past h ++ n ∷ []) (texts_for past h ++ cond b (entry_no (length past) ∷ []) [])) none
    ∙ ap (left_of (texts_taken past h ++ n ∷ [])) (append-nil (texts_for past h))
    ∙ filter_agree (λ m. not (list_any (λ t. t.0 == m.0) (texts_taken past h ++ n ∷ []))) (λ m. not (list_any (λ t. t.0 == m.0) (texts_taken past h)) && differs n m) one_more (texts_for past h)
    ∙ sym (filter_twice (differs n) (λ m. not (list_any (λ t. t.0 == m.0) (texts_taken past h))) (texts_for past h))
    ∙ by (texts_left past h) refl next
  where
    parts : (a b : Bool) → not (a || (b || false)) ≡ (not a && not b)
    parts true b = refl
    parts false true = refl
    parts false false = refl

    one_more : (m : EntryNo) → not (list_any (λ t. t.0 == m.0) (texts_taken past h ++ n ∷ [])) ≡ (not (list_any (λ t. t.0 == m.0) (texts_taken past h)) && differs n m)
    one_more m = ap not (list_any-append (λ t. t.0 == m.0) (texts_taken past h) (n ∷ [])) ∙ parts (list_any (λ t. t.0 == m.0) (texts_taken past h)) (n.0 == m.0)

    by : (l : List EntryNo) → texts_left past h ≡ l → first l ≡ Some n → filter (differs n) l ≡ drop 1 l
    by [] is next = absurd (cc)
    by (x ∷ xs) is next =
        let same : x ≡ n = cc in
        subst (λ (y : EntryNo). filter (differs n) (y ∷ xs) ≡ xs) (sym same)
        (rw (eqb_refl n.0) (all_differ (λ m. not (list_any (λ t. t.0 == m.0) (texts_taken past h))) past h n xs (is ∙ ap (λ (y : EntryNo). y ∷ xs) same)))

-- a host that takes a text takes the first that is left
pub text_is_first : (ended over : Bool) (left : List EntryNo) (n : EntryNo) → HasText n ≡ text_or_end (cond ended None (first left)) over → first left ≡ Some n
text_is_first true true left n h = absurd (cc)
text_is_first true false left n h = absurd (cc)
text_is_first false true [] n h = absurd (cc)
text_is_first false false [] n h = absurd (cc)
text_is_first false over (m ∷ left) n h = let same : m ≡ n = cc in ap Some same

-- A host that was not started.

no_host_more : (past : List Entry) (e : Entry) → length (hosts past) ≤ length (hosts (e ∷ past))
no_host_more past e = grown_or_same (is_some (starts past e)) (length (hosts past)) (length (hosts (e ∷ past))) (hosts_more e past)

not_by : (past : List Entry) (h : HostNo) (who : Who) (call : Call) → length (hosts past) ≤ h.0 → may_make past who call ≡ true → is_by_host who h ≡ false
not_by past h (ByContext c) call late may = refl
not_by past h (ByHost g) call late may = eqb_below g.0 h.0 (low g.0 h.0 (length (hosts past)) late (last (is_of_host call) (is_short_said call) (nat_lt g.0 (length (hosts past))) may))
  where
    last : (a b d : Bool) → (a && b && d) ≡ true → d ≡ true
    last true true d h = h
    last true false d h = absurd (false≢true h)
    last false b d h = absurd (false≢true h)

    low : (m n k : ℕ) → k ≤ n → nat_lt m k ≡ true → m < n
    low m n k a b = grind (arith, nat_tests)

-- what is held back by a test that fails
not_both : (b m : Bool) → m ≡ false → (false || (b && m)) ≡ false
not_both true m h = h
not_both false m h = refl

-- a host that was not started did not end
pub not_ended : (world : WorldLists) (past : List Entry) (h : HostNo) → IsLegalPast world past → length (hosts past) ≤ h.0 → has_ended past h ≡ false
not_ended world [] h legal late = refl
not_ended world (e ∷ past) h legal late =
    let more : length (hosts past) ≤ length (hosts (e ∷ past)) = no_host_more past e in
    rw (not_ended world past h legal.0 (omega (arith, late, more))) (not_both _ _ (not_by past h e.who e.call (omega (arith, late, more)) legal.1.may))

-- it was not told of an end
pub not_told_end : (world : WorldLists) (past : List Entry) (h : HostNo) → IsLegalPast world past → length (hosts past) ≤ h.0 → knows_end past h ≡ false
not_told_end world [] h legal late = refl
not_told_end world (e ∷ past) h legal late =
    let more : length (hosts past) ≤ length (hosts (e ∷ past)) = no_host_more past e in
    rw (not_told_end world past h legal.0 (omega (arith, late, more))) (not_both _ _ (not_by past h e.who e.call (omega (arith, late, more)) legal.1.may))

-- it was not refused
pub not_refused : (world : WorldLists) (past : List Entry) (h : HostNo) → IsLegalPast world past → length (hosts past) ≤ h.0 → said_closed past h ≡ false
not_refused world [] h legal late = refl
not_refused world (e ∷ past) h legal late =
    let more : length (hosts past) ≤ length (hosts (e ∷ past)) = no_host_more past e in
    rw (not_refused world past h legal.0 (omega (arith, late, more))) (not_both _ _ (not_by past h e.who e.call (omega (arith, late, more)) legal.1.may))

-- there is no text for it
no_text_in : (past : List Entry) (e : Entry) (h : HostNo) (who : Who) (call : Call) (answer : Answer) → who ≡ e.who → call ≡ e.call → answer ≡ e.answer → length (hosts (e ∷ past)) ≤ h.0 → is_text_for past who call answer h ≡ false
no_text_in past e h (ByContext c) (Post k text) Posted w l a late =
    let more : length (hosts past) ≤ length (hosts (e ∷ past)) = no_host_more past e in
    ap (λ o. is_for_channel k.0 (work_in o)) (slice_get_past (hosts past) h.0 (omega (arith, late, more)))
no_text_in past e h (ByContext c) (SendNative name text) (OnRequest r) w l a late =
    let started : is_some (starts past e) ≡ true = rw (← w, ← l, ← a) refl in
    let more : length (hosts (e ∷ past)) ≡ cond (is_some (starts past e)) (length (hosts past) + 1) (length (hosts past)) = hosts_more e past in
    let one : length (hosts (e ∷ past)) ≡ length (hosts past) + 1 = more ∙ ap (λ b. cond {A = ℕ} b (length (hosts past) + 1) (length (hosts past))) started in
    eqb_below (length (hosts past)) h.0 (omega (arith, late, one))
no_text_in past e h _ _ _ w l a late = refl

no_text : (past : List Entry) (h : HostNo) → length (hosts past) ≤ h.0 → texts_for past h ≡ []
no_text [] h late = refl
no_text (e ∷ past) h late =
    let more : length (hosts past) ≤ length (hosts (e ∷ past)) = no_host_more past e in
    ap (λ b. texts_for past h ++ cond b (entry_no (length past) ∷ []) []) (no_text_in past e h e.who e.call e.answer refl refl refl late)
    ∙ append-nil (texts_for past h)
    ∙ no_text past h (omega (arith, late, more))

-- so none is left
pub none_left : (past : List Entry) (h : HostNo) → length (hosts past) ≤ h.0 → texts_left past h ≡ []
none_left past h late = ap (left_of (texts_taken past h)) (no_text past h late)
