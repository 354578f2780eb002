-- On a legal journal the messages that a report counts are those that the prefix law speaks of.
use Rattle.std.proofs.Common.{◌≡◌, ℕ, suc, zero, ◌+◌, ◌<◌, ◌≤◌, List, [], ◌∷◌, ◌++◌, length, refl, ap, sym, subst, ◌∙◌, Bool, true, false, cond, map, arith}
use Rattle.std.specs.Prelude.{Option, Some, None, ◌&&◌, ◌==◌, IsTrue, nat_lt, filter, slice_get, option_to_list}
use Rattle.std.specs.Option.{option_or, option_map}
use Rattle.std.proofs.lemmas.Bool.{eqb-true}
use Rattle.std.proofs.lemmas.Bool.Decides.{nat_tests}
use Rattle.std.proofs.lemmas.List.{length-append, map-append}
use Rattle.std.proofs.lemmas.List.Elements.{filter-append}
use Rattle.wx_id.specs.declared.numbers.EntryNo.{EntryNo}
use Rattle.wx_id.specs.declared.numbers.ContextNo.{ContextNo}
use Rattle.wx_id.specs.declared.numbers.HostNo.{HostNo}
use Rattle.wx_id.specs.declared.events.Event.{Event}
use Rattle.wx_id.specs.declared.events.End.{End}
use Rattle.wx_id.specs.declared.events.End.TheVariants.{Opener, Receiver, Neither}
use Rattle.wx_external.specs.World.{WorldLists}
use Rattle.wx_machine.specs.declared.entries.Who.{Who}
use Rattle.wx_machine.specs.declared.entries.Call.{Call}
use Rattle.wx_machine.specs.declared.entries.Answer.{Answer}
use Rattle.wx_machine.specs.declared.entries.Entry.{Entry}
use Rattle.wx_machine.specs.declared.work.Work.{Work}
use Rattle.wx_machine.specs.Words.{contexts, is_live, is_by, channel, end_in, Start, starts, hosts, work_in, work_of, is_for_channel, is_by_host}
use Rattle.wx_machine.specs.Words.{is_closed, taken, event_in, texts_taken, text_taken, at_end, where_short, answer_after, may_make}
use Rattle.wx_machine.specs.declared.entries.Who.TheVariants.{Context as ByContext, Host as ByHost}
use Rattle.wx_machine.specs.declared.entries.Call.TheVariants.{Post, Take, HostTake, HostSaid}
use Rattle.wx_machine.specs.declared.entries.Answer.TheVariants.{Posted, Passed, Gone, PortClosed, Event as Told, Text as HasText}
use Rattle.wx_laws.specs.Legal.{IsLegalPast}
use Rattle.wx_laws.specs.Prefix.{IsPrefix}
use Rattle.wx_laws.specs.ClosingLaw.{are_across}
use Rattle.wx_laws.specs.PrefixLaw.{is_message, messages, gives, given, for_work}
use Rattle.wx_laws.proofs.HostTexts.{hosts_take_in_order_lem}
use Rattle.wx_machine.proofs.Lists.{get_options}
use Rattle.wx_laws.proofs.Numbers.{eqb_above}
use Rattle.wx_id.specs.Numbers.{entry_no}
use Rattle.wx_reports.specs.Reports.{is_posting, posted, is_taking, taken as reported_taken}
use Rattle.wx_reports.specs.Counts.{given_on, sum_below, taken_by, taken_by_host, taken_on}

abbrev one_if : Bool → ℕ
one_if b = cond b 1 0

-- who may post on a channel stands across from one of its sides
one_side : (live closed : Bool) (a : Answer) (x : End) → Posted ≡ cond live (at_end x closed PortClosed a) Gone → 1 ≡ one_if (are_across x Opener) + one_if (are_across x Receiver)
one_side live closed a Opener h = refl
one_side live closed a Receiver h = refl
one_side true closed a Neither h = absurd (cc)
one_side false closed a Neither h = absurd (cc)

said_once : (b : Bool) → one_if b ≡ one_if (b && true) + one_if (b && false)
said_once true = refl
said_once false = refl

-- an entry that posts a message gives it to one side
given_once : (world : WorldLists) (past : List Entry) (k : ℕ) (who : Who) (call : Call) (answer : Answer) → answer ≡ answer_after world past who call
    → one_if (is_posting past k who call answer) ≡ one_if (gives past k Opener who call answer) + one_if (gives past k Receiver who call answer)
given_once world past k (ByContext c) (Post j text) Posted h = parts (j.0 == k) refl
  where
    parts : (b : Bool) → (j.0 == k) ≡ b → one_if b ≡ one_if (b && are_across (end_in (channel past k) c) Opener) + one_if (b && are_across (end_in (channel past k) c) Receiver)
    parts false is = refl
    parts true is =
        let same : j.0 ≡ k = eqb-true j.0 k is in
        one_side (is_live past c) (is_closed past k) (where_short text Posted) (end_in (channel past k) c)
        (subst (λ (i : ℕ). Posted ≡ cond (is_live past c) (at_end (end_in (channel past i) c) (is_closed past i) PortClosed (where_short text Posted)) Gone) same h)
given_once world past k (ByHost h) (Post j text) Posted is = absurd (cc)
given_once world past k (ByHost h) (HostSaid text) Passed is = said_once (is_for_channel k (work_of past h))
given_once world past k _ _ _ h = refl

length_if : {X : Type 0} (xs : List X) (x : X) (b : Bool) → length (xs ++ cond b (x ∷ []) []) ≡ length xs + one_if b
length_if xs x true = length-append xs (x ∷ [])
length_if xs x false = length-append xs []

-- what was posted on a channel was given to one side of it
pub posted_is : (world : WorldLists) (past : List Entry) (k : ℕ) → IsLegalPast world past → posted past k ≡ given_on past k
posted_is world [] k legal = refl
posted_is world (e ∷ past) k legal =
    let before : posted past k ≡ given_on past k = posted_is world past k legal.0 in
    let now : one_if (is_posting past k e.who e.call e.answer) ≡ one_if (gives past k Opener e.who e.call e.answer) + one_if (gives past k Receiver e.who e.call e.answer) =
    given_once world past k e.who e.call e.answer legal.1.answered in
    let opener : length (given (e ∷ past) k Opener) ≡ length (given past k Opener) + one_if (gives past k Opener e.who e.call e.answer) = length_if (given past k Opener) (entry_no (length past)) (gives past k Opener e.who e.call e.answer) in
    let receiver : length (given (e ∷ past) k Receiver) ≡ length (given past k Receiver) + one_if (gives past k Receiver e.who e.call e.answer) = length_if (given past k Receiver) (entry_no (length past)) (gives past k Receiver e.who e.call e.answer) in
    omega arith

sum_same : (f g : ℕ → ℕ) (n : ℕ) → ((i : ℕ) → i < n → g i ≡ f i) → sum_below g n ≡ sum_below f n
sum_same f g zero same = refl
sum_same f g (suc n) same =
    let before : sum_below g n ≡ sum_below f n = sum_same f g n (λ i l. same i (omega arith)) in
    let last : g n ≡ f n = same n (omega arith) in
    rw (before, last) refl

-- a sum in which one term is one more
sum_one : (f g : ℕ → ℕ) (m n : ℕ) → m < n → ((i : ℕ) → i < n → g i ≡ f i + one_if (m == i)) → sum_below g n ≡ sum_below f n + 1
sum_one f g m zero below more = absurd (omega arith)
sum_one f g m (suc n) below more = parts (m == n) refl (λ less. sum_one f g m n less (λ i l. more i (omega arith)))
  where
    parts : (b : Bool) → (m == n) ≡ b → (m < n → sum_below g n ≡ sum_below f n + 1) → sum_below g n + g n ≡ (sum_below f n + f n) + 1
    parts true is rest =
        let same : m ≡ n = eqb-true m n is in
        let before : sum_below g n ≡ sum_below f n = sum_same f g n (λ i l. more i (omega arith) ∙ rw (eqb_above m i (omega arith)) (omega arith)) in
        let last : g n ≡ f n + 1 = more n (omega arith) ∙ rw is refl in
        omega arith
    parts false is rest =
        let less : m < n = grind (arith, nat_tests) in
        let before : sum_below g n ≡ sum_below f n + 1 = rest less in
        let last : g n ≡ f n + 0 = more n (omega arith) ∙ rw is refl in
        omega arith

-- the messages among more events
more_messages : (k : ℕ) (xs ys : List Event) → length (messages k (xs ++ ys)) ≡ length (messages k xs) + length (messages k ys)
more_messages k xs ys =
    ap (λ l. length (map (λ event. event.entry) l)) (filter-append (λ event. is_message k event.kind) xs ys)
    ∙ ap length (map-append (λ event. event.entry) (filter (λ event. is_message k event.kind) xs) (filter (λ event. is_message k event.kind) ys))
    ∙ length-append (messages k xs) (messages k ys)

abbrev entry : Who → Call → Answer → Entry
entry who call answer = record { who = who; call = call; answer = answer }

-- a call that takes a message of channel k
abbrev takes : ℕ → Call → Answer → Bool
takes k Take (Told event) = is_message k event.kind
takes k _ _ = false

taken_now : (k : ℕ) (call : Call) (answer : Answer) (b : Bool) → length (messages k (event_in call answer b)) ≡ one_if (b && takes k call answer)
taken_now k Take (Told event) true = parts (is_message k event.kind) refl
  where
    parts : (b : Bool) → is_message k event.kind ≡ b → length (messages k (event ∷ [])) ≡ one_if b
    parts true is = rw is refl
    parts false is = rw is refl
taken_now k Take (Told event) false = refl
taken_now k _ _ true = refl
taken_now k _ _ false = refl

one_later : (past : List Entry) (e : Entry) (k c : ℕ) → taken_by (e ∷ past) k c ≡ taken_by past k c + one_if (is_by e.who (record { 0 = c }) && takes k e.call e.answer)
one_later past e k c =
    more_messages k (taken past (record { 0 = c })) (event_in e.call e.answer (is_by e.who (record { 0 = c })))
    ∙ ap (λ n. taken_by past k c + n) (taken_now k e.call e.answer (is_by e.who (record { 0 = c })))

no_more : (n : ℕ) (b : Bool) → b ≡ false → n + one_if b ≡ n
no_more n b is = rw is (omega arith)

and_false : (b c : Bool) → c ≡ false → (b && c) ≡ false
and_false true c is = is
and_false false c is = refl

and_true : (b c : Bool) → c ≡ true → (b && c) ≡ b
and_true true c is = is
and_true false c is = refl

-- who takes a message is one of the contexts
taker_below : (past : List Entry) (k : ℕ) (d : ContextNo) (call : Call) (answer : Answer) → takes k call answer ≡ true → IsTrue (may_make past (ByContext d) call) → d.0 < contexts past
taker_below past k d Take (Told event) is may = let below : IsTrue (nat_lt d.0 (contexts past)) = may in grind (arith, nat_tests)
taker_below past k d _ _ is may = absurd (let q : false ≡ true = is in cc)

-- what the contexts took, one entry of a context later
contexts_later : (past : List Entry) (k n : ℕ) (d : ContextNo) (call : Call) (answer : Answer) → IsTrue (may_make past (ByContext d) call) → contexts past ≤ n
    → sum_below (taken_by (entry (ByContext d) call answer ∷ past) k) n ≡ sum_below (taken_by past k) n + one_if (takes k call answer)
contexts_later past k n d call answer may wide = parts (takes k call answer) refl
  where
    e : Entry
    e = entry (ByContext d) call answer

    parts : (b : Bool) → takes k call answer ≡ b → sum_below (taken_by (e ∷ past) k) n ≡ sum_below (taken_by past k) n + one_if b
    parts true is =
        let below : d.0 < contexts past = taker_below past k d call answer is may in
        sum_one (taken_by past k) (taken_by (e ∷ past) k) d.0 n (omega arith) (λ i l. one_later past e k i ∙ ap (λ b. taken_by past k i + one_if b) (and_true (d.0 == i) (takes k call answer) is))
    parts false is =
        sum_same (taken_by past k) (taken_by (e ∷ past) k) n (λ i l. one_later past e k i ∙ no_more (taken_by past k i) ((d.0 == i) && takes k call answer) (and_false (d.0 == i) (takes k call answer) is))
        ∙ omega arith

-- what they took, one entry of a host later
contexts_stay : (past : List Entry) (k n : ℕ) (g : HostNo) (call : Call) (answer : Answer) → sum_below (taken_by (entry (ByHost g) call answer ∷ past) k) n ≡ sum_below (taken_by past k) n
contexts_stay past k n g call answer =
    sum_same (taken_by past k) (taken_by (entry (ByHost g) call answer ∷ past) k) n (λ i l. one_later past (entry (ByHost g) call answer) k i ∙ no_more (taken_by past k i) false refl)

-- a call that takes a text
abbrev takes_text : Call → Answer → Bool
takes_text HostTake (HasText n) = true
takes_text _ _ = false

text_now : (call : Call) (answer : Answer) (b : Bool) → length (text_taken call answer b) ≡ one_if (b && takes_text call answer)
text_now HostTake (HasText n) true = refl
text_now HostTake (HasText n) false = refl
text_now _ _ true = refl
text_now _ _ false = refl

not_there : {X : Type 0} (xs : List X) (i : ℕ) → slice_get xs i ≡ None → length xs ≤ i
not_there [] i h = omega arith
not_there (x ∷ xs) zero h = absurd (cc)
not_there (x ∷ xs) (suc i) h = let q : length xs ≤ i = not_there xs i h in omega arith

-- a host that is not there takes no text
no_taker : (past : List Entry) (i : ℕ) (who : Who) (call : Call) (answer : Answer) → IsTrue (may_make past who call) → length (hosts past) ≤ i → (is_by_host who (record { 0 = i }) && takes_text call answer) ≡ false
no_taker past i (ByHost g) HostTake (HasText n) may above =
    let below : IsTrue (nat_lt g.0 (length (hosts past))) = may in
    let less : g.0 < length (hosts past) = grind (arith, nat_tests) in
    let other : (g.0 == i) ≡ false = grind (arith, nat_tests) in
    rw other refl
no_taker past i (ByHost g) _ _ may above = and_false (g.0 == i) false refl
no_taker past i (ByContext c) _ _ may above = refl

-- one that is not there took none
none_taken : (world : WorldLists) (past : List Entry) (h : HostNo) → IsLegalPast world past → work_of past h ≡ None → texts_taken past h ≡ []
none_taken world past h legal none =
    let some : IsPrefix (texts_taken past h) [] = subst (λ (o : Option Work). IsPrefix (texts_taken past h) (for_work past o)) none (hosts_take_in_order_lem world past h legal) in
    first_none (texts_taken past h) some.0 some.1
  where
    first_none : (xs ys : List EntryNo) → [] ≡ xs ++ ys → xs ≡ []
    first_none [] ys is = refl
    first_none (x ∷ xs) ys is = absurd (cc)

-- what host i took, one entry later
host_later : (world : WorldLists) (past : List Entry) (k i : ℕ) (e : Entry) → IsLegalPast world past → IsTrue (may_make past e.who e.call)
    → taken_by_host (e ∷ past) k i ≡ taken_by_host past k i + one_if ((is_by_host e.who (record { 0 = i }) && takes_text e.call e.answer) && is_for_channel k (work_of past (record { 0 = i })))
host_later world past k i e legal may =
    ap (λ o. cond (is_for_channel k (work_in o)) (length (texts_taken past h ++ new)) 0) (get_options (hosts past) (starts past e) i)
    ∙ parts (slice_get (hosts past) i) refl
  where
    h : HostNo
    h = record { 0 = i }

    takes_now : Bool
    takes_now = is_by_host e.who h && takes_text e.call e.answer

    new : List EntryNo
    new = text_taken e.call e.answer (is_by_host e.who h)

    of_channel : (b t : Bool) (xs ys : List EntryNo) → length ys ≡ one_if t → cond b (length (xs ++ ys)) 0 ≡ cond b (length xs) 0 + one_if (t && b)
    of_channel true true xs ys is = length-append xs ys ∙ ap (λ n. length xs + n) is
    of_channel true false xs ys is = length-append xs ys ∙ ap (λ n. length xs + n) is
    of_channel false true xs ys is = refl
    of_channel false false xs ys is = refl

    nothing : (b t : Bool) (xs ys : List EntryNo) → xs ≡ [] → t ≡ false → length ys ≡ one_if t → cond b (length (xs ++ ys)) 0 ≡ 0 + one_if (t && false)
    nothing true true xs ys none idle is = absurd (let q : true ≡ false = idle in cc)
    nothing true false xs ys none idle is = rw none is
    nothing false true xs ys none idle is = refl
    nothing false false xs ys none idle is = refl

    parts : (o : Option Start) → slice_get (hosts past) i ≡ o
        → cond (is_for_channel k (work_in (option_or o (cond (length (hosts past) == i) (starts past e) None)))) (length (texts_taken past h ++ new)) 0
        ≡ cond (is_for_channel k (work_in (slice_get (hosts past) i))) (length (texts_taken past h)) 0 + one_if (takes_now && is_for_channel k (work_in (slice_get (hosts past) i)))
    parts (Some start) is = rw is (of_channel (is_for_channel k (Some start.work)) takes_now (texts_taken past h) new (text_now e.call e.answer (is_by_host e.who h)))
    parts None is =
        rw is (nothing (is_for_channel k (work_in (cond (length (hosts past) == i) (starts past e) None))) takes_now (texts_taken past h) new
        (none_taken world past h legal (ap work_in is)) (no_taker past i e.who e.call e.answer may (not_there (hosts past) i is)) (text_now e.call e.answer (is_by_host e.who h)))

-- what the hosts took, one entry of a context later
hosts_stay : (world : WorldLists) (past : List Entry) (k n : ℕ) (d : ContextNo) (call : Call) (answer : Answer) → IsLegalPast world past → IsTrue (may_make past (ByContext d) call)
    → sum_below (taken_by_host (entry (ByContext d) call answer ∷ past) k) n ≡ sum_below (taken_by_host past k) n
hosts_stay world past k n d call answer legal may =
    sum_same (taken_by_host past k) (taken_by_host (entry (ByContext d) call answer ∷ past) k) n
    (λ i l. host_later world past k i (entry (ByContext d) call answer) legal may ∙ no_more (taken_by_host past k i) false refl)

host_below : (past : List Entry) (g : HostNo) (call : Call) (answer : Answer) → takes_text call answer ≡ true → IsTrue (may_make past (ByHost g) call) → g.0 < length (hosts past)
host_below past g HostTake (HasText n) is may = let below : IsTrue (nat_lt g.0 (length (hosts past))) = may in grind (arith, nat_tests)
host_below past g _ _ is may = absurd (let q : false ≡ true = is in cc)

-- what they took, one entry of a host later
hosts_later : (world : WorldLists) (past : List Entry) (k n : ℕ) (g : HostNo) (call : Call) (answer : Answer) → IsLegalPast world past → IsTrue (may_make past (ByHost g) call) → length (hosts past) ≤ n
    → sum_below (taken_by_host (entry (ByHost g) call answer ∷ past) k) n ≡ sum_below (taken_by_host past k) n + one_if (takes_text call answer && is_for_channel k (work_of past g))
hosts_later world past k n g call answer legal may wide = parts (takes_text call answer) refl (is_for_channel k (work_of past g)) refl
  where
    e : Entry
    e = entry (ByHost g) call answer

    at : (i : ℕ) (b : Bool) → (g.0 == i) ≡ b → (t : Bool) → (((b && t) && is_for_channel k (work_of past (record { 0 = i })))) ≡ (b && (t && is_for_channel k (work_of past g)))
    at i true is true = let same : g.0 ≡ i = eqb-true g.0 i is in ap (λ (m : ℕ). is_for_channel k (work_of past (record { 0 = m }))) (sym same)
    at i true is false = refl
    at i false is t = refl

    later : (i : ℕ) → taken_by_host (e ∷ past) k i ≡ taken_by_host past k i + one_if ((g.0 == i) && (takes_text call answer && is_for_channel k (work_of past g)))
    later i = host_later world past k i e legal may ∙ ap (λ b. taken_by_host past k i + one_if b) (at i (g.0 == i) refl (takes_text call answer))

    same : (takes_text call answer && is_for_channel k (work_of past g)) ≡ false → sum_below (taken_by_host (e ∷ past) k) n ≡ sum_below (taken_by_host past k) n + 0
    same is =
        sum_same (taken_by_host past k) (taken_by_host (e ∷ past) k) n (λ i l. later i ∙ no_more (taken_by_host past k i) _ (and_false (g.0 == i) (takes_text call answer && is_for_channel k (work_of past g)) is))
        ∙ omega arith

    parts : (t : Bool) → takes_text call answer ≡ t → (b : Bool) → is_for_channel k (work_of past g) ≡ b → sum_below (taken_by_host (e ∷ past) k) n ≡ sum_below (taken_by_host past k) n + one_if (t && b)
    parts true is true on =
        let below : g.0 < length (hosts past) = host_below past g call answer is may in
        sum_one (taken_by_host past k) (taken_by_host (e ∷ past) k) g.0 n (omega arith) (λ i l. later i ∙ ap (λ b. taken_by_host past k i + one_if b) (and_true (g.0 == i) (takes_text call answer && is_for_channel k (work_of past g)) (rw (is, on) refl)))
    parts true is false on = same (rw (is, on) refl)
    parts false is b on = same (rw is refl)

is_taking_context : (past : List Entry) (k : ℕ) (d : ContextNo) (call : Call) (answer : Answer) → is_taking past k (ByContext d) call answer ≡ takes k call answer
is_taking_context past k d Take (Told event) = refl
is_taking_context past k d _ _ = refl

is_taking_host : (past : List Entry) (k : ℕ) (g : HostNo) (call : Call) (answer : Answer) → is_taking past k (ByHost g) call answer ≡ (takes_text call answer && is_for_channel k (work_of past g))
is_taking_host past k g HostTake (HasText n) = refl
is_taking_host past k g _ _ = refl

-- the sums over these many contexts and hosts, which all those that are there lie below
abbrev sums : List Entry → ℕ → ℕ → ℕ → ℕ
sums past k n m = sum_below (taken_by past k) n + sum_below (taken_by_host past k) m

sums_later : (world : WorldLists) (past : List Entry) (k n m : ℕ) (who : Who) (call : Call) (answer : Answer) → IsLegalPast world past → IsTrue (may_make past who call) → contexts past ≤ n → length (hosts past) ≤ m
    → sums (entry who call answer ∷ past) k n m ≡ sums past k n m + one_if (is_taking past k who call answer)
sums_later world past k n m (ByContext d) call answer legal may wide high =
    let contexts_is : sum_below (taken_by (entry (ByContext d) call answer ∷ past) k) n ≡ sum_below (taken_by past k) n + one_if (takes k call answer) = contexts_later past k n d call answer may wide in
    let hosts_is : sum_below (taken_by_host (entry (ByContext d) call answer ∷ past) k) m ≡ sum_below (taken_by_host past k) m = hosts_stay world past k m d call answer legal may in
    let now : one_if (is_taking past k (ByContext d) call answer) ≡ one_if (takes k call answer) = ap one_if (is_taking_context past k d call answer) in
    omega arith
sums_later world past k n m (ByHost g) call answer legal may wide high =
    let contexts_is : sum_below (taken_by (entry (ByHost g) call answer ∷ past) k) n ≡ sum_below (taken_by past k) n = contexts_stay past k n g call answer in
    let hosts_is : sum_below (taken_by_host (entry (ByHost g) call answer ∷ past) k) m ≡ sum_below (taken_by_host past k) m + one_if (takes_text call answer && is_for_channel k (work_of past g)) =
    hosts_later world past k m g call answer legal may high in
    let now : one_if (is_taking past k (ByHost g) call answer) ≡ one_if (takes_text call answer && is_for_channel k (work_of past g)) = ap one_if (is_taking_host past k g call answer) in
    omega arith

sum_none : (f : ℕ → ℕ) (n : ℕ) → ((i : ℕ) → f i ≡ 0) → sum_below f n ≡ 0
sum_none f zero none = refl
sum_none f (suc n) none = rw (sum_none f n none, none n) refl

no_host : (b : Bool) → cond {A = ℕ} b 0 0 ≡ 0
no_host true = refl
no_host false = refl

sums_are : (world : WorldLists) (past : List Entry) (k n m : ℕ) → IsLegalPast world past → contexts past ≤ n → length (hosts past) ≤ m → reported_taken past k ≡ sums past k n m
sums_are world [] k n m legal wide high =
    rw (sum_none (taken_by [] k) n (λ i. refl), sum_none (taken_by_host [] k) m (λ i. no_host (is_for_channel k (work_of [] (record { 0 = i }))))) refl
sums_are world (e ∷ past) k n m legal wide high =
    let fewer : contexts past ≤ n = omega arith in
    let below : length (hosts past) ≤ m = omega (arith, length-append (hosts past) (option_to_list (starts past e))) in
    ap (λ t. t + one_if (is_taking past k e.who e.call e.answer)) (sums_are world past k n m legal.0 fewer below)
    ∙ sym (sums_later world past k n m e.who e.call e.answer legal.0 legal.1.may fewer below)

-- what was taken on a channel was taken by the contexts and by its hosts
pub taken_is : (world : WorldLists) (past : List Entry) (k : ℕ) → IsLegalPast world past → reported_taken past k ≡ taken_on past k
taken_is world past k legal = sums_are world past k (contexts past) (length (hosts past)) legal (omega arith) (omega arith)

-- the number of an entry
pub number_back : (o : Option ℕ) → option_map (λ (n : EntryNo). n.0) (option_map entry_no o) ≡ o
number_back None = refl
number_back (Some n) = refl
