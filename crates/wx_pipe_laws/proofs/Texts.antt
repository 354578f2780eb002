-- The texts on a native channel: those that its opener posted, those that its host took and said, and those given to its
-- opener.
use Rattle.std.proofs.Common.{◌≡◌, ℕ, ◌<◌, ◌≤◌, ◌==◌, Bool, true, false, ◌&&◌, cond, List, [], ◌∷◌, ◌++◌, length, map, Option, Some, None, refl, ap, ◌∙◌, sym, subst, arith, inl, inr, append_assoc}
use Rattle.std.specs.Prelude.{reverse, slice_get, option_to_list, nat_lt, nat_le, ◌||◌}
use Rattle.std.specs.Option.{option_or}
use Rattle.std.proofs.lemmas.Bool.{eqb-true, ltb-true, false≢true}
use Rattle.std.proofs.lemmas.List.{append-nil, map-append, reverse-append, length-reverse, length-append}
use Rattle.wx_id.specs.Numbers.{entry_no}
use Rattle.wx_id.specs.declared.numbers.ContextNo.{ContextNo}
use Rattle.wx_id.specs.declared.numbers.ChannelNo.{ChannelNo}
use Rattle.wx_id.specs.declared.numbers.EntryNo.{EntryNo}
use Rattle.wx_id.specs.declared.numbers.HostNo.{HostNo}
use Rattle.wx_id.specs.declared.events.End.{End}
use Rattle.wx_id.specs.declared.events.End.TheVariants.{Opener, Receiver, Neither}
use Rattle.wx_external.specs.World.{WorldLists}
use Rattle.wx_machine.specs.declared.entries.Who.{Who}
use Rattle.wx_machine.specs.declared.entries.Call.{Call}
use Rattle.wx_machine.specs.declared.entries.Answer.{Answer}
use Rattle.wx_machine.specs.declared.entries.Entry.{Entry}
use Rattle.wx_machine.specs.declared.work.Work.{Work}
use Rattle.wx_machine.specs.declared.work.Work.TheVariants.{Channel as ForChannel, Request as ForRequest}
use Rattle.wx_machine.specs.declared.entries.TheConstants.{LONGEST, LONGEST_SAID}
use Rattle.wx_machine.specs.declared.entries.Who.TheVariants.{Context as ByContext, Host as ByHost}
use Rattle.wx_machine.specs.declared.entries.Call.TheVariants.{Post, HostTake, HostSaid}
use Rattle.wx_machine.specs.declared.entries.Answer.TheVariants.{Posted, Passed, PortClosed, TooLong, Gone, Text as HasText}
use Rattle.wx_machine.specs.Words.{Ends, channel, channels, opens, end_in, side_of, is_closed, is_live, work_of, work_in, hosts, starts, is_for_channel, is_by_host}
use Rattle.wx_machine.specs.Words.{answer_after, at_end, said_for, may_make, ends_channel, text_in, text_of, text_carried, text_taken, texts_taken}
use Rattle.wx_machine.proofs.Lists.{get_options}
use Rattle.wx_laws.specs.Legal.{IsLegalPast}
use Rattle.wx_laws.specs.Prefix.{IsPrefix}
use Rattle.wx_laws.specs.PrefixLaw.{posts_on, posts, texts, gives, given_texts, is_opening}
use Rattle.wx_laws.specs.ClosingLaw.{are_across}
use Rattle.wx_laws.proofs.Messages.{get_before, get_last}
use Rattle.wx_laws.proofs.Numbers.{eqb_refl}
use Rattle.wx_laws.proofs.Closings.{passed_tells}
use Rattle.wx_laws.proofs.Places.{channel_later, closed_later}
use Rattle.wx_desk.proofs.TextLemmas.{text_stays}
use Rattle.wx_host_launch.specs.Halves.{text_of_take, text_said}
use Rattle.wx_host_launch.proofs.HostLemmas.{taken_short}
use Rattle.wx_host_slot.specs.Journals.{taken_by, said_by}
use Rattle.wx_pipe.specs.Pipe.{posted_in, posted_texts}
use Rattle.wx_pipe_laws.proofs.Orders.{posted_later}
use Rattle.wx_pipe_laws.proofs.Openers.{work_later, one_host}

-- Texts of entries

pub parts_of : (o p : Option (List ℕ)) (us vs : List (Option (List ℕ))) → o ∷ us ≡ p ∷ vs → (o ≡ p) × (us ≡ vs)
parts_of o p us vs is = (cc, cc)

texts_later : (past : List Entry) (e : Entry) (ns : List EntryNo) (ts : List (List ℕ)) → texts past ns ≡ map Some ts
    → texts (e ∷ past) ns ≡ map Some ts
texts_later past e [] ts is = is
texts_later past e (n ∷ ns) [] is = absurd cc
texts_later past e (n ∷ ns) (t ∷ ts) is =
    let parts = parts_of (text_of past n) (Some t) (texts past ns) (map Some ts) is in
    ap (λ o. o ∷ texts (e ∷ past) ns) (text_stays (e ∷ []) past n t parts.0)
    ∙ ap (λ l. Some t ∷ l) (texts_later past e ns ts parts.1)

new_text : (past : List Entry) (e : Entry) → text_of (e ∷ past) (entry_no (length past)) ≡ text_in e.call
new_text past e =
    ap text_carried (ap (λ (l : List Entry). slice_get l (length past)) (reverse-append (e ∷ []) past)
    ∙ subst (λ (m : ℕ). slice_get (reverse past ++ e ∷ []) m ≡ Some e) (length-reverse past) (get_last (reverse past) e))

-- The opener alone

-- Channel k, where it is there, is between this context and a host.
abbrev pub IsNative : List Entry → ContextNo → ℕ → Type 0
IsNative past c k = (ends : Ends) → channel past k ≡ Some ends → ends ≡ record { opener = c; receivers = [] }

pub native_before : (past : List Entry) (e : Entry) (c : ContextNo) (k : ℕ) → IsNative (e ∷ past) c k → IsNative past c k
native_before past e c k native ends at =
    native ends (channel_later past e k
    ∙ ap (λ o. option_or o (cond (length (channels past) == k) (opens past e) None)) at)

-- another context stands at no end of it, and nobody where receivers do
data AtEnd (c b : ContextNo) : End → Type 0 where
  nowhere : AtEnd c b Neither
  opens_it : b.0 ≡ c.0 → AtEnd c b Opener

end_is : (past : List Entry) (c b : ContextNo) (k : ℕ) → IsNative past c k → AtEnd c b (end_in (channel past k) b)
end_is past c b k native = by_ends (channel past k) refl
  where
    here : (m : Bool) → (c.0 == b.0) ≡ m → AtEnd c b (cond m Opener Neither)
    here true is = opens_it (sym (eqb-true c.0 b.0 is))
    here false is = nowhere

    by_ends : (o : Option Ends) → channel past k ≡ o → AtEnd c b (end_in o b)
    by_ends None at = nowhere
    by_ends (Some ends) at =
        let P : Ends → Type 0 = λ x. AtEnd c b (end_in (Some x) b) in
        subst P (sym (native ends at)) (here (c.0 == b.0) refl)

-- What was posted

posts_by : (c b : ContextNo) (live closed long : Bool) (end : End) → AtEnd c b end
    → Posted ≡ cond live (at_end end closed PortClosed (cond long TooLong Posted)) Gone → b.0 ≡ c.0
posts_by c b false closed long end at is = absurd cc
posts_by c b true closed long Neither nowhere is = absurd cc
posts_by c b true closed long Opener (opens_it same) is = same
posts_by c b true closed long Receiver at is = elim at [ ]

one_post : (world : WorldLists) (past : List Entry) (c : ContextNo) (k : ℕ) (e : Entry) (who : Who) (call : Call)
    (answer : Answer) → IsNative past c k → answer ≡ answer_after world past who call → text_in e.call ≡ text_in call
    → texts (e ∷ past) (cond (posts_on k who call answer) (entry_no (length past) ∷ []) [])
    ≡ map Some (option_to_list (posted_in c k who call answer))
one_post world past c k e (ByContext b) (Post j text) Posted native answered carries = parts (j.0 == k) refl
  where
    mine : (j.0 == k) ≡ true → (b.0 == c.0) ≡ true
    mine is =
        let same : j.0 ≡ k = eqb-true j.0 k is in
        let P : ℕ → Type 0 = λ n. AtEnd c b (end_in (channel past n) b) in
        let by : b.0 ≡ c.0 = posts_by c b (is_live past b) (is_closed past j.0) (nat_lt LONGEST (length text))
        (end_in (channel past j.0) b) (subst P (sym same) (end_is past c b k native)) answered in
        subst (λ (n : ℕ). (b.0 == n) ≡ true) by (eqb_refl b.0)

    no_post : (m : Bool) → [] ≡ map Some (option_to_list (cond (m && false) (Some text) None))
    no_post true = refl
    no_post false = refl

    parts : (m : Bool) → (j.0 == k) ≡ m → texts (e ∷ past) (cond m (entry_no (length past) ∷ []) [])
        ≡ map Some (option_to_list (cond ((b.0 == c.0) && m) (Some text) None))
    parts true is = rw (mine is) (ap (λ o. o ∷ []) (new_text past e ∙ carries))
    parts false is = no_post (b.0 == c.0)
one_post world past c k e _ _ _ native answered carries = refl

-- the posts on a native channel are those of its opener
pub posts_are : (world : WorldLists) (past : List Entry) (c : ContextNo) (k : ℕ) → IsLegalPast world past
    → IsNative past c k → texts past (posts past k) ≡ map Some (posted_texts c k (reverse past))
posts_are world [] c k legal native = refl
posts_are world (e ∷ past) c k legal native =
    let before = native_before past e c k native in
    let new = cond (posts_on k e.who e.call e.answer) (entry_no (length past) ∷ []) [] in
    map-append (text_of (e ∷ past)) (posts past k) new
    ∙ ap (λ l. l ++ texts (e ∷ past) new)
    (texts_later past e (posts past k) (posted_texts c k (reverse past)) (posts_are world past c k legal.0 before))
    ∙ ap (λ l. map Some (posted_texts c k (reverse past)) ++ l)
    (one_post world past c k e e.who e.call e.answer before legal.1.answered refl)
    ∙ sym (map-append Some (posted_texts c k (reverse past)) (option_to_list (posted_in c k e.who e.call e.answer)))
    ∙ ap (map Some) (sym (posted_later c k e past))

-- What the host took

abbrev pub AllShort : List (List ℕ) → Type 0
AllShort [] = Unit {0}
AllShort (t ∷ ts) = (length t ≤ LONGEST) × AllShort ts

short-append : (ts us : List (List ℕ)) → AllShort ts → AllShort us → AllShort (ts ++ us)
short-append [] us h k = k
short-append (t ∷ ts) us h k = (h.0, short-append ts us h.1 k)

-- The entries of these texts, of which none is too long.
pub record AreTexts (past : List Entry) (ns : List EntryNo) (ts : List (List ℕ)) : Type 0 where
  pub are : texts past ns ≡ map Some ts
  pub short : AllShort ts

no_texts : (past : List Entry) (ns : List EntryNo) (ts : List (List ℕ)) → ns ≡ [] → ts ≡ [] → AreTexts past ns ts
no_texts past ns ts none nothing = record { are = ap (texts past) none ∙ ap (map Some) (sym nothing); short = subst AllShort (sym nothing) tt }

not_its : (call : Call) (answer : Answer) → text_taken call answer false ≡ []
not_its HostTake (HasText n) = refl
not_its _ _ = refl

other_call : (past : List Entry) (e : Entry) (call : Call) (answer : Answer) (m : Bool) → text_taken call answer true ≡ []
    → text_of_take past call answer ≡ []
    → AreTexts (e ∷ past) (text_taken call answer m) (cond m (text_of_take past call answer) [])
other_call past e call answer true none nothing = no_texts (e ∷ past) (text_taken call answer true) (text_of_take past call answer) none nothing
other_call past e call answer false none nothing = no_texts (e ∷ past) (text_taken call answer false) [] (not_its call answer) refl

one_taken : (world : WorldLists) (past : List Entry) (h : HostNo) (e : Entry) (who : Who) (call : Call) (answer : Answer)
    → IsLegalPast world past → answer ≡ answer_after world past who call
    → AreTexts (e ∷ past) (text_taken call answer (is_by_host who h))
    (cond (is_by_host who h) (text_of_take past call answer) [])
one_taken world past h e (ByContext b) call answer legal answered =
    no_texts (e ∷ past) (text_taken call answer false) [] (not_its call answer) refl
one_taken world past h e (ByHost g) HostTake (HasText n) legal answered = parts (g.0 == h.0)
  where
    parts : (m : Bool) → AreTexts (e ∷ past) (text_taken HostTake (HasText n) m)
        (cond m (option_to_list (text_of past n)) [])
    parts false = record { are = refl; short = tt }
    parts true =
        let s = taken_short world past g n legal answered in
        let P : Option (List ℕ) → Type 0 = λ o. AreTexts (e ∷ past) (n ∷ []) (option_to_list o) in
        subst P (sym s.carried) (record {
          are = ap (λ o. o ∷ []) (text_stays (e ∷ []) past n s.text s.carried);
          short = (s.short, tt);
        })
one_taken world past h e (ByHost g) call answer legal answered = other_call past e call answer (g.0 == h.0) refl refl

both_texts : (past : List Entry) (ns ms : List EntryNo) (ts us : List (List ℕ)) → AreTexts past ns ts → AreTexts past ms us
    → AreTexts past (ns ++ ms) (ts ++ us)
both_texts past ns ms ts us h k = record {
  are = map-append (text_of past) ns ms ∙ ap (λ l. l ++ texts past ms) h.are ∙ ap (λ l. map Some ts ++ l) k.are
      ∙ sym (map-append Some ts us);
  short = short-append ts us h.short k.short;
}

-- the texts that a host took, by the entries that carry them
pub taken_are : (world : WorldLists) (past : List Entry) (h : HostNo) → IsLegalPast world past
    → AreTexts past (texts_taken past h) (taken_by h past)
taken_are world [] h legal = record { are = refl; short = tt }
taken_are world (e ∷ past) h legal =
    let before = taken_are world past h legal.0 in
    both_texts (e ∷ past) (texts_taken past h) (text_taken e.call e.answer (is_by_host e.who h)) (taken_by h past)
    (cond (is_by_host e.who h) (text_of_take past e.call e.answer) [])
    (record { are = texts_later past e (texts_taken past h) (taken_by h past) before.are; short = before.short })
    (one_taken world past h e e.who e.call e.answer legal.0 legal.1.answered)

-- What the host said

-- Of all hosts h alone works for channel k, from its start on.
pub record IsHostOf (past : List Entry) (h : HostNo) (k : ℕ) : Type 0 where
  pub alone : (g : HostNo) → is_for_channel k (work_of past g) ≡ true → g.0 ≡ h.0
  pub works : h.0 < length (hosts past) → is_for_channel k (work_of past h) ≡ true

pub host_of : (past : List Entry) (h : HostNo) (k : ℕ) → is_for_channel k (work_of past h) ≡ true → IsHostOf past h k
host_of past h k is = record { alone = λ g at. one_host past g h k at is; works = λ within. is }

host_before : (past : List Entry) (e : Entry) (h : HostNo) (k : ℕ) → IsHostOf (e ∷ past) h k → IsHostOf past h k
host_before past e h k so = record {
  alone = λ g at. so.alone g (work_later past e g k at);
  works = λ within.
      let more = length-append (hosts past) (option_to_list (starts past e)) in
      sym (ap (λ o. is_for_channel k (work_in o)) (get_before (hosts past) (option_to_list (starts past e)) h.0 within))
      ∙ so.works (omega arith);
}

work_is : (k : ℕ) (w : Option Work) → is_for_channel k w ≡ true → (j : ChannelNo) × (w ≡ Some (ForChannel j)) × (j.0 ≡ k)
work_is k None is = absurd (false≢true is)
work_is k (Some (ForRequest r)) is = absurd (false≢true is)
work_is k (Some (ForChannel j)) is = (j, refl, eqb-true j.0 k is)

-- what a host of channel k that says something is answered
said_on : (past : List Entry) (g : HostNo) (k : ℕ) (answer : Answer) → answer ≡ said_for past (work_of past g)
    → is_for_channel k (work_of past g) ≡ true → answer ≡ cond (is_closed past k) PortClosed Passed
said_on past g k answer answered is =
    let w = work_is k (work_of past g) is in
    answered ∙ ap (said_for past) w.1 ∙ ap (λ n. cond (is_closed past n) PortClosed Passed) w.2

-- what an entry adds to what was given and to what was said: the same while the channel is open, or nothing to what was
-- given
data Adds (closed : Bool) : List (List ℕ) → List (List ℕ) → Type 0 where
  to_both : {ts : List (List ℕ)} → closed ≡ false → Adds closed ts ts
  to_said : {ts : List (List ℕ)} → (closed ≡ false → ts ≡ []) → Adds closed [] ts

in_both : (b : Bool) (ts : List (List ℕ)) → cond b ts ts ≡ ts
in_both true ts = refl
in_both false ts = refl

not_across : (c b : ContextNo) (end : End) (m : Bool) → AtEnd c b end → (m && are_across end Opener) ≡ false
not_across c b Neither true nowhere = refl
not_across c b Opener true (opens_it same) = refl
not_across c b Neither false nowhere = refl
not_across c b Opener false (opens_it same) = refl
not_across c b Receiver m at = elim at [ ]

-- a host was started that makes a call
is_started : (past : List Entry) (g : HostNo) (text : List ℕ) → may_make past (ByHost g) (HostSaid text) ≡ true
    → g.0 < length (hosts past)
is_started past g text may = ltb-true g.0 (length (hosts past)) (last (nat_le (length text) LONGEST_SAID) (nat_lt g.0 (length (hosts past))) may)
  where
    last : (a b : Bool) → (true && a && b) ≡ true → b ≡ true
    last true b h = h
    last false b h = absurd (false≢true h)

-- what the host of the channel says where the answer is not that it was passed on
said_unheard : (past : List Entry) (g h : HostNo) (k : ℕ) (text : List ℕ) (answer : Answer) → IsHostOf past h k
    → may_make past (ByHost g) (HostSaid text) ≡ true → answer ≡ said_for past (work_of past g) → (answer ≡ Passed → ⊥)
    → Adds (is_closed past k) [] (cond (is_by_host (ByHost g) h) (text ∷ []) [])
said_unheard past g h k text answer so may answered not = to_said (λ on. parts on (g.0 == h.0) refl)
  where
    parts : is_closed past k ≡ false → (m : Bool) → (g.0 == h.0) ≡ m → cond m (text ∷ []) [] ≡ []
    parts on false is = refl
    parts on true is =
        let same : g ≡ h = let P : ℕ → HostNo = λ n. record { 0 = n } in ap P (eqb-true g.0 h.0 is) in
        let W : HostNo → Type 0 = λ x. x.0 < length (hosts past) → is_for_channel k (work_of past x) ≡ true in
        let works = subst W (sym same) so.works (is_started past g text may) in
        absurd (not (said_on past g k answer answered works ∙ ap (λ b. cond b PortClosed Passed) on))

said_passed : (past : List Entry) (g h : HostNo) (k : ℕ) (text : List ℕ) → IsHostOf past h k
    → may_make past (ByHost g) (HostSaid text) ≡ true → Passed ≡ said_for past (work_of past g)
    → Adds (is_closed past k) (cond (is_for_channel k (work_of past g) && true) (text ∷ []) [])
    (cond (is_by_host (ByHost g) h) (text ∷ []) [])
said_passed past g h k text so may answered = parts (g.0 == h.0) (is_for_channel k (work_of past g)) refl refl
  where
    parts : (m for : Bool) → (g.0 == h.0) ≡ m → is_for_channel k (work_of past g) ≡ for
        → Adds (is_closed past k) (cond (for && true) (text ∷ []) []) (cond m (text ∷ []) [])
    parts true true is works = to_both (passed_tells (is_closed past k) (said_on past g k Passed answered works))
    parts true false is works =
        let same : g ≡ h = let P : ℕ → HostNo = λ n. record { 0 = n } in ap P (eqb-true g.0 h.0 is) in
        let W : HostNo → Type 0 = λ x. x.0 < length (hosts past) → is_for_channel k (work_of past x) ≡ true in
        let on = subst W (sym same) so.works (is_started past g text may) in
        absurd (false≢true (sym works ∙ on))
    parts false true is works =
        let P : ℕ → Type 0 = λ n. (g.0 == n) ≡ true in
        absurd (false≢true (sym is ∙ subst P (so.alone g works) (eqb_refl g.0)))
    parts false false is works = to_said (λ on. refl)

entry_adds : (world : WorldLists) (past : List Entry) (c : ContextNo) (h : HostNo) (k : ℕ) (who : Who) (call : Call)
    (answer : Answer) → IsNative past c k → IsHostOf past h k → may_make past who call ≡ true
    → answer ≡ answer_after world past who call
    → Adds (is_closed past k) (cond (gives past k Opener who call answer) (option_to_list (text_in call)) [])
    (cond (is_by_host who h) (text_said call) [])
entry_adds world past c h k (ByContext b) (Post j text) Posted native so may answered =
    let A : Bool → Type 0 = λ m. Adds (is_closed past k) (cond m (text ∷ []) []) [] in
    let none = not_across c b (end_in (channel past k) b) (j.0 == k) (end_is past c b k native) in
    subst A (sym none) (to_said (λ on. refl))
entry_adds world past c h k (ByHost g) (HostSaid text) Passed native so may answered =
    said_passed past g h k text so may answered
entry_adds world past c h k (ByHost g) (HostSaid text) answer native so may answered =
    said_unheard past g h k text answer so may answered (λ is. cc)
entry_adds world past c h k (ByHost g) (Post j text) Posted native so may answered = absurd cc
entry_adds world past c h k who call answer native so may answered = to_said (λ on. in_both (is_by_host who h) [])

-- What was given to the opener is the first of what the host said, and all of it while the channel is open.
pub record IsGiven (past : List Entry) (h : HostNo) (k : ℕ) : Type 0 where
  pub first : IsPrefix (given_texts past k Opener) (said_by h past)
  pub all : is_closed past k ≡ false → given_texts past k Opener ≡ said_by h past

was_open : (a b : Bool) → (a || b) ≡ false → a ≡ false
was_open false b h = refl
was_open true b h = absurd (false≢true (sym h))

given_more : (past : List Entry) (e : Entry) (h : HostNo) (k : ℕ) (given said : List (List ℕ)) → IsGiven past h k
    → Adds (is_closed past k) given said
    → given_texts (e ∷ past) k Opener ≡ given_texts past k Opener ++ given → said_by h (e ∷ past) ≡ said_by h past ++ said
    → IsGiven (e ∷ past) h k
given_more past e h k given ts so (to_both on) g s =
    let same : given_texts past k Opener ++ ts ≡ said_by h past ++ ts = ap (λ l. l ++ ts) (so.all on) in
    record {
      first = ([], s ∙ sym same ∙ sym g ∙ sym (append-nil (given_texts (e ∷ past) k Opener)));
      all = λ now. g ∙ same ∙ sym s;
    }
given_more past e h k given ts so (to_said none) g s =
    let old = given_texts past k Opener in
    let was = g ∙ append-nil old in
    let more : said_by h past ++ ts ≡ old ++ (so.first.0 ++ ts) = ap (λ l. l ++ ts) so.first.1
    ∙ append_assoc old so.first.0 ts in
    record {
      first = (so.first.0 ++ ts, s ∙ more ∙ ap (λ l. l ++ (so.first.0 ++ ts)) (sym was));
      all = λ now.
          let on = was_open (is_closed past k) (ends_channel past e k) (sym (closed_later past e k) ∙ now) in
          was ∙ so.all on ∙ sym (append-nil (said_by h past)) ∙ ap (λ l. said_by h past ++ l) (sym (none on)) ∙ sym s;
    }

-- what is given to the opener of a native channel is the first of what its host said
pub given_are : (world : WorldLists) (past : List Entry) (c : ContextNo) (h : HostNo) (k : ℕ) → IsLegalPast world past
    → IsNative past c k → IsHostOf past h k → IsGiven past h k
given_are world [] c h k legal native so = record { first = ([], refl); all = λ on. refl }
given_are world (e ∷ past) c h k legal native so =
    let native = native_before past e c k native in
    let so = host_before past e h k so in
    given_more past e h k (cond (gives past k Opener e.who e.call e.answer) (option_to_list (text_in e.call)) [])
    (cond (is_by_host e.who h) (text_said e.call) []) (given_are world past c h k legal.0 native so)
    (entry_adds world past c h k e.who e.call e.answer native so legal.1.may legal.1.answered) refl refl
