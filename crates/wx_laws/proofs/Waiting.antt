-- What waits for a context, one entry later.
use Rattle.std.proofs.Common.{◌≡◌, ℕ, suc, ◌<◌, List, [], ◌∷◌, ◌++◌, length, map, refl, ap, ◌∙◌, Bool, true, false, cond, not, arith, ◌≤◌}
use Rattle.std.specs.Prelude.{Option, Some, None, ◌||◌, ◌&&◌, filter, nat_lt}
use Rattle.std.specs.List.{list_any}
use Rattle.std.proofs.lemmas.Bool.Decides.{nat_tests}
use Rattle.std.proofs.lemmas.List.Folds.{list_any-append}
use Rattle.std.proofs.lemmas.List.Elements.{filter-append}
use Rattle.wx_id.specs.declared.numbers.ContextNo.{ContextNo}
use Rattle.wx_id.specs.declared.events.Event.{Event}
use Rattle.wx_id.specs.declared.events.EventKind.{EventKind}
use Rattle.wx_external.specs.World.{WorldLists}
use Rattle.wx_machine.specs.declared.entries.Who.{Who}
use Rattle.wx_machine.specs.declared.entries.Call.{Call}
use Rattle.wx_machine.specs.declared.entries.Answer.{Answer}
use Rattle.wx_machine.specs.declared.entries.Entry.{Entry}
use Rattle.wx_machine.specs.Words.{first, is_by, is_live, tells, marked, delivered, queued, event_in, taken, same_event}
use Rattle.wx_machine.specs.Words.{drops_by, is_dropped, is_waiting, pending, told_or_empty, answer_after}
use Rattle.wx_machine.specs.declared.entries.Who.TheVariants.{Context as ByContext, Host as ByHost}
use Rattle.wx_machine.specs.declared.entries.Call.TheVariants.{Take}
use Rattle.wx_machine.specs.declared.entries.Answer.TheVariants.{Gone, Event as Told}
use Rattle.wx_laws.specs.Legal.{IsLegalPast}
use Rattle.wx_laws.proofs.Numbers.{eqb_below}

-- the entry leaves the event for context c: c does not take it, nor disconnect its channel
abbrev pub leaves_waiting : Entry → ContextNo → Event → Bool
leaves_waiting e c event =
    not (list_any (λ t. same_event t event) (event_in e.call e.answer (is_by e.who c))) && not (is_by e.who c && drops_by e.call e.answer event.kind)

-- each event comes from an entry below n
abbrev pub IsBelow : ℕ → List Event → Type 0
IsBelow n [] = Unit {0}
IsBelow n (x ∷ xs) = (x.entry.0 < n) × IsBelow n xs

pub below-append : (n : ℕ) (xs ys : List Event) → IsBelow n xs → IsBelow n ys → IsBelow n (xs ++ ys)
below-append n [] ys p q = q
below-append n (x ∷ xs) ys p q = (p.0, below-append n xs ys p.1 q)

pub below_more : (n : ℕ) (xs : List Event) → IsBelow n xs → IsBelow (suc n) xs
below_more n [] p = tt
below_more n (x ∷ xs) p = let h : x.entry.0 < n = p.0 in (omega arith, below_more n xs p.1)

pub below_filter : (w : Event → Bool) (n : ℕ) (xs : List Event) → IsBelow n xs → IsBelow n (filter w xs)
below_filter w n [] p = tt
below_filter w n (x ∷ xs) p = pick (w x) p.0 (below_filter w n xs p.1)
  where
    pick : (b : Bool) → x.entry.0 < n → IsBelow n (filter w xs) → IsBelow n (cond b (x ∷ filter w xs) (filter w xs))
    pick true h rest = (h, rest)
    pick false h rest = rest

pub below_first : (n : ℕ) (xs : List Event) (ev : Event) → IsBelow n xs → first xs ≡ Some ev → ev.entry.0 < n
below_first n [] ev p e = absurd (cc)
below_first n (x ∷ xs) ev p e = let h : x.entry.0 < n = p.0 in let same : x ≡ ev = cc in rw same at h

-- the events that an entry delivers come from it
pub below_marked : (n : ℕ) (kinds : List EventKind) → IsBelow (suc n) (map (marked n) kinds)
below_marked n [] = tt
below_marked n (k ∷ kinds) = (omega arith, below_marked n kinds)

pub below_queued : (past : List Entry) (c : ContextNo) → IsBelow (length past) (queued past c)
below_queued [] c = tt
below_queued (e ∷ past) c =
    below-append (suc (length past)) (queued past c) (delivered past e c)
    (below_more (length past) (queued past c) (below_queued past c))
    (below_marked (length past) (tells past e c))

pub told_first : (b : Bool) (o : Option Event) (ev : Event) → Told ev ≡ cond b (told_or_empty o) Gone → o ≡ Some ev
told_first true None ev h = absurd (cc)
told_first true (Some x) ev h = cc
told_first false o ev h = absurd (cc)

-- an event that is taken comes from an entry before
pub told_below : (world : WorldLists) (past : List Entry) (who : Who) (call : Call) (answer : Answer) (mine : Bool) → answer ≡ answer_after world past who call → IsBelow (length past) (event_in call answer mine)
told_below world past (ByContext d) Take (Told ev) true h = (
  below_first (length past) (pending past d) ev (below_filter (is_waiting past d) (length past) (queued past d) (below_queued past d))
      (told_first (is_live past d) (first (pending past d)) ev h),
  tt,
)
told_below world past (ByHost g) Take (Told ev) true h = absurd (cc)
told_below world past _ _ _ _ h = tt

pub below_taken : (world : WorldLists) (past : List Entry) (c : ContextNo) → IsLegalPast world past → IsBelow (length past) (taken past c)
below_taken world [] c legal = tt
below_taken world (e ∷ past) c legal =
    below-append (suc (length past)) (taken past c) (event_in e.call e.answer (is_by e.who c))
    (below_more (length past) (taken past c) (below_taken world past c legal.0))
    (below_more (length past) (event_in e.call e.answer (is_by e.who c)) (told_below world past e.who e.call e.answer (is_by e.who c) legal.1.answered))

-- the taken events come even from entries before the last
pub below_taken_last : (world : WorldLists) (past : List Entry) (e : Entry) (c : ContextNo) → IsLegalPast world (e ∷ past) → IsBelow (length past) (taken (e ∷ past) c)
below_taken_last world past e c legal =
    below-append (length past) (taken past c) (event_in e.call e.answer (is_by e.who c)) (below_taken world past c legal.0)
    (told_below world past e.who e.call e.answer (is_by e.who c) legal.1.answered)

pub not_same : (x : Event) (n : ℕ) (kind : EventKind) → x.entry.0 < n → same_event x (marked n kind) ≡ false
not_same x n kind h = rw (eqb_below x.entry.0 n h) refl

pub none_same : (n : ℕ) (kind : EventKind) (xs : List Event) → IsBelow n xs → list_any (λ t. same_event t (marked n kind)) xs ≡ false
none_same n kind [] p = refl
none_same n kind (x ∷ xs) p = rw (not_same x n kind p.0) (none_same n kind xs p.1)

-- a channel's disconnect does not drop what comes later
pub not_dropped : (past : List Entry) (c : ContextNo) (n : ℕ) (kind : EventKind) → length past ≤ suc n → is_dropped past c (marked n kind) ≡ false
not_dropped [] c n kind h = refl
not_dropped (e ∷ past) c n kind h =
    rw (not_dropped past c n kind (omega arith), later (length past) (omega arith)) (never (is_by e.who c && drops_by e.call e.answer kind))
  where
    later : (m : ℕ) → m ≤ n → nat_lt n m ≡ false
    later m h = grind (arith, nat_tests)

    never : (b : Bool) → (false || (b && false)) ≡ false
    never true = refl
    never false = refl

-- what an entry delivers waits after it
pub all_wait : (world : WorldLists) (past : List Entry) (e : Entry) (c : ContextNo) (kinds : List EventKind) → IsLegalPast world (e ∷ past) → filter (is_waiting (e ∷ past) c) (map (marked (length past)) kinds) ≡ map (marked (length past)) kinds
all_wait world past e c [] legal = refl
all_wait world past e c (k ∷ kinds) legal =
    rw (none_same (length past) k (taken (e ∷ past) c) (below_taken_last world past e c legal), not_dropped (e ∷ past) c (length past) k (omega arith))
    (ap (λ l. marked (length past) k ∷ l) (all_wait world past e c kinds legal))

-- an event of an entry before waits after one more if it waited and is left
pub waits_on : (past : List Entry) (e : Entry) (c : ContextNo) (ev : Event) → ev.entry.0 < length past → is_waiting (e ∷ past) c ev ≡ (is_waiting past c ev && leaves_waiting e c ev)
waits_on past e c ev h =
    rw (list_any-append (λ t. same_event t ev) (taken past c) (event_in e.call e.answer (is_by e.who c)), earlier ev.entry.0 (length past) h)
    (sorted (list_any (λ t. same_event t ev) (taken past c)) (list_any (λ t. same_event t ev) (event_in e.call e.answer (is_by e.who c))) (is_dropped past c ev) (is_by e.who c) (drops_by e.call e.answer ev.kind))
  where
    earlier : (m n : ℕ) → m < n → nat_lt m n ≡ true
    earlier m n h = grind (arith, nat_tests)

    sorted : (a b d f g : Bool) → (not (a || b) && not (d || (f && g && true))) ≡ ((not a && not d) && (not b && not (f && g)))
    sorted true b d f g = refl
    sorted false true true f g = refl
    sorted false true false true true = refl
    sorted false true false true false = refl
    sorted false true false false g = refl
    sorted false false true f g = refl
    sorted false false false true true = refl
    sorted false false false true false = refl
    sorted false false false false g = refl

pub filter_both : (p q : Event → Bool) (w : Event → Bool) (n : ℕ) (xs : List Event) → IsBelow n xs → ((x : Event) → x.entry.0 < n → w x ≡ (p x && q x)) → filter w xs ≡ filter q (filter p xs)
filter_both p q w n [] below h = refl
filter_both p q w n (x ∷ xs) below h = rw (h x below.0) (pick (filter_both p q w n xs below.1 h) (p x) (q x) refl)
  where
    pick : filter w xs ≡ filter q (filter p xs) → (a b : Bool) → q x ≡ b → cond (a && b) (x ∷ filter w xs) (filter w xs) ≡ filter q (cond a (x ∷ filter p xs) (filter p xs))
    pick rest true true is = rw is (ap (λ l. x ∷ l) rest)
    pick rest true false is = rw is rest
    pick rest false b is = rest

-- what waits after an entry is what waited and is left, and then what the entry delivers
pub waits_after : (world : WorldLists) (past : List Entry) (e : Entry) (c : ContextNo) → IsLegalPast world (e ∷ past)
    → pending (e ∷ past) c ≡ filter (leaves_waiting e c) (pending past c) ++ delivered past e c
waits_after world past e c legal =
    filter-append (is_waiting (e ∷ past) c) (queued past c) (delivered past e c)
    ∙ ap (λ l. l ++ filter (is_waiting (e ∷ past) c) (delivered past e c))
    (filter_both (is_waiting past c) (leaves_waiting e c) (is_waiting (e ∷ past) c) (length past) (queued past c) (below_queued past c) (λ x h. waits_on past e c x h))
    ∙ ap (λ l. filter (leaves_waiting e c) (pending past c) ++ l) (all_wait world past e c (tells past e c) legal)
