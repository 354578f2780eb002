-- The events of a context differ, so taking one leaves the others.
use Rattle.std.proofs.Common.{◌≡◌, ℕ, suc, zero, ◌<◌, List, [], ◌∷◌, ◌++◌, length, map, refl, ap, Bool, true, false, cond, not, arith, subst, ◌+◌, ◌≤◌}
use Rattle.std.specs.Prelude.{Option, Some, None, ◌||◌, ◌&&◌, filter, flat_map}
use Rattle.std.specs.List.{list_any, range_with_len}
use Rattle.wx_id.specs.declared.numbers.ContextNo.{ContextNo}
use Rattle.wx_id.specs.declared.events.Event.{Event}
use Rattle.wx_id.specs.declared.events.EventKind.{EventKind}
use Rattle.wx_id.specs.declared.events.EventKind.TheVariants.{Connected, Message, Disconnected, Asked, Replied, Closed}
use Rattle.wx_machine.specs.declared.entries.Who.{Who}
use Rattle.wx_machine.specs.declared.entries.Call.{Call}
use Rattle.wx_machine.specs.declared.entries.Answer.{Answer}
use Rattle.wx_machine.specs.declared.entries.Entry.{Entry}
use Rattle.wx_machine.specs.declared.work.Work.{Work}
use Rattle.wx_machine.specs.Words.{is_by, opens, channels, channel, end_in, asks, requests, request, is_asker, is_asked, closes, settles, is_receiving, on}
use Rattle.wx_machine.specs.Words.{connected, goes_to, work_by, said, message, disconnected_on, host_disconnected, disconnected, asked, answered, replied}
use Rattle.wx_machine.specs.Words.{unanswered_on, host_unanswered, unanswered, tells, marked, queued, same_kind, same_event, is_waiting, pending}
use Rattle.wx_machine.specs.declared.entries.Who.TheVariants.{Context as ByContext}
use Rattle.wx_machine.specs.declared.entries.Call.TheVariants.{Leave, Post, Disconnect, Reply, Decline, Take, HostSaid, HostEnded}
use Rattle.wx_machine.specs.declared.entries.Answer.TheVariants.{Posted, First, Passed, Event as Told}
use Rattle.wx_machine.specs.declared.work.Work.TheVariants.{Channel as ForChannel, Request as ForRequest}
use Rattle.wx_laws.proofs.Numbers.{eqb_refl, eqb_below}
use Rattle.wx_laws.proofs.Waiting.{leaves_waiting, IsBelow, below_queued}

-- the entry in which context c takes an event
abbrev pub takes : ContextNo → Event → Entry
takes c event = record { who = ByContext c; call = Take; answer = Told event }

-- which sort of kind it is, and of which channel or request
abbrev pub sort_no : EventKind → ℕ
sort_no (Connected k) = 0
sort_no (Message k) = 1
sort_no (Disconnected k) = 2
sort_no (Asked k) = 3
sort_no (Replied k) = 4
sort_no (Closed k) = 5

abbrev pub number_of : EventKind → ℕ
number_of (Connected k) = k.0
number_of (Message k) = k.0
number_of (Disconnected k) = k.0
number_of (Asked k) = k.0
number_of (Replied k) = k.0
number_of (Closed k) = k.0

-- kinds of two sorts differ
pub other_sort : (x y : EventKind) → sort_no x < sort_no y → same_kind x y ≡ false
other_sort (Connected k) (Connected j) h = absurd (omega arith)
other_sort (Message k) (Message j) h = absurd (omega arith)
other_sort (Disconnected k) (Disconnected j) h = absurd (omega arith)
other_sort (Asked k) (Asked j) h = absurd (omega arith)
other_sort (Replied k) (Replied j) h = absurd (omega arith)
other_sort (Closed k) (Closed j) h = absurd (omega arith)
other_sort _ _ h = refl

-- so do kinds of two numbers
pub other_number : (x y : EventKind) → number_of x < number_of y → same_kind x y ≡ false
other_number (Connected k) (Connected j) h = eqb_below k.0 j.0 h
other_number (Message k) (Message j) h = eqb_below k.0 j.0 h
other_number (Disconnected k) (Disconnected j) h = eqb_below k.0 j.0 h
other_number (Asked k) (Asked j) h = eqb_below k.0 j.0 h
other_number (Replied k) (Replied j) h = eqb_below k.0 j.0 h
other_number (Closed k) (Closed j) h = eqb_below k.0 j.0 h
other_number _ _ h = refl

-- no two kinds of the list are the same
abbrev pub AllApart : List EventKind → Type 0
AllApart [] = Unit {0}
AllApart (x ∷ xs) = (list_any (same_kind x) xs ≡ false) × AllApart xs

-- what the key gives lies in these bounds, for each kind of the list
abbrev pub Within : (EventKind → ℕ) → ℕ → ℕ → List EventKind → Type 0
Within key low high [] = Unit {0}
Within key low high (x ∷ xs) = (low ≤ key x) × (key x < high) × Within key low high xs

pub within-append : (key : EventKind → ℕ) (low high : ℕ) (xs ys : List EventKind) → Within key low high xs → Within key low high ys → Within key low high (xs ++ ys)
within-append key low high [] ys p q = q
within-append key low high (x ∷ xs) ys p q = (p.0, p.1, within-append key low high xs ys p.2 q)

pub within_wider : (key : EventKind → ℕ) (low high low' high' : ℕ) (xs : List EventKind) → low' ≤ low → high ≤ high' → Within key low high xs → Within key low' high' xs
within_wider key low high low' high' [] l h p = tt
within_wider key low high low' high' (x ∷ xs) l h p =
    let a : low ≤ key x = p.0 in let b : key x < high = p.1 in (omega arith, omega arith, within_wider key low high low' high' xs l h p.2)

module _ (key : EventKind → ℕ) (differ : (x y : EventKind) → key x < key y → same_kind x y ≡ false) where
  none_above : (x : EventKind) (low high : ℕ) (ys : List EventKind) → key x < low → Within key low high ys → list_any (same_kind x) ys ≡ false
  none_above x low high [] h p = refl
  none_above x low high (y ∷ ys) h p = let a : low ≤ key y = p.0 in rw (differ x y (omega arith)) (none_above x low high ys h p.2)

  any-append : (x : EventKind) (xs ys : List EventKind) → list_any (same_kind x) xs ≡ false → list_any (same_kind x) ys ≡ false → list_any (same_kind x) (xs ++ ys) ≡ false
  any-append x [] ys p q = q
  any-append x (z ∷ xs) ys p q = here (same_kind x z) refl p (any-append x xs ys)
    where
      here : (b : Bool) → same_kind x z ≡ b → (b || list_any (same_kind x) xs) ≡ false → (list_any (same_kind x) xs ≡ false → list_any (same_kind x) ys ≡ false → list_any (same_kind x) (xs ++ ys) ≡ false) → (same_kind x z || list_any (same_kind x) (xs ++ ys)) ≡ false
      here true is h rest = absurd (cc)
      here false is h rest = rw is (rest h q)

  apart-append : (low mid high : ℕ) (xs ys : List EventKind) → Within key low mid xs → Within key mid high ys → AllApart xs → AllApart ys → AllApart (xs ++ ys)
  apart-append low mid high [] ys p q a b = b
  apart-append low mid high (x ∷ xs) ys p q a b =
      (any-append x xs ys a.0 (none_above x mid high ys p.1 q), apart-append low mid high xs ys p.2 q a.1 b)

-- one kind at most
pub on_apart : (b : Bool) (kind : EventKind) → AllApart (on b kind)
on_apart true kind = (refl, tt)
on_apart false kind = tt

pub on_within : (key : EventKind → ℕ) (b : Bool) (kind : EventKind) → Within key (key kind) (suc (key kind)) (on b kind)
on_within key true kind = (omega arith, omega arith, tt)
on_within key false kind = tt

module _ (f : ℕ → EventKind) (test : ℕ → Bool) (numbers : (k : ℕ) → number_of (f k) ≡ k) where
  told_within : (a n : ℕ) → Within number_of a (a + n) (flat_map (λ k. on (test k) (f k)) (range_with_len a n))
  told_within a zero = tt
  told_within a (suc n) =
      within-append number_of a (a + suc n) (on (test a) (f a)) (flat_map (λ k. on (test k) (f k)) (range_with_len (a + 1) n))
      (within_wider number_of (number_of (f a)) (suc (number_of (f a))) a (a + suc n) (on (test a) (f a)) (omega (arith, numbers a)) (omega (arith, numbers a)) (on_within number_of (test a) (f a)))
      (within_wider number_of (a + 1) (a + 1 + n) a (a + suc n) (flat_map (λ k. on (test k) (f k)) (range_with_len (a + 1) n)) (omega arith) (omega arith) (told_within (a + 1) n))

  told_apart : (a n : ℕ) → AllApart (flat_map (λ k. on (test k) (f k)) (range_with_len a n))
  told_apart a zero = tt
  told_apart a (suc n) =
      apart-append number_of other_number a (a + 1) (a + 1 + n) (on (test a) (f a)) (flat_map (λ k. on (test k) (f k)) (range_with_len (a + 1) n))
      (within_wider number_of (number_of (f a)) (suc (number_of (f a))) a (a + 1) (on (test a) (f a)) (omega (arith, numbers a)) (omega (arith, numbers a)) (on_within number_of (test a) (f a)))
      (told_within (a + 1) n) (on_apart (test a) (f a)) (told_apart (a + 1) n)

  told_sort : (s a n : ℕ) → ((k : ℕ) → sort_no (f k) ≡ s) → Within sort_no s (suc s) (flat_map (λ k. on (test k) (f k)) (range_with_len a n))
  told_sort s a zero h = tt
  told_sort s a (suc n) h =
      within-append sort_no s (suc s) (on (test a) (f a)) (flat_map (λ k. on (test k) (f k)) (range_with_len (a + 1) n))
      (within_wider sort_no (sort_no (f a)) (suc (sort_no (f a))) s (suc s) (on (test a) (f a)) (omega (arith, h a)) (omega (arith, h a)) (on_within sort_no (test a) (f a)))
      (told_sort s (a + 1) n h)

-- a list of kinds that differ, of sorts in these bounds
abbrev pub AreTold : ℕ → ℕ → List EventKind → Type 0
AreTold low high kinds = AllApart kinds × Within sort_no low high kinds

pub one_told : (b : Bool) (kind : EventKind) → AreTold (sort_no kind) (suc (sort_no kind)) (on b kind)
one_told b kind = (on_apart b kind, on_within sort_no b kind)

pub joined : (low mid high : ℕ) (xs ys : List EventKind) → low ≤ mid → mid ≤ high → AreTold low mid xs → AreTold mid high ys → AreTold low high (xs ++ ys)
joined low mid high xs ys l h p q = (
  apart-append sort_no other_sort low mid high xs ys p.1 q.1 p.0 q.0,
  within-append sort_no low high xs ys (within_wider sort_no low mid low high xs (omega arith) h p.1) (within_wider sort_no mid high low high ys l (omega arith) q.1),
)

pub said_told : (past : List Entry) (who : Who) (work : Option Work) (c : ContextNo) → AreTold 1 2 (said past who work c)
said_told past who None c = (tt, tt)
said_told past who (Some (ForChannel k)) c = one_told (goes_to past (channel past k.0) who c) (Message k)
said_told past who (Some (ForRequest r)) c = (tt, tt)

pub message_told : (past : List Entry) (who : Who) (call : Call) (answer : Answer) (c : ContextNo) → AreTold 1 2 (message past who call answer c)
message_told past who (Post k text) Posted c = one_told (goes_to past (channel past k.0) who c) (Message k)
message_told past who (HostSaid text) Passed c = said_told past who (work_by past who) c
message_told past _ _ _ c = (tt, tt)

pub answered_told : (past : List Entry) (work : Option Work) (c : ContextNo) → AreTold 4 5 (answered past work c)
answered_told past None c = (tt, tt)
answered_told past (Some (ForChannel k)) c = (tt, tt)
answered_told past (Some (ForRequest r)) c = one_told (is_asker (request past r.0) c) (Replied r)

pub replied_told : (past : List Entry) (who : Who) (call : Call) (answer : Answer) (c : ContextNo) → AreTold 4 5 (replied past who call answer c)
replied_told past who (Reply r text) First c = one_told (is_asker (request past r.0) c) (Replied r)
replied_told past who (HostSaid text) Passed c = answered_told past (work_by past who) c
replied_told past _ _ _ c = (tt, tt)

pub disconnected_one : (past : List Entry) (e : Entry) (c : ContextNo) (k : ℕ) → AreTold 2 3 (disconnected_on past e c k)
disconnected_one past e c k = one_told (closes past e k && goes_to past (channel past k) e.who c) (Disconnected (record { 0 = k }))

pub host_disconnected_told : (past : List Entry) (e : Entry) (work : Option Work) (c : ContextNo) → AreTold 2 3 (host_disconnected past e work c)
host_disconnected_told past e None c = (tt, tt)
host_disconnected_told past e (Some (ForChannel k)) c = disconnected_one past e c k.0
host_disconnected_told past e (Some (ForRequest r)) c = (tt, tt)

pub disconnected_told : (past : List Entry) (e : Entry) (call : Call) (c : ContextNo) → AreTold 2 3 (disconnected past e call c)
disconnected_told past e (Disconnect k) c = disconnected_one past e c k.0
disconnected_told past e Leave c =
    let f : ℕ → EventKind = λ k. Disconnected (record { 0 = k }) in
    let test : ℕ → Bool = λ k. closes past e k && goes_to past (channel past k) e.who c in
    (told_apart f test (λ k. refl) 0 (length (channels past)), told_sort f test (λ k. refl) 2 0 (length (channels past)) (λ k. refl))
disconnected_told past e (HostEnded reason) c = host_disconnected_told past e (work_by past e.who) c
disconnected_told past e _ c = (tt, tt)

pub unanswered_one : (past : List Entry) (e : Entry) (c : ContextNo) (r : ℕ) → AreTold 5 6 (unanswered_on past e c r)
unanswered_one past e c r = one_told (settles past e r && is_asker (request past r) c && not (is_by e.who c)) (Closed (record { 0 = r }))

pub host_unanswered_told : (past : List Entry) (e : Entry) (work : Option Work) (c : ContextNo) → AreTold 5 6 (host_unanswered past e work c)
host_unanswered_told past e None c = (tt, tt)
host_unanswered_told past e (Some (ForChannel k)) c = (tt, tt)
host_unanswered_told past e (Some (ForRequest r)) c = unanswered_one past e c r.0

pub unanswered_told : (past : List Entry) (e : Entry) (call : Call) (c : ContextNo) → AreTold 5 6 (unanswered past e call c)
unanswered_told past e (Decline r) c = unanswered_one past e c r.0
unanswered_told past e Leave c =
    let f : ℕ → EventKind = λ r. Closed (record { 0 = r }) in
    let test : ℕ → Bool = λ r. settles past e r && is_asker (request past r) c && not (is_by e.who c) in
    (told_apart f test (λ k. refl) 0 (length (requests past)), told_sort f test (λ k. refl) 5 0 (length (requests past)) (λ k. refl))
unanswered_told past e (HostEnded reason) c = host_unanswered_told past e (work_by past e.who) c
unanswered_told past e _ c = (tt, tt)

-- the kinds that an entry tells differ
pub kinds_told : (past : List Entry) (e : Entry) (c : ContextNo) → AreTold 0 6 (tells past e c)
kinds_told past e c =
    let k = length (channels past) in
    let r = length (requests past) in
    let a = connected k (opens past e) c in
    let b = message past e.who e.call e.answer c in
    let d = disconnected past e e.call c in
    let q = asked r (asks past e) c in
    let p = replied past e.who e.call e.answer c in
    let u = unanswered past e e.call c in
    joined 0 3 6 (a ++ b ++ d) (q ++ p ++ u) (omega arith) (omega arith)
    (joined 0 2 3 (a ++ b) d (omega arith) (omega arith)
    (joined 0 1 2 a b (omega arith) (omega arith) (one_told (is_receiving (end_in (opens past e) c)) (Connected (record { 0 = k }))) (message_told past e.who e.call e.answer c))
    (disconnected_told past e e.call c))
    (joined 3 5 6 (q ++ p) u (omega arith) (omega arith)
    (joined 3 4 5 q p (omega arith) (omega arith) (one_told (is_asked (asks past e) c) (Asked (record { 0 = r }))) (replied_told past e.who e.call e.answer c))
    (unanswered_told past e e.call c))

-- no two events of the list are the same
abbrev pub AllDiffer : List Event → Type 0
AllDiffer [] = Unit {0}
AllDiffer (x ∷ xs) = (list_any (same_event x) xs ≡ false) × AllDiffer xs

pub none_marked : (x : Event) (n : ℕ) (kinds : List EventKind) → x.entry.0 < n → list_any (same_event x) (map (marked n) kinds) ≡ false
none_marked x n [] h = refl
none_marked x n (k ∷ kinds) h = rw (eqb_below x.entry.0 n h) (none_marked x n kinds h)

pub none_of_kind : (k : EventKind) (n : ℕ) (kinds : List EventKind) → list_any (same_kind k) kinds ≡ false → list_any (same_event (marked n k)) (map (marked n) kinds) ≡ false
none_of_kind k n [] h = refl
none_of_kind k n (j ∷ kinds) h = rw (eqb_refl n) (parts (same_kind k j) h (none_of_kind k n kinds))
  where
    parts : (b : Bool) → (b || list_any (same_kind k) kinds) ≡ false → (list_any (same_kind k) kinds ≡ false → list_any (same_event (marked n k)) (map (marked n) kinds) ≡ false) → (b || list_any (same_event (marked n k)) (map (marked n) kinds)) ≡ false
    parts true h rest = absurd (cc)
    parts false h rest = rest h

pub marked_differ : (n : ℕ) (kinds : List EventKind) → AllApart kinds → AllDiffer (map (marked n) kinds)
marked_differ n [] p = tt
marked_differ n (k ∷ kinds) p = (none_of_kind k n kinds p.0, marked_differ n kinds p.1)

pub none-append : (x : Event) (xs ys : List Event) → list_any (same_event x) xs ≡ false → list_any (same_event x) ys ≡ false → list_any (same_event x) (xs ++ ys) ≡ false
none-append x [] ys p q = q
none-append x (z ∷ xs) ys p q = parts (same_event x z) p (λ h. none-append x xs ys h q)
  where
    parts : (b : Bool) → (b || list_any (same_event x) xs) ≡ false → (list_any (same_event x) xs ≡ false → list_any (same_event x) (xs ++ ys) ≡ false) → (b || list_any (same_event x) (xs ++ ys)) ≡ false
    parts true h rest = absurd (cc)
    parts false h rest = rest h

pub differ-append : (n : ℕ) (xs : List Event) (kinds : List EventKind) → IsBelow n xs → AllDiffer xs → AllDiffer (map (marked n) kinds) → AllDiffer (xs ++ map (marked n) kinds)
differ-append n [] kinds b p q = q
differ-append n (x ∷ xs) kinds b p q = (none-append x xs (map (marked n) kinds) p.0 (none_marked x n kinds b.0), differ-append n xs kinds b.1 p.1 q)

pub queued_differ : (past : List Entry) (c : ContextNo) → AllDiffer (queued past c)
queued_differ [] c = tt
queued_differ (e ∷ past) c =
    let kinds = tells past e c in
    differ-append (length past) (queued past c) kinds (below_queued past c) (queued_differ past c) (marked_differ (length past) kinds (kinds_told past e c).0)

pub none_filter : (x : Event) (w : Event → Bool) (xs : List Event) → list_any (same_event x) xs ≡ false → list_any (same_event x) (filter w xs) ≡ false
none_filter x w [] p = refl
none_filter x w (y ∷ xs) p = parts (same_event x y) refl (w y) p (none_filter x w xs)
  where
    parts : (b : Bool) → same_event x y ≡ b → (keep : Bool) → (b || list_any (same_event x) xs) ≡ false → (list_any (same_event x) xs ≡ false → list_any (same_event x) (filter w xs) ≡ false) → list_any (same_event x) (cond keep (y ∷ filter w xs) (filter w xs)) ≡ false
    parts true is keep h rest = absurd (cc)
    parts false is true h rest = rw is (rest h)
    parts false is false h rest = rest h

pub filter_differ : (w : Event → Bool) (xs : List Event) → AllDiffer xs → AllDiffer (filter w xs)
filter_differ w [] p = tt
filter_differ w (x ∷ xs) p = keep (w x) (none_filter x w xs p.0) (filter_differ w xs p.1)
  where
    keep : (b : Bool) → list_any (same_event x) (filter w xs) ≡ false → AllDiffer (filter w xs) → AllDiffer (cond b (x ∷ filter w xs) (filter w xs))
    keep true h rest = (h, rest)
    keep false h rest = rest

pub kind_itself : (k : EventKind) → same_kind k k ≡ true
kind_itself (Connected k) = eqb_refl k.0
kind_itself (Message k) = eqb_refl k.0
kind_itself (Disconnected k) = eqb_refl k.0
kind_itself (Asked k) = eqb_refl k.0
kind_itself (Replied k) = eqb_refl k.0
kind_itself (Closed k) = eqb_refl k.0

pub same_itself : (x : Event) → same_event x x ≡ true
same_itself x = rw (eqb_refl x.entry.0) (kind_itself x.kind)

pub keeps_others : (x : Event) (xs : List Event) (w : Event → Bool) → ((y : Event) → w y ≡ not (same_event x y)) → list_any (same_event x) xs ≡ false → filter w xs ≡ xs
keeps_others x [] w h p = refl
keeps_others x (y ∷ xs) w h p = rw (h y) (parts (same_event x y) p (keeps_others x xs w h))
  where
    parts : (b : Bool) → (b || list_any (same_event x) xs) ≡ false → (list_any (same_event x) xs ≡ false → filter w xs ≡ xs) → cond (not b) (y ∷ filter w xs) (filter w xs) ≡ y ∷ xs
    parts true p rest = absurd (cc)
    parts false p rest = ap (λ l. y ∷ l) (rest p)

pub taking : (c : ContextNo) (event y : Event) → leaves_waiting (takes c event) c y ≡ not (same_event event y)
taking c event y = rw (eqb_refl c.0) (parts (same_event event y))
  where
    parts : (b : Bool) → (not (b || false) && not (true && false)) ≡ not b
    parts true = refl
    parts false = refl

pub takes_of : (c : ContextNo) (event : Event) (others all : List Event) → AllDiffer all → all ≡ event ∷ others → filter (leaves_waiting (takes c event) c) all ≡ others
takes_of c event others all p is =
    let q : AllDiffer (event ∷ others) = subst AllDiffer is p in
    rw (is, taking c event event, same_itself event) (keeps_others event others (leaves_waiting (takes c event) c) (taking c event) q.0)

-- where an event and others wait, taking that event leaves the others
pub leaves_others : (past : List Entry) (c : ContextNo) (event : Event) (others : List Event)
    → pending past c ≡ event ∷ others → filter (leaves_waiting (takes c event) c) (pending past c) ≡ others
leaves_others past c event others is = takes_of c event others (pending past c) (filter_differ (is_waiting past c) (queued past c) (queued_differ past c)) is
