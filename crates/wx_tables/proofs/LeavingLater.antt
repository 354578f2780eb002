-- What the leave of a context makes of channels and mailboxes.
use Rattle.std.proofs.Common.{◌≡◌, ℕ, suc, ◌+◌, ◌<◌, List, [], ◌∷◌, length, set, refl, ap, sym, ◌∙◌, Bool, true, false, cond, not, arith}
use Rattle.std.specs.Prelude.{Option, Some, None, IfSome, slice_get, filter, ◌||◌, ◌&&◌, ◌==◌, if◌then◌else◌}
use Rattle.std.specs.Option.{option_map, IsSomeAnd}
use Rattle.std.specs.List.{sum_by}
use Rattle.std.proofs.lemmas.Option.{slice_get-map}
use Rattle.std.proofs.Math.Bool.{or-false}
use Rattle.std.proofs.lemmas.Bool.{and_parts, not-true, false≢true, true≢false, eqb-true}
use Rattle.std.proofs.lemmas.Bool.Decides.{nat_tests}
use Rattle.wx_id.proofs.ListLemmas.{read_alike}
use Rattle.wx_id.specs.declared.numbers.ContextNo.{ContextNo}
use Rattle.wx_id.specs.declared.numbers.EntryNo.{EntryNo}
use Rattle.wx_id.specs.declared.events.Event.{Event}
use Rattle.wx_port.specs.Port.{Port, IsSound, is_live_end, live_of, closed, with_live, without}
use Rattle.wx_id.specs.Contexts.{same_context, is_among, is_other, are_distinct}
use Rattle.wx_one_shot.specs.Requests.{Request}
use Rattle.wx_mailbox.specs.Mailbox.{MailboxState, forgiven}
use Rattle.wx_id.specs.ByContext.{Changed, EachHas}
use Rattle.wx_tables.proofs.OwedLater.{owes_set, ends_owed}
use Rattle.wx_tables.specs.State.{owes, awaits, owed_in, AreOwed, queue_in, queues_in}
use Rattle.wx_tables.specs.Ending.{EachQueue, EndsOwed}
use Rattle.wx_tables.specs.Leaving.{closes_by, told_ends}
use Rattle.wx_tables.specs.Asking.{told_left, told_outcomes}

-- without one of them there is one fewer
none_of : (c : ContextNo) (xs : List ContextNo) → is_among xs c ≡ false → filter (is_other c) xs ≡ xs
none_of c [] h = refl
none_of c (x ∷ xs) h = by (same_context x c) refl h (none_of c xs)
  where
    by : (s : Bool) → same_context x c ≡ s → (s || is_among xs c) ≡ false → (is_among xs c ≡ false → filter (is_other c) xs ≡ xs) → filter (is_other c) (x ∷ xs) ≡ x ∷ xs
    by true same h rest = absurd (true≢false h)
    by false same h rest = rw (same, rest h) refl

among_same : (xs : List ContextNo) (x c : ContextNo) → same_context x c ≡ true → is_among xs x ≡ is_among xs c
among_same xs x c same = ap (λ (n : ℕ). is_among xs (record { 0 = n })) (eqb-true x.0 c.0 same)

one_fewer : (c : ContextNo) (xs : List ContextNo) → are_distinct xs ≡ true → is_among xs c ≡ true → length (filter (is_other c) xs) + 1 ≡ length xs
one_fewer c [] apart h = absurd (false≢true h)
one_fewer c (x ∷ xs) apart h =
    let parts : (not (is_among xs x) ≡ true) × (are_distinct xs ≡ true) = and_parts _ _ apart in
    by (same_context x c) refl (not-true _ parts.0) (one_fewer c xs parts.1) h
  where
    by : (s : Bool) → same_context x c ≡ s → is_among xs x ≡ false → (is_among xs c ≡ true → length (filter (is_other c) xs) + 1 ≡ length xs) → (s || is_among xs c) ≡ true → length (filter (is_other c) (x ∷ xs)) + 1 ≡ length (x ∷ xs)
    by true same alone rest h = rw (same, none_of c xs (sym (among_same xs x c same) ∙ alone)) (omega arith)
    by false same alone rest h = let r : length (filter (is_other c) xs) + 1 ≡ length xs = rest h in rw same (omega (arith, r))

-- the last live receiver is one that is alone
last_is : (port : Port) (c : ContextNo) (xs : List ContextNo) → port.is_open ≡ true → (length xs + 1 == 1) ≡ not (with_live port xs).is_open
last_is port c [] open_now = grind (arith, nat_tests)
last_is port c (x ∷ xs) open_now = rw open_now (more (length xs))
  where
    more : (n : ℕ) → (suc n + 1 == 1) ≡ false
    more n = grind (arith, nat_tests)

-- whether the leave of a live receiver closes the channel
pub closes_is : (port : Port) (c : ContextNo) → IsSound port → is_live_end (Some port) c ≡ true → same_context port.opener c ≡ false → (length port.live == 1) ≡ closes_by port c
closes_is port c sound live other =
    let parts : (port.is_open ≡ true) × ((same_context port.opener c || is_among port.live c) ≡ true) = and_parts _ _ live in
    let among : is_among port.live c ≡ true = rw other at parts.1 in
    let was : without c port ≡ with_live port (filter (is_other c) port.live) = rw other refl in
    ap (λ n. n == 1) (sym (one_fewer c port.live sound.live among))
    ∙ last_is port c (filter (is_other c) port.live) parts.0
    ∙ ap (λ (p : Port). not p.is_open) (sym was)

pub closes_else : (o : Option Port) (c opener : ContextNo) (live : List ContextNo) (b : Bool) → IfSome o IsSound → is_live_end o c ≡ true → IfSome o (λ port. opener ≡ port.opener) → live ≡ live_of o → same_context opener c ≡ false → b ≡ (length live == 1) → IfSome o (λ port. b ≡ closes_by port c)
closes_else None c opener live b sound is_live is lives other h = tt
closes_else (Some port) c opener live b sound is_live is lives other h =
    h ∙ ap (λ l. length l == 1) lives ∙ closes_is port c sound is_live (ap (λ (o : ContextNo). same_context o c) (sym is) ∙ other)

abbrev fewer : ContextNo → Port → Port
fewer c port = record { opener = port.opener; receivers = port.receivers; live = filter (is_other c) port.live; is_open = port.is_open }

stays_as : (port : Port) (c : ContextNo) → not (closes_by port c) ≡ true → (same_context port.opener c ≡ false) × (without c port ≡ fewer c port)
stays_as port c h = by (same_context port.opener c) h
  where
    lives : (xs : List ContextNo) → not (not (with_live port xs).is_open) ≡ true → with_live port xs ≡ record { opener = port.opener; receivers = port.receivers; live = xs; is_open = port.is_open }
    lives [] h = absurd (false≢true h)
    lives (x ∷ xs) h = refl

    by : (s : Bool) → not (not (if s then closed port else with_live port (filter (is_other c) port.live)).is_open) ≡ true → (s ≡ false) × ((if s then closed port else with_live port (filter (is_other c) port.live)) ≡ fewer c port)
    by true h = absurd (false≢true h)
    by false h = (refl, lives (filter (is_other c) port.live) h)

among_others : (c d : ContextNo) (xs : List ContextNo) → is_among (filter (is_other c) xs) d ≡ (is_among xs d && not (c.0 == d.0))
among_others c d [] = refl
among_others c d (x ∷ xs) = by (x.0 == c.0) refl (x.0 == d.0) refl (c.0 == d.0) refl (among_others c d xs)
  where
    rule : (x c d : ℕ) (p q r : Bool) → (x == c) ≡ p → (x == d) ≡ q → (c == d) ≡ r → p ≡ true → q ≡ r
    rule x c d p q r a b e h = grind (arith, nat_tests)

    rule2 : (x c d : ℕ) → (x == c) ≡ false → (x == d) ≡ true → (c == d) ≡ false
    rule2 x c d a b = grind (arith, nat_tests)

    no : (a : Bool) → (a && false) ≡ false
    no true = refl
    no false = refl

    by : (p : Bool) → (x.0 == c.0) ≡ p → (q : Bool) → (x.0 == d.0) ≡ q → (r : Bool) → (c.0 == d.0) ≡ r → is_among (filter (is_other c) xs) d ≡ (is_among xs d && not (c.0 == d.0)) → is_among (filter (is_other c) (x ∷ xs)) d ≡ (is_among (x ∷ xs) d && not (c.0 == d.0))
    by true p true q true r rest = rw (p, q, rest, r) (no (is_among xs d))
    by true p true q false r rest = absurd (true≢false (rule x.0 c.0 d.0 true true false p q r refl))
    by true p false q true r rest = absurd (false≢true (rule x.0 c.0 d.0 true false true p q r refl))
    by true p false q false r rest = rw (p, q) rest
    by false p true q true r rest = absurd (false≢true (sym (rule2 x.0 c.0 d.0 p q) ∙ r))
    by false p true q false r rest = rw (p, q, r) refl
    by false p false q r' r rest = rw (p, q) rest

-- what a channel owes once a live receiver has left it, and it stays open
owes_fewer : (port : Port) (c d : ContextNo) → is_live_end (Some port) c ≡ true → same_context port.opener c ≡ false → owes d (fewer c port) + cond {A = ℕ} (c.0 == d.0) 1 0 ≡ owes d port
owes_fewer port c d live other =
    let parts : (port.is_open ≡ true) × ((same_context port.opener c || is_among port.live c) ≡ true) = and_parts _ _ live in
    let among : is_among port.live c ≡ true = rw other at parts.1 in
    rw (parts.0, among_others c d port.live) (by (c.0 == d.0) refl (port.opener.0 == d.0) refl among)
  where
    zero_more : (b : Bool) → cond {A = ℕ} b 1 0 + 0 ≡ cond {A = ℕ} b 1 0
    zero_more true = refl
    zero_more false = refl

    no : (a : Bool) → (a && true) ≡ a
    no true = refl
    no false = refl

    by : (s : Bool) → (c.0 == d.0) ≡ s → (o : Bool) → (port.opener.0 == d.0) ≡ o → is_among port.live c ≡ true → cond {A = ℕ} (true && (o || (is_among port.live d && not s))) 1 0 + cond {A = ℕ} s 1 0 ≡ cond {A = ℕ} (true && (o || is_among port.live d)) 1 0
    by true same true is among = absurd (true≢false (sym is ∙ ap (λ n. port.opener.0 == n) (sym (eqb-true c.0 d.0 same)) ∙ other))
    by true same false is among =
        let here : is_among port.live d ≡ true = ap (λ (n : ℕ). is_among port.live (record { 0 = n })) (sym (eqb-true c.0 d.0 same)) ∙ among in
        rw here refl
    by false apart o is among = rw (no (is_among port.live d)) (zero_more (o || is_among port.live d))

pub owed_left : (ports ports' : List Port) (requests : List Request) (boxes boxes' : List MailboxState) (k : ℕ) (c : ContextNo) → AreOwed ports requests boxes → is_live_end (slice_get ports k) c ≡ true → IfSome (slice_get ports k) (λ port. not (closes_by port c) ≡ true) → Changed forgiven (c ∷ []) boxes boxes' → IfSome (slice_get ports k) (λ port. ports' ≡ set ports k (without c port)) → AreOwed ports' requests boxes'
owed_left ports ports' requests boxes boxes' k c owed live stays changed made = by (slice_get ports k) refl live stays made
  where
    at_d : (o : Option MailboxState) (s : Bool) (n m r x y : ℕ) → owed_in o ≡ n + r → m + y ≡ n + x → x + cond {A = ℕ} s 1 0 ≡ y → (s ≡ true → 0 < n) → owed_in (option_map (λ b. cond (s || false) (forgiven b) b) o) ≡ m + r
    at_d None true n m r x y h sums less more = let up : 0 < n = more refl in absurd (omega (arith, h, up))
    at_d None false n m r x y h sums less more = omega (arith, h, sums, less)
    at_d (Some b) true n m r x y h sums less more = let up : 0 < n = more refl in omega (arith, h, sums, less, up)
    at_d (Some b) false n m r x y h sums less more = omega (arith, h, sums, less)

    by : (o : Option Port) → slice_get ports k ≡ o → is_live_end o c ≡ true → IfSome o (λ port. not (closes_by port c) ≡ true) → IfSome o (λ port. ports' ≡ set ports k (without c port)) → AreOwed ports' requests boxes'
    by None at live stays made = absurd (false≢true live)
    by (Some port) at live stays made =
        let parts = stays_as port c stays in
        rw made (rw parts.1 (record {
          each = λ d.
              ap owed_in (changed d) ∙ at_d (slice_get boxes d.0) (same_context c d) (sum_by (owes d) ports) (sum_by (owes d) (set ports k (fewer c port))) (sum_by (awaits d) requests) (owes d (fewer c port)) (owes d port)
              (owed.each d) (owes_set ports k port (fewer c port) d at) (owes_fewer port c d live parts.0) (λ same. positive port d at same live);
        }))
      where
        positive : (port : Port) (d : ContextNo) → slice_get ports k ≡ Some port → same_context c d ≡ true → is_live_end (Some port) c ≡ true → 0 < sum_by (owes d) ports
        positive port d at same live =
            let here : is_live_end (Some port) d ≡ true = ap (λ (n : ℕ). is_live_end (Some port) (record { 0 = n })) (sym (eqb-true c.0 d.0 same)) ∙ live in
            let sums : sum_by (owes d) (set ports k (closed port)) + owes d port ≡ sum_by (owes d) ports + 0 = owes_set ports k port (closed port) d at in
            let one : owes d port ≡ 1 = ap (λ b. cond {A = ℕ} b 1 0) here in
            omega (arith, sums, one)

pub own_owed : (ports : List Port) (requests : List Request) (boxes : List MailboxState) (k : ℕ) (c : ContextNo) → AreOwed ports requests boxes → is_live_end (slice_get ports k) c ≡ true → EachHas (λ b. 0 < b.owed) (c ∷ []) boxes
own_owed ports requests boxes k c owed live d among = by (slice_get ports k) live (ends_owed ports requests boxes k owed)
  where
    by : (o : Option Port) → is_live_end o c ≡ true → IfSome o (λ port. EndsOwed port boxes) → IsSomeAnd (slice_get boxes d.0) (λ b. 0 < b.owed)
    by None live owed = absurd (false≢true live)
    by (Some port) live owed = owed d (ap (λ (n : ℕ). is_live_end (Some port) (record { 0 = n })) (sym (eqb-true c.0 d.0 (sym (or-false (same_context c d)) ∙ among))) ∙ live)

-- who gives a place up keeps what waits
pub queues_same : (to : List ContextNo) (boxes boxes' : List MailboxState) → Changed forgiven to boxes boxes' → queues_in boxes' ≡ queues_in boxes
queues_same to boxes boxes' changed = read_alike (queues_in boxes') (queues_in boxes) (λ d. slice_get-map queue_in boxes' d ∙ ap (option_map queue_in) (changed (record { 0 = d })) ∙ by (is_among to (record { 0 = d })) (slice_get boxes d) ∙ sym (slice_get-map queue_in boxes d))
  where
    by : (s : Bool) (o : Option MailboxState) → option_map queue_in (option_map (λ b. cond s (forgiven b) b) o) ≡ option_map queue_in o
    by s None = refl
    by true (Some b) = refl
    by false (Some b) = refl

-- one change of the queues after another
pub queues_left : (ports : List Port) (requests : List Request) (c : ContextNo) (n : EntryNo) (old mid new : List (List Event)) → EachQueue (told_ends ports c n (length ports)) old mid → EachQueue (told_outcomes requests c n (length requests)) mid new → EachQueue (told_left ports requests c n) old new
queues_left ports requests c n old mid new first second d = second d ∙ ap (option_map (told_outcomes requests c n (length requests) d)) (first d) ∙ by (slice_get old d.0)
  where
    by : (o : Option (List Event)) → option_map (told_outcomes requests c n (length requests) d) (option_map (told_ends ports c n (length ports) d) o) ≡ option_map (told_left ports requests c n d) o
    by None = refl
    by (Some q) = refl
