-- The places that are kept, when a channel or a request changes.
use Rattle.std.proofs.Common.{◌≡◌, ℕ, suc, zero, ◌+◌, ◌<◌, ◌≤◌, List, [], ◌∷◌, length, set, get_or, refl, ap, sym, ◌∙◌, Bool, true, false, cond, arith, append-nil}
use Rattle.std.specs.Prelude.{Option, Some, None, IfSome, slice_get, ◌||◌}
use Rattle.std.specs.Option.{option_map, IsSomeAnd}
use Rattle.std.specs.List.{sum_by}
use Rattle.std.proofs.lemmas.List.Sums.{sum_by-set}
use Rattle.std.proofs.lemmas.Iterator.Adapters.{option_map_id}
use Rattle.std.proofs.lemmas.List.{length-map}
use Rattle.std.proofs.lemmas.Option.{none-some, slice_get-map, slice_get_within, slice_get_read, get_or_from_slice_get}
use Rattle.std.proofs.lemmas.Bool.{false≢true, eqb-true}
use Rattle.wx_id.proofs.ByContextLemmas.{other_is}
use Rattle.wx_id.proofs.ListLemmas.{set_here, set_there}
use Rattle.wx_id.specs.declared.numbers.ContextNo.{ContextNo}
use Rattle.wx_id.specs.declared.events.Event.{Event}
use Rattle.wx_port.specs.Port.{Port, is_open_port, is_live_end, closed}
use Rattle.wx_id.specs.Contexts.{same_context, is_among}
use Rattle.wx_one_shot.specs.Requests.{Request}
use Rattle.wx_mailbox.specs.Mailbox.{MailboxState}
use Rattle.wx_tables.specs.State.{owes, awaits, due, owed_in, AreOwed, queue_in, queues_in}
use Rattle.wx_tables.specs.Ending.{told_each, other_side, ended, Ended, EndsOwed, heard, told_end, dropped, parted, EachQueue}

-- one channel is changed
pub owes_set : (ports : List Port) (k : ℕ) (port new : Port) (d : ContextNo) → slice_get ports k ≡ Some port → sum_by (owes d) (set ports k new) + owes d port ≡ sum_by (owes d) ports + owes d new
owes_set ports k port new d h =
    ap (λ p. sum_by (owes d) (set ports k new) + owes d p) (sym (get_or_from_slice_get ports k port port h))
    ∙ sum_by-set (owes d) ports k new port (slice_get_within ports k port h)

-- what one channel owes is owed
pub owes_within : (ports : List Port) (k : ℕ) (port : Port) (d : ContextNo) → slice_get ports k ≡ Some port → owes d port ≤ sum_by (owes d) ports
owes_within ports k port d h =
    let sums : sum_by (owes d) (set ports k (closed port)) + owes d port ≡ sum_by (owes d) ports + 0 = owes_set ports k port (closed port) d h in
    omega (arith, sums)

-- a mailbox that keeps a place is there
pub keeps : (o : Option MailboxState) (n : ℕ) → owed_in o ≡ n → 0 < n → IsSomeAnd o (λ b. 0 < b.owed)
keeps None n h more = absurd (omega (arith, h, more))
keeps (Some b) n h more = omega (arith, h, more)

live_owes : (b : Bool) → b ≡ true → cond {A = ℕ} b 1 0 ≡ 1
live_owes true h = refl
live_owes false h = absurd (false≢true h)

-- each live end of an open channel keeps a place
pub ends_owed : (ports : List Port) (requests : List Request) (boxes : List MailboxState) (k : ℕ) → AreOwed ports requests boxes → IfSome (slice_get ports k) (λ port. EndsOwed port boxes)
ends_owed ports requests boxes k owed = by (slice_get ports k) refl
  where
    by : (o : Option Port) → slice_get ports k ≡ o → IfSome o (λ port. EndsOwed port boxes)
    by None at = tt
    by (Some port) at = λ d live.
        let one : owes d port ≡ 1 = live_owes (is_live_end (Some port) d) live in
        let within : owes d port ≤ sum_by (owes d) ports = owes_within ports k port d at in
        keeps (slice_get boxes d.0) (due ports requests d) (owed.each d) (omega (arith, one, within))

-- the mailboxes keep what is due once the channel has ended
pub owed_ended : (ports : List Port) (requests : List Request) (boxes boxes' : List MailboxState) (k : ℕ) (to : List ContextNo) (e : Event) (port : Port) → AreOwed ports requests boxes → slice_get ports k ≡ Some port → Ended port to e boxes boxes' → AreOwed (set ports k (closed port)) requests boxes'
owed_ended ports requests boxes boxes' k to e port owed at told = record {
  each = λ d.
      let sums : sum_by (owes d) (set ports k (closed port)) + owes d port ≡ sum_by (owes d) ports + 0 = owes_set ports k port (closed port) d at in
      ap owed_in (told d) ∙ by (slice_get boxes d.0) (is_live_end (Some port) d) (is_among to d) (sum_by (owes d) ports) (sum_by (owes d) (set ports k (closed port))) (sum_by (awaits d) requests) (owed.each d) sums;
}
  where
    by : (o : Option MailboxState) (live heard : Bool) (n m r : ℕ) → owed_in o ≡ n + r → m + cond live 1 0 ≡ n + 0 → owed_in (option_map (ended live heard e) o) ≡ m + r
    by None true heard n m r h sums = absurd (omega (arith, h, sums))
    by None false heard n m r h sums = omega (arith, h, sums)
    by (Some b) true true n m r h sums = omega (arith, h, sums)
    by (Some b) true false n m r h sums = omega (arith, h, sums)
    by (Some b) false heard n m r h sums = omega (arith, h, sums)

-- the other side of an open channel is live, and so is its opener
pub side_hears : (o : Option Port) (c : ContextNo) → is_open_port o ≡ true → IfSome o (λ port. (d : ContextNo) → is_among (other_side port c) d ≡ true → is_live_end (Some port) d ≡ true)
side_hears None c open_now = tt
side_hears (Some port) c open_now = λ d h. rw open_now (by d (same_context port.opener c) h (same_context port.opener d) refl)
  where
    by : (d : ContextNo) (s : Bool) → is_among (cond s port.live (port.opener ∷ [])) d ≡ true → (t : Bool) → same_context port.opener d ≡ t → (t || is_among port.live d) ≡ true
    by d s h true same = refl
    by d true h false same = h
    by d false h false same = absurd (false≢true (sym (rw same refl) ∙ h))

pub opener_hears : (o : Option Port) → is_open_port o ≡ true → IfSome o (λ port. (d : ContextNo) → is_among (port.opener ∷ []) d ≡ true → is_live_end (Some port) d ≡ true)
opener_hears None open_now = tt
opener_hears (Some port) open_now = λ d h. rw open_now (by d (same_context port.opener d) h)
  where
    by : (d : ContextNo) (t : Bool) → (t || false) ≡ true → (t || is_among port.live d) ≡ true
    by d true h = refl
    by d false h = absurd (false≢true h)

-- what waits once the channel has ended
queues_ended : (boxes boxes' : List MailboxState) (to : List ContextNo) (e : Event) (port : Port) → ((d : ContextNo) → is_among to d ≡ true → is_live_end (Some port) d ≡ true) → Ended port to e boxes boxes' → EachQueue (told_each to e) (queues_in boxes) (queues_in boxes')
queues_ended boxes boxes' to e port hears told d =
    slice_get-map queue_in boxes' d.0
    ∙ ap (option_map queue_in) (told d)
    ∙ by (slice_get boxes d.0) (is_live_end (Some port) d) (is_among to d) (hears d)
    ∙ ap (option_map (told_each to e d)) (sym (slice_get-map queue_in boxes d.0))
  where
    by : (o : Option MailboxState) (live among : Bool) → (among ≡ true → live ≡ true) → option_map queue_in (option_map (ended live among e) o) ≡ option_map (λ queue. heard among e queue) (option_map queue_in o)
    by None live among h = refl
    by (Some b) true true h = refl
    by (Some b) true false h = ap Some (sym (append-nil b.events))
    by (Some b) false true h = absurd (false≢true (h refl))
    by (Some b) false false h = ap Some (sym (append-nil b.events))

-- the whole of it, of the channel with a number
pub owed_after : (ports ports' : List Port) (requests : List Request) (boxes boxes' : List MailboxState) (k : ℕ) (to : Port → List ContextNo) (e : Event) → AreOwed ports requests boxes → is_open_port (slice_get ports k) ≡ true → IfSome (slice_get ports k) (λ port. Ended port (to port) e boxes boxes') → IfSome (slice_get ports k) (λ port. ports' ≡ set ports k (closed port)) → AreOwed ports' requests boxes'
owed_after ports ports' requests boxes boxes' k to e owed open_now = by (slice_get ports k) refl open_now
  where
    by : (o : Option Port) → slice_get ports k ≡ o → is_open_port o ≡ true → IfSome o (λ port. Ended port (to port) e boxes boxes') → IfSome o (λ port. ports' ≡ set ports k (closed port)) → AreOwed ports' requests boxes'
    by None at open_now told changed = absurd (false≢true open_now)
    by (Some port) at open_now told changed = rw changed (owed_ended ports requests boxes boxes' k (to port) e port owed at told)

pub queues_after : (o : Option Port) (boxes boxes' : List MailboxState) (to : Port → List ContextNo) (e : Event) → IfSome o (λ port. (d : ContextNo) → is_among (to port) d ≡ true → is_live_end (Some port) d ≡ true) → IfSome o (λ port. Ended port (to port) e boxes boxes') → IfSome o (λ port. EachQueue (told_each (to port) e) (queues_in boxes) (queues_in boxes'))
queues_after None boxes boxes' to e hears told = tt
queues_after (Some port) boxes boxes' to e hears told = queues_ended boxes boxes' (to port) e port hears told

-- what waits once one mailbox is changed
pub queues_at : (boxes : List MailboxState) (c : ContextNo) (change : List Event → List Event) (b b' : MailboxState) → c.0 < length boxes → b ≡ get_or boxes c.0 b → b'.events ≡ change b.events → EachQueue (λ d queue. cond (same_context c d) (change queue) queue) (queues_in boxes) (queues_in (set boxes c.0 b'))
queues_at boxes c change b b' within is left d =
    slice_get-map queue_in (set boxes c.0 b') d.0
    ∙ by (same_context c d) refl
    ∙ ap (option_map (λ q. cond (same_context c d) (change q) q)) (sym (slice_get-map queue_in boxes d.0))
  where
    at : slice_get boxes c.0 ≡ Some b
    at = slice_get_read boxes (length boxes) c.0 b refl within is

    by : (s : Bool) → same_context c d ≡ s → option_map queue_in (slice_get (set boxes c.0 b') d.0) ≡ option_map (λ q. cond s (change q) q) (option_map queue_in (slice_get boxes d.0))
    by true same = let e : c.0 ≡ d.0 = eqb-true c.0 d.0 same in rw (← e) (rw (set_here boxes c.0 b' b at, at) (ap Some left))
    by false same = rw (set_there boxes c.0 d.0 b' (other_is c.0 d.0 same)) (sym (option_map_id (option_map queue_in (slice_get boxes d.0))))

-- who is a live end has a mailbox still, once the queues are changed
pub there_after : (ports : List Port) (requests : List Request) (boxes boxes' : List MailboxState) (k : ℕ) (c d : ContextNo) (e : Event) → AreOwed ports requests boxes → is_live_end (slice_get ports k) d ≡ true → IfSome (slice_get ports k) (λ port. EachQueue (told_end port c e) (queues_in boxes) (queues_in boxes')) → d.0 < length boxes'
there_after ports requests boxes boxes' k c d e owed live = by (slice_get ports k) refl live (ends_owed ports requests boxes k owed)
  where
    some_within : {A : Type 0} (xs : List A) (j : ℕ) (P : A → Type 0) → IsSomeAnd (slice_get xs j) P → j < length xs
    some_within [] j P h = absurd h
    some_within (x ∷ xs) zero P h = omega arith
    some_within (x ∷ xs) (suc j) P h = let rest : j < length xs = some_within xs j P h in omega (arith, rest)

    stays : (port : Port) (o : Option MailboxState) → IsSomeAnd o (λ b. 0 < b.owed) → (o' : Option MailboxState) → option_map queue_in o' ≡ option_map (told_end port c e d) (option_map queue_in o) → IsSomeAnd o' (λ b. 0 ≤ b.owed)
    stays port None h o' same = absurd h
    stays port (Some b) h None same = absurd (none-some _ same)
    stays port (Some b) h (Some b') same = omega arith

    by : (o : Option Port) → slice_get ports k ≡ o → is_live_end o d ≡ true → IfSome o (λ port. EndsOwed port boxes) → IfSome o (λ port. EachQueue (told_end port c e) (queues_in boxes) (queues_in boxes')) → d.0 < length boxes'
    by None at live owed queues = absurd (false≢true live)
    by (Some port) at live owed queues =
        some_within boxes' d.0 (λ b. 0 ≤ b.owed) (stays port (slice_get boxes d.0) (owed d live) (slice_get boxes' d.0)
        (sym (slice_get-map queue_in boxes' d.0) ∙ queues d ∙ ap (option_map (told_end port c e d)) (slice_get-map queue_in boxes d.0)))

-- one change of the queues after another
pub queues_parted : (o : Option Port) (old mid new : List (List Event)) (c : ContextNo) (k : ℕ) (e : Event) → IfSome o (λ port. EachQueue (told_end port c e) old mid) → EachQueue (dropped c k) mid new → IfSome o (λ port. EachQueue (parted port c k e) old new)
queues_parted None old mid new c k e first second = tt
queues_parted (Some port) old mid new c k e first second = λ d. second d ∙ ap (option_map (dropped c k d)) (first d) ∙ by d (slice_get old d.0)
  where
    by : (d : ContextNo) (o : Option (List Event)) → option_map (dropped c k d) (option_map (told_end port c e d) o) ≡ option_map (parted port c k e d) o
    by d None = refl
    by d (Some q) = refl

pub owed_same : (ports : List Port) (requests : List Request) (old new : List MailboxState) → AreOwed ports requests old → ((d : ContextNo) → owed_in (slice_get new d.0) ≡ owed_in (slice_get old d.0)) → AreOwed ports requests new
owed_same ports requests old new owed same = record { each = λ d. same d ∙ owed.each d }

-- there are as many queues as mailboxes
pub as_many : (boxes : List MailboxState) → length (queues_in boxes) ≡ length boxes
as_many boxes = length-map boxes queue_in
