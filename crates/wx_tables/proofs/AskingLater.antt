-- What the outcome of a request makes of the mailboxes.
use Rattle.std.proofs.Common.{◌≡◌, ℕ, ◌+◌, ◌-◌, ◌<◌, List, [], ◌∷◌, ◌++◌, set, refl, ap, sym, ◌∙◌, Bool, true, false, cond, not, arith, append-nil}
use Rattle.std.specs.Prelude.{Option, Some, None, IfSome, slice_get, ◌||◌, ◌&&◌, ◌==◌}
use Rattle.std.specs.Option.{option_map, IsSomeAnd}
use Rattle.std.specs.List.{sum_by}
use Rattle.std.proofs.lemmas.List.Sums.{sum_by-set}
use Rattle.std.proofs.lemmas.Option.{slice_get-map, slice_get_within, get_or_from_slice_get}
use Rattle.std.proofs.Math.Bool.{or-false}
use Rattle.std.proofs.lemmas.Bool.{and_parts, false≢true, ne_eqb}
use Rattle.wx_id.specs.declared.numbers.ContextNo.{ContextNo}
use Rattle.wx_id.specs.declared.events.Event.{Event}
use Rattle.wx_port.specs.Port.{Port}
use Rattle.wx_one_shot.specs.Requests.{Request, concerns_at, is_settled_at, is_unsettled_at, may_reply, settled, standing_at, without}
use Rattle.wx_id.specs.Contexts.{is_among, same_context}
use Rattle.wx_mailbox.specs.Mailbox.{MailboxState, paid}
use Rattle.wx_id.specs.ByContext.{Changed, EachHas}
use Rattle.wx_tables.proofs.OwedLater.{keeps}
use Rattle.wx_id.proofs.ListLemmas.{set_here, set_same}
use Rattle.wx_one_shot.specs.declared.requests.Standing.TheVariants.{Open, Late, Stranger}
use Rattle.wx_tables.specs.State.{owes, awaits, due, owed_in, AreOwed, queue_in, queues_in}
use Rattle.wx_tables.specs.Ending.{heard, EachQueue}
use Rattle.wx_tables.specs.Asking.{told_asker, request_left, closes_request}

-- one request is changed
pub awaits_set : (requests : List Request) (r : ℕ) (request new : Request) (d : ContextNo) → slice_get requests r ≡ Some request → sum_by (awaits d) (set requests r new) + awaits d request ≡ sum_by (awaits d) requests + awaits d new
awaits_set requests r request new d h =
    ap (λ p. sum_by (awaits d) (set requests r new) + awaits d p) (sym (get_or_from_slice_get requests r request request h))
    ∙ sum_by-set (awaits d) requests r new request (slice_get_within requests r request h)

awaits_open : (request : Request) (d : ContextNo) → request.is_settled ≡ false → awaits d request ≡ cond {A = ℕ} (request.asker.0 == d.0) 1 0
awaits_open request d h = rw h refl

awaits_shut : (request : Request) (d : ContextNo) → request.is_settled ≡ true → awaits d request ≡ 0
awaits_shut request d h = rw h refl

unsettled_is : (request : Request) → is_unsettled_at (Some request) ≡ true → request.is_settled ≡ false
unsettled_is request h = by request.is_settled refl h
  where
    by : (b : Bool) → request.is_settled ≡ b → not request.is_settled ≡ true → b ≡ false
    by false e h = refl
    by true e h = absurd (false≢true (sym (ap not e) ∙ h))

-- the asker of an unsettled request keeps a place
pub asker_owed : (ports : List Port) (requests : List Request) (boxes : List MailboxState) (r : ℕ) (asker : ContextNo) → AreOwed ports requests boxes → is_unsettled_at (slice_get requests r) ≡ true → IfSome (slice_get requests r) (λ request. asker ≡ request.asker) → EachHas (λ b. 0 < b.owed) (asker ∷ []) boxes
asker_owed ports requests boxes r asker owed unsettled is d among = by (slice_get requests r) refl unsettled is
  where
    by : (o : Option Request) → slice_get requests r ≡ o → is_unsettled_at o ≡ true → IfSome o (λ request. asker ≡ request.asker) → IsSomeAnd (slice_get boxes d.0) (λ b. 0 < b.owed)
    by None at unsettled is = absurd (false≢true unsettled)
    by (Some request) at unsettled is =
        let here : (request.asker.0 == d.0) ≡ true = ap (λ (c : ContextNo). c.0 == d.0) (sym is) ∙ sym (or-false (same_context asker d)) ∙ among in
        let mine : awaits d request ≡ 1 = awaits_open request d (unsettled_is request unsettled) ∙ ap (λ b. cond {A = ℕ} b 1 0) here in
        let none : awaits d (settled request) ≡ 0 = refl in
        let sums : sum_by (awaits d) (set requests r (settled request)) + awaits d request ≡ sum_by (awaits d) requests + awaits d (settled request) = awaits_set requests r request (settled request) d at in
        keeps (slice_get boxes d.0) (due ports requests d) (owed.each d) (omega (arith, sums, mine, none))

-- the mailboxes keep what is due once the request is settled, where its asker uses the place or gives it up
pub owed_settled : (ports : List Port) (requests requests' : List Request) (boxes boxes' : List MailboxState) (r : ℕ) (asker : ContextNo) (f : Request → Request) (change : MailboxState → MailboxState) → ((b : MailboxState) → (change b).owed ≡ b.owed - 1) → AreOwed ports requests boxes → is_unsettled_at (slice_get requests r) ≡ true → IfSome (slice_get requests r) (λ request. asker ≡ request.asker) → IfSome (slice_get requests r) (λ request. requests' ≡ set requests r (f request)) → IfSome (slice_get requests r) (λ request. (f request).is_settled ≡ true) → Changed change (asker ∷ []) boxes boxes' → AreOwed ports requests' boxes'
owed_settled ports requests requests' boxes boxes' r asker f change falls owed unsettled is made shut changed = by (slice_get requests r) refl unsettled is made shut
  where
    at_d : (o : Option MailboxState) (s : Bool) (p n m x : ℕ) → owed_in o ≡ p + n → m + x ≡ n + 0 → x ≡ cond {A = ℕ} s 1 0 → owed_in (option_map (λ b. cond (s || false) (change b) b) o) ≡ p + m
    at_d None true p n m x h sums e = absurd (omega (arith, h, sums, e))
    at_d None false p n m x h sums e = omega (arith, h, sums, e)
    at_d (Some b) true p n m x h sums e = let less : (change b).owed ≡ b.owed - 1 = falls b in omega (arith, h, sums, e, less)
    at_d (Some b) false p n m x h sums e = omega (arith, h, sums, e)

    by : (o : Option Request) → slice_get requests r ≡ o → is_unsettled_at o ≡ true → IfSome o (λ request. asker ≡ request.asker) → IfSome o (λ request. requests' ≡ set requests r (f request)) → IfSome o (λ request. (f request).is_settled ≡ true) → AreOwed ports requests' boxes'
    by None at unsettled is made shut = absurd (false≢true unsettled)
    by (Some request) at unsettled is made shut = rw made (record {
      each = λ d.
          let none : awaits d (f request) ≡ 0 = awaits_shut (f request) d shut in
          let sums : sum_by (awaits d) (set requests r (f request)) + awaits d request ≡ sum_by (awaits d) requests + awaits d (f request) = awaits_set requests r request (f request) d at in
          let sums' : sum_by (awaits d) (set requests r (f request)) + awaits d request ≡ sum_by (awaits d) requests + 0 = rw none at sums in
          ap owed_in (changed d) ∙ at_d (slice_get boxes d.0) (same_context asker d) (sum_by (owes d) ports) (sum_by (awaits d) requests) (sum_by (awaits d) (set requests r (f request))) (awaits d request) (owed.each d) sums'
          (awaits_open request d (unsettled_is request unsettled) ∙ ap (λ (c : ContextNo). cond {A = ℕ} (c.0 == d.0) 1 0) (sym is));
    })

-- and where the request stays open
pub owed_open : (ports : List Port) (requests requests' : List Request) (boxes : List MailboxState) (r : ℕ) (f : Request → Request) → AreOwed ports requests boxes → is_unsettled_at (slice_get requests r) ≡ true → IfSome (slice_get requests r) (λ request. requests' ≡ set requests r (f request)) → IfSome (slice_get requests r) (λ request. ((f request).is_settled ≡ false) × ((f request).asker ≡ request.asker)) → AreOwed ports requests' boxes
owed_open ports requests requests' boxes r f owed unsettled made stays = by (slice_get requests r) refl unsettled made stays
  where
    by : (o : Option Request) → slice_get requests r ≡ o → is_unsettled_at o ≡ true → IfSome o (λ request. requests' ≡ set requests r (f request)) → IfSome o (λ request. ((f request).is_settled ≡ false) × ((f request).asker ≡ request.asker)) → AreOwed ports requests' boxes
    by None at unsettled made stays = absurd (false≢true unsettled)
    by (Some request) at unsettled made stays = rw made (record {
      each = λ d.
          let same : awaits d (f request) ≡ awaits d request = awaits_open (f request) d stays.0 ∙ ap (λ (c : ContextNo). cond {A = ℕ} (c.0 == d.0) 1 0) stays.1 ∙ sym (awaits_open request d (unsettled_is request unsettled)) in
          let sums : sum_by (awaits d) (set requests r (f request)) + awaits d request ≡ sum_by (awaits d) requests + awaits d (f request) = awaits_set requests r request (f request) d at in
          let was : owed_in (slice_get boxes d.0) ≡ due ports requests d = owed.each d in
          omega (arith, same, sums, was);
    })

-- what waits once the asker is told
pub queues_paid : (o : Option Request) (asker : ContextNo) (b : Bool) (e : Event) (boxes boxes' : List MailboxState) → b ≡ true → IfSome o (λ request. asker ≡ request.asker) → Changed (paid e) (asker ∷ []) boxes boxes' → IfSome o (λ request. EachQueue (told_asker b request e) (queues_in boxes) (queues_in boxes'))
queues_paid None asker b e boxes boxes' h is changed = tt
queues_paid (Some request) asker b e boxes boxes' h is changed = λ d.
    slice_get-map queue_in boxes' d.0 ∙ ap (option_map queue_in) (changed d)
    ∙ by d (slice_get boxes d.0) (same_context asker d)
    ∙ ap (option_map (λ queue. heard (same_context asker d) e queue)) (sym (slice_get-map queue_in boxes d.0))
    ∙ ap (λ (c : ContextNo). option_map (λ queue. heard (c.0 == d.0) e queue) (slice_get (queues_in boxes) d.0)) is
    ∙ ap (λ t. option_map (λ queue. heard (t && (request.asker.0 == d.0)) e queue) (slice_get (queues_in boxes) d.0)) (sym h)
  where
    by : (d : ContextNo) (o : Option MailboxState) (s : Bool) → option_map queue_in (option_map (λ b. cond (s || false) (paid e b) b) o) ≡ option_map (λ queue. heard s e queue) (option_map queue_in o)
    by d None s = refl
    by d (Some b) true = refl
    by d (Some b) false = ap Some (sym (append-nil b.events))

pub queues_quiet : (o : Option Request) (b : Request → Bool) (e : Event) (queues : List (List Event)) → IfSome o (λ request. b request ≡ false) → IfSome o (λ request. EachQueue (told_asker (b request) request e) queues queues)
queues_quiet None b e queues h = tt
queues_quiet (Some request) b e queues h = λ d. by (slice_get queues d.0) ∙ ap (λ t. option_map (λ queue. heard (t && (request.asker.0 == d.0)) e queue) (slice_get queues d.0)) (sym h)
  where
    by : (o : Option (List Event)) → o ≡ option_map (λ queue. queue ++ []) o
    by None = refl
    by (Some q) = ap Some (sym (append-nil q))

-- a receiver that is open is one of an unsettled request
pub open_unsettled : (o : Option Request) (c : ContextNo) → standing_at o c ≡ Open → is_unsettled_at o ≡ true
open_unsettled None c h = absurd (cc)
open_unsettled (Some request) c h = by (is_among request.receivers c) (may_reply request c) refl h
  where
    by : (a m : Bool) → may_reply request c ≡ m → cond a (cond m Open Late) Stranger ≡ Open → not request.is_settled ≡ true
    by true true e h = (and_parts (not request.is_settled) (is_among request.still_open c) e).0
    by true false e h = absurd (cc)
    by false m e h = absurd (cc)

-- whether the request is settled afterwards
pub settled_after : (requests requests' : List Request) (r : ℕ) (f : Request → Request) (b : Bool) → is_unsettled_at (slice_get requests r) ≡ true → IfSome (slice_get requests r) (λ request. requests' ≡ set requests r (f request)) → b ≡ is_settled_at (slice_get requests' r) → IfSome (slice_get requests r) (λ request. (f request).is_settled ≡ b)
settled_after requests requests' r f b unsettled made is = by (slice_get requests r) refl unsettled made
  where
    by : (o : Option Request) → slice_get requests r ≡ o → is_unsettled_at o ≡ true → IfSome o (λ request. requests' ≡ set requests r (f request)) → IfSome o (λ request. (f request).is_settled ≡ b)
    by None at unsettled made = tt
    by (Some request) at unsettled made = sym (is ∙ ap (λ l. is_settled_at (slice_get l r)) made ∙ ap is_settled_at (set_here requests r (f request) request at))

pub stays_open : (c : ContextNo) (o : Option Request) (b : Bool) → b ≡ false → IfSome o (λ request. (without c request).is_settled ≡ b) → IfSome o (λ request. ((without c request).is_settled ≡ false) × ((without c request).asker ≡ request.asker))
stays_open c None b h is = tt
stays_open c (Some request) b h is = (is ∙ h, refl)

pub shut_is : (o : Option Request) (f : Request → Request) (b c : Bool) → b ≡ c → IfSome o (λ request. (f request).is_settled ≡ b) → IfSome o (λ request. (f request).is_settled ≡ c)
shut_is None f b c h is = tt
shut_is (Some request) f b c h is = is ∙ h

pub always : (o : Option Request) → IfSome o (λ request. (settled request).is_settled ≡ true)
always None = tt
always (Some request) = refl

pub paid_if : (o : Option Request) (asker : ContextNo) (f : Request → Request) (e : Event) (boxes boxes' : List MailboxState) → IfSome o (λ request. (f request).is_settled ≡ true) → IfSome o (λ request. asker ≡ request.asker) → Changed (paid e) (asker ∷ []) boxes boxes' → IfSome o (λ request. EachQueue (told_asker (f request).is_settled request e) (queues_in boxes) (queues_in boxes'))
paid_if None asker f e boxes boxes' h is changed = tt
paid_if (Some request) asker f e boxes boxes' h is changed = queues_paid (Some request) asker (f request).is_settled e boxes boxes' h is changed

-- one who may reply, and is neither asker nor receiver, leaves the request as it is
stranger_is : (request : Request) (c : ContextNo) → concerns_at (Some request) c ≡ true → (request.asker.0 == c.0) ≡ false → (standing_at (Some request) c ≡ Open → ⊥) → is_among request.receivers c ≡ false
stranger_is request c h differs not_open =
    let parts : (not request.is_settled ≡ true) × (((request.asker.0 == c.0) || is_among request.still_open c) ≡ true) = and_parts (not request.is_settled) ((request.asker.0 == c.0) || is_among request.still_open c) h in
    let still : is_among request.still_open c ≡ true = rw differs at parts.1 in
    by (is_among request.receivers c) refl parts.0 still
  where
    by : (a : Bool) → is_among request.receivers c ≡ a → not request.is_settled ≡ true → is_among request.still_open c ≡ true → a ≡ false
    by false e u s = refl
    by true e u s = absurd (not_open (rw (e, u, s) refl))

pub other_rows : (requests : List Request) (r : ℕ) (c asker : ContextNo) → concerns_at (slice_get requests r) c ≡ true → IfSome (slice_get requests r) (λ request. asker ≡ request.asker) → (asker.0 ≡ c.0 → ⊥) → (standing_at (slice_get requests r) c ≡ Open → ⊥) → IfSome (slice_get requests r) (λ request. requests ≡ set requests r (request_left c request))
other_rows requests r c asker h is other not_open = by (slice_get requests r) refl h is not_open
  where
    by : (o : Option Request) → slice_get requests r ≡ o → concerns_at o c ≡ true → IfSome o (λ request. asker ≡ request.asker) → (standing_at o c ≡ Open → ⊥) → IfSome o (λ request. requests ≡ set requests r (request_left c request))
    by None at h is not_open = tt
    by (Some request) at h is not_open =
        let differs : (request.asker.0 == c.0) ≡ false = ap (λ (a : ContextNo). a.0 == c.0) (sym is) ∙ ne_eqb asker.0 c.0 other in
        sym (ap (set requests r) (rw (differs, stranger_is request c h differs not_open) refl) ∙ set_same requests r request at)

pub other_queues : (o : Option Request) (c asker : ContextNo) (e : Event) (queues : List (List Event)) → concerns_at o c ≡ true → IfSome o (λ request. asker ≡ request.asker) → (asker.0 ≡ c.0 → ⊥) → (standing_at o c ≡ Open → ⊥) → IfSome o (λ request. EachQueue (told_asker (closes_request request c) request e) queues queues)
other_queues o c asker e queues h is other not_open = queues_quiet o (λ request. closes_request request c) e queues (by o h is not_open)
  where
    by : (o : Option Request) → concerns_at o c ≡ true → IfSome o (λ request. asker ≡ request.asker) → (standing_at o c ≡ Open → ⊥) → IfSome o (λ request. closes_request request c ≡ false)
    by None h is not_open = tt
    by (Some request) h is not_open =
        let differs : (request.asker.0 == c.0) ≡ false = ap (λ (a : ContextNo). a.0 == c.0) (sym is) ∙ ne_eqb asker.0 c.0 other in
        rw (differs, stranger_is request c h differs not_open) refl
