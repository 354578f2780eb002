-- What the end of a channel makes of the mailboxes.
use Rattle.std.proofs.Common.{◌≡◌, ℕ, ◌<◌, List, [], ◌∷◌, refl, ap, sym, ◌∙◌, Bool, true, false, cond}
use Rattle.std.specs.Prelude.{Option, Some, None, IfSome, slice_get, ◌||◌, ◌&&◌}
use Rattle.std.specs.Option.{option_map, IsSomeAnd}
use Rattle.std.proofs.Math.Bool.{or-false}
use Rattle.std.proofs.lemmas.Bool.{false≢true, true≢false, false_from_ne_true, eqb-true}
use Rattle.wx_id.specs.declared.numbers.ContextNo.{ContextNo}
use Rattle.wx_id.specs.declared.events.Event.{Event}
use Rattle.wx_port.specs.Port.{Port, IsSound, is_open_port, live_of}
use Rattle.wx_id.specs.Contexts.{same_context, is_among, are_distinct}
use Rattle.wx_mailbox.specs.Mailbox.{MailboxState, paid, forgiven}
use Rattle.wx_id.specs.ByContext.{EachHas, Changed}
use Rattle.wx_tables.specs.Ending.{ended, Ended, EndsOwed}

pub live_apart : (o : Option Port) → IfSome o IsSound → are_distinct (live_of o) ≡ true
live_apart None h = refl
live_apart (Some port) sound = sound.live

pub live_owed : (o : Option Port) (boxes : List MailboxState) → is_open_port o ≡ true → IfSome o (λ port. EndsOwed port boxes) → EachHas (λ b. 0 < b.owed) (live_of o) boxes
live_owed None boxes open_now owed d among = absurd (false≢true open_now)
live_owed (Some port) boxes open_now owed d among = owed d (rw (open_now, among) (by (same_context port.opener d)))
  where
    by : (s : Bool) → (s || true) ≡ true
    by true = refl
    by false = refl

pub opener_owed : (o : Option Port) (opener : ContextNo) (boxes : List MailboxState) → is_open_port o ≡ true → IfSome o (λ port. opener ≡ port.opener) → IfSome o (λ port. EndsOwed port boxes) → EachHas (λ b. 0 < b.owed) (opener ∷ []) boxes
opener_owed None opener boxes open_now is owed d among = absurd (false≢true open_now)
opener_owed (Some port) opener boxes open_now is owed d among = owed d (rw open_now (by (same_context port.opener d) refl (rw is at among)))
  where
    by : (s : Bool) → same_context port.opener d ≡ s → (s || false) ≡ true → (s || is_among port.live d) ≡ true
    by true same h = refl
    by false same h = absurd (false≢true h)

-- those who are not changed have what they had
pub still_has : (change : MailboxState → MailboxState) (P : MailboxState → Type 0) (to others : List ContextNo) (old mid : List MailboxState) → Changed change to old mid → ((d : ContextNo) → is_among others d ≡ true → is_among to d ≡ false) → EachHas P others old → EachHas P others mid
still_has change P to others old mid changed apart has d among =
    rw (changed d) (rw (apart d among) (by (slice_get old d.0) (has d among)))
  where
    by : (o : Option MailboxState) → IsSomeAnd o P → IsSomeAnd (option_map (λ b. b) o) P
    by None h = h
    by (Some b) h = h

-- the opener is none of the live receivers
pub opener_apart : (o : Option Port) (opener : ContextNo) → IfSome o IsSound → IfSome o (λ port. opener ≡ port.opener) → (d : ContextNo) → is_among (opener ∷ []) d ≡ true → is_among (live_of o) d ≡ false
opener_apart None opener sound is d among = refl
opener_apart (Some port) opener sound is d among = false_from_ne_true _ (λ h.
    let here : is_among port.receivers d ≡ true = sound.within d h in
    false≢true (sym sound.opener ∙ ap (λ (n : ℕ). is_among port.receivers (record { 0 = n })) (ap (λ (c : ContextNo). c.0) (sym is) ∙ eqb-true opener.0 d.0 (sym (or-false (same_context opener d)) ∙ among)) ∙ here))

pub receivers_apart : (o : Option Port) (opener : ContextNo) → IfSome o IsSound → IfSome o (λ port. opener ≡ port.opener) → (d : ContextNo) → is_among (live_of o) d ≡ true → is_among (opener ∷ []) d ≡ false
receivers_apart o opener sound is d among = false_from_ne_true _ (λ h. false≢true (sym (opener_apart o opener sound is d h) ∙ among))

-- the two changes of the mailboxes are the channel's end
pub ended_by_opener : (o : Option Port) (opener : ContextNo) (e : Event) (old mid new : List MailboxState) → is_open_port o ≡ true → IfSome o IsSound → IfSome o (λ port. opener ≡ port.opener) → Changed (paid e) (live_of o) old mid → Changed forgiven (opener ∷ []) mid new → IfSome o (λ port. Ended port port.live e old new)
ended_by_opener None opener e old mid new open_now sound is first second = absurd (false≢true open_now)
ended_by_opener (Some port) opener e old mid new open_now sound is first second = λ d.
    second d ∙ rw (first d, is, open_now)
    (by (slice_get old d.0) (same_context port.opener d) (is_among port.live d) (λ h. opener_apart (Some port) opener sound is d (rw is (rw h refl))))
  where
    by : (b : Option MailboxState) (s a : Bool) → (s ≡ true → a ≡ false) → option_map (λ b. cond (s || false) (forgiven b) b) (option_map (λ b. cond a (paid e b) b) b) ≡ option_map (ended (true && (s || a)) a e) b
    by None s a h = refl
    by (Some b) true true h = absurd (true≢false (h refl))
    by (Some b) true false h = refl
    by (Some b) false true h = refl
    by (Some b) false false h = refl

pub ended_by_receiver : (o : Option Port) (opener : ContextNo) (e : Event) (old mid new : List MailboxState) → is_open_port o ≡ true → IfSome o IsSound → IfSome o (λ port. opener ≡ port.opener) → Changed (paid e) (opener ∷ []) old mid → Changed forgiven (live_of o) mid new → IfSome o (λ port. Ended port (port.opener ∷ []) e old new)
ended_by_receiver None opener e old mid new open_now sound is first second = absurd (false≢true open_now)
ended_by_receiver (Some port) opener e old mid new open_now sound is first second = λ d.
    second d ∙ rw (first d, is, open_now)
    (by (slice_get old d.0) (same_context port.opener d) (is_among port.live d) (λ h. opener_apart (Some port) opener sound is d (rw is (rw h refl))))
  where
    by : (b : Option MailboxState) (s a : Bool) → (s ≡ true → a ≡ false) → option_map (λ b. cond a (forgiven b) b) (option_map (λ b. cond (s || false) (paid e b) b) b) ≡ option_map (ended (true && (s || a)) (s || false) e) b
    by None s a h = refl
    by (Some b) true true h = absurd (true≢false (h refl))
    by (Some b) true false h = refl
    by (Some b) false true h = refl
    by (Some b) false false h = refl
