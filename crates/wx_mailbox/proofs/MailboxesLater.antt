-- Mailboxes of which some have got more room.
use Rattle.std.proofs.Common.{◌≡◌, ℕ, ◌<◌, ◌≤◌, List, [], ◌∷◌, ◌++◌, length, set, refl, ap, sym, ◌∙◌, Bool, true, false, arith, length-set}
use Rattle.std.specs.Prelude.{Option, Some, None, slice_get, ◌||◌, ◌==◌}
use Rattle.std.specs.Option.{IsSomeAnd}
use Rattle.std.proofs.lemmas.Option.{same_Some}
use Rattle.std.proofs.lemmas.Bool.{false≢true, eqb-true}
use Rattle.wx_id.specs.declared.numbers.ContextNo.{ContextNo}
use Rattle.wx_id.specs.Contexts.{same_context, is_among}
use Rattle.wx_id.specs.ByContext.{EachHas}
use Rattle.wx_id.proofs.ListLemmas.{set_here, set_there}
use Rattle.wx_id.proofs.ByContextLemmas.{other_is, among_more}
use Rattle.wx_mailbox.specs.Mailbox.{MailboxState, IsRoomier}
use Rattle.wx_mailbox.specs.Mailboxes.{AreRoomier}

-- no mailbox has lost room
pub roomier_self : (boxes : List MailboxState) → AreRoomier boxes boxes
roomier_self boxes = record { count = refl; each = λ d b at. rw at (record { events = refl; spare = refl; owed = refl; room = omega arith }) }

-- one change after another
pub roomier_then : (a b c : List MailboxState) → AreRoomier a b → AreRoomier b c → AreRoomier a c
roomier_then a b c p q = record { count = q.count ∙ p.count; each = λ d x at. by d x (slice_get b d) refl (p.each d x at) }
  where
    both : (d : ℕ) (x y : MailboxState) → IsRoomier x y → (o : Option MailboxState) → IsSomeAnd o (IsRoomier y) → IsSomeAnd o (IsRoomier x)
    both d x y first None h = absurd h
    both d x y first (Some z) h = record { events = h.events ∙ first.events; spare = h.spare ∙ first.spare; owed = h.owed ∙ first.owed; room = omega (arith, first.room, h.room) }

    by : (d : ℕ) (x : MailboxState) (o : Option MailboxState) → slice_get b d ≡ o → IsSomeAnd o (IsRoomier x) → IsSomeAnd (slice_get c d) (IsRoomier x)
    by d x None at h = absurd h
    by d x (Some y) at h = both d x y h (slice_get c d) (q.each d y at)

-- one mailbox has more room
pub roomier_at : (boxes : List MailboxState) (k : ℕ) (b b' : MailboxState) → slice_get boxes k ≡ Some b → IsRoomier b b' → AreRoomier boxes (set boxes k b')
roomier_at boxes k b b' at more = record { count = length-set boxes k b'; each = λ d x is. by d x is (k == d) refl }
  where
    by : (d : ℕ) (x : MailboxState) → slice_get boxes d ≡ Some x → (s : Bool) → (k == d) ≡ s → IsSomeAnd (slice_get (set boxes k b') d) (IsRoomier x)
    by d x is true same =
        let e : k ≡ d = eqb-true k d same in
        let known : b ≡ x = same_Some b x (sym at ∙ ap (slice_get boxes) e ∙ is) in
        rw (← e, ← known) (rw (set_here boxes k b' b at) more)
    by d x is false other = rw (set_there boxes k d b' (other_is k d other), is) (record { events = refl; spare = refl; owed = refl; room = omega arith })

-- what has room keeps it
pub room_stays : (n : ℕ) (to : List ContextNo) (old new : List MailboxState) → AreRoomier old new → EachHas (λ b. n ≤ b.room) to old → EachHas (λ b. n ≤ b.room) to new
room_stays n to old new more has d among = by (slice_get old d.0) refl (has d among)
  where
    with : (b : MailboxState) → n ≤ b.room → (o : Option MailboxState) → IsSomeAnd o (IsRoomier b) → IsSomeAnd o (λ b. n ≤ b.room)
    with b h None m = absurd m
    with b h (Some b') m = omega (arith, m.room, h)

    by : (o : Option MailboxState) → slice_get old d.0 ≡ o → IsSomeAnd o (λ b. n ≤ b.room) → IsSomeAnd (slice_get new d.0) (λ b. n ≤ b.room)
    by None at h = absurd h
    by (Some b) at h = with b h (slice_get new d.0) (more.each d.0 b at)

-- and those whom the loop has come to have it
pub room_more : (n : ℕ) (to : List ContextNo) (x : ContextNo) (boxes : List MailboxState) → EachHas (λ b. n ≤ b.room) to boxes → IsSomeAnd (slice_get boxes x.0) (λ b. n ≤ b.room) → EachHas (λ b. n ≤ b.room) (to ++ x ∷ []) boxes
room_more n to x boxes has here d among = by (is_among to d) refl (same_context x d) refl (sym (among_more to x d) ∙ among)
  where
    by : (a : Bool) → is_among to d ≡ a → (s : Bool) → same_context x d ≡ s → (a || s) ≡ true → IsSomeAnd (slice_get boxes d.0) (λ b. n ≤ b.room)
    by true is s same h = has d is
    by false is true same h = rw (← eqb-true x.0 d.0 same) here
    by false is false same h = absurd (false≢true h)

-- a mailbox that is there stays there
pub there_still : (old new : List MailboxState) (k : ℕ) → AreRoomier old new → k < length old → k < length new
there_still old new k more h = rw (more.count) h
