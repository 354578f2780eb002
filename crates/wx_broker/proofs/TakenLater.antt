-- What waits in the queues once a context has taken its first event.
use Rattle.std.proofs.Common.{◌≡◌, ◌<◌, ◌≤◌, List, [], ◌∷◌, ◌++◌, length, refl, ap, sym, ◌∙◌, Bool, true, false, cond, not, arith, subst, append-nil}
use Rattle.std.specs.Prelude.{Option, Some, None, IfSome, drop, filter, slice_get}
use Rattle.std.specs.Option.{option_map}
use Rattle.std.proofs.lemmas.Bool.{and_parts, not-true}
use Rattle.std.proofs.lemmas.Option.{none-some}
use Rattle.wx_id.specs.Contexts.{same_context}
use Rattle.wx_id.specs.declared.numbers.ContextNo.{ContextNo}
use Rattle.wx_id.specs.declared.events.Event.{Event}
use Rattle.wx_id.proofs.ContextLemmas.{same_context_is}
use Rattle.wx_external.specs.World.{WorldLists}
use Rattle.wx_machine.specs.declared.entries.Entry.{Entry}
use Rattle.wx_machine.specs.Words.{context_of, delivered, first, has_left, is_live, is_there, pending}
use Rattle.wx_tables.specs.Ending.{EachQueue}
use Rattle.wx_tables.specs.Waiting.{first_in, taken}
use Rattle.wx_laws.specs.Legal.{IsLegalPast}
use Rattle.wx_laws.proofs.Waiting.{leaves_waiting, told_first}
use Rattle.wx_laws.proofs.Taking.{leaves_others, takes}
use Rattle.wx_broker.proofs.TestsLater.{outside}
use Rattle.wx_broker.specs.Told.{HasPending}
use Rattle.wx_broker.proofs.PendingLater.{not_left_before, pending_later}

other_leaves : (c : ContextNo) (event : Event) (d : ContextNo) (x : Event) → same_context c d ≡ false → leaves_waiting (takes c event) d x ≡ true
other_leaves c event d x h = rw h refl

other_left : (c : ContextNo) (event : Event) (d : ContextNo) (queue : List Event) → same_context c d ≡ false → filter (leaves_waiting (takes c event) d) queue ≡ queue
other_left c event d [] h = refl
other_left c event d (x ∷ xs) h = rw (other_leaves c event d x h) (ap (λ l. x ∷ l) (other_left c event d xs h))

first_of : (xs : List Event) (event : Event) → first xs ≡ Some event → xs ≡ event ∷ drop 1 xs
first_of [] event h = absurd (none-some event h)
first_of (x ∷ xs) event h = let same : x ≡ event = cc in ap (λ y. y ∷ xs) same

-- a queue whose first event was taken has what is pending
pub pending_taken : (world : WorldLists) (past : List Entry) (c : ContextNo) (event : Event) (queues queues' : List (List Event)) → IsLegalPast world (takes c event ∷ past) → HasPending past queues → EachQueue (taken c) queues queues' → HasPending (takes c event ∷ past) queues'
pending_taken world past c event queues queues' legal waits changed =
    pending_later world past e queues queues' legal waits (λ d stays. changed d ∙ each d (slice_get queues d.0) (waits d (not_left_before past e d stays)))
  where
    e : Entry
    e = takes c event

    others : filter (leaves_waiting e c) (pending past c) ≡ drop 1 (pending past c)
    others = leaves_others past c event (drop 1 (pending past c)) (first_of (pending past c) event (told_first (is_live past c) (first (pending past c)) event legal.1.answered))

    own : (queue : List Event) → queue ≡ pending past c → drop 1 queue ≡ filter (leaves_waiting e c) queue ++ []
    own queue h = ap (drop 1) h ∙ sym others ∙ ap (filter (leaves_waiting e c)) (sym h) ∙ sym (append-nil (filter (leaves_waiting e c) queue))

    by : (d : ContextNo) (queue : List Event) → queue ≡ pending past d → (s : Bool) → same_context c d ≡ s → cond s (drop 1 queue) queue ≡ filter (leaves_waiting e d) queue ++ []
    by d queue h true same = subst (λ (x : ContextNo). queue ≡ pending past x → drop 1 queue ≡ filter (leaves_waiting e x) queue ++ []) (same_context_is c d same) (own queue) h
    by d queue h false same = sym (append-nil (filter (leaves_waiting e d) queue) ∙ other_left c event d queue same)

    each : (d : ContextNo) (o : Option (List Event)) → IfSome o (λ queue. queue ≡ pending past d) → option_map (taken c d) o ≡ option_map (λ queue. filter (leaves_waiting e d) queue ++ delivered past e d) o
    each d None h = refl
    each d (Some queue) h = ap Some (by d queue h (same_context c d) refl)

-- the first event of the queue of a live context is the first that is pending
pub first_pending : (past : List Entry) (c : ContextNo) (queues : List (List Event)) → HasPending past queues → is_live past c ≡ true → c.0 < length queues → first_in (slice_get queues c.0) ≡ first (pending past c)
first_pending past c queues waits live there = by (slice_get queues c.0) refl (waits c stays)
  where
    stays : has_left past c ≡ false
    stays = not-true (has_left past c) (and_parts (is_there (context_of past c)) (not (has_left past c)) live).1

    head : (xs : List Event) → slice_get xs 0 ≡ first xs
    head [] = refl
    head (x ∷ xs) = refl

    by : (o : Option (List Event)) → slice_get queues c.0 ≡ o → IfSome o (λ queue. queue ≡ pending past c) → first_in o ≡ first (pending past c)
    by None is h = let past_all : length queues ≤ c.0 = outside queues c.0 is in absurd (omega (arith, past_all, there))
    by (Some queue) is h = ap (λ l. slice_get l 0) h ∙ head (pending past c)
