-- What waits in the queues, one entry later.
use Rattle.std.proofs.Common.{◌≡◌, List, [], ◌∷◌, ◌++◌, refl, ap, sym, ◌∙◌, Bool, true, false, not, subst, append-nil}
use Rattle.std.specs.Prelude.{Option, Some, None, IfSome, filter, slice_get, ◌&&◌, ◌||◌}
use Rattle.std.specs.Option.{option_map}
use Rattle.std.specs.List.{list_any}
use Rattle.std.proofs.lemmas.Bool.{false≢true, true≢false}
use Rattle.wx_id.specs.declared.numbers.ContextNo.{ContextNo}
use Rattle.wx_id.specs.declared.events.Event.{Event}
use Rattle.wx_external.specs.World.{WorldLists}
use Rattle.wx_machine.specs.declared.entries.Call.{Call}
use Rattle.wx_machine.specs.declared.entries.Call.TheVariants.{Disconnect, Take}
use Rattle.wx_machine.specs.declared.entries.Answer.{Answer}
use Rattle.wx_machine.specs.declared.entries.Answer.TheVariants.{Done, Event as Told}
use Rattle.wx_machine.specs.declared.entries.Entry.{Entry}
use Rattle.wx_machine.specs.Words.{delivered, drops_by, event_in, has_left, is_by, pending, same_event}
use Rattle.wx_tables.specs.Ending.{EachQueue}
use Rattle.wx_laws.specs.Legal.{IsLegalPast}
use Rattle.wx_laws.proofs.Waiting.{leaves_waiting, waits_after}
use Rattle.wx_broker.proofs.TestsLater.{map_whole}
use Rattle.wx_broker.specs.Told.{HasPending}

-- who had not left after the entry had not left before
pub not_left_before : (past : List Entry) (e : Entry) (d : ContextNo) → has_left (e ∷ past) d ≡ false → has_left past d ≡ false
not_left_before past e d stays = by (has_left past d) _ stays
  where
    by : (a b : Bool) → (a || b) ≡ false → a ≡ false
    by true b h = absurd (true≢false h)
    by false b h = refl

-- each queue keeps what the entry leaves, and then has what it delivers
pub pending_later : (world : WorldLists) (past : List Entry) (e : Entry) (queues queues' : List (List Event)) → IsLegalPast world (e ∷ past) → HasPending past queues → ((d : ContextNo) → has_left (e ∷ past) d ≡ false → slice_get queues' d.0 ≡ option_map (λ queue. filter (leaves_waiting e d) queue ++ delivered past e d) (slice_get queues d.0)) → HasPending (e ∷ past) queues'
pending_later world past e queues queues' legal waits changed d stays = by (slice_get queues d.0) (slice_get queues' d.0) (changed d stays) (waits d (not_left_before past e d stays))
  where
    by : (o o' : Option (List Event)) → o' ≡ option_map (λ queue. filter (leaves_waiting e d) queue ++ delivered past e d) o → IfSome o (λ queue. queue ≡ pending past d) → IfSome o' (λ queue. queue ≡ pending (e ∷ past) d)
    by None o' is h = subst (λ o. IfSome o (λ queue. queue ≡ pending (e ∷ past) d)) (sym is) tt
    by (Some queue) o' is h = subst (λ o. IfSome o (λ queue. queue ≡ pending (e ∷ past) d)) (sym is) (ap (λ l. filter (leaves_waiting e d) l ++ delivered past e d) h ∙ sym (waits_after world past e d legal))

-- a call with that answer takes no event out and drops none
abbrev pub keeps_all : Call → Answer → Bool
keeps_all Take (Told event) = false
keeps_all (Disconnect k) Done = false
keeps_all _ _ = true

leaves_each : (call : Call) (answer : Answer) (mine : Bool) (event : Event) → keeps_all call answer ≡ true → (not (list_any (λ t. same_event t event) (event_in call answer mine)) && not (mine && drops_by call answer event.kind)) ≡ true
leaves_each Take (Told x) mine event h = absurd (false≢true h)
leaves_each (Disconnect k) Done mine event h = absurd (false≢true h)
leaves_each call answer mine event h = by mine
  where
    by : (b : Bool) → not (b && false) ≡ true
    by true = refl
    by false = refl

-- such a call leaves all that waits
pub all_left : (e : Entry) (d : ContextNo) (queue : List Event) → keeps_all e.call e.answer ≡ true → filter (leaves_waiting e d) queue ≡ queue
all_left e d [] h = refl
all_left e d (x ∷ xs) h = rw (leaves_each e.call e.answer (is_by e.who d) x h) (ap (λ l. x ∷ l) (all_left e d xs h))

-- after such a call each queue that is told what the call delivers has what is pending
pub pending_told : (world : WorldLists) (past : List Entry) (e : Entry) (told : ContextNo → List Event → List Event) (queues queues' : List (List Event)) → IsLegalPast world (e ∷ past) → HasPending past queues → keeps_all e.call e.answer ≡ true → EachQueue told queues queues' → ((d : ContextNo) (queue : List Event) → told d queue ≡ queue ++ delivered past e d) → HasPending (e ∷ past) queues'
pending_told world past e told queues queues' legal waits keeps changed tells =
    pending_later world past e queues queues' legal waits (λ d stays. changed d ∙ by d (slice_get queues d.0))
  where
    by : (d : ContextNo) (o : Option (List Event)) → option_map (told d) o ≡ option_map (λ queue. filter (leaves_waiting e d) queue ++ delivered past e d) o
    by d None = refl
    by d (Some queue) = ap Some (tells d queue ∙ ap (λ l. l ++ delivered past e d) (sym (all_left e d queue keeps)))

-- after one that delivers nothing too, the queues are as they were
pub pending_same : (world : WorldLists) (past : List Entry) (e : Entry) (queues : List (List Event)) → IsLegalPast world (e ∷ past) → HasPending past queues → keeps_all e.call e.answer ≡ true → ((d : ContextNo) → delivered past e d ≡ []) → HasPending (e ∷ past) queues
pending_same world past e queues legal waits keeps silent =
    pending_told world past e (λ d queue. queue) queues queues legal waits keeps (λ d. map_whole (slice_get queues d.0)) (λ d queue. sym (append-nil queue) ∙ ap (λ l. queue ++ l) (sym (silent d)))
