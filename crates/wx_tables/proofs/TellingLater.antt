-- What a message makes of the mailboxes.
use Rattle.std.proofs.Common.{◌≡◌, ℕ, ◌<◌, ◌≤◌, List, [], ◌∷◌, refl, ap, sym, ◌∙◌, Bool, true, false, cond, arith, append-nil}
use Rattle.std.specs.Prelude.{Option, Some, None, IfSome, IsSome, slice_get, Result, OnOk}
use Rattle.std.specs.Option.{option_map, IsSomeAnd}
use Rattle.std.proofs.lemmas.Option.{slice_get-map}
use Rattle.std.proofs.lemmas.Bool.{false≢true}
use Rattle.wx_id.specs.declared.numbers.ContextNo.{ContextNo}
use Rattle.wx_id.specs.declared.events.Event.{Event}
use Rattle.wx_port.specs.Port.{Port, is_open_port, live_of}
use Rattle.wx_id.specs.Contexts.{is_among}
use Rattle.wx_one_shot.specs.Requests.{Request}
use Rattle.wx_mailbox.specs.Mailbox.{MailboxState, told}
use Rattle.wx_id.specs.ByContext.{EachHas, Changed}
use Rattle.wx_tables.proofs.OpeningLater.{on_ok}
use Rattle.wx_tables.proofs.OwedLater.{ends_owed}
use Rattle.wx_tables.specs.State.{owed_in, AreOwed, queue_in, queues_in}
use Rattle.wx_tables.specs.Ending.{heard, EachQueue, told_each, told_opener}
use Rattle.wx_tables.specs.Opening.{AreThere}
use Rattle.wx_tables.proofs.EndingLater.{live_owed, opener_owed}

pub owed_told : (ports : List Port) (requests : List Request) (to : List ContextNo) (e : Event) (old new : List MailboxState) → AreOwed ports requests old → Changed (told e) to old new → AreOwed ports requests new
owed_told ports requests to e old new owed changed = record { each = λ d. ap owed_in (changed d) ∙ by (slice_get old d.0) (is_among to d) ∙ owed.each d }
  where
    by : (o : Option MailboxState) (s : Bool) → owed_in (option_map (λ b. cond s (told e b) b) o) ≡ owed_in o
    by None s = refl
    by (Some b) true = refl
    by (Some b) false = refl

pub queues_told : (to : List ContextNo) (e : Event) (old new : List MailboxState) → Changed (told e) to old new → EachQueue (told_each to e) (queues_in old) (queues_in new)
queues_told to e old new changed d = slice_get-map queue_in new d.0 ∙ ap (option_map queue_in) (changed d) ∙ by (slice_get old d.0) (is_among to d) ∙ ap (option_map (told_each to e d)) (sym (slice_get-map queue_in old d.0))
  where
    by : (o : Option MailboxState) (s : Bool) → option_map queue_in (option_map (λ b. cond s (told e b) b) o) ≡ option_map (λ queue. heard s e queue) (option_map queue_in o)
    by None s = refl
    by (Some b) true = refl
    by (Some b) false = ap Some (sym (append-nil b.events))

pub all_there : (to : List ContextNo) (boxes : List MailboxState) → AreThere to (queues_in boxes) → EachHas (λ b. 0 ≤ b.room) to boxes
all_there to boxes there d among = by (slice_get boxes d.0) (slice_get-map queue_in boxes d.0) (there d among)
  where
    by : (o : Option MailboxState) → slice_get (queues_in boxes) d.0 ≡ option_map queue_in o → IsSome (slice_get (queues_in boxes) d.0) → IsSomeAnd o (λ b. 0 ≤ b.room)
    by None at h = absurd (false≢true (rw at at h))
    by (Some b) at h = omega arith

owed_there : (to : List ContextNo) (boxes : List MailboxState) → EachHas (λ b. 0 < b.owed) to boxes → AreThere to (queues_in boxes)
owed_there to boxes has d among = rw (slice_get-map queue_in boxes d.0) (by (slice_get boxes d.0) (has d among))
  where
    by : (o : Option MailboxState) → IsSomeAnd o (λ b. 0 < b.owed) → IsSome (option_map queue_in o)
    by None h = absurd h
    by (Some b) h = refl

pub opener_there : (ports : List Port) (requests : List Request) (boxes : List MailboxState) (k : ℕ) (opener : ContextNo) → AreOwed ports requests boxes → is_open_port (slice_get ports k) ≡ true → IfSome (slice_get ports k) (λ port. opener ≡ port.opener) → AreThere (opener ∷ []) (queues_in boxes)
opener_there ports requests boxes k opener owed open_now is = owed_there (opener ∷ []) boxes (opener_owed (slice_get ports k) opener boxes open_now is (ends_owed ports requests boxes k owed))

pub live_there : (ports : List Port) (requests : List Request) (boxes : List MailboxState) (k : ℕ) → AreOwed ports requests boxes → is_open_port (slice_get ports k) ≡ true → AreThere (live_of (slice_get ports k)) (queues_in boxes)
live_there ports requests boxes k owed open_now = owed_there (live_of (slice_get ports k)) boxes (live_owed (slice_get ports k) boxes open_now (ends_owed ports requests boxes k owed))

pub opener_told : {A B : Type 0} (r : Result A B) (o : Option Port) (opener : ContextNo) (e : Event) (old new : List (List Event)) → IfSome o (λ port. opener ≡ port.opener) → OnOk r (EachQueue (told_each (opener ∷ []) e) old new) → OnOk r (IfSome o (λ port. EachQueue (told_opener port e) old new))
opener_told r o opener e old new is h = on_ok r (by o is) h
  where
    by : (o : Option Port) → IfSome o (λ port. opener ≡ port.opener) → EachQueue (told_each (opener ∷ []) e) old new → IfSome o (λ port. EachQueue (told_opener port e) old new)
    by None is h = tt
    by (Some port) is h = λ d. h d ∙ ap (λ (c : ContextNo). option_map (told_each (c ∷ []) e d) (slice_get old d.0)) is

pub live_told : {A B : Type 0} (r : Result A B) (o : Option Port) (live : List ContextNo) (e : Event) (old new : List (List Event)) → live ≡ live_of o → OnOk r (EachQueue (told_each live e) old new) → OnOk r (IfSome o (λ port. EachQueue (told_each port.live e) old new))
live_told r o live e old new is h = on_ok r (by o is) h
  where
    by : (o : Option Port) → live ≡ live_of o → EachQueue (told_each live e) old new → IfSome o (λ port. EachQueue (told_each port.live e) old new)
    by None is h = tt
    by (Some port) is h = λ d. h d ∙ ap (λ l. option_map (told_each l e d) (slice_get old d.0)) is
