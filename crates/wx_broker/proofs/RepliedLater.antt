-- What a reply makes of the queues: a receiver's, and a host's.
use Rattle.std.proofs.Common.{◌≡◌, ℕ, ◌<◌, ◌≤◌, List, ◌∷◌, ◌++◌, length, refl, ap, sym, ◌∙◌, Bool, true, false, cond, not, arith, subst, append-nil, map}
use Rattle.std.specs.Prelude.{Option, Some, None, IfSome, slice_get}
use Rattle.std.specs.Option.{option_map}
use Rattle.std.proofs.lemmas.Bool.{false≢true}
use Rattle.wx_id.specs.Contexts.{same_context}
use Rattle.wx_id.specs.declared.numbers.ContextNo.{ContextNo}
use Rattle.wx_id.specs.declared.numbers.RequestNo.{RequestNo}
use Rattle.wx_id.specs.declared.numbers.EntryNo.{EntryNo}
use Rattle.wx_id.specs.declared.numbers.HostNo.{HostNo}
use Rattle.wx_id.specs.declared.events.Event.{Event}
use Rattle.wx_id.specs.declared.events.EventKind.{EventKind}
use Rattle.wx_id.specs.declared.events.EventKind.TheVariants.{Replied}
use Rattle.wx_external.specs.World.{WorldLists}
use Rattle.wx_machine.specs.declared.entries.Who.TheVariants.{Context as ByContext}
use Rattle.wx_machine.specs.declared.entries.Call.TheVariants.{Reply}
use Rattle.wx_machine.specs.declared.entries.Answer.{Answer}
use Rattle.wx_machine.specs.declared.entries.Answer.TheVariants.{First, Ignored, Passed}
use Rattle.wx_machine.specs.declared.entries.Entry.{Entry}
use Rattle.wx_machine.specs.declared.work.Work.TheVariants.{Request as ForRequest}
use Rattle.wx_machine.specs.Words.{channels, delivered, is_asker, is_settled, marked, on, Parties, replied, request, requests, said_for, work_of}
use Rattle.wx_one_shot.specs.Requests.{Request, is_unsettled_at}
use Rattle.wx_tables.specs.State.{in_entry}
use Rattle.wx_tables.specs.Asking.{told_asker}
use Rattle.wx_tables.specs.Ending.{EachQueue}
use Rattle.wx_laws.specs.Legal.{IsLegalPast}
use Rattle.wx_broker.specs.Tables.{request_said, HasRequests, is_first, IsWithin}
use Rattle.wx_broker.proofs.KeptLater.{said_entry}
use Rattle.wx_broker.proofs.RequestsLater.{first_unsettled, reply_entry}
use Rattle.wx_broker.proofs.TestsLater.{outside}
use Rattle.wx_broker.proofs.WorkLater.{work_within}
use Rattle.wx_broker.specs.Told.{HasPending}
use Rattle.wx_broker.proofs.HeardLater.{heard_marked}
use Rattle.wx_broker.proofs.PendingLater.{keeps_all, pending_told}

-- what waits after an entry that tells the asker of an unsettled request its outcome
pub pending_asker : (world : WorldLists) (past : List Entry) (e : Entry) (r : RequestNo) (kind : EventKind) (rows : List Request) (queues queues' : List (List Event)) (n : EntryNo) → n.0 ≡ length past → IsLegalPast world (e ∷ past) → HasRequests past rows → HasPending past queues → keeps_all e.call e.answer ≡ true → is_unsettled_at (slice_get rows r.0) ≡ true → ((d : ContextNo) → delivered past e d ≡ map (marked (length past)) (on (is_asker (request past r.0) d) kind)) → IfSome (slice_get rows r.0) (λ asked. EachQueue (told_asker true asked (in_entry n kind)) queues queues') → HasPending (e ∷ past) queues'
pending_asker world past e r kind rows queues queues' n at legal has waits keeps there tells changed =
    by (request past r.0) refl (subst (λ o. is_unsettled_at o ≡ true) (has r.0) there) (subst (λ o. IfSome o (λ asked. EachQueue (told_asker true asked (in_entry n kind)) queues queues')) (has r.0) changed)
  where
    by : (o : Option Parties) → request past r.0 ≡ o → is_unsettled_at (option_map (request_said past r.0) o) ≡ true → IfSome (option_map (request_said past r.0) o) (λ asked. EachQueue (told_asker true asked (in_entry n kind)) queues queues') → HasPending (e ∷ past) queues'
    by None is unsettled change = absurd (false≢true unsettled)
    by (Some parties) is unsettled change =
        pending_told world past e (told_asker true (request_said past r.0 parties) (in_entry n kind)) queues queues' legal waits keeps change
        (λ d queue. heard_marked n (length past) (same_context parties.asker d) kind queue at ∙ ap (λ o. queue ++ map (marked (length past)) (on (is_asker o d) kind)) (sym is) ∙ ap (λ l. queue ++ l) (sym (tells d)))

replied_is : (past : List Entry) (c : ContextNo) (r : RequestNo) (text : List ℕ) (answer : Answer) (d : ContextNo) → is_first answer ≡ true → replied past (ByContext c) (Reply r text) answer d ≡ on (is_asker (request past r.0) d) (Replied r)
replied_is past c r text First d first = refl
replied_is past c r text answer d first = absurd (false≢true first)

-- what waits after a reply that is answered `First`
pub pending_replied : (world : WorldLists) (past : List Entry) (c : ContextNo) (r : RequestNo) (text : List ℕ) (answer : Answer) (rows : List Request) (queues queues' : List (List Event)) (n : EntryNo) → n.0 ≡ length past → IsLegalPast world (reply_entry c r text answer ∷ past) → HasRequests past rows → HasPending past queues → is_first answer ≡ true → IfSome (slice_get rows r.0) (λ asked. EachQueue (told_asker true asked (in_entry n (Replied r))) queues queues') → HasPending (reply_entry c r text answer ∷ past) queues'
pending_replied world past c r text answer rows queues queues' n at legal has waits first changed =
    pending_asker world past (reply_entry c r text answer) r (Replied r) rows queues queues' n at legal has waits refl
    (first_unsettled past c r.0 text rows answer legal.1.answered has first)
    (λ d. ap (map (marked (length past))) (append-nil (replied past (ByContext c) (Reply r text) answer d) ∙ replied_is past c r text answer d first))
    changed

-- a host whose text is passed to its request finds it unsettled
pub passed_unsettled : (past : List Entry) (h : HostNo) (r : RequestNo) (rows : List Request) → Passed ≡ said_for past (work_of past h) → HasRequests past rows → work_of past h ≡ Some (ForRequest r) → is_unsettled_at (slice_get rows r.0) ≡ true
passed_unsettled past h r rows answered has works = ap is_unsettled_at (has r.0) ∙ by (request past r.0) refl
  where
    open_now : (b : Bool) → Passed ≡ cond b Ignored Passed → b ≡ false
    open_now true h = absurd (cc)
    open_now false h = refl

    by : (o : Option Parties) → request past r.0 ≡ o → is_unsettled_at (option_map (request_said past r.0) o) ≡ true
    by None at =
        let past_end : length (requests past) ≤ r.0 = outside (requests past) r.0 at in
        let within : r.0 < length (requests past) = subst (IsWithin (length (channels past)) (length (requests past))) works (work_within past h) in
        absurd (omega (arith, past_end, within))
    by (Some parties) at = ap not (open_now (is_settled past r.0) (answered ∙ ap (said_for past) works))

-- what waits after a host has said its reply
pub pending_answered : (world : WorldLists) (past : List Entry) (h : HostNo) (text : List ℕ) (r : RequestNo) (rows : List Request) (queues queues' : List (List Event)) (n : EntryNo) → n.0 ≡ length past → IsLegalPast world (said_entry h text Passed ∷ past) → HasRequests past rows → HasPending past queues → work_of past h ≡ Some (ForRequest r) → IfSome (slice_get rows r.0) (λ asked. EachQueue (told_asker true asked (in_entry n (Replied r))) queues queues') → HasPending (said_entry h text Passed ∷ past) queues'
pending_answered world past h text r rows queues queues' n at legal has waits works changed =
    pending_asker world past (said_entry h text Passed) r (Replied r) rows queues queues' n at legal has waits refl
    (passed_unsettled past h r rows legal.1.answered has works)
    tells
    changed
  where
    tells : (d : ContextNo) → delivered past (said_entry h text Passed) d ≡ map (marked (length past)) (on (is_asker (request past r.0) d) (Replied r))
    tells d = rw works (ap (map (marked (length past))) (append-nil (on (is_asker (request past r.0) d) (Replied r))))
