-- What the end of a host makes of the queues, and what it says once its channel is closed.
use Rattle.std.proofs.Common.{◌≡◌, ℕ, List, [], ◌∷◌, ◌++◌, length, refl, ap, sym, ◌∙◌, Bool, true, false, cond, not, subst, append-nil, map}
use Rattle.std.specs.Prelude.{Option, Some, None, IfSome, slice_get, ◌&&◌}
use Rattle.std.specs.Option.{option_map}
use Rattle.std.proofs.lemmas.Bool.{false≢true}
use Rattle.wx_id.specs.Contexts.{is_among, same_context}
use Rattle.wx_id.specs.declared.numbers.ChannelNo.{ChannelNo}
use Rattle.wx_id.specs.declared.numbers.ContextNo.{ContextNo}
use Rattle.wx_id.specs.declared.numbers.EntryNo.{EntryNo}
use Rattle.wx_id.specs.declared.numbers.HostNo.{HostNo}
use Rattle.wx_id.specs.declared.numbers.RequestNo.{RequestNo}
use Rattle.wx_id.specs.declared.events.Event.{Event}
use Rattle.wx_id.specs.declared.events.EventKind.TheVariants.{Closed, Disconnected}
use Rattle.wx_id.specs.declared.events.End.TheVariants.{Neither, Opener, Receiver}
use Rattle.wx_external.specs.World.{WorldLists}
use Rattle.wx_machine.specs.declared.entries.Answer.{Answer}
use Rattle.wx_machine.specs.declared.entries.Answer.TheVariants.{PortClosed}
use Rattle.wx_machine.specs.declared.entries.Entry.{Entry}
use Rattle.wx_machine.specs.declared.entries.Reason.{Reason}
use Rattle.wx_machine.specs.declared.entries.Who.TheVariants.{Host as ByHost}
use Rattle.wx_machine.specs.declared.work.Work.{Work}
use Rattle.wx_machine.specs.declared.work.Work.TheVariants.{Channel as ForChannel, Request as ForRequest}
use Rattle.wx_machine.specs.Words.{channel, closes, delivered, disconnected_on, Ends, goes, goes_to, host_disconnected, host_unanswered}
use Rattle.wx_machine.specs.Words.{is_asker, is_closed, is_live, is_over, is_settled, marked, on, Parties, request, settles, work_of}
use Rattle.wx_port.specs.Port.{Port, is_open_port}
use Rattle.wx_one_shot.specs.Requests.{Request, is_unsettled_at}
use Rattle.wx_tables.specs.State.{in_entry}
use Rattle.wx_tables.specs.Asking.{told_asker}
use Rattle.wx_tables.specs.Ending.{EachQueue, told_each}
use Rattle.wx_laws.specs.Legal.{IsLegalPast}
use Rattle.wx_broker.specs.Tables.{port_said, request_said, HasChannels, HasRequests, is_over_at}
use Rattle.wx_broker.proofs.HostsLater.{over_is}
use Rattle.wx_broker.proofs.KeptLater.{said_entry}
use Rattle.wx_broker.proofs.PortsLater.{ended_entry}
use Rattle.wx_broker.proofs.TestsLater.{and_true, not_not, or_false, same_self}
use Rattle.wx_broker.specs.Told.{HasPending}
use Rattle.wx_broker.proofs.HeardLater.{heard_marked}
use Rattle.wx_broker.proofs.PendingLater.{pending_same, pending_told}
use Rattle.wx_broker.proofs.RepliedLater.{pending_asker}

-- the end of a host delivers that its channel has ended, to the opener
ends_delivered : (past : List Entry) (h : HostNo) (reason : Reason) (answer : Answer) (k : ChannelNo) (d : ContextNo) (ends : Ends) → work_of past h ≡ Some (ForChannel k) → channel past k.0 ≡ Some ends → is_closed past k.0 ≡ false → delivered past (ended_entry h reason answer) d ≡ map (marked (length past)) (on (same_context ends.opener d) (Disconnected k))
ends_delivered past h reason answer k d ends works is opened =
    ap (λ work. map (marked (length past)) (host_disconnected past e work d ++ host_unanswered past e work d)) works
    ∙ ap (map (marked (length past))) (append-nil (disconnected_on past e d k.0) ∙ ap (λ b. on b (Disconnected k)) told)
  where
    e : Entry
    e = ended_entry h reason answer

    closing : closes past e k.0 ≡ true
    closing = rw (opened, works) (same_self k.0)

    side : (s a live : Bool) → goes Receiver (cond s Opener (cond a Receiver Neither)) live ≡ s
    side true a live = refl
    side false true live = refl
    side false false live = refl

    told : (closes past e k.0 && goes_to past (channel past k.0) (ByHost h) d) ≡ same_context ends.opener d
    told =
        ap (λ b. b && goes_to past (channel past k.0) (ByHost h) d) closing
        ∙ ap (λ o. goes_to past o (ByHost h) d) is
        ∙ side (same_context ends.opener d) (is_among ends.receivers d) (is_live past d)

-- what waits after the end of the host of an open channel
pub pending_ended_channel : (world : WorldLists) (past : List Entry) (h : HostNo) (reason : Reason) (answer : Answer) (k : ChannelNo) (ports : List Port) (queues queues' : List (List Event)) (n : EntryNo) → n.0 ≡ length past → IsLegalPast world (ended_entry h reason answer ∷ past) → HasChannels past ports → HasPending past queues → work_of past h ≡ Some (ForChannel k) → is_open_port (slice_get ports k.0) ≡ true → IfSome (slice_get ports k.0) (λ port. EachQueue (told_each (port.opener ∷ []) (in_entry n (Disconnected k))) queues queues') → HasPending (ended_entry h reason answer ∷ past) queues'
pending_ended_channel world past h reason answer k ports queues queues' n at legal has waits works opened changed =
    by (channel past k.0) refl (subst (λ o. is_open_port o ≡ true) (has k.0) opened) (subst (λ o. IfSome o (λ port. EachQueue (told_each (port.opener ∷ []) (in_entry n (Disconnected k))) queues queues')) (has k.0) changed)
  where
    e : Entry
    e = ended_entry h reason answer

    by : (o : Option Ends) → channel past k.0 ≡ o → is_open_port (option_map (port_said past k.0) o) ≡ true → IfSome (option_map (port_said past k.0) o) (λ port. EachQueue (told_each (port.opener ∷ []) (in_entry n (Disconnected k))) queues queues') → HasPending (e ∷ past) queues'
    by None is open_now change = absurd (false≢true open_now)
    by (Some ends) is open_now change =
        pending_told world past e (told_each (ends.opener ∷ []) (in_entry n (Disconnected k))) queues queues' legal waits refl change
        (λ d queue. heard_marked n (length past) (is_among (ends.opener ∷ []) d) (Disconnected k) queue at
        ∙ ap (λ b. queue ++ map (marked (length past)) (on b (Disconnected k))) (or_false (same_context ends.opener d))
        ∙ ap (λ l. queue ++ l) (sym (ends_delivered past h reason answer k d ends works is (sym (not_not (is_closed past k.0)) ∙ ap not open_now))))

-- the journal has a request as unsettled that the table has so
unsettled_said : (past : List Entry) (r : ℕ) (o : Option Parties) → is_unsettled_at (option_map (request_said past r) o) ≡ true → is_settled past r ≡ false
unsettled_said past r None h = absurd (false≢true h)
unsettled_said past r (Some parties) h = sym (not_not (is_settled past r)) ∙ ap not h

-- what waits after the end of the host of an unsettled request
pub pending_ended_request : (world : WorldLists) (past : List Entry) (h : HostNo) (reason : Reason) (answer : Answer) (r : RequestNo) (rows : List Request) (queues queues' : List (List Event)) (n : EntryNo) → n.0 ≡ length past → IsLegalPast world (ended_entry h reason answer ∷ past) → HasRequests past rows → HasPending past queues → work_of past h ≡ Some (ForRequest r) → is_unsettled_at (slice_get rows r.0) ≡ true → IfSome (slice_get rows r.0) (λ asked. EachQueue (told_asker true asked (in_entry n (Closed r))) queues queues') → HasPending (ended_entry h reason answer ∷ past) queues'
pending_ended_request world past h reason answer r rows queues queues' n at legal has waits works there changed =
    pending_asker world past e r (Closed r) rows queues queues' n at legal has waits refl there tells changed
  where
    e : Entry
    e = ended_entry h reason answer

    unsettled : is_settled past r.0 ≡ false
    unsettled = unsettled_said past r.0 (request past r.0) (subst (λ o. is_unsettled_at o ≡ true) (has r.0) there)

    settling : settles past e r.0 ≡ true
    settling = rw (unsettled, works) (same_self r.0)

    tells : (d : ContextNo) → delivered past e d ≡ map (marked (length past)) (on (is_asker (request past r.0) d) (Closed r))
    tells d =
        ap (λ work. map (marked (length past)) (host_disconnected past e work d ++ host_unanswered past e work d)) works
        ∙ ap (λ b. map (marked (length past)) (on ((b && is_asker (request past r.0) d) && true) (Closed r))) settling
        ∙ ap (λ b. map (marked (length past)) (on b (Closed r))) (and_true (is_asker (request past r.0) d))

-- what waits after the end of a host whose work was over
pub pending_ended_over : (world : WorldLists) (past : List Entry) (h : HostNo) (reason : Reason) (answer : Answer) (ports : List Port) (rows : List Request) (queues : List (List Event)) → IsLegalPast world (ended_entry h reason answer ∷ past) → HasChannels past ports → HasRequests past rows → HasPending past queues → is_over_at ports rows (work_of past h) ≡ true → HasPending (ended_entry h reason answer ∷ past) queues
pending_ended_over world past h reason answer ports rows queues legal has_ports has_rows waits over =
    pending_same world past e queues legal waits refl
    (λ d. ap (map (marked (length past))) (none d (work_of past h) (sym (over_is past ports rows h has_ports has_rows) ∙ over)))
  where
    e : Entry
    e = ended_entry h reason answer

    none : (d : ContextNo) (work : Option Work) → is_over past work ≡ true → host_disconnected past e work d ++ host_unanswered past e work d ≡ []
    none d None h = absurd (false≢true h)
    none d (Some (ForChannel k)) h = rw h refl
    none d (Some (ForRequest r)) h = rw h refl

-- what waits after a host has said something on a channel that is closed
pub pending_said_over : (world : WorldLists) (past : List Entry) (h : HostNo) (text : List ℕ) (queues : List (List Event)) → IsLegalPast world (said_entry h text PortClosed ∷ past) → HasPending past queues → HasPending (said_entry h text PortClosed ∷ past) queues
pending_said_over world past h text queues legal waits =
    pending_same world past (said_entry h text PortClosed) queues legal waits refl (λ d. refl)
