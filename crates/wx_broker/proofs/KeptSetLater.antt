-- The journal is legal and the tables tell it, after a call that sets one channel or one request.
use Rattle.std.proofs.Common.{◌≡◌, ℕ, List, [], ◌∷◌, ◌++◌, refl, ap, sym, ◌∙◌, true, false, cond, not}
use Rattle.std.specs.Prelude.{Option, Some, None, IfSome, reverse, slice_get, slice_set, ◌&&◌}
use Rattle.std.specs.Option.{option_map}
use Rattle.std.proofs.lemmas.Bool.{false≢true}
use Rattle.wx_id.specs.declared.numbers.ChannelNo.{ChannelNo}
use Rattle.wx_id.specs.declared.numbers.ContextNo.{ContextNo}
use Rattle.wx_id.specs.declared.numbers.HostNo.{HostNo}
use Rattle.wx_id.specs.declared.numbers.RequestNo.{RequestNo}
use Rattle.wx_external.specs.World.{WorldLists}
use Rattle.wx_machine.specs.declared.entries.Answer.{Answer}
use Rattle.wx_machine.specs.declared.entries.Entry.{Entry}
use Rattle.wx_machine.specs.declared.entries.Reason.{Reason}
use Rattle.wx_machine.specs.declared.work.Work.{Work}
use Rattle.wx_machine.specs.declared.work.Work.TheVariants.{Channel as ForChannel, Request as ForRequest}
use Rattle.wx_machine.specs.Words.{FollowsMachine, is_for_channel, is_for_request, work_of}
use Rattle.wx_port.specs.Port.{Port, closed, is_open_port}
use Rattle.wx_one_shot.specs.Requests.{Request, is_settled_at, is_unsettled_at, settled, without}
use Rattle.wx_broker.specs.Tables.{IfRequest, IsKept, is_done, is_first, is_over_at}
use Rattle.wx_broker.proofs.ClosedLater.{port_closed, port_stays, request_settled, request_stays}
use Rattle.wx_broker.proofs.KeptLater.{kept_declined, kept_disconnected, kept_ended, kept_replied, kept_said, said_entry}
use Rattle.wx_broker.proofs.PortsLater.{disconnect_entry, done_open, ended_entry, open_there}
use Rattle.wx_broker.proofs.RequestsLater.{decline_entry, done_standing, first_unsettled, open_request_there, reply_entry, unsettled_there}
use Rattle.wx_broker.proofs.TestsLater.{map_whole, not_not, row_changed}

-- after a disconnect that is answered `Done`
pub kept_parted : (world : WorldLists) (journal : List Entry) (c : ContextNo) (k : ChannelNo) (answer : Answer) (ports ports' : List Port) (rows : List Request) → IsKept world journal ports rows → FollowsMachine world (reverse journal) (disconnect_entry c k answer) → is_done answer ≡ true → IfSome (slice_get ports k.0) (λ port. ports' ≡ slice_set ports k.0 (closed port)) → IsKept world (journal ++ disconnect_entry c k answer ∷ []) ports' rows
kept_parted world journal c k answer ports ports' rows kept follows done changed =
    kept_disconnected world journal (journal ++ disconnect_entry c k answer ∷ []) c k answer ports ports' rows kept follows refl
    (row_changed closed ports ports' k.0 (is_done answer) done (open_there (slice_get ports k.0) (done_open (reverse journal) c k.0 ports answer follows.answered kept.channels done)) changed)

-- after a reply that is answered `First`
pub kept_first : (world : WorldLists) (journal : List Entry) (c : ContextNo) (r : RequestNo) (text : List ℕ) (answer : Answer) (ports : List Port) (rows rows' : List Request) → IsKept world journal ports rows → FollowsMachine world (reverse journal) (reply_entry c r text answer) → is_first answer ≡ true → IfSome (slice_get rows r.0) (λ row. rows' ≡ slice_set rows r.0 (settled row)) → IsKept world (journal ++ reply_entry c r text answer ∷ []) ports rows'
kept_first world journal c r text answer ports rows rows' kept follows first changed =
    kept_replied world journal (journal ++ reply_entry c r text answer ∷ []) c r text answer ports rows rows' kept follows refl
    (row_changed settled rows rows' r.0 (is_first answer) first (unsettled_there (slice_get rows r.0) (first_unsettled (reverse journal) c r.0 text rows answer follows.answered kept.requests first)) changed)

-- after a decline that is answered `Done`
pub kept_open_declined : (world : WorldLists) (journal : List Entry) (c : ContextNo) (r : RequestNo) (answer : Answer) (ports : List Port) (rows rows' : List Request) → IsKept world journal ports rows → FollowsMachine world (reverse journal) (decline_entry c r answer) → is_done answer ≡ true → IfSome (slice_get rows r.0) (λ row. rows' ≡ slice_set rows r.0 (without c row)) → IsKept world (journal ++ decline_entry c r answer ∷ []) ports rows'
kept_open_declined world journal c r answer ports rows rows' kept follows done changed =
    kept_declined world journal (journal ++ decline_entry c r answer ∷ []) c r answer ports rows rows' kept follows refl
    (row_changed (without c) rows rows' r.0 (is_done answer) done (open_request_there (slice_get rows r.0) c (done_standing (reverse journal) c r.0 rows answer follows.answered kept.requests done)) changed)

not_settled : (o : Option Request) → is_unsettled_at o ≡ true → is_settled_at o ≡ false
not_settled None h = absurd (false≢true h)
not_settled (Some row) h = sym (not_not row.is_settled) ∙ ap not h

-- what the table of requests is after an entry of a host that settles what it works for
abbrev WorkSettled : Option Work → List Request → List Request → Type 0
WorkSettled work rows rows' = (r : ℕ) → slice_get rows' r ≡ option_map (λ row. cond (is_for_request r work && not row.is_settled) (settled row) row) (slice_get rows r)

-- and what the table of channels is
abbrev WorkClosed : Option Work → List Port → List Port → Type 0
WorkClosed work ports ports' = (k : ℕ) → slice_get ports' k ≡ option_map (λ port. cond (is_for_channel k work && port.is_open) (closed port) port) (slice_get ports k)

work_settled : (work : Option Work) (r : RequestNo) (rows rows' : List Request) → work ≡ Some (ForRequest r) → is_unsettled_at (slice_get rows r.0) ≡ true → IfSome (slice_get rows r.0) (λ row. rows' ≡ slice_set rows r.0 (settled row)) → WorkSettled work rows rows'
work_settled work r rows rows' works there changed j =
    rw works (request_settled rows rows' r.0 (not_settled (slice_get rows r.0) there) there changed j)

work_closed : (work : Option Work) (k : ChannelNo) (ports ports' : List Port) → work ≡ Some (ForChannel k) → is_open_port (slice_get ports k.0) ≡ true → IfSome (slice_get ports k.0) (λ port. ports' ≡ slice_set ports k.0 (closed port)) → WorkClosed work ports ports'
work_closed work k ports ports' works opened changed j = rw works (port_closed ports ports' k.0 opened changed j)

-- the requests stay where the host works for none that is unsettled
requests_still : (work : Option Work) (rows : List Request) → IfRequest work (λ r. is_settled_at (slice_get rows r) ≡ true) → WorkSettled work rows rows
requests_still None rows over j = map_whole (slice_get rows j)
requests_still (Some (ForChannel k)) rows over j = map_whole (slice_get rows j)
requests_still (Some (ForRequest r)) rows over j = request_stays rows r.0 over j

channels_still : (work : Option Work) (ports : List Port) (rows : List Request) → is_over_at ports rows work ≡ true → WorkClosed work ports ports
channels_still None ports rows over j = map_whole (slice_get ports j)
channels_still (Some (ForChannel k)) ports rows over j = port_stays ports k.0 (sym (not_not (is_open_port (slice_get ports k.0))) ∙ ap not over) j
channels_still (Some (ForRequest r)) ports rows over j = map_whole (slice_get ports j)

-- after a host has said its reply
pub kept_host_said : (world : WorldLists) (journal : List Entry) (h : HostNo) (text : List ℕ) (answer : Answer) (r : RequestNo) (ports : List Port) (rows rows' : List Request) → IsKept world journal ports rows → FollowsMachine world (reverse journal) (said_entry h text answer) → work_of (reverse journal) h ≡ Some (ForRequest r) → is_unsettled_at (slice_get rows r.0) ≡ true → IfSome (slice_get rows r.0) (λ row. rows' ≡ slice_set rows r.0 (settled row)) → IsKept world (journal ++ said_entry h text answer ∷ []) ports rows'
kept_host_said world journal h text answer r ports rows rows' kept follows works there changed =
    kept_said world journal (journal ++ said_entry h text answer ∷ []) h text answer ports rows rows' kept follows refl
    (work_settled (work_of (reverse journal) h) r rows rows' works there changed)

-- after a host has said something else
pub kept_host_said_else : (world : WorldLists) (journal : List Entry) (h : HostNo) (text : List ℕ) (answer : Answer) (ports : List Port) (rows : List Request) → IsKept world journal ports rows → FollowsMachine world (reverse journal) (said_entry h text answer) → IfRequest (work_of (reverse journal) h) (λ r. is_settled_at (slice_get rows r) ≡ true) → IsKept world (journal ++ said_entry h text answer ∷ []) ports rows
kept_host_said_else world journal h text answer ports rows kept follows over =
    kept_said world journal (journal ++ said_entry h text answer ∷ []) h text answer ports rows rows kept follows refl
    (requests_still (work_of (reverse journal) h) rows over)

-- after the end of the host of an open channel
pub kept_host_ended_channel : (world : WorldLists) (journal : List Entry) (h : HostNo) (reason : Reason) (answer : Answer) (k : ChannelNo) (ports ports' : List Port) (rows : List Request) → IsKept world journal ports rows → FollowsMachine world (reverse journal) (ended_entry h reason answer) → work_of (reverse journal) h ≡ Some (ForChannel k) → is_open_port (slice_get ports k.0) ≡ true → IfSome (slice_get ports k.0) (λ port. ports' ≡ slice_set ports k.0 (closed port)) → IsKept world (journal ++ ended_entry h reason answer ∷ []) ports' rows
kept_host_ended_channel world journal h reason answer k ports ports' rows kept follows works opened changed =
    kept_ended world journal (journal ++ ended_entry h reason answer ∷ []) h reason answer ports ports' rows rows kept follows refl
    (work_closed (work_of (reverse journal) h) k ports ports' works opened changed)
    (λ r. rw works (map_whole (slice_get rows r)))

-- after the end of the host of an unsettled request
pub kept_host_ended_request : (world : WorldLists) (journal : List Entry) (h : HostNo) (reason : Reason) (answer : Answer) (r : RequestNo) (ports : List Port) (rows rows' : List Request) → IsKept world journal ports rows → FollowsMachine world (reverse journal) (ended_entry h reason answer) → work_of (reverse journal) h ≡ Some (ForRequest r) → is_unsettled_at (slice_get rows r.0) ≡ true → IfSome (slice_get rows r.0) (λ row. rows' ≡ slice_set rows r.0 (settled row)) → IsKept world (journal ++ ended_entry h reason answer ∷ []) ports rows'
kept_host_ended_request world journal h reason answer r ports rows rows' kept follows works there changed =
    kept_ended world journal (journal ++ ended_entry h reason answer ∷ []) h reason answer ports ports rows rows' kept follows refl
    (λ k. rw works (map_whole (slice_get ports k)))
    (work_settled (work_of (reverse journal) h) r rows rows' works there changed)

-- after the end of a host whose work was over
pub kept_host_ended_over : (world : WorldLists) (journal : List Entry) (h : HostNo) (reason : Reason) (answer : Answer) (ports : List Port) (rows : List Request) → IsKept world journal ports rows → FollowsMachine world (reverse journal) (ended_entry h reason answer) → is_over_at ports rows (work_of (reverse journal) h) ≡ true → IsKept world (journal ++ ended_entry h reason answer ∷ []) ports rows
kept_host_ended_over world journal h reason answer ports rows kept follows over =
    kept_ended world journal (journal ++ ended_entry h reason answer ∷ []) h reason answer ports ports rows rows kept follows refl
    (channels_still (work_of (reverse journal) h) ports rows over)
    (requests_still (work_of (reverse journal) h) rows (settled_work (work_of (reverse journal) h) over))
  where
    settled_work : (work : Option Work) → is_over_at ports rows work ≡ true → IfRequest work (λ r. is_settled_at (slice_get rows r) ≡ true)
    settled_work None over = tt
    settled_work (Some (ForChannel k)) over = tt
    settled_work (Some (ForRequest r)) over = over
