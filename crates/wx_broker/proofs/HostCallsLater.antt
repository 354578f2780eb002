-- The tables tell the journal after a call of a native host.
use Rattle.std.proofs.Common.{◌≡◌, ℕ, List, [], ◌∷◌, ◌++◌, length, refl, ap, sym, ◌∙◌, Bool, true, false, cond, not}
use Rattle.std.specs.Prelude.{Option, Some, None, IfSome, is_some, reverse, slice_get, slice_set, ◌==◌, ◌||◌}
use Rattle.std.specs.Option.{option_map}
use Rattle.std.proofs.lemmas.Bool.{false≢true, true≢false}
use Rattle.std.proofs.lemmas.List.{length-reverse}
use Rattle.wx_id.specs.declared.numbers.ChannelNo.{ChannelNo}
use Rattle.wx_id.specs.declared.numbers.EntryNo.{EntryNo}
use Rattle.wx_id.specs.declared.numbers.HostNo.{HostNo}
use Rattle.wx_id.specs.declared.numbers.RequestNo.{RequestNo}
use Rattle.wx_id.specs.declared.events.EventKind.TheVariants.{Closed, Disconnected, Message, Replied}
use Rattle.wx_external.specs.World.{WorldLists}
use Rattle.wx_machine.specs.declared.entries.Call.{Call}
use Rattle.wx_machine.specs.declared.entries.Call.TheVariants.{HostTake, HostSaid, HostEnded}
use Rattle.wx_machine.specs.declared.entries.Answer.{Answer}
use Rattle.wx_machine.specs.declared.entries.Answer.TheVariants.{Text as HasText, End as NoMore, Ignored, Passed, PortClosed, Done}
use Rattle.wx_machine.specs.declared.entries.Entry.{Entry}
use Rattle.wx_machine.specs.declared.entries.Reason.{Reason}
use Rattle.wx_machine.specs.declared.work.Work.{Work}
use Rattle.wx_machine.specs.declared.work.Work.TheVariants.{Channel as ForChannel, Request as ForRequest}
use Rattle.wx_machine.specs.Words.{FollowsMachine, has_ended, is_closed, is_over, is_settled, next_text, said_for, text_or_end, work_of}
use Rattle.wx_port.specs.Port.{Port, closed, is_open_port}
use Rattle.wx_one_shot.specs.Requests.{Request, is_settled_at, is_unsettled_at, settled}
use Rattle.wx_roster.specs.declared.roster.Member.{Member}
use Rattle.wx_tables.specs.State.{TablesState, in_entry}
use Rattle.wx_tables.specs.Asking.{told_asker}
use Rattle.wx_tables.specs.Ending.{EachQueue, told_each, told_opener}
use Rattle.wx_native_hosts.specs.Hosts.{HostState, ended, knowing, refused, took}
use Rattle.wx_broker.specs.Tables.{HasChannels, HasRequests, IfRequest, IsKept, is_over_at, text_told}
use Rattle.wx_broker.proofs.HostsLater.{over_is}
use Rattle.wx_broker.proofs.KeptLater.{kept_quiet}
use Rattle.wx_broker.proofs.RequestsLater.{unsettled_there}
use Rattle.wx_broker.proofs.PortsLater.{open_there}
use Rattle.wx_broker.proofs.TestsLater.{not_not}
use Rattle.wx_broker.specs.Calm.{is_empty}
use Rattle.wx_broker.specs.Told.{IsTold, HasHosts, HasPending}
use Rattle.wx_broker.proofs.ContextsLater as contexts_later
use Rattle.wx_broker.proofs.EndedLater.{pending_ended_channel, pending_ended_over, pending_ended_request, pending_said_over}
use Rattle.wx_broker.proofs.KeptSetLater.{kept_host_ended_channel, kept_host_ended_over, kept_host_ended_request, kept_host_said, kept_host_said_else}
use Rattle.wx_broker.proofs.MessagesLater.{pending_heard}
use Rattle.wx_broker.proofs.NativeHostsLater as hosts_later
use Rattle.wx_broker.proofs.PendingLater.{pending_same}
use Rattle.wx_broker.proofs.RepliedLater.{passed_unsettled, pending_answered}
use Rattle.wx_broker.proofs.ToldLater.{not_enter, same_length_if, told_next, told_tables}

-- a call of a host that may change the rows of the hosts
told_by_host : (world : WorldLists) (journal new : List Entry) (h : HostNo) (call : Call) (answer : Answer) (roster : List Member) (tables tables' : TablesState) (rows rows' : List HostState) → let e : Entry = hosts_later.host_entry h call answer in
    IsTold world journal roster tables rows
    → new ≡ journal ++ e ∷ []
    → contexts_later.is_of_contexts call ≡ false
    → IsKept world (journal ++ e ∷ []) tables'.ports tables'.requests
    → length tables'.queues ≡ length tables.queues
    → HasPending (e ∷ reverse journal) tables'.queues
    → HasHosts world (e ∷ reverse journal) rows'
    → length rows' ≡ length rows
    → IsTold world new roster tables' rows'
told_by_host world journal new h call answer roster tables tables' rows rows' told grown calm kept same waits started count =
    let past = reverse journal in
    let e : Entry = hosts_later.host_entry h call answer in
    told_next world journal new e roster tables' rows' grown kept
    (contexts_later.contexts_kept past e roster calm told.came)
    (contexts_later.count_kept past e roster (not_enter call calm) told.count)
    (rw same told.there)
    waits started
    (hosts_later.count_by_host past h call answer rows rows' count told.started_count)

-- a call of a host that changes only the rows of the hosts
told_of_rows : (world : WorldLists) (journal new : List Entry) (h : HostNo) (answer : Answer) (roster : List Member) (tables : TablesState) (rows rows' : List HostState) → let e : Entry = hosts_later.host_entry h HostTake answer in
    IsTold world journal roster tables rows
    → FollowsMachine world (reverse journal) e
    → new ≡ journal ++ e ∷ []
    → HasHosts world (e ∷ reverse journal) rows'
    → length rows' ≡ length rows
    → IsTold world new roster tables rows'
told_of_rows world journal new h answer roster tables rows rows' told follows grown started count =
    let e : Entry = hosts_later.host_entry h HostTake answer in
    told_by_host world journal new h HostTake answer roster tables tables rows rows' told grown refl
    (kept_quiet world journal (journal ++ e ∷ []) e tables.ports tables.requests told.kept follows refl refl)
    refl
    (pending_same world (reverse journal) e tables.queues (told.kept.legal, follows) told.waits refl (λ d. refl))
    started count

-- after a host took its next text
pub told_took : (world : WorldLists) (journal new : List Entry) (h : HostNo) (answer : Answer) (roster : List Member) (tables : TablesState) (rows rows' : List HostState) → let e : Entry = hosts_later.host_entry h HostTake answer in
    IsTold world journal roster tables rows
    → FollowsMachine world (reverse journal) e
    → is_some (text_told answer) ≡ true
    → new ≡ journal ++ e ∷ []
    → ((g : HostNo) → slice_get rows' g.0 ≡ option_map (λ host. cond (h.0 == g.0) (took host) host) (slice_get rows g.0))
    → length rows' ≡ length rows
    → IsTold world new roster tables rows'
told_took world journal new h (HasText n) roster tables rows rows' told follows is grown changed count =
    told_of_rows world journal new h (HasText n) roster tables rows rows' told follows grown
    (hosts_later.hosts_took world (reverse journal) h n rows rows' (told.kept.legal, follows) told.started changed) count
told_took world journal new h answer roster tables rows rows' told follows is grown changed count = absurd (false≢true is)

-- what is neither a text nor for later is the end
is_end : (answer : Answer) (next : Option EntryNo) (over : Bool) → answer ≡ text_or_end next over → is_some (text_told answer) ≡ false → is_empty answer ≡ false → answer ≡ NoMore
is_end answer (Some n) over is text empty = absurd (true≢false (sym (ap (λ a. is_some (text_told a)) is) ∙ text))
is_end answer None true is text empty = is
is_end answer None false is text empty = absurd (true≢false (sym (ap is_empty is) ∙ empty))

told_no_more : (world : WorldLists) (journal new : List Entry) (h : HostNo) (answer : Answer) (roster : List Member) (tables : TablesState) (rows rows' : List HostState) → answer ≡ NoMore → let e : Entry = hosts_later.host_entry h HostTake answer in
    IsTold world journal roster tables rows
    → FollowsMachine world (reverse journal) e
    → new ≡ journal ++ e ∷ []
    → ((g : HostNo) → slice_get rows' g.0 ≡ option_map (λ host. cond (h.0 == g.0) (knowing host) host) (slice_get rows g.0))
    → length rows' ≡ length rows
    → IsTold world new roster tables rows'
told_no_more world journal new h NoMore roster tables rows rows' is told follows grown changed count =
    told_of_rows world journal new h NoMore roster tables rows rows' told follows grown
    (hosts_later.hosts_told_end world (reverse journal) h rows rows' told.kept.legal told.started changed) count
told_no_more world journal new h answer roster tables rows rows' is told follows grown changed count = absurd (cc)

-- after a host was told that no text comes any more
pub told_end : (world : WorldLists) (journal new : List Entry) (h : HostNo) (answer : Answer) (roster : List Member) (tables : TablesState) (rows rows' : List HostState) → let e : Entry = hosts_later.host_entry h HostTake answer in
    IsTold world journal roster tables rows
    → FollowsMachine world (reverse journal) e
    → is_some (text_told answer) ≡ false
    → is_empty answer ≡ false
    → new ≡ journal ++ e ∷ []
    → ((g : HostNo) → slice_get rows' g.0 ≡ option_map (λ host. cond (h.0 == g.0) (knowing host) host) (slice_get rows g.0))
    → length rows' ≡ length rows
    → IsTold world new roster tables rows'
told_end world journal new h answer roster tables rows rows' told follows text empty grown changed count =
    told_no_more world journal new h answer roster tables rows rows'
    (is_end answer (next_text (reverse journal) h) (has_ended (reverse journal) h || is_over (reverse journal) (work_of (reverse journal) h)) follows.answered text empty)
    told follows grown changed count

-- What a host says.

-- a host that is told its channel is closed works for no request
refused_else : (past : List Entry) (rows : List Request) (work : Option Work) → PortClosed ≡ said_for past work → IfRequest work (λ r. is_settled_at (slice_get rows r) ≡ true)
refused_else past rows None is = tt
refused_else past rows (Some (ForChannel k)) is = tt
refused_else past rows (Some (ForRequest r)) is = by (is_settled past r.0) is
  where
    by : (b : Bool) → PortClosed ≡ cond b Ignored Passed → is_settled_at (slice_get rows r.0) ≡ true
    by true h = absurd (cc)
    by false h = absurd (cc)

-- after a host said something on a channel that is closed
pub told_refused : (world : WorldLists) (journal new : List Entry) (h : HostNo) (text : List ℕ) (roster : List Member) (tables : TablesState) (rows rows' : List HostState) → let e : Entry = hosts_later.host_entry h (HostSaid text) PortClosed in
    IsTold world journal roster tables rows
    → FollowsMachine world (reverse journal) e
    → new ≡ journal ++ e ∷ []
    → ((g : HostNo) → slice_get rows' g.0 ≡ option_map (λ host. cond (h.0 == g.0) (refused host) host) (slice_get rows g.0))
    → length rows' ≡ length rows
    → IsTold world new roster tables rows'
told_refused world journal new h text roster tables rows rows' told follows grown changed count =
    told_by_host world journal new h (HostSaid text) PortClosed roster tables tables rows rows' told grown refl
    (kept_host_said_else world journal h text PortClosed tables.ports tables.requests told.kept follows (refused_else (reverse journal) tables.requests (work_of (reverse journal) h) follows.answered))
    refl
    (pending_said_over world (reverse journal) h text tables.queues (told.kept.legal, follows) told.waits)
    (hosts_later.hosts_refused world (reverse journal) h text rows rows' told.kept.legal told.started changed)
    count

-- the channel of a host is open where it goes on
pub goes_on_open : (past : List Entry) (ports : List Port) (rows : List Request) (h : HostNo) (k : ChannelNo) → HasChannels past ports → HasRequests past rows → work_of past h ≡ Some (ForChannel k) → is_closed past k.0 ≡ false → is_open_port (slice_get ports k.0) ≡ true
goes_on_open past ports rows h k has_ports has_rows works open_now =
    let same : is_over_at ports rows (Some (ForChannel k)) ≡ is_over past (Some (ForChannel k)) = sym (ap (is_over_at ports rows) works) ∙ over_is past ports rows h has_ports has_rows ∙ ap (is_over past) works in
    sym (not_not (is_open_port (slice_get ports k.0))) ∙ ap not (same ∙ open_now)

-- and so where its message was passed on
pub passed_open : (past : List Entry) (ports : List Port) (rows : List Request) (h : HostNo) (k : ChannelNo) → HasChannels past ports → HasRequests past rows → work_of past h ≡ Some (ForChannel k) → Passed ≡ said_for past (work_of past h) → is_open_port (slice_get ports k.0) ≡ true
passed_open past ports rows h k has_ports has_rows works answered =
    goes_on_open past ports rows h k has_ports has_rows works (by (is_closed past k.0) (answered ∙ ap (said_for past) works))
  where
    by : (b : Bool) → Passed ≡ cond b PortClosed Passed → b ≡ false
    by true h = absurd (cc)
    by false h = refl

-- the request of a host is unsettled where it goes on
pub goes_on_unsettled : (past : List Entry) (h : HostNo) (r : RequestNo) (rows : List Request) → HasRequests past rows → work_of past h ≡ Some (ForRequest r) → is_settled past r.0 ≡ false → is_unsettled_at (slice_get rows r.0) ≡ true
goes_on_unsettled past h r rows has works unsettled =
    passed_unsettled past h r rows (sym (ap (said_for past) works ∙ ap (λ b. cond b Ignored Passed) unsettled)) has works

-- after a message of a host went to the opener of its channel
pub told_heard : (world : WorldLists) (journal new : List Entry) (h : HostNo) (k : ChannelNo) (text : List ℕ) (n : EntryNo) (roster : List Member) (tables tables' : TablesState) (rows : List HostState) → let e : Entry = hosts_later.host_entry h (HostSaid text) Passed in
    n.0 ≡ length journal
    → IsTold world journal roster tables rows
    → FollowsMachine world (reverse journal) e
    → new ≡ journal ++ e ∷ []
    → work_of (reverse journal) h ≡ Some (ForChannel k)
    → tables'.ports ≡ tables.ports
    → tables'.requests ≡ tables.requests
    → IfSome (slice_get tables.ports k.0) (λ port. EachQueue (told_opener port (in_entry n (Message k))) tables.queues tables'.queues)
    → IsTold world new roster tables' rows
told_heard world journal new h k text n roster tables tables' rows at told follows grown works ports requests queues =
    let past = reverse journal in
    let e : Entry = hosts_later.host_entry h (HostSaid text) Passed in
    told_tables world journal new e roster tables tables' rows told follows grown refl refl
    (rw (ports, requests) (kept_host_said_else world journal h text Passed tables.ports tables.requests told.kept follows
    (rw works tt)))
    (same_length_if (slice_get tables.ports k.0) (λ port. told_opener port (in_entry n (Message k))) tables.queues tables'.queues
    (open_there (slice_get tables.ports k.0) (passed_open past tables.ports tables.requests h k told.kept.channels told.kept.requests works follows.answered)) queues)
    (pending_heard world past h text k tables.ports tables.queues tables'.queues n (at ∙ sym (length-reverse journal)) (told.kept.legal, follows) told.kept.channels told.waits works queues)

-- after a message of a host was the reply to its request
pub told_answered : (world : WorldLists) (journal new : List Entry) (h : HostNo) (r : RequestNo) (text : List ℕ) (n : EntryNo) (roster : List Member) (tables tables' : TablesState) (rows : List HostState) → let e : Entry = hosts_later.host_entry h (HostSaid text) Passed in
    n.0 ≡ length journal
    → IsTold world journal roster tables rows
    → FollowsMachine world (reverse journal) e
    → new ≡ journal ++ e ∷ []
    → work_of (reverse journal) h ≡ Some (ForRequest r)
    → tables'.ports ≡ tables.ports
    → IfSome (slice_get tables.requests r.0) (λ row. tables'.requests ≡ slice_set tables.requests r.0 (settled row))
    → IfSome (slice_get tables.requests r.0) (λ asked. EachQueue (told_asker true asked (in_entry n (Replied r))) tables.queues tables'.queues)
    → IsTold world new roster tables' rows
told_answered world journal new h r text n roster tables tables' rows at told follows grown works ports requests queues =
    let past = reverse journal in
    let e : Entry = hosts_later.host_entry h (HostSaid text) Passed in
    let there : is_unsettled_at (slice_get tables.requests r.0) ≡ true = passed_unsettled past h r tables.requests follows.answered told.kept.requests works in
    told_tables world journal new e roster tables tables' rows told follows grown refl refl
    (rw ports (kept_host_said world journal h text Passed r tables.ports tables.requests tables'.requests told.kept follows works there requests))
    (same_length_if (slice_get tables.requests r.0) (λ asked. told_asker true asked (in_entry n (Replied r))) tables.queues tables'.queues (unsettled_there (slice_get tables.requests r.0) there) queues)
    (pending_answered world past h text r tables.requests tables.queues tables'.queues n (at ∙ sym (length-reverse journal)) (told.kept.legal, follows) told.kept.requests told.waits works queues)

-- The end of a host.

-- after the end of a host whose work was over
pub told_idle : (world : WorldLists) (journal new : List Entry) (h : HostNo) (reason : Reason) (roster : List Member) (tables : TablesState) (rows rows' : List HostState) → let e : Entry = hosts_later.host_entry h (HostEnded reason) Done in
    IsTold world journal roster tables rows
    → FollowsMachine world (reverse journal) e
    → new ≡ journal ++ e ∷ []
    → is_over (reverse journal) (work_of (reverse journal) h) ≡ true
    → ((g : HostNo) → slice_get rows' g.0 ≡ option_map (λ host. cond (h.0 == g.0) (ended host) host) (slice_get rows g.0))
    → length rows' ≡ length rows
    → IsTold world new roster tables rows'
told_idle world journal new h reason roster tables rows rows' told follows grown over changed count =
    let past = reverse journal in
    let over_now : is_over_at tables.ports tables.requests (work_of (reverse journal) h) ≡ true = over_is (reverse journal) tables.ports tables.requests h told.kept.channels told.kept.requests ∙ over in
    told_by_host world journal new h (HostEnded reason) Done roster tables tables rows rows' told grown refl
    (kept_host_ended_over world journal h reason Done tables.ports tables.requests told.kept follows over_now)
    refl
    (pending_ended_over world past h reason Done tables.ports tables.requests tables.queues (told.kept.legal, follows) told.kept.channels told.kept.requests told.waits over_now)
    (hosts_later.hosts_ended world past h reason rows rows' told.kept.legal told.started changed)
    count

-- after the end of the host of an open channel
pub told_channel_ended : (world : WorldLists) (journal new : List Entry) (h : HostNo) (k : ChannelNo) (reason : Reason) (n : EntryNo) (roster : List Member) (tables tables' : TablesState) (rows rows' : List HostState) → let e : Entry = hosts_later.host_entry h (HostEnded reason) Done in
    n.0 ≡ length journal
    → IsTold world journal roster tables rows
    → FollowsMachine world (reverse journal) e
    → new ≡ journal ++ e ∷ []
    → work_of (reverse journal) h ≡ Some (ForChannel k)
    → is_open_port (slice_get tables.ports k.0) ≡ true
    → IfSome (slice_get tables.ports k.0) (λ port. tables'.ports ≡ slice_set tables.ports k.0 (closed port))
    → tables'.requests ≡ tables.requests
    → IfSome (slice_get tables.ports k.0) (λ port. EachQueue (told_each (port.opener ∷ []) (in_entry n (Disconnected k))) tables.queues tables'.queues)
    → ((g : HostNo) → slice_get rows' g.0 ≡ option_map (λ host. cond (h.0 == g.0) (ended host) host) (slice_get rows g.0))
    → length rows' ≡ length rows
    → IsTold world new roster tables' rows'
told_channel_ended world journal new h k reason n roster tables tables' rows rows' at told follows grown works opened ports requests queues changed count =
    let past = reverse journal in
    told_by_host world journal new h (HostEnded reason) Done roster tables tables' rows rows' told grown refl
    (rw requests (kept_host_ended_channel world journal h reason Done k tables.ports tables'.ports tables.requests told.kept follows works opened ports))
    (same_length_if (slice_get tables.ports k.0) (λ port. told_each (port.opener ∷ []) (in_entry n (Disconnected k))) tables.queues tables'.queues (open_there (slice_get tables.ports k.0) opened) queues)
    (pending_ended_channel world past h reason Done k tables.ports tables.queues tables'.queues n (at ∙ sym (length-reverse journal)) (told.kept.legal, follows) told.kept.channels told.waits works opened queues)
    (hosts_later.hosts_ended world past h reason rows rows' told.kept.legal told.started changed)
    count

-- after the end of the host of an unsettled request
pub told_request_ended : (world : WorldLists) (journal new : List Entry) (h : HostNo) (r : RequestNo) (reason : Reason) (n : EntryNo) (roster : List Member) (tables tables' : TablesState) (rows rows' : List HostState) → let e : Entry = hosts_later.host_entry h (HostEnded reason) Done in
    n.0 ≡ length journal
    → IsTold world journal roster tables rows
    → FollowsMachine world (reverse journal) e
    → new ≡ journal ++ e ∷ []
    → work_of (reverse journal) h ≡ Some (ForRequest r)
    → is_unsettled_at (slice_get tables.requests r.0) ≡ true
    → tables'.ports ≡ tables.ports
    → IfSome (slice_get tables.requests r.0) (λ row. tables'.requests ≡ slice_set tables.requests r.0 (settled row))
    → IfSome (slice_get tables.requests r.0) (λ asked. EachQueue (told_asker true asked (in_entry n (Closed r))) tables.queues tables'.queues)
    → ((g : HostNo) → slice_get rows' g.0 ≡ option_map (λ host. cond (h.0 == g.0) (ended host) host) (slice_get rows g.0))
    → length rows' ≡ length rows
    → IsTold world new roster tables' rows'
told_request_ended world journal new h r reason n roster tables tables' rows rows' at told follows grown works there ports requests queues changed count =
    let past = reverse journal in
    told_by_host world journal new h (HostEnded reason) Done roster tables tables' rows rows' told grown refl
    (rw ports (kept_host_ended_request world journal h reason Done r tables.ports tables.requests tables'.requests told.kept follows works there requests))
    (same_length_if (slice_get tables.requests r.0) (λ asked. told_asker true asked (in_entry n (Closed r))) tables.queues tables'.queues (unsettled_there (slice_get tables.requests r.0) there) queues)
    (pending_ended_request world past h reason Done r tables.requests tables.queues tables'.queues n (at ∙ sym (length-reverse journal)) (told.kept.legal, follows) told.kept.requests told.waits works there queues)
    (hosts_later.hosts_ended world past h reason rows rows' told.kept.legal told.started changed)
    count
