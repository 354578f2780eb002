-- The journal is legal and the tables tell it, one entry later.
use Rattle.std.proofs.Common.{◌≡◌, ℕ, List, [], ◌∷◌, ◌++◌, length, refl, ap, sym, ◌∙◌, true, false, cond, not, subst, map, append-nil}
use Rattle.std.specs.Prelude.{None, Ok, Err, OnOk, is_err, ◌<◌, ◌≤◌, nat_lt, reverse, slice_get, ◌&&◌, ◌==◌}
use Rattle.std.specs.Option.{option_map}
use Rattle.std.specs.declared.result.Result.{Result}
use Rattle.std.proofs.lemmas.Bool.{lt-ltb, le-leb}
use Rattle.std.proofs.lemmas.Bool.{true≢false, false≢true}
use Rattle.wx_id.specs.declared.numbers.ContextNo.{ContextNo}
use Rattle.wx_id.specs.declared.numbers.ChannelNo.{ChannelNo}
use Rattle.wx_id.specs.declared.numbers.HostNo.{HostNo}
use Rattle.wx_id.specs.declared.numbers.RequestNo.{RequestNo}
use Rattle.wx_context.specs.declared.contexts.Target.{Target}
use Rattle.wx_external.specs.World.{WorldLists}
use Rattle.wx_machine.specs.declared.sorts.Sort.TheVariants.{Connection, Message}
use Rattle.wx_machine.specs.declared.entries.Who.{Who}
use Rattle.wx_machine.specs.declared.entries.Call.{Call}
use Rattle.wx_machine.specs.declared.entries.Answer.{Answer}
use Rattle.wx_machine.specs.declared.entries.Entry.{Entry}
use Rattle.wx_machine.specs.declared.entries.Reason.{Reason}
use Rattle.wx_machine.specs.Words.{hosts, is_for_channel, is_for_request, work_of, EachAfter, contexts, is_leave, receivers_of, opens}
use Rattle.wx_machine.specs.Words.{opened_by, ends_channel, asks, asked_by, is_decline, ends_request, FollowsMachine, may_make}
use Rattle.wx_machine.specs.declared.entries.Who.TheVariants.{Context as ByContext, Host as ByHost}
use Rattle.wx_machine.specs.declared.entries.Call.TheVariants.{Leave, Connect, ConnectNative, Disconnect, Send, SendNative, Reply, Decline, HostTake, HostSaid, HostEnded}
use Rattle.wx_machine.specs.declared.entries.Answer.TheVariants.{Channel as OnChannel, Request as OnRequest}
use Rattle.wx_machine.specs.declared.entries.TheConstants.{LONGEST_SAID}
use Rattle.wx_port.specs.Port.{Port, opened, closed, left_by as port_left}
use Rattle.wx_one_shot.specs.Requests.{Request, asked, settled, without, left_by as request_left}
use Rattle.wx_laws.proofs.Newest.{reverse-push}
use Rattle.wx_broker.specs.Tables.{IsKept, HasChannels, HasRequests, AreAwaited, is_channel, is_request, is_done, is_first, is_quiet}
use Rattle.wx_broker.proofs.LivesLater.{leave_entry}
use Rattle.wx_broker.proofs.PortsLater.{channels_kept, channels_opened, channels_opened_native, channels_ended, ended_entry, channels_disconnected, channels_left, disconnect_entry}
use Rattle.wx_broker.proofs.RequestsLater.{requests_kept, requests_asked, requests_asked_native, requests_worked, requests_replied, requests_declined, requests_left, reply_entry, decline_entry, awaited_changed, awaited_settled, awaited_without, awaited_left, awaited_asked}

-- one more entry of the machine, and the tables that tell it
pub kept_by : (world : WorldLists) (journal new : List Entry) (e : Entry) (ports ports' : List Port) (rows rows' : List Request) → IsKept world journal ports rows → FollowsMachine world (reverse journal) e → new ≡ journal ++ e ∷ [] → HasChannels (e ∷ reverse journal) ports' → HasRequests (e ∷ reverse journal) rows' → AreAwaited rows' → IsKept world new ports' rows'
kept_by world journal new e ports ports' rows rows' kept follows grown of_channels of_requests waits =
    let turned : reverse new ≡ e ∷ reverse journal = ap reverse grown ∙ reverse-push journal e in
    let legal : EachAfter (FollowsMachine world) (e ∷ reverse journal) = (kept.legal, follows) in
    record {
      legal = subst (EachAfter (FollowsMachine world)) (sym turned) legal;
      channels = subst (λ past. HasChannels past ports') (sym turned) of_channels;
      requests = subst (λ past. HasRequests past rows') (sym turned) of_requests;
      awaited = waits;
    }

-- an entry that changes no table
record IsQuiet (past : List Entry) (e : Entry) : Type 0 where
  stays : is_leave e.call ≡ false
  declines : (r : ℕ) → is_decline r e.call ≡ false
  opens_none : opens past e ≡ None
  asks_none : asks past e ≡ None
  ends_none : (k : ℕ) → ends_channel past e k ≡ false
  settles_none : (r : ℕ) → ends_request past e r ≡ false

no_channel : (past : List Entry) (c : ContextNo) (target : Target) (name : List ℕ) (answer : Answer) → not (is_channel answer) ≡ true → opened_by past (ByContext c) (Connect target name) answer ≡ None
no_channel past c target name (OnChannel k) h = absurd (false≢true h)
no_channel past c target name answer h = refl

no_request : (past : List Entry) (c : ContextNo) (target : Target) (text : List ℕ) (answer : Answer) → not (is_request answer) ≡ true → asked_by past (ByContext c) (Send target text) answer ≡ None
no_request past c target text (OnRequest r) h = absurd (false≢true h)
no_request past c target text answer h = refl

no_native_channel : (past : List Entry) (c : ContextNo) (name : List ℕ) (answer : Answer) → not (is_channel answer) ≡ true → opened_by past (ByContext c) (ConnectNative name) answer ≡ None
no_native_channel past c name (OnChannel k) h = absurd (false≢true h)
no_native_channel past c name answer h = refl

no_native_request : (past : List Entry) (c : ContextNo) (name text : List ℕ) (answer : Answer) → not (is_request answer) ≡ true → asked_by past (ByContext c) (SendNative name text) answer ≡ None
no_native_request past c name text (OnRequest r) h = absurd (false≢true h)
no_native_request past c name text answer h = refl

quiet_is : (past : List Entry) (who : Who) (call : Call) (answer : Answer) → is_quiet call answer ≡ true → IsQuiet past (record { who = who; call = call; answer = answer })
quiet_is past (ByContext c) (Connect target name) answer h = record { stays = refl; declines = λ r. refl; opens_none = no_channel past c target name answer h; asks_none = refl; ends_none = λ k. refl; settles_none = λ r. refl }
quiet_is past (ByContext c) (Send target text) answer h = record { stays = refl; declines = λ r. refl; opens_none = refl; asks_none = no_request past c target text answer h; ends_none = λ k. refl; settles_none = λ r. refl }
quiet_is past (ByContext c) (ConnectNative name) answer h = record { stays = refl; declines = λ r. refl; opens_none = no_native_channel past c name answer h; asks_none = refl; ends_none = λ k. refl; settles_none = λ r. refl }
quiet_is past (ByContext c) (SendNative name text) answer h = record { stays = refl; declines = λ r. refl; opens_none = refl; asks_none = no_native_request past c name text answer h; ends_none = λ k. refl; settles_none = λ r. refl }
quiet_is past who Leave answer h = absurd (false≢true h)
quiet_is past who (Disconnect k) answer h = absurd (false≢true h)
quiet_is past who (Reply r text) answer h = absurd (false≢true h)
quiet_is past who (Decline r) answer h = absurd (false≢true h)
quiet_is past who (HostSaid text) answer h = absurd (false≢true h)
quiet_is past who (HostEnded reason) answer h = absurd (false≢true h)
quiet_is past who call answer h = record { stays = refl; declines = λ r. refl; opens_none = refl; asks_none = refl; ends_none = λ k. refl; settles_none = λ r. refl }

pub kept_quiet : (world : WorldLists) (journal new : List Entry) (e : Entry) (ports : List Port) (rows : List Request) → IsKept world journal ports rows → FollowsMachine world (reverse journal) e → is_quiet e.call e.answer ≡ true → new ≡ journal ++ e ∷ [] → IsKept world new ports rows
kept_quiet world journal new e ports rows kept follows h grown =
    let past = reverse journal in
    let quiet = quiet_is past e.who e.call e.answer h in
    kept_by world journal new e ports ports rows rows kept follows grown
    (channels_kept e past ports quiet.stays quiet.opens_none quiet.ends_none kept.channels)
    (requests_kept e past rows quiet.stays quiet.declines quiet.asks_none quiet.settles_none kept.requests)
    kept.awaited

-- what holds of a success holds where there is no error
pub ok_holds : {A B P : Type 0} (r : Result A B) → OnOk r P → is_err r ≡ false → P
ok_holds (Ok a) h e = h
ok_holds (Err b) h e = absurd (true≢false e)

-- a context whose number was given may call
pub may_call : (past : List Entry) (c : ContextNo) → c.0 < contexts past → nat_lt c.0 (contexts past) ≡ true
may_call past c h = lt-ltb c.0 (contexts past) h

pub kept_connected : (world : WorldLists) (journal new : List Entry) (c : ContextNo) (target : Target) (name : List ℕ) (answer : Answer) (ports ports' : List Port) (rows : List Request) → IsKept world journal ports rows → FollowsMachine world (reverse journal) (record { who = ByContext c; call = Connect target name; answer = answer }) → new ≡ journal ++ record { who = ByContext c; call = Connect target name; answer = answer } ∷ [] → ports' ≡ ports ++ cond (is_channel answer) (opened c (receivers_of (reverse journal) c target Connection) ∷ []) [] → IsKept world new ports' rows
kept_connected world journal new c target name (OnChannel k) ports ports' rows kept follows grown more =
    let past = reverse journal in
    let e : Entry = record { who = ByContext c; call = Connect target name; answer = OnChannel k } in
    kept_by world journal new e ports ports' rows rows kept follows grown
    (channels_opened past c target name k ports ports' more kept.channels)
    (requests_kept e past rows refl (λ r. refl) refl (λ r. refl) kept.requests)
    kept.awaited
kept_connected world journal new c target name answer ports ports' rows kept follows grown more =
    subst (λ ps. IsKept world new ps rows) (sym (more ∙ append-nil ports)) (kept_quiet world journal new (record { who = ByContext c; call = Connect target name; answer = answer }) ports rows kept follows refl grown)

pub kept_connected_native : (world : WorldLists) (journal new : List Entry) (c : ContextNo) (name : List ℕ) (answer : Answer) (ports ports' : List Port) (rows : List Request) → IsKept world journal ports rows → FollowsMachine world (reverse journal) (record { who = ByContext c; call = ConnectNative name; answer = answer }) → new ≡ journal ++ record { who = ByContext c; call = ConnectNative name; answer = answer } ∷ [] → ports' ≡ ports ++ cond (is_channel answer) (opened c [] ∷ []) [] → IsKept world new ports' rows
kept_connected_native world journal new c name (OnChannel k) ports ports' rows kept follows grown more =
    let past = reverse journal in
    let e : Entry = record { who = ByContext c; call = ConnectNative name; answer = OnChannel k } in
    kept_by world journal new e ports ports' rows rows kept follows grown
    (channels_opened_native past c name k ports ports' more kept.channels)
    (requests_kept e past rows refl (λ r. refl) refl (λ r. refl) kept.requests)
    kept.awaited
kept_connected_native world journal new c name answer ports ports' rows kept follows grown more =
    subst (λ ps. IsKept world new ps rows) (sym (more ∙ append-nil ports)) (kept_quiet world journal new (record { who = ByContext c; call = ConnectNative name; answer = answer }) ports rows kept follows refl grown)

pub kept_sent : (world : WorldLists) (journal new : List Entry) (c : ContextNo) (target : Target) (text : List ℕ) (answer : Answer) (ports : List Port) (rows rows' : List Request) → IsKept world journal ports rows → FollowsMachine world (reverse journal) (record { who = ByContext c; call = Send target text; answer = answer }) → new ≡ journal ++ record { who = ByContext c; call = Send target text; answer = answer } ∷ [] → rows' ≡ rows ++ cond (is_request answer) (asked c (receivers_of (reverse journal) c target Message) ∷ []) [] → IsKept world new ports rows'
kept_sent world journal new c target text (OnRequest r) ports rows rows' kept follows grown more =
    let past = reverse journal in
    let rs = receivers_of past c target Message in
    let e : Entry = record { who = ByContext c; call = Send target text; answer = OnRequest r } in
    kept_by world journal new e ports ports rows rows' kept follows grown
    (channels_kept e past ports refl refl (λ k. refl) kept.channels)
    (requests_asked past c target text r rows rows' more kept.requests)
    (awaited_asked c rs rows rows' more kept.awaited)
kept_sent world journal new c target text answer ports rows rows' kept follows grown more =
    subst (λ rs. IsKept world new ports rs) (sym (more ∙ append-nil rows)) (kept_quiet world journal new (record { who = ByContext c; call = Send target text; answer = answer }) ports rows kept follows refl grown)

pub kept_sent_native : (world : WorldLists) (journal new : List Entry) (c : ContextNo) (name text : List ℕ) (answer : Answer) (ports : List Port) (rows rows' : List Request) → IsKept world journal ports rows → FollowsMachine world (reverse journal) (record { who = ByContext c; call = SendNative name text; answer = answer }) → new ≡ journal ++ record { who = ByContext c; call = SendNative name text; answer = answer } ∷ [] → rows' ≡ rows ++ cond (is_request answer) (asked c [] ∷ []) [] → IsKept world new ports rows'
kept_sent_native world journal new c name text (OnRequest r) ports rows rows' kept follows grown more =
    let past = reverse journal in
    let e : Entry = record { who = ByContext c; call = SendNative name text; answer = OnRequest r } in
    kept_by world journal new e ports ports rows rows' kept follows grown
    (channels_kept e past ports refl refl (λ k. refl) kept.channels)
    (requests_asked_native past c name text r rows rows' more kept.requests)
    (awaited_asked c [] rows rows' more kept.awaited)
kept_sent_native world journal new c name text answer ports rows rows' kept follows grown more =
    subst (λ rs. IsKept world new ports rs) (sym (more ∙ append-nil rows)) (kept_quiet world journal new (record { who = ByContext c; call = SendNative name text; answer = answer }) ports rows kept follows refl grown)

pub kept_disconnected : (world : WorldLists) (journal new : List Entry) (c : ContextNo) (k : ChannelNo) (answer : Answer) (ports ports' : List Port) (rows : List Request) → IsKept world journal ports rows → FollowsMachine world (reverse journal) (disconnect_entry c k answer) → new ≡ journal ++ disconnect_entry c k answer ∷ [] → ((j : ℕ) → slice_get ports' j ≡ option_map (λ port. cond (is_done answer && (k.0 == j)) (closed port) port) (slice_get ports j)) → IsKept world new ports' rows
kept_disconnected world journal new c k answer ports ports' rows kept follows grown changed =
    let past = reverse journal in
    let e = disconnect_entry c k answer in
    kept_by world journal new e ports ports' rows rows kept follows grown
    (channels_disconnected past c k answer ports ports' follows.answered changed kept.channels)
    (requests_kept e past rows refl (λ r. refl) refl (λ r. refl) kept.requests)
    kept.awaited

pub kept_replied : (world : WorldLists) (journal new : List Entry) (c : ContextNo) (r : RequestNo) (text : List ℕ) (answer : Answer) (ports : List Port) (rows rows' : List Request) → IsKept world journal ports rows → FollowsMachine world (reverse journal) (reply_entry c r text answer) → new ≡ journal ++ reply_entry c r text answer ∷ [] → ((j : ℕ) → slice_get rows' j ≡ option_map (λ row. cond (is_first answer && (r.0 == j)) (settled row) row) (slice_get rows j)) → IsKept world new ports rows'
kept_replied world journal new c r text answer ports rows rows' kept follows grown changed =
    let past = reverse journal in
    let e = reply_entry c r text answer in
    kept_by world journal new e ports ports rows rows' kept follows grown
    (channels_kept e past ports refl refl (λ k. refl) kept.channels)
    (requests_replied past c r text answer rows rows' follows.answered changed kept.requests)
    (awaited_changed (λ j row. cond (is_first answer && (r.0 == j)) (settled row) row) rows rows' (λ j row h. awaited_settled (is_first answer && (r.0 == j)) row h) changed kept.awaited)

pub kept_declined : (world : WorldLists) (journal new : List Entry) (c : ContextNo) (r : RequestNo) (answer : Answer) (ports : List Port) (rows rows' : List Request) → IsKept world journal ports rows → FollowsMachine world (reverse journal) (decline_entry c r answer) → new ≡ journal ++ decline_entry c r answer ∷ [] → ((j : ℕ) → slice_get rows' j ≡ option_map (λ row. cond (is_done answer && (r.0 == j)) (without c row) row) (slice_get rows j)) → IsKept world new ports rows'
kept_declined world journal new c r answer ports rows rows' kept follows grown changed =
    let past = reverse journal in
    let e = decline_entry c r answer in
    kept_by world journal new e ports ports rows rows' kept follows grown
    (channels_kept e past ports refl refl (λ k. refl) kept.channels)
    (requests_declined past c r answer rows rows' follows.answered changed kept.requests kept.awaited)
    (awaited_changed (λ j row. cond (is_done answer && (r.0 == j)) (without c row) row) rows rows' (λ j row h. awaited_without (is_done answer && (r.0 == j)) c row h) changed kept.awaited)

pub kept_left : (world : WorldLists) (journal new : List Entry) (c : ContextNo) (answer : Answer) (ports ports' : List Port) (rows rows' : List Request) → IsKept world journal ports rows → FollowsMachine world (reverse journal) (leave_entry c answer) → new ≡ journal ++ leave_entry c answer ∷ [] → ports' ≡ map (port_left c) ports → rows' ≡ map (request_left c) rows → IsKept world new ports' rows'
kept_left world journal new c answer ports ports' rows rows' kept follows grown left_ports left_rows =
    let past = reverse journal in
    kept_by world journal new (leave_entry c answer) ports ports' rows rows' kept follows grown
    (subst (HasChannels (leave_entry c answer ∷ past)) (sym left_ports) (channels_left past c answer ports kept.channels))
    (subst (HasRequests (leave_entry c answer ∷ past)) (sym left_rows) (requests_left past c answer rows kept.requests))
    (subst AreAwaited (sym left_rows) (awaited_left c rows kept.awaited))

-- a host whose number was given may call
pub may_take : (past : List Entry) (h : HostNo) → h.0 < length (hosts past) → may_make past (ByHost h) HostTake ≡ true
may_take past h given = lt-ltb h.0 (length (hosts past)) given

pub may_say : (past : List Entry) (h : HostNo) (text : List ℕ) → h.0 < length (hosts past) → length text ≤ LONGEST_SAID → may_make past (ByHost h) (HostSaid text) ≡ true
may_say past h text given short = rw (le-leb (length text) LONGEST_SAID short) (lt-ltb h.0 (length (hosts past)) given)

pub may_end : (past : List Entry) (h : HostNo) (reason : Reason) → h.0 < length (hosts past) → may_make past (ByHost h) (HostEnded reason) ≡ true
may_end past h reason given = lt-ltb h.0 (length (hosts past)) given

abbrev pub said_entry : HostNo → List ℕ → Answer → Entry
said_entry h text answer = record { who = ByHost h; call = HostSaid text; answer = answer }

-- the requests that a host's call settles are those that wait no more
awaited_worked : (past : List Entry) (h : HostNo) (rows rows' : List Request) → ((r : ℕ) → slice_get rows' r ≡ option_map (λ row. cond (is_for_request r (work_of past h) && not row.is_settled) (settled row) row) (slice_get rows r)) → AreAwaited rows → AreAwaited rows'
awaited_worked past h rows rows' changed awaited =
    awaited_changed (λ r row. cond (is_for_request r (work_of past h) && not row.is_settled) (settled row) row) rows rows'
    (λ r row waits. awaited_settled (is_for_request r (work_of past h) && not row.is_settled) row waits) changed awaited

pub kept_said : (world : WorldLists) (journal new : List Entry) (h : HostNo) (text : List ℕ) (answer : Answer) (ports : List Port) (rows rows' : List Request) → IsKept world journal ports rows → FollowsMachine world (reverse journal) (said_entry h text answer) → new ≡ journal ++ said_entry h text answer ∷ [] → ((r : ℕ) → slice_get rows' r ≡ option_map (λ row. cond (is_for_request r (work_of (reverse journal) h) && not row.is_settled) (settled row) row) (slice_get rows r)) → IsKept world new ports rows'
kept_said world journal new h text answer ports rows rows' kept follows grown changed =
    let past = reverse journal in
    let e = said_entry h text answer in
    kept_by world journal new e ports ports rows rows' kept follows grown
    (channels_kept e past ports refl refl (λ k. refl) kept.channels)
    (requests_worked e past h rows rows' refl (λ r. refl) refl (λ r. refl) changed kept.requests)
    (awaited_worked past h rows rows' changed kept.awaited)

pub kept_ended : (world : WorldLists) (journal new : List Entry) (h : HostNo) (reason : Reason) (answer : Answer) (ports ports' : List Port) (rows rows' : List Request) → IsKept world journal ports rows → FollowsMachine world (reverse journal) (ended_entry h reason answer) → new ≡ journal ++ ended_entry h reason answer ∷ [] → ((k : ℕ) → slice_get ports' k ≡ option_map (λ port. cond (is_for_channel k (work_of (reverse journal) h) && port.is_open) (closed port) port) (slice_get ports k)) → ((r : ℕ) → slice_get rows' r ≡ option_map (λ row. cond (is_for_request r (work_of (reverse journal) h) && not row.is_settled) (settled row) row) (slice_get rows r)) → IsKept world new ports' rows'
kept_ended world journal new h reason answer ports ports' rows rows' kept follows grown shut changed =
    let past = reverse journal in
    let e = ended_entry h reason answer in
    kept_by world journal new e ports ports' rows rows' kept follows grown
    (channels_ended past h reason answer ports ports' shut kept.channels)
    (requests_worked e past h rows rows' refl (λ r. refl) refl (λ r. refl) changed kept.requests)
    (awaited_worked past h rows rows' changed kept.awaited)
