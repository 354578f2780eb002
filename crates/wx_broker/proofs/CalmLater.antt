-- The tables tell the journal one entry later, where the entry changes no table.
use Rattle.std.proofs.Common.{◌≡◌, ℕ, List, [], ◌∷◌, ◌++◌, length, refl, ap, sym, ◌∙◌, Bool, true, false, cond, not, subst, map}
use Rattle.std.specs.Prelude.{Option, Some, None, flat_map, reverse, slice_get, option_to_list, ◌&&◌, ◌||◌}
use Rattle.std.specs.Option.{option_map}
use Rattle.std.specs.List.{range_with_len}
use Rattle.std.proofs.lemmas.Bool.{false≢true}
use Rattle.wx_id.specs.declared.numbers.ContextNo.{ContextNo}
use Rattle.wx_id.specs.declared.numbers.HostNo.{HostNo}
use Rattle.wx_id.specs.declared.events.Event.{Event}
use Rattle.wx_id.specs.declared.events.EventKind.{EventKind}
use Rattle.wx_id.specs.declared.events.EventKind.TheVariants.{Closed, Disconnected}
use Rattle.wx_external.specs.World.{WorldLists}
use Rattle.wx_machine.specs.declared.entries.Who.{Who}
use Rattle.wx_machine.specs.declared.entries.Who.TheVariants.{Context as ByContext, Host as ByHost}
use Rattle.wx_machine.specs.declared.entries.Call.{Call}
use Rattle.wx_machine.specs.declared.entries.Call.TheVariants.{Connect, ConnectNative, Decline, Disconnect, Enter, HostEnded, HostSaid, HostTake, Leave, Listen, Post, Reply, Send, SendNative, Take}
use Rattle.wx_machine.specs.declared.entries.Answer.{Answer}
use Rattle.wx_machine.specs.declared.entries.Answer.TheVariants.{Already, Channel as OnChannel, Done, Event as Told, First, Ignored, Passed, Posted, Request as OnRequest}
use Rattle.wx_machine.specs.declared.entries.Entry.{Entry}
use Rattle.wx_machine.specs.declared.work.Work.{Work}
use Rattle.wx_machine.specs.declared.work.Work.TheVariants.{Channel as ForChannel, Request as ForRequest}
use Rattle.wx_machine.specs.Words.{asks, channel, closes, disconnected_on, end_in, Ends, ends_channel, ends_request, FollowsMachine, goes, goes_to, has_ended}
use Rattle.wx_machine.specs.Words.{host_disconnected, host_unanswered, is_asker, is_by, is_closed, is_live, is_over, is_settled, marked, on, opens, Parties, request, said_for}
use Rattle.wx_machine.specs.Words.{channels, requests, settles, side_of, tells, unanswered_on, work_of}
use Rattle.wx_port.specs.Port.{Port, closed, is_open_port}
use Rattle.wx_one_shot.specs.Requests.{Request, is_settled_at, settled, without}
use Rattle.wx_laws.proofs.Newest.{reverse-push}
use Rattle.wx_broker.specs.Tables.{port_said, request_said, HasChannels, HasRequests, IfRequest, IsKept, is_done, is_first, is_over_at}
use Rattle.wx_broker.proofs.HostsLater.{over_is}
use Rattle.wx_broker.proofs.KeptLater.{kept_declined, kept_disconnected, kept_quiet, kept_replied}
use Rattle.wx_broker.proofs.PortsLater.{closed_more}
use Rattle.wx_broker.proofs.RequestsLater.{settled_more}
use Rattle.wx_broker.proofs.TestsLater.{and_false, not_not, row_stays}
use Rattle.wx_broker.specs.Calm.{is_already, is_calm, is_ignored}
use Rattle.wx_broker.specs.Told.{HasPending}
use Rattle.wx_broker.proofs.GoneLater.{kept_gone}
use Rattle.wx_broker.proofs.KeptSetLater.{kept_host_ended_over, kept_host_said_else}
use Rattle.wx_broker.proofs.OverLater.{ended_over, there_still}
use Rattle.wx_broker.proofs.PendingLater.{keeps_all, pending_same}

fails : (b : Bool) → not b ≡ true → b ≡ false
fails b h = sym (not_not b) ∙ ap not h

-- a host that was ignored worked for a request that is settled
ignored_over : (past : List Entry) (ports : List Port) (rows : List Request) (h : HostNo) (answer : Answer) → HasChannels past ports → HasRequests past rows → answer ≡ said_for past (work_of past h) → is_ignored answer ≡ true → IfRequest (work_of past h) (λ r. is_settled_at (slice_get rows r) ≡ true)
ignored_over past ports rows h answer has_ports has_rows answered ignored = by (work_of past h) (over_is past ports rows h has_ports has_rows) (sym (ap is_ignored answered) ∙ ignored)
  where
    settled_then : (b : Bool) → is_ignored (cond b Ignored Passed) ≡ true → b ≡ true
    settled_then true i = refl
    settled_then false i = absurd (false≢true i)

    by : (work : Option Work) → is_over_at ports rows work ≡ is_over past work → is_ignored (said_for past work) ≡ true → IfRequest work (λ r. is_settled_at (slice_get rows r) ≡ true)
    by None same i = tt
    by (Some (ForChannel k)) same i = tt
    by (Some (ForRequest r)) same i = same ∙ settled_then (is_settled past r.0) i

already_ended : (ended : Bool) (answer : Answer) → answer ≡ cond ended Already Done → is_already answer ≡ true → ended ≡ true
already_ended true answer answered h = refl
already_ended false answer answered h = absurd (false≢true (sym (ap is_already answered) ∙ h))

-- the journal is legal and the tables tell it, after a call that changes no table
kept_call : (world : WorldLists) (journal : List Entry) (who : Who) (call : Call) (answer : Answer) (ports : List Port) (rows : List Request) → let e : Entry = record { who = who; call = call; answer = answer } in IsKept world journal ports rows → FollowsMachine world (reverse journal) e → is_calm call answer ≡ true → IsKept world (journal ++ e ∷ []) ports rows
kept_call world journal who (Enter x) answer ports rows kept follows h = absurd (false≢true h)
kept_call world journal who (Listen l) answer ports rows kept follows h = kept_quiet world journal _ (record { who = who; call = Listen l; answer = answer }) ports rows kept follows refl refl
kept_call world journal who (Connect target name) answer ports rows kept follows h = kept_quiet world journal _ (record { who = who; call = Connect target name; answer = answer }) ports rows kept follows h refl
kept_call world journal who (Post k text) answer ports rows kept follows h = kept_quiet world journal _ (record { who = who; call = Post k text; answer = answer }) ports rows kept follows refl refl
kept_call world journal who (Send target text) answer ports rows kept follows h = kept_quiet world journal _ (record { who = who; call = Send target text; answer = answer }) ports rows kept follows h refl
kept_call world journal who Take answer ports rows kept follows h = kept_quiet world journal _ (record { who = who; call = Take; answer = answer }) ports rows kept follows refl refl
kept_call world journal who (ConnectNative name) answer ports rows kept follows h = kept_quiet world journal _ (record { who = who; call = ConnectNative name; answer = answer }) ports rows kept follows h refl
kept_call world journal who (SendNative name text) answer ports rows kept follows h = kept_quiet world journal _ (record { who = who; call = SendNative name text; answer = answer }) ports rows kept follows h refl
kept_call world journal who HostTake answer ports rows kept follows h = kept_quiet world journal _ (record { who = who; call = HostTake; answer = answer }) ports rows kept follows refl refl
kept_call world journal (ByContext c) Leave answer ports rows kept follows h = kept_gone world journal c answer ports rows kept follows h
kept_call world journal (ByContext c) (Disconnect k) answer ports rows kept follows h =
    kept_disconnected world journal _ c k answer ports ports rows kept follows refl (row_stays closed ports k.0 (is_done answer) (fails (is_done answer) h))
kept_call world journal (ByContext c) (Reply r text) answer ports rows kept follows h =
    kept_replied world journal _ c r text answer ports rows rows kept follows refl (row_stays settled rows r.0 (is_first answer) (fails (is_first answer) h))
kept_call world journal (ByContext c) (Decline r) answer ports rows kept follows h =
    kept_declined world journal _ c r answer ports rows rows kept follows refl (row_stays (without c) rows r.0 (is_done answer) (fails (is_done answer) h))
kept_call world journal (ByHost g) (HostSaid text) answer ports rows kept follows h =
    kept_host_said_else world journal g text answer ports rows kept follows (ignored_over (reverse journal) ports rows g answer kept.channels kept.requests follows.answered h)
kept_call world journal (ByHost g) (HostEnded reason) answer ports rows kept follows h =
    kept_host_ended_over world journal g reason answer ports rows kept follows
    (over_is (reverse journal) ports rows g kept.channels kept.requests ∙ ended_over world (reverse journal) g kept.legal (already_ended (has_ended (reverse journal) g) answer follows.answered h))
kept_call world journal who call answer ports rows kept follows h = absurd (false≢true follows.may)

-- the same of an entry
pub kept_calm : (world : WorldLists) (journal : List Entry) (e : Entry) (ports : List Port) (rows : List Request) → IsKept world journal ports rows → FollowsMachine world (reverse journal) e → is_calm e.call e.answer ≡ true → IsKept world (journal ++ e ∷ []) ports rows
kept_calm world journal e ports rows kept follows h = kept_call world journal e.who e.call e.answer ports rows kept follows h

unchanged : (w x : Bool) → w ≡ (w || x) → (not w && x) ≡ false
unchanged true x h = refl
unchanged false x h = sym h

-- an entry after which the table of channels tells the journal as before closes none
ends_none : (past : List Entry) (e : Entry) (ports : List Port) (d : ContextNo) (k : ℕ) → HasChannels past ports → HasChannels (e ∷ past) ports → disconnected_on past e d k ≡ []
ends_none past e ports d k before after = ap (λ b. on b (Disconnected (record { 0 = k }))) (by (channel past k) refl)
  where
    no_side : (who : Who) (live : Bool) → goes (side_of None who) (end_in None d) live ≡ false
    no_side (ByContext c) live = refl
    no_side (ByHost h) live = refl

    by : (o : Option Ends) → channel past k ≡ o → (closes past e k && goes_to past (channel past k) e.who d) ≡ false
    by None is =
        ap (λ o. closes past e k && goes_to past o e.who d) is
        ∙ ap (λ b. closes past e k && b) (no_side e.who (is_live past d)) ∙ and_false (closes past e k)
    by (Some ends) is =
        let still : channel (e ∷ past) k ≡ Some ends = there_still (channels past) (option_to_list (opens past e)) k ends is in
        let said : Some (port_said past k ends) ≡ Some (port_said (e ∷ past) k ends) = sym (before k ∙ ap (option_map (port_said past k)) is) ∙ after k ∙ ap (option_map (port_said (e ∷ past) k)) still in
        let open_same : not (is_closed past k) ≡ not (is_closed (e ∷ past) k) = ap is_open_port said in
        let same : is_closed past k ≡ (is_closed past k || ends_channel past e k) = sym (not_not (is_closed past k)) ∙ ap not open_same ∙ not_not (is_closed (e ∷ past) k) ∙ closed_more e past k in
        ap (λ b. b && goes_to past (channel past k) e.who d) (unchanged (is_closed past k) (ends_channel past e k) same)

-- and one after which the table of requests does settles none
settles_none : (past : List Entry) (e : Entry) (rows : List Request) (d : ContextNo) (r : ℕ) → HasRequests past rows → HasRequests (e ∷ past) rows → unanswered_on past e d r ≡ []
settles_none past e rows d r before after = ap (λ b. on b (Closed (record { 0 = r }))) (by (request past r) refl)
  where
    by : (o : Option Parties) → request past r ≡ o → (settles past e r && is_asker (request past r) d && not (is_by e.who d)) ≡ false
    by None is = ap (λ o. settles past e r && is_asker o d && not (is_by e.who d)) is ∙ none (settles past e r) (is_by e.who d)
      where
        none : (a b : Bool) → (a && false && not b) ≡ false
        none true b = refl
        none false b = refl
    by (Some parties) is =
        let still : request (e ∷ past) r ≡ Some parties = there_still (requests past) (option_to_list (asks past e)) r parties is in
        let said : Some (request_said past r parties) ≡ Some (request_said (e ∷ past) r parties) = sym (before r ∙ ap (option_map (request_said past r)) is) ∙ after r ∙ ap (option_map (request_said (e ∷ past) r)) still in
        let same : is_settled past r ≡ (is_settled past r || ends_request past e r) = ap is_settled_at said ∙ settled_more e past r in
        ap (λ b. b && is_asker (request past r) d && not (is_by e.who d)) (unchanged (is_settled past r) (ends_request past e r) same)

flat_none : (f : ℕ → List EventKind) (xs : List ℕ) → ((k : ℕ) → f k ≡ []) → flat_map f xs ≡ []
flat_none f [] h = refl
flat_none f (x ∷ xs) h = rw (h x, flat_none f xs h) refl

-- a call that changes no table tells nothing, where its entry ends and settles nothing
silent : (past : List Entry) (who : Who) (call : Call) (answer : Answer) (d : ContextNo) → let e : Entry = record { who = who; call = call; answer = answer } in is_calm call answer ≡ true → ((k : ℕ) → disconnected_on past e d k ≡ []) → ((r : ℕ) → unanswered_on past e d r ≡ []) → tells past e d ≡ []
silent past who (Enter x) answer d h ends outs = absurd (false≢true h)
silent past (ByContext c) (Connect target name) (OnChannel k) d h ends outs = absurd (false≢true h)
silent past (ByContext c) (ConnectNative name) (OnChannel k) d h ends outs = absurd (false≢true h)
silent past (ByContext c) (Send target text) (OnRequest r) d h ends outs = absurd (false≢true h)
silent past (ByContext c) (SendNative name text) (OnRequest r) d h ends outs = absurd (false≢true h)
silent past who (Post k text) Posted d h ends outs = absurd (false≢true h)
silent past who (Reply r text) First d h ends outs = absurd (false≢true h)
silent past who (HostSaid text) Passed d h ends outs = absurd (false≢true h)
silent past (ByContext c) Leave answer d h ends outs =
    let e : Entry = record { who = ByContext c; call = Leave; answer = answer } in
    rw (flat_none (disconnected_on past e d) (range_with_len 0 (length (channels past))) ends, flat_none (unanswered_on past e d) (range_with_len 0 (length (requests past))) outs) refl
silent past (ByHost g) Leave answer d h ends outs =
    let e : Entry = record { who = ByHost g; call = Leave; answer = answer } in
    rw (flat_none (disconnected_on past e d) (range_with_len 0 (length (channels past))) ends, flat_none (unanswered_on past e d) (range_with_len 0 (length (requests past))) outs) refl
silent past (ByContext c) (Disconnect k) answer d h ends outs = ap (λ l. l ++ []) (ends k.0)
silent past (ByHost g) (Disconnect k) answer d h ends outs = ap (λ l. l ++ []) (ends k.0)
silent past (ByContext c) (Decline r) answer d h ends outs = outs r.0
silent past (ByHost g) (Decline r) answer d h ends outs = outs r.0
silent past (ByHost g) (HostEnded reason) answer d h ends outs = by (work_of past g)
  where
    e : Entry
    e = record { who = ByHost g; call = HostEnded reason; answer = answer }

    by : (work : Option Work) → host_disconnected past e work d ++ host_unanswered past e work d ≡ []
    by None = refl
    by (Some (ForChannel k)) = ap (λ l. l ++ []) (ends k.0)
    by (Some (ForRequest r)) = outs r.0
silent past (ByContext c) call answer d h ends outs = refl
silent past (ByHost g) call answer d h ends outs = refl

calm_keeps : (call : Call) (answer : Answer) → is_calm call answer ≡ true → keeps_all call answer ≡ true
calm_keeps Take (Told event) h = absurd (false≢true h)
calm_keeps (Disconnect k) Done h = absurd (false≢true h)
calm_keeps call answer h = refl

-- what waits after a call that changes no table is what waited
pub pending_calm : (world : WorldLists) (journal : List Entry) (e : Entry) (ports : List Port) (rows : List Request) (queues : List (List Event)) → IsKept world journal ports rows → FollowsMachine world (reverse journal) e → is_calm e.call e.answer ≡ true → HasPending (reverse journal) queues → HasPending (e ∷ reverse journal) queues
pending_calm world journal e ports rows queues kept follows h waits =
    pending_same world past e queues (kept.legal, follows) waits (calm_keeps e.call e.answer h)
    (λ d. ap (map (marked (length past))) (silent past e.who e.call e.answer d h
    (λ k. ends_none past e ports d k kept.channels (subst (λ p. HasChannels p ports) (reverse-push journal e) later.channels))
    (λ r. settles_none past e rows d r kept.requests (subst (λ p. HasRequests p rows) (reverse-push journal e) later.requests))))
  where
    past : List Entry
    past = reverse journal

    later : IsKept world (journal ++ e ∷ []) ports rows
    later = kept_calm world journal e ports rows kept follows h
