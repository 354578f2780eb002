-- A native call that is answered with a number: what it starts, and how the tables tell of it.
use Rattle.std.proofs.Common.{◌≡◌, ℕ, List, [], ◌∷◌, ◌++◌, length, sym, ap, ◌∙◌, Bool, true, false, cond, refl}
use Rattle.std.specs.Prelude.{Option, Some, None, is_some, reverse, nat_lt}
use Rattle.std.proofs.lemmas.Bool.{false≢true}
use Rattle.wx_id.specs.declared.numbers.ContextNo.{ContextNo}
use Rattle.wx_id.specs.declared.numbers.ChannelNo.{ChannelNo}
use Rattle.wx_id.specs.declared.numbers.RequestNo.{RequestNo}
use Rattle.wx_id.specs.declared.numbers.EntryNo.{EntryNo}
use Rattle.wx_context.specs.declared.contexts.Context.{Context}
use Rattle.wx_external.specs.World.{WorldLists}
use Rattle.wx_external.specs.Gate.{native_gate_of}
use Rattle.wx_external.specs.declared.native.NativeVerdict.{NativeVerdict}
use Rattle.wx_external.specs.declared.native.NativeVerdict.TheVariants as native
use Rattle.wx_machine.specs.declared.entries.Answer.{Answer}
use Rattle.wx_machine.specs.declared.entries.Answer.TheVariants.{Channel as OnChannel, Request as OnRequest, Gone, TooLong}
use Rattle.wx_machine.specs.declared.entries.Entry.{Entry}
use Rattle.wx_machine.specs.declared.entries.TheConstants.{LONGEST}
use Rattle.wx_machine.specs.declared.work.Work.{Work}
use Rattle.wx_machine.specs.declared.work.Work.TheVariants.{Channel as ForChannel, Request as ForRequest}
use Rattle.wx_machine.specs.Words.{channels, requests, context_of, extension_of, native_gate_for, where_native, where_short, FollowsMachine}
use Rattle.wx_port.specs.Port.{opened}
use Rattle.wx_one_shot.specs.Requests.{asked}
use Rattle.wx_roster.specs.declared.roster.Member.{Member}
use Rattle.wx_tables.specs.State.{TablesState}
use Rattle.wx_native_hosts.specs.Hosts.{HostState, started}
use Rattle.wx_native_hosts.specs.declared.hosts.Start.{Start as NativeStart}
use Rattle.wx_broker.specs.Tables.{IsKept, is_channel, is_request}
use Rattle.wx_broker.specs.Views.{view_at, view_for}
use Rattle.wx_broker.specs.declared.host_view.HostView.{HostView}
use Rattle.wx_broker.proofs.KeptLater.{kept_connected_native, kept_sent_native}
use Rattle.wx_broker.proofs.ViewsLater.{is_started}
use Rattle.wx_broker.specs.Told.{HasHosts, IsTold, start_for}
use Rattle.wx_broker.proofs.OpenedLater.{pending_connected_native, pending_sent_native}
use Rattle.wx_broker.proofs.NativeStartsLater.{connected_entry, sent_entry, count_started, hosts_started_on_channel, hosts_started_on_request, open_has_extension}
use Rattle.wx_broker.proofs.ContextsLater as contexts_later
use Rattle.wx_broker.proofs.ToldLater.{told_next}

-- where a native call is answered with a number its caller may start the host, and the answer is that number
given : (world : WorldLists) (live : Bool) (o : Option Context) (name : List ℕ) (good a : Answer) → a ≡ cond live (where_native (native_gate_for world o name) good) Gone → is_started a ≡ true → (is_some (view_for world o name) ≡ true) × (a ≡ good)
given world false o name good a is number = absurd (false≢true (sym (ap is_started is) ∙ number))
given world true None name good a is number = absurd (false≢true (sym (ap is_started is) ∙ number))
given world true (Some x) name good a is number = by (native_gate_of world x name) refl
  where
    seen : (place : ℕ) (ext : Option (List ℕ)) → is_some ext ≡ true → is_some (view_at (native.Open place) ext) ≡ true
    seen place None h = absurd (false≢true h)
    seen place (Some ext) h = refl

    refused : (v : NativeVerdict) → native_gate_of world x name ≡ v → is_started (where_native v good) ≡ false → (is_some (view_for world (Some x) name) ≡ true) × (a ≡ good)
    refused v at none = absurd (false≢true (sym none ∙ sym (ap is_started (is ∙ ap (λ w. where_native w good) at)) ∙ number))

    by : (v : NativeVerdict) → native_gate_of world x name ≡ v → (is_some (view_for world (Some x) name) ≡ true) × (a ≡ good)
    by (native.Open place) at = (ap (λ v. is_some (view_at v (extension_of x))) at ∙ seen place (extension_of x) (open_has_extension world x name place at), is ∙ ap (λ v. where_native v good) at)
    by native.BadTarget at = refused native.BadTarget at refl
    by native.NoPermission at = refused native.NoPermission at refl
    by native.BadHostName at = refused native.BadHostName at refl
    by native.HostNotFound at = refused native.HostNotFound at refl
    by native.HostForbidden at = refused native.HostForbidden at refl

channel_gives : (a : Answer) → is_channel a ≡ true → is_started a ≡ true
channel_gives (OnChannel k) h = refl
channel_gives a h = absurd (false≢true h)

request_gives : (a : Answer) → is_request a ≡ true → is_started a ≡ true
request_gives (OnRequest r) h = refl
request_gives a h = absurd (false≢true h)

-- a native connect that is answered with a channel
pub connect_given : (world : WorldLists) (live : Bool) (o : Option Context) (name : List ℕ) (good a : Answer) → a ≡ cond live (where_native (native_gate_for world o name) good) Gone → is_channel a ≡ true → (is_some (view_for world o name) ≡ true) × (a ≡ good)
connect_given world live o name good a is opens = given world live o name good a is (channel_gives a opens)

-- a native send that is answered with a request
pub send_given : (world : WorldLists) (live : Bool) (o : Option Context) (name text : List ℕ) (good a : Answer) → a ≡ cond live (where_native (native_gate_for world o name) (where_short text good)) Gone → is_request a ≡ true → (is_some (view_for world o name) ≡ true) × (a ≡ good)
send_given world live o name text good a is asks =
    let both = given world live o name (where_short text good) a is (request_gives a asks) in
    (both.0, both.1 ∙ short (nat_lt LONGEST (length text)) (sym (ap is_request both.1) ∙ asks))
  where
    short : (long : Bool) → is_request (cond long TooLong good) ≡ true → cond long TooLong good ≡ good
    short true h = absurd (false≢true h)
    short false h = refl

-- what is started, where the caller may start the host
pub start_is : (work : Work) (o : Option HostView) (view : HostView) (start : NativeStart) → o ≡ Some view → start_for work o ≡ Some start → start ≡ record { work = work; manifest = view.manifest; caller = view.caller }
start_is work (Some w) view start at is = cc
start_is work None view start at is = absurd (cc)

pub start_work : (work : Work) (o : Option HostView) (start : NativeStart) → start_for work o ≡ Some start → start.work ≡ work
start_work work None start is = absurd (cc)
start_work work (Some view) start is = ap (λ (s : NativeStart). s.work) (start_is work (Some view) view start refl is)

-- a host was started on a channel
pub told_connected_native : (world : WorldLists) (journal new : List Entry) (c : ContextNo) (name : List ℕ) (k : ChannelNo) (roster : List Member) (tables tables' : TablesState) (rows rows' : List HostState) (start : NativeStart)
    → IsTold world journal roster tables rows → FollowsMachine world (reverse journal) (connected_entry c name k) → new ≡ journal ++ connected_entry c name k ∷ []
    → k.0 ≡ length (channels (reverse journal)) → start_for (ForChannel k) (view_for world (context_of (reverse journal) c) name) ≡ Some start
    → tables'.ports ≡ tables.ports ++ opened c [] ∷ [] → tables'.requests ≡ tables.requests → tables'.queues ≡ tables.queues
    → rows' ≡ rows ++ started start [] ∷ []
    → IsTold world new roster tables' rows'
told_connected_native world journal new c name k roster tables tables' rows rows' start told follows grown number is opens asks queues starts =
    let past = reverse journal in
    let e = connected_entry c name k in
    let kept : IsKept world (journal ++ e ∷ []) tables'.ports tables.requests = kept_connected_native world journal (journal ++ e ∷ []) c name (OnChannel k) tables.ports tables'.ports tables.requests told.kept follows refl opens in
    told_next world journal new e roster tables' rows' grown
    (rw asks kept)
    (contexts_later.contexts_kept past e roster refl told.came)
    (contexts_later.count_kept past e roster refl told.count)
    (rw queues told.there)
    (rw queues (pending_connected_native world past c name k tables.queues (told.kept.legal, follows) told.waits))
    (by (view_for world (context_of past c) name) refl is)
    (count_started past e rows rows' (started start []) refl starts told.started_count)
  where
    by : (o : Option HostView) → view_for world (context_of (reverse journal) c) name ≡ o → start_for (ForChannel k) o ≡ Some start → HasHosts world (connected_entry c name k ∷ reverse journal) rows'
    by None seen is = absurd (cc)
    by (Some view) seen is = hosts_started_on_channel world (reverse journal) c name k k view rows rows' told.kept.legal told.started told.started_count seen number (starts ∙ ap (λ s. rows ++ started s [] ∷ []) (start_is (ForChannel k) (Some view) view start refl is))

-- a host was started for a request, with its text
pub told_sent_native : (world : WorldLists) (journal new : List Entry) (c : ContextNo) (name text : List ℕ) (r : RequestNo) (n : EntryNo) (roster : List Member) (tables tables' : TablesState) (rows rows' : List HostState) (start : NativeStart)
    → IsTold world journal roster tables rows → FollowsMachine world (reverse journal) (sent_entry c name text r) → new ≡ journal ++ sent_entry c name text r ∷ []
    → r.0 ≡ length (requests (reverse journal)) → n.0 ≡ length (reverse journal) → start_for (ForRequest r) (view_for world (context_of (reverse journal) c) name) ≡ Some start
    → tables'.ports ≡ tables.ports → tables'.requests ≡ tables.requests ++ asked c [] ∷ [] → tables'.queues ≡ tables.queues
    → rows' ≡ rows ++ started start (n ∷ []) ∷ []
    → IsTold world new roster tables' rows'
told_sent_native world journal new c name text r n roster tables tables' rows rows' start told follows grown number at is opens asks queues starts =
    let past = reverse journal in
    let e = sent_entry c name text r in
    let kept : IsKept world (journal ++ e ∷ []) tables.ports tables'.requests = kept_sent_native world journal (journal ++ e ∷ []) c name text (OnRequest r) tables.ports tables.requests tables'.requests told.kept follows refl asks in
    told_next world journal new e roster tables' rows' grown
    (rw opens kept)
    (contexts_later.contexts_kept past e roster refl told.came)
    (contexts_later.count_kept past e roster refl told.count)
    (rw queues told.there)
    (rw queues (pending_sent_native world past c name text r tables.queues (told.kept.legal, follows) told.waits))
    (by (view_for world (context_of past c) name) refl is)
    (count_started past e rows rows' (started start (n ∷ [])) refl starts told.started_count)
  where
    by : (o : Option HostView) → view_for world (context_of (reverse journal) c) name ≡ o → start_for (ForRequest r) o ≡ Some start → HasHosts world (sent_entry c name text r ∷ reverse journal) rows'
    by None seen is = absurd (cc)
    by (Some view) seen is = hosts_started_on_request world (reverse journal) c name text r r n view rows rows' told.kept.legal told.started told.started_count seen number at (starts ∙ ap (λ s. rows ++ started s (n ∷ []) ∷ []) (start_is (ForRequest r) (Some view) view start refl is))
