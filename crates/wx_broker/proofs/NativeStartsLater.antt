-- A native host that is started gets its row.
use Rattle.std.proofs.Common.{◌≡◌, ℕ, ◌≤◌, ◌+◌, List, [], ◌∷◌, ◌++◌, length, refl, ap, sym, ◌∙◌, Bool, true, false, cond, arith}
use Rattle.std.specs.Prelude.{Option, Some, None, is_some, ◌&&◌, ◌==◌, slice_get, option_to_list}
use Rattle.std.specs.Option.{option_map, option_or}
use Rattle.std.proofs.lemmas.List.{length-append}
use Rattle.wx_id.specs.declared.numbers.ContextNo.{ContextNo}
use Rattle.wx_id.specs.declared.numbers.ChannelNo.{ChannelNo}
use Rattle.wx_id.specs.declared.numbers.RequestNo.{RequestNo}
use Rattle.wx_id.specs.declared.numbers.HostNo.{HostNo}
use Rattle.wx_id.specs.declared.numbers.EntryNo.{EntryNo}
use Rattle.wx_context.specs.declared.contexts.Context.{Context}
use Rattle.wx_context.specs.declared.contexts.Context.TheVariants.{Page, Content, Web}
use Rattle.wx_external.specs.World.{WorldLists}
use Rattle.wx_external.specs.Gate.{native_gate_of}
use Rattle.wx_external.specs.declared.native.NativeVerdict.TheVariants as native
use Rattle.wx_machine.specs.declared.entries.Entry.{Entry}
use Rattle.wx_machine.specs.Words.{channels, requests, context_of, extension_of, Start, starts, hosts, has_ended, knows_end, said_closed, texts_left}
use Rattle.wx_machine.specs.declared.entries.Who.TheVariants.{Context as ByContext}
use Rattle.wx_machine.specs.declared.entries.Call.TheVariants.{ConnectNative, SendNative}
use Rattle.wx_machine.specs.declared.entries.Answer.TheVariants.{Channel as OnChannel, Request as OnRequest}
use Rattle.wx_machine.specs.declared.work.Work.TheVariants.{Channel as ForChannel, Request as ForRequest}
use Rattle.wx_native_hosts.specs.Hosts.{HostState, started}
use Rattle.wx_native_hosts.specs.declared.hosts.Start.{Start as NativeStart}
use Rattle.wx_laws.specs.Legal.{IsLegalPast}
use Rattle.wx_laws.proofs.Numbers.{eqb_refl}
use Rattle.wx_laws.proofs.HostsLater.{hosts_more}
use Rattle.wx_laws.proofs.ChannelsLater.{place_more}
use Rattle.wx_broker.specs.Views.{view_at, view_for}
use Rattle.wx_broker.specs.declared.host_view.HostView.{HostView}
use Rattle.wx_broker.proofs.TestsLater.{or_false, same_is}
use Rattle.wx_broker.specs.Told.{HasHosts, host_said, host_with, start_for, start_said}
use Rattle.wx_broker.proofs.NativeTextsLater.{left_same, left_told, none_left, not_ended, not_refused, not_told_end}
use Rattle.wx_broker.proofs.HostReadings.{native_start}
use Rattle.wx_broker.proofs.NativeHostsLater.{host_is, view_kept}

-- the native gate is open for contexts of an extension alone
pub open_has_extension : (world : WorldLists) (x : Context) (name : List ℕ) (place : ℕ) → native_gate_of world x name ≡ native.Open place → is_some (extension_of x) ≡ true
unfolding native_gate_of
open_has_extension world (Page ext path) name place opened = refl
open_has_extension world (Content ext tab frame url) name place opened = refl
open_has_extension world (Web tab frame url) name place opened = absurd (cc)

-- what is told of a host that a caller from that extension may start
pub open_view : (world : WorldLists) (x : Context) (name : List ℕ) (place : ℕ) (ext : List ℕ) → native_gate_of world x name ≡ native.Open place → extension_of x ≡ Some ext → view_for world (Some x) name ≡ Some (record { manifest = place; caller = ext })
open_view world x name place ext opened from = ap (λ verdict. view_at verdict (extension_of x)) opened ∙ ap (view_at (native.Open place)) from

-- the rows tell one more entry that starts a host, where one more row tells of it
hosts_one_more : (world : WorldLists) (past : List Entry) (e : Entry) (rows rows' : List HostState) (start : Start) (host : HostState) → IsLegalPast world past → starts past e ≡ Some start → HasHosts world past rows → length rows ≡ length (hosts past)
    → rows' ≡ rows ++ host ∷ []
    → ((h : HostNo) (s : NativeStart) → (length (hosts past) == h.0) ≡ false → host_with past h s ≡ host_with (e ∷ past) h s)
    → ((h : HostNo) → h.0 ≡ length (hosts past) → Some host ≡ host_said world (e ∷ past) h (Some start))
    → HasHosts world (e ∷ past) rows'
hosts_one_more world past e rows rows' start host legal starting has count grown old new h =
    ap (λ l. slice_get l h.0) grown
    ∙ place_more (λ o. o) rows (Some host) h.0
    ∙ ap (λ m. cond ((m == h.0) && true) (Some host) (slice_get rows h.0)) count
    ∙ by (length (hosts past) == h.0) refl
    ∙ sym (place_more (host_said world (e ∷ past) h) (hosts past) (Some start) h.0)
    ∙ ap (λ o. host_said world (e ∷ past) h (slice_get (hosts past ++ option_to_list o) h.0)) (sym starting)
  where
    same : (other : (length (hosts past) == h.0) ≡ false) (o : Option NativeStart) → option_map (host_with past h) o ≡ option_map (host_with (e ∷ past) h) o
    same other None = refl
    same other (Some s) = ap Some (old h s other)

    stays : (other : (length (hosts past) == h.0) ≡ false) (o : Option Start) → slice_get (hosts past) h.0 ≡ o → host_said world past h o ≡ host_said world (e ∷ past) h o
    stays other None at = refl
    stays other (Some was) at = ap (option_map (host_with past h)) (sym (view_kept world past e h.0 was legal at)) ∙ same other (start_said world (e ∷ past) was)

    by : (b : Bool) → (length (hosts past) == h.0) ≡ b → cond (b && true) (Some host) (slice_get rows h.0) ≡ cond (b && true) (host_said world (e ∷ past) h (Some start)) (host_said world (e ∷ past) h (slice_get (hosts past) h.0))
    by true last = new h (sym (same_is (length (hosts past)) h.0 last))
    by false other = has h ∙ stays other (slice_get (hosts past) h.0) refl

-- and there are as many rows as hosts
pub count_started : (past : List Entry) (e : Entry) (rows rows' : List HostState) (host : HostState) → is_some (starts past e) ≡ true → rows' ≡ rows ++ host ∷ [] → length rows ≡ length (hosts past) → length rows' ≡ length (hosts (e ∷ past))
count_started past e rows rows' host starting grown count =
    ap length grown
    ∙ length-append rows (host ∷ [])
    ∙ ap (λ m. m + 1) count
    ∙ ap (λ b. cond {A = ℕ} b (length (hosts past) + 1) (length (hosts past))) (sym starting)
    ∙ sym (hosts_more e past)

or_none : (o : Option Context) → option_or o None ≡ o
or_none None = refl
or_none (Some x) = refl

-- what is told of a start in an entry that brings nobody in
said_now : (world : WorldLists) (past : List Entry) (e : Entry) (start : Start) (view : HostView) (h : HostNo) → context_of (e ∷ past) start.caller ≡ context_of past start.caller → view_for world (context_of past start.caller) start.name ≡ Some view
    → host_said world (e ∷ past) h (Some start) ≡ Some (host_with (e ∷ past) h (native_start start view))
said_now world past e start view h same is =
    ap (λ o. option_map (host_with (e ∷ past) h) (start_for start.work (view_for world o start.name))) same
    ∙ ap (λ o. option_map (host_with (e ∷ past) h) (start_for start.work o)) is

at_last : (h : HostNo) (m : ℕ) → h.0 ≡ m → m ≤ h.0
at_last h m same = omega (arith, same)

-- context c starts the host of that name on channel k
abbrev pub connected_entry : ContextNo → List ℕ → ChannelNo → Entry
connected_entry c name k = record { who = ByContext c; call = ConnectNative name; answer = OnChannel k }

-- a host is started on a channel
pub hosts_started_on_channel : (world : WorldLists) (past : List Entry) (c : ContextNo) (name : List ℕ) (j k : ChannelNo) (view : HostView) (rows rows' : List HostState) → IsLegalPast world past → HasHosts world past rows → length rows ≡ length (hosts past)
    → view_for world (context_of past c) name ≡ Some view → k.0 ≡ length (channels past)
    → rows' ≡ rows ++ started (record { work = ForChannel k; manifest = view.manifest; caller = view.caller }) [] ∷ []
    → HasHosts world (connected_entry c name j ∷ past) rows'
hosts_started_on_channel world past c name j k view rows rows' legal has count view_is number grown =
    hosts_one_more world past e rows rows' start (started (native k) []) legal refl has count grown old new
  where
    e : Entry
    e = connected_entry c name j

    start : Start
    start = record { caller = c; name = name; work = ForChannel (record { 0 = length (channels past) }) }

    native : ChannelNo → NativeStart
    native i = record { work = ForChannel i; manifest = view.manifest; caller = view.caller }

    old : (h : HostNo) (s : NativeStart) → (length (hosts past) == h.0) ≡ false → host_with past h s ≡ host_with (e ∷ past) h s
    old h s other =
        host_is s (texts_left past h) (texts_left (e ∷ past) h) (has_ended past h) (has_ended (e ∷ past) h) (knows_end past h) (knows_end (e ∷ past) h) (said_closed past h) (said_closed (e ∷ past) h)
        (sym (left_same past e h refl refl)) (sym (or_false _)) (sym (or_false _)) (sym (or_false _))

    fresh : (h : HostNo) → length (hosts past) ≤ h.0 → started (native_start start view) [] ≡ host_with (e ∷ past) h (native_start start view)
    fresh h late =
        host_is (native_start start view) [] (texts_left (e ∷ past) h) false (has_ended (e ∷ past) h) false (knows_end (e ∷ past) h) false (said_closed (e ∷ past) h)
        (sym (left_same past e h refl refl ∙ none_left past h late))
        (sym (or_false _ ∙ not_ended world past h legal late))
        (sym (or_false _ ∙ not_told_end world past h legal late))
        (sym (or_false _ ∙ not_refused world past h legal late))

    new : (h : HostNo) → h.0 ≡ length (hosts past) → Some (started (native k) []) ≡ host_said world (e ∷ past) h (Some start)
    new h last =
        ap (λ (m : ℕ). Some (started (native (record { 0 = m })) [])) number
        ∙ ap Some (fresh h (at_last h (length (hosts past)) last))
        ∙ sym (said_now world past e start view h (or_none (context_of past c)) view_is)

-- context c starts the host of that name for request r
abbrev pub sent_entry : ContextNo → List ℕ → List ℕ → RequestNo → Entry
sent_entry c name text r = record { who = ByContext c; call = SendNative name text; answer = OnRequest r }

-- a host is started for a request, with its text
pub hosts_started_on_request : (world : WorldLists) (past : List Entry) (c : ContextNo) (name text : List ℕ) (j r : RequestNo) (n : EntryNo) (view : HostView) (rows rows' : List HostState) → IsLegalPast world past → HasHosts world past rows → length rows ≡ length (hosts past)
    → view_for world (context_of past c) name ≡ Some view → r.0 ≡ length (requests past) → n.0 ≡ length past
    → rows' ≡ rows ++ started (record { work = ForRequest r; manifest = view.manifest; caller = view.caller }) (n ∷ []) ∷ []
    → HasHosts world (sent_entry c name text j ∷ past) rows'
hosts_started_on_request world past c name text j r n view rows rows' legal has count view_is number at grown =
    hosts_one_more world past e rows rows' start (started (native r) (n ∷ [])) legal refl has count grown old new
  where
    e : Entry
    e = sent_entry c name text j

    start : Start
    start = record { caller = c; name = name; work = ForRequest (record { 0 = length (requests past) }) }

    native : RequestNo → NativeStart
    native i = record { work = ForRequest i; manifest = view.manifest; caller = view.caller }

    old : (h : HostNo) (s : NativeStart) → (length (hosts past) == h.0) ≡ false → host_with past h s ≡ host_with (e ∷ past) h s
    old h s other =
        host_is s (texts_left past h) (texts_left (e ∷ past) h) (has_ended past h) (has_ended (e ∷ past) h) (knows_end past h) (knows_end (e ∷ past) h) (said_closed past h) (said_closed (e ∷ past) h)
        (sym (left_same past e h other refl)) (sym (or_false _)) (sym (or_false _)) (sym (or_false _))

    fresh : (h : HostNo) → h.0 ≡ length (hosts past) → started (native_start start view) (n ∷ []) ≡ host_with (e ∷ past) h (native_start start view)
    fresh h last =
        let late : length (hosts past) ≤ h.0 = at_last h (length (hosts past)) last in
        host_is (native_start start view) (n ∷ []) (texts_left (e ∷ past) h) false (has_ended (e ∷ past) h) false (knows_end (e ∷ past) h) false (said_closed (e ∷ past) h)
        (sym (left_told world past e h n legal at (ap (λ (m : ℕ). length (hosts past) == m) last ∙ eqb_refl (length (hosts past))) refl ∙ ap (λ l. l ++ n ∷ []) (none_left past h late)))
        (sym (or_false _ ∙ not_ended world past h legal late))
        (sym (or_false _ ∙ not_told_end world past h legal late))
        (sym (or_false _ ∙ not_refused world past h legal late))

    new : (h : HostNo) → h.0 ≡ length (hosts past) → Some (started (native r) (n ∷ [])) ≡ host_said world (e ∷ past) h (Some start)
    new h last =
        ap (λ (m : ℕ). Some (started (native (record { 0 = m })) (n ∷ []))) number
        ∙ ap Some (fresh h last)
        ∙ sym (said_now world past e start view h (or_none (context_of past c)) view_is)
