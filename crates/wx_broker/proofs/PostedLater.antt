-- A post that is answered `Posted`: a channel that a native host works for has no receivers and no other host, and how
-- the tables tell of the post.
use Rattle.std.proofs.Common.{◌≡◌, ℕ, List, [], ◌∷◌, ◌++◌, length, sym, ap, ◌∙◌, Bool, true, false, cond, subst, refl, arith, map}
use Rattle.std.specs.Prelude.{Option, Some, None, IfSome, is_some, reverse, nat_lt, slice_get, ◌&&◌, ◌==◌}
use Rattle.std.specs.Option.{option_map}
use Rattle.std.proofs.lemmas.Bool.{and_parts, false_from_ne_true, false≢true}
use Rattle.wx_id.specs.Contexts.{is_among, same_context}
use Rattle.wx_id.specs.declared.numbers.ChannelNo.{ChannelNo}
use Rattle.wx_id.specs.declared.numbers.ContextNo.{ContextNo}
use Rattle.wx_id.specs.declared.numbers.EntryNo.{EntryNo}
use Rattle.wx_id.specs.declared.numbers.HostNo.{HostNo}
use Rattle.wx_id.specs.declared.events.EventKind.TheVariants.{Message}
use Rattle.wx_id.specs.declared.events.End.TheVariants.{Opener, Receiver, Neither}
use Rattle.wx_external.specs.World.{WorldLists}
use Rattle.wx_machine.specs.declared.entries.Who.{Who}
use Rattle.wx_machine.specs.declared.entries.Who.TheVariants.{Context as ByContext}
use Rattle.wx_machine.specs.declared.entries.Call.{Call}
use Rattle.wx_machine.specs.declared.entries.Call.TheVariants.{ConnectNative, SendNative}
use Rattle.wx_machine.specs.declared.entries.Answer.{Answer}
use Rattle.wx_machine.specs.declared.entries.Answer.TheVariants.{Channel as OnChannel, Request as OnRequest}
use Rattle.wx_machine.specs.declared.entries.Entry.{Entry}
use Rattle.wx_machine.specs.declared.entries.TheConstants.{LONGEST}
use Rattle.wx_machine.specs.Words.{channel, channels, delivered, end_in, Ends, FollowsMachine, goes, hosts, is_closed, is_for_channel, is_live, is_one, marked, on, opened_by, opens, started_by, starts, work_in, work_of}
use Rattle.wx_roster.specs.declared.roster.Member.{Member}
use Rattle.wx_tables.specs.State.{TablesState, in_entry}
use Rattle.wx_tables.specs.Ending.{EachQueue, told_end}
use Rattle.wx_native_hosts.specs.Hosts.{HostState, told}
use Rattle.wx_native_hosts.specs.Hosts.{work_in as work_in_row}
use Rattle.wx_laws.proofs.ChannelsLater.{channel_more}
use Rattle.wx_laws.proofs.HostsLater.{work_more}
use Rattle.wx_broker.specs.Tables.{port_said}
use Rattle.wx_broker.proofs.KeptLater.{kept_quiet}
use Rattle.wx_broker.proofs.TestsLater.{same_is, same_self}
use Rattle.wx_broker.proofs.WorkLater.{other_channel}
use Rattle.wx_broker.specs.Told.{IsTold}
use Rattle.wx_broker.proofs.ContextsLater as contexts_later
use Rattle.wx_broker.proofs.HostReadings.{rows_work}
use Rattle.wx_broker.proofs.MessagesLater.{nothing, pending_posted, post_entry, posted_facts}
use Rattle.wx_broker.proofs.NativeHostsLater.{count_posted, hosts_posted_none, hosts_posted_told}
use Rattle.wx_broker.proofs.PendingLater.{pending_same}
use Rattle.wx_broker.proofs.ToldLater.{told_next, same_length_if}

abbrev has_none : List ContextNo → Bool
has_none [] = true
has_none (c ∷ cs) = false

abbrev is_alone : Option Ends → Bool
is_alone None = true
is_alone (Some ends) = has_none ends.receivers

-- an entry that starts a host for channel k opens that channel, with no receivers
started_alone : (past : List Entry) (who : Who) (call : Call) (answer : Answer) (k : ℕ) → is_for_channel k (work_in (started_by past who call answer)) ≡ true → ((length (channels past) == k) ≡ true) × (is_some (opened_by past who call answer) ≡ true) × (is_alone (opened_by past who call answer) ≡ true)
started_alone past (ByContext c) (ConnectNative name) (OnChannel j) k h = (h, refl, refl)
started_alone past (ByContext c) (SendNative name text) (OnRequest r) k h = absurd (false≢true h)
started_alone past who call answer k h = absurd (false≢true h)

-- no host works for the channel that is opened next
none_next : (past : List Entry) (h : HostNo) (k : ℕ) → (length (channels past) == k) ≡ true → is_for_channel k (work_of past h) ≡ false
none_next past h k same = let next : length (channels past) ≡ k = same_is (length (channels past)) k same in other_channel past h k (omega (arith, next))

-- a channel that a host works for has no receivers
host_alone : (past : List Entry) (h : HostNo) (k : ℕ) → is_for_channel k (work_of past h) ≡ true → is_alone (channel past k) ≡ true
host_alone [] h k works = refl
host_alone (e ∷ past) h k works =
    channel_more is_alone e past k
    ∙ by ((length (hosts past) == h.0) && is_some (starts past e)) ((length (channels past) == k) && is_some (opens past e)) refl (host_alone past h k) (sym (ap (is_for_channel k) (work_more e past h)) ∙ works)
  where
    by : (b b' : Bool) → ((length (channels past) == k) && is_some (opens past e)) ≡ b' → (is_for_channel k (work_of past h) ≡ true → is_alone (channel past k) ≡ true) → is_for_channel k (cond b (work_in (starts past e)) (work_of past h)) ≡ true → cond b' (is_alone (opens past e)) (is_alone (channel past k)) ≡ true
    by true true is before works = (started_alone past e.who e.call e.answer k works).2
    by true false is before works =
        let s = started_alone past e.who e.call e.answer k works in
        absurd (false≢true (sym is ∙ ap (λ b. b && is_some (opens past e)) s.0 ∙ s.1))
    by false true is before works = absurd (false≢true (sym (none_next past h k (and_parts _ _ is).0) ∙ works))
    by false false is before works = before works

-- no two hosts work for one channel
one_host : (past : List Entry) (g h : HostNo) (k : ℕ) → is_for_channel k (work_of past g) ≡ true → is_for_channel k (work_of past h) ≡ true → g.0 ≡ h.0
one_host [] g h k first second = absurd (false≢true first)
one_host (e ∷ past) g h k first second =
    by (starts_it g) (starts_it h) refl refl (one_host past g h k) (sym (ap (is_for_channel k) (work_more e past g)) ∙ first) (sym (ap (is_for_channel k) (work_more e past h)) ∙ second)
  where
    starts_it : HostNo → Bool
    starts_it x = (length (hosts past) == x.0) && is_some (starts past e)

    at : (x : HostNo) → starts_it x ≡ true → length (hosts past) ≡ x.0
    at x is = same_is (length (hosts past)) x.0 (and_parts _ _ is).0

    clash : (x : HostNo) → is_for_channel k (work_in (starts past e)) ≡ true → is_for_channel k (work_of past x) ≡ true → false ≡ true
    clash x new old = sym (none_next past x k (started_alone past e.who e.call e.answer k new).0) ∙ old

    by : (b b' : Bool) → starts_it g ≡ b → starts_it h ≡ b' → (is_for_channel k (work_of past g) ≡ true → is_for_channel k (work_of past h) ≡ true → g.0 ≡ h.0) → is_for_channel k (cond b (work_in (starts past e)) (work_of past g)) ≡ true → is_for_channel k (cond b' (work_in (starts past e)) (work_of past h)) ≡ true → g.0 ≡ h.0
    by true true is is' before first second = sym (at g is) ∙ at h is'
    by true false is is' before first second = absurd (false≢true (clash h first second))
    by false true is is' before first second = absurd (false≢true (clash g second first))
    by false false is is' before first second = before first second

-- what an end of a channel without receivers posts goes to no context
goes_nowhere : (o : Option Ends) (c d : ContextNo) (live : Bool) → is_alone o ≡ true → is_one (end_in o c) ≡ true → goes (end_in o c) (end_in o d) live ≡ false
goes_nowhere None c d live alone one = absurd (false≢true one)
goes_nowhere (Some ends) c d live alone one = by ends.receivers alone (same_context ends.opener c) (same_context ends.opener d) one
  where
    by : (rs : List ContextNo) → has_none rs ≡ true → (s t : Bool) → is_one (cond s Opener (cond (is_among rs c) Receiver Neither)) ≡ true → goes (cond s Opener (cond (is_among rs c) Receiver Neither)) (cond t Opener (cond (is_among rs d) Receiver Neither)) live ≡ false
    by [] none true true one = refl
    by [] none true false one = refl
    by [] none false t one = absurd (false≢true one)
    by (x ∷ xs) none s t one = absurd (false≢true none)

-- what a post on the channel of a host delivers
posted_nothing : (past : List Entry) (c d : ContextNo) (k : ChannelNo) (text : List ℕ) → is_alone (channel past k.0) ≡ true → is_one (end_in (channel past k.0) c) ≡ true → delivered past (post_entry c k text) d ≡ []
posted_nothing past c d k text alone one =
    ap (map (marked (length past))) (nothing (on (goes (end_in (channel past k.0) c) (end_in (channel past k.0) d) (is_live past d)) (Message k)))
    ∙ ap (λ b. map (marked (length past)) (on b (Message k))) (goes_nowhere (channel past k.0) c d (is_live past d) alone one)

posted_by : (world : WorldLists) (past : List Entry) (c : ContextNo) (k : ChannelNo) (text : List ℕ) → FollowsMachine world past (post_entry c k text) → is_one (end_in (channel past k.0) c) ≡ true
posted_by world past c k text follows = (posted_facts (is_live past c) (is_closed past k.0) (nat_lt LONGEST (length text)) (end_in (channel past k.0) c) follows.answered).0

-- the tables tell of a post on the channel of a host, once the host is told
pub told_posted_host : (world : WorldLists) (journal new : List Entry) (c : ContextNo) (k : ChannelNo) (text : List ℕ) (g : HostNo) (roster : List Member) (tables : TablesState) (rows rows' : List HostState) (n : EntryNo)
    → IsTold world journal roster tables rows
    → FollowsMachine world (reverse journal) (post_entry c k text)
    → new ≡ journal ++ post_entry c k text ∷ []
    → n.0 ≡ length (reverse journal)
    → is_for_channel k.0 (work_of (reverse journal) g) ≡ true
    → ((h : HostNo) → slice_get rows' h.0 ≡ option_map (λ host. cond (g.0 == h.0) (told n host) host) (slice_get rows h.0))
    → length rows' ≡ length rows
    → IsTold world new roster tables rows'
told_posted_host world journal new c k text g roster tables rows rows' n is_told follows grown at works changed same =
    told_next world journal new (post_entry c k text) roster tables rows' grown
    (kept_quiet world journal (journal ++ post_entry c k text ∷ []) (post_entry c k text) tables.ports tables.requests is_told.kept follows refl refl)
    (contexts_later.contexts_kept past (post_entry c k text) roster refl is_told.came)
    (contexts_later.count_kept past (post_entry c k text) roster refl is_told.count)
    is_told.there
    (pending_same world past (post_entry c k text) tables.queues (is_told.kept.legal, follows) is_told.waits refl
    (λ d. posted_nothing past c d k text (host_alone past g k.0 works) (posted_by world past c k text follows)))
    (hosts_posted_told world past c k text n g rows rows' is_told.kept.legal at is_told.started finds changed)
    (count_posted past c k text rows rows' same is_told.started_count)
  where
    past : List Entry
    past = reverse journal

    only : (h : HostNo) (b : Bool) → (g.0 == h.0) ≡ b → is_for_channel k.0 (work_of past h) ≡ b
    only h true is = subst (λ (m : ℕ). is_for_channel k.0 (work_of past (record { 0 = m })) ≡ true) (same_is g.0 h.0 is) works
    only h false is = false_from_ne_true _ (λ too. false≢true (sym is ∙ ap (λ (m : ℕ). m == h.0) (one_host past g h k.0 works too) ∙ same_self h.0))

    finds : (h : HostNo) → is_for_channel k.0 (work_in_row (slice_get rows h.0)) ≡ (g.0 == h.0)
    finds h = ap (is_for_channel k.0) (rows_work world past rows h is_told.kept.legal is_told.started) ∙ only h (g.0 == h.0) refl

-- the tables tell of a post on a channel without a host, once the other side is told
pub told_posted_ends : (world : WorldLists) (journal new : List Entry) (c : ContextNo) (k : ChannelNo) (text : List ℕ) (roster : List Member) (tables tables' : TablesState) (rows : List HostState) (n : EntryNo)
    → IsTold world journal roster tables rows
    → FollowsMachine world (reverse journal) (post_entry c k text)
    → new ≡ journal ++ post_entry c k text ∷ []
    → n.0 ≡ length (reverse journal)
    → ((h : HostNo) → is_for_channel k.0 (work_of (reverse journal) h) ≡ false)
    → tables'.ports ≡ tables.ports
    → tables'.requests ≡ tables.requests
    → IfSome (slice_get tables.ports k.0) (λ port. EachQueue (told_end port c (in_entry n (Message k))) tables.queues tables'.queues)
    → IsTold world new roster tables' rows
told_posted_ends world journal new c k text roster tables tables' rows n is_told follows grown at alone ports requests queues =
    told_next world journal new (post_entry c k text) roster tables' rows grown
    (rw (ports, requests) (kept_quiet world journal (journal ++ post_entry c k text ∷ []) (post_entry c k text) tables.ports tables.requests is_told.kept follows refl refl))
    (contexts_later.contexts_kept past (post_entry c k text) roster refl is_told.came)
    (contexts_later.count_kept past (post_entry c k text) roster refl is_told.count)
    (rw (same_length_if (slice_get tables.ports k.0) (λ port. told_end port c (in_entry n (Message k))) tables.queues tables'.queues there queues) is_told.there)
    (pending_posted world past c k text tables.ports tables.queues tables'.queues n at (is_told.kept.legal, follows) is_told.kept.channels is_told.waits queues)
    (hosts_posted_none world past c k text rows is_told.kept.legal is_told.started (λ h. ap (is_for_channel k.0) (rows_work world past rows h is_told.kept.legal is_told.started) ∙ alone h))
    (count_posted past c k text rows rows refl is_told.started_count)
  where
    past : List Entry
    past = reverse journal

    there : is_some (slice_get tables.ports k.0) ≡ true
    there = ap is_some (is_told.kept.channels k.0) ∙ by (channel past k.0) (posted_by world past c k text follows)
      where
        by : (o : Option Ends) → is_one (end_in o c) ≡ true → is_some (option_map (port_said past k.0) o) ≡ true
        by None one = absurd (false≢true one)
        by (Some ends) one = refl
