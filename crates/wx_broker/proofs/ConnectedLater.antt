-- A connect that is answered with a channel: the number in the answer, and how the tables tell of it.
use Rattle.std.proofs.Common.{◌≡◌, ℕ, List, [], ◌∷◌, ◌++◌, length, sym, ap, ◌∙◌, Bool, true, false, cond, subst, refl}
use Rattle.std.specs.Prelude.{reverse, Ok, Err, OnOk, IfOk, is_err}
use Rattle.std.specs.declared.result.Result.{Result}
use Rattle.std.proofs.lemmas.Bool.{false≢true, true≢false}
use Rattle.wx_id.specs.declared.numbers.ChannelNo.{ChannelNo}
use Rattle.wx_id.specs.declared.numbers.ContextNo.{ContextNo}
use Rattle.wx_id.specs.declared.numbers.EntryNo.{EntryNo}
use Rattle.wx_id.specs.declared.events.EventKind.TheVariants.{Connected}
use Rattle.wx_context.specs.declared.contexts.Target.{Target}
use Rattle.wx_external.specs.World.{WorldLists}
use Rattle.wx_external.specs.declared.gates.Verdict.{Verdict}
use Rattle.wx_external.specs.declared.gates.Verdict.TheVariants as gate
use Rattle.wx_machine.specs.declared.sorts.Sort.TheVariants.{Connection}
use Rattle.wx_machine.specs.declared.entries.Who.TheVariants.{Context as ByContext}
use Rattle.wx_machine.specs.declared.entries.Call.TheVariants.{Connect}
use Rattle.wx_machine.specs.declared.entries.Answer.{Answer}
use Rattle.wx_machine.specs.declared.entries.Answer.TheVariants.{Channel as OnChannel, Gone}
use Rattle.wx_machine.specs.declared.entries.Entry.{Entry}
use Rattle.wx_machine.specs.Answers.{gate_for, where_heard, where_open}
use Rattle.wx_machine.specs.Words.{FollowsMachine, channels, context_of, is_live, receivers_of}
use Rattle.wx_port.specs.Port.{opened}
use Rattle.wx_roster.specs.declared.roster.Member.{Member}
use Rattle.wx_tables.specs.State.{TablesState, in_entry}
use Rattle.wx_tables.specs.Ending.{EachQueue, told_each}
use Rattle.wx_native_hosts.specs.Hosts.{HostState}
use Rattle.wx_broker.specs.Tables.{is_channel}
use Rattle.wx_broker.proofs.KeptLater.{kept_connected}
use Rattle.wx_broker.proofs.PortsLater.{channels_counted}
use Rattle.wx_broker.specs.Told.{IsTold}
use Rattle.wx_broker.proofs.OpenedLater.{connect_entry, pending_connected}
use Rattle.wx_broker.proofs.ToldLater.{told_tables, same_length}

-- a connect that is answered with a channel is answered with the next one
channel_given : (live : Bool) (v : Verdict) (rs : List ContextNo) (next : ChannelNo) (a : Answer) → a ≡ cond live (where_open v (where_heard rs (OnChannel next))) Gone → is_channel a ≡ true → a ≡ OnChannel next
channel_given live v rs next a is opens = is ∙ by live v rs (sym (ap is_channel is) ∙ opens)
  where
    by : (live : Bool) (v : Verdict) (rs : List ContextNo) → is_channel (cond live (where_open v (where_heard rs (OnChannel next))) Gone) ≡ true → cond live (where_open v (where_heard rs (OnChannel next))) Gone ≡ OnChannel next
    by false v rs h = absurd (false≢true h)
    by true (gate.Open x) (c ∷ cs) h = refl
    by true (gate.Open x) [] h = absurd (false≢true h)
    by true gate.BadTarget rs h = absurd (false≢true h)
    by true (gate.Forbidden rule) rs h = absurd (false≢true h)

told_opened : (world : WorldLists) (journal new : List Entry) (c : ContextNo) (target : Target) (name : List ℕ) (k : ChannelNo) (receivers : List ContextNo) (roster : List Member) (tables tables' : TablesState) (rows : List HostState) (n : EntryNo)
    → IsTold world journal roster tables rows
    → FollowsMachine world (reverse journal) (connect_entry c target name k)
    → new ≡ journal ++ connect_entry c target name k ∷ []
    → n.0 ≡ length (reverse journal)
    → receivers ≡ receivers_of (reverse journal) c target Connection
    → k.0 ≡ length (channels (reverse journal))
    → tables'.ports ≡ tables.ports ++ opened c receivers ∷ []
    → tables'.requests ≡ tables.requests
    → EachQueue (told_each receivers (in_entry n (Connected k))) tables.queues tables'.queues
    → IsTold world new roster tables' rows
told_opened world journal new c target name k receivers roster tables tables' rows n told follows grown at found number more requests queues =
    told_tables world journal new (connect_entry c target name k) roster tables tables' rows told follows grown refl refl
    (rw requests (kept_connected world journal (journal ++ connect_entry c target name k ∷ []) c target name (OnChannel k) tables.ports tables'.ports tables.requests told.kept follows refl
    (more ∙ ap (λ l. tables.ports ++ opened c l ∷ []) found)))
    (same_length (told_each receivers (in_entry n (Connected k))) tables.queues tables'.queues queues)
    (pending_connected world (reverse journal) c target name k receivers tables.queues tables'.queues n at (told.kept.legal, follows) told.waits number found queues)

-- the tables tell of a connect that is answered with a channel, once it is opened
pub told_connected : {E : Type 0} (world : WorldLists) (journal new : List Entry) (c : ContextNo) (target : Target) (name : List ℕ) (answer : Answer) (receivers : List ContextNo) (roster : List Member) (tables tables' : TablesState) (rows : List HostState) (n : EntryNo) (result : Result ChannelNo E)
    → IsTold world journal roster tables rows
    → FollowsMachine world (reverse journal) (record { who = ByContext c; call = Connect target name; answer = answer })
    → is_channel answer ≡ true
    → new ≡ journal ++ record { who = ByContext c; call = Connect target name; answer = answer } ∷ []
    → n.0 ≡ length (reverse journal)
    → receivers ≡ receivers_of (reverse journal) c target Connection
    → is_err result ≡ false
    → IfOk result (λ k. k.0 ≡ length tables.ports)
    → OnOk result (tables'.ports ≡ tables.ports ++ opened c receivers ∷ [])
    → tables'.requests ≡ tables.requests
    → IfOk result (λ k. EachQueue (told_each receivers (in_entry n (Connected k))) tables.queues tables'.queues)
    → IsTold world new roster tables' rows
told_connected world journal new c target name answer receivers roster tables tables' rows n (Err e) told follows opens grown at found ok number more requests queues = absurd (true≢false ok)
told_connected world journal new c target name answer receivers roster tables tables' rows n (Ok k) told follows opens grown at found ok number more requests queues =
    let past = reverse journal in
    let counted : k.0 ≡ length (channels (reverse journal)) = number ∙ channels_counted past tables.ports told.kept.channels in
    let is : answer ≡ OnChannel k = channel_given (is_live past c) (gate_for world (context_of past c) target) (receivers_of past c target Connection) (record { 0 = length (channels past) }) answer follows.answered opens ∙ ap (λ (m : ℕ). OnChannel (record { 0 = m })) (sym counted) in
    told_opened world journal new c target name k receivers roster tables tables' rows n told
    (subst (λ a. FollowsMachine world (reverse journal) (record { who = ByContext c; call = Connect target name; answer = a })) is follows)
    (subst (λ a. new ≡ journal ++ record { who = ByContext c; call = Connect target name; answer = a } ∷ []) is grown)
    at found counted more requests queues
