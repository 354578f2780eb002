use Rattle.std.proofs.Common.{◌≡◌, ◌∙◌, ◌++◌, ◌∷◌, [], Bool, List, true, false, refl, sym, ap, cond}
use Rattle.std.proofs.lemmas.Bool.{false≢true}
use Rattle.std.specs.Prelude.{reverse}
use Rattle.wx_external.specs.World.{WorldLists}
use Rattle.wx_machine.specs.declared.entries.Who.{Who}
use Rattle.wx_machine.specs.declared.entries.Who.TheVariants.{Context as ByContext, Host as ByHost}
use Rattle.wx_machine.specs.declared.entries.Call.{Call}
use Rattle.wx_machine.specs.declared.entries.Call.TheVariants.{ConnectNative, Enter, HostEnded, HostSaid, HostTake, Leave, Listen, Post, SendNative}
use Rattle.wx_machine.specs.declared.entries.Answer.{Answer}
use Rattle.wx_machine.specs.declared.entries.Answer.TheVariants.{Channel as OnChannel, Done, End as NoMore, Gone, PortClosed, Posted, Request as OnRequest, Text as HasText}
use Rattle.wx_machine.specs.declared.entries.Entry.{Entry}
use Rattle.wx_machine.specs.Words.{FollowsMachine, is_enter, is_live}
use Rattle.wx_roster.specs.declared.roster.Member.{Member}
use Rattle.wx_tables.specs.State.{TablesState}
use Rattle.wx_native_hosts.specs.Hosts.{HostState}
use Rattle.wx_broker.specs.Calm.{is_calm, is_gone}
use Rattle.wx_broker.specs.Told.{HasContexts, IsTold}
use Rattle.wx_broker.proofs.CalmLater.{kept_calm, pending_calm}
use Rattle.wx_broker.proofs.ToldLater.{told_next}
use Rattle.wx_broker.proofs.ContextsLater as contexts_later
use Rattle.wx_broker.proofs.NativeHostsLater as hosts_later
use Rattle.wx_broker.proofs.broker.Broker.append.Goals as goal

-- a calm call spares the hosts
calm_spares : (call : Call) (answer : Answer) → is_calm call answer ≡ true → hosts_later.spares_hosts call answer ≡ true
calm_spares (Post k text) Posted h = absurd (false≢true h)
calm_spares (ConnectNative name) (OnChannel k) h = absurd (false≢true h)
calm_spares (SendNative name text) (OnRequest r) h = absurd (false≢true h)
calm_spares HostTake (HasText n) h = absurd (false≢true h)
calm_spares HostTake NoMore h = absurd (false≢true h)
calm_spares (HostSaid text) PortClosed h = absurd (false≢true h)
calm_spares (HostEnded reason) Done h = absurd (false≢true h)
calm_spares call answer h = refl

-- it is no enter
calm_enters : (call : Call) (answer : Answer) → is_calm call answer ≡ true → is_enter call ≡ false
calm_enters (Enter x) answer h = sym h
calm_enters call answer h = refl

-- one who is told `Gone` where a live one is told `Done` does not live
gone_dead : (live : Bool) → is_gone (cond live Done Gone) ≡ true → live ≡ false
gone_dead true h = absurd (false≢true h)
gone_dead false h = refl

-- the roster tells the journal after a calm call
contexts_calm : (world : WorldLists) (past : List Entry) (who : Who) (call : Call) (answer : Answer) (members : List Member) → let e : Entry = record { who = who; call = call; answer = answer } in FollowsMachine world past e → is_calm call answer ≡ true → HasContexts past members → HasContexts (e ∷ past) members
contexts_calm world past who (Enter x) answer members follows h told = absurd (false≢true h)
contexts_calm world past (ByContext c) (Listen l) answer members follows h told =
    contexts_later.contexts_gone past (record { who = ByContext c; call = Listen l; answer = answer }) c members refl refl
    (gone_dead (is_live past c) (sym (ap is_gone follows.answered) ∙ h)) told
contexts_calm world past (ByContext c) Leave answer members follows h told =
    contexts_later.contexts_gone past (record { who = ByContext c; call = Leave; answer = answer }) c members refl refl
    (gone_dead (is_live past c) (sym (ap is_gone follows.answered) ∙ h)) told
contexts_calm world past (ByHost g) (Listen l) answer members follows h told = absurd (false≢true follows.may)
contexts_calm world past (ByHost g) Leave answer members follows h told = absurd (false≢true follows.may)
contexts_calm world past who call answer members follows h told =
    contexts_later.contexts_kept past (record { who = who; call = call; answer = answer }) members refl told

-- the tables tell the journal after a calm call
told_calm : (world : WorldLists) (journal new : List Entry) (e : Entry) (roster : List Member) (tables : TablesState) (rows : List HostState) → IsTold world journal roster tables rows → FollowsMachine world (reverse journal) e → is_calm e.call e.answer ≡ true → new ≡ journal ++ e ∷ [] → IsTold world new roster tables rows
told_calm world journal new e roster tables rows told follows calm grown =
    let past = reverse journal in
    let spares : hosts_later.spares_hosts e.call e.answer ≡ true = calm_spares e.call e.answer calm in
    told_next world journal new e roster tables rows grown
    (kept_calm world journal e tables.ports tables.requests told.kept follows calm)
    (contexts_calm world past e.who e.call e.answer roster follows calm told.came)
    (contexts_later.count_kept past e roster (calm_enters e.call e.answer calm) told.count)
    told.there
    (pending_calm world journal e tables.ports tables.requests tables.queues told.kept follows calm told.waits)
    (hosts_later.hosts_kept world past e rows (told.kept.legal, follows) spares told.started)
    (hosts_later.count_kept past e rows spares told.started_count)

pub invariant_of-self : goal.invariant_of-self
invariant_of-self c =
    let i = c.self.inside in
    let e : Entry = record { who = c.args.who; call = c.args.call; answer = c.args.answer } in
    told_calm i.world i.journal.entries c.push_reserved.new.self.entries e i.roster i.tables i.hosts.hosts c.self.invariant
    (rw (← c.self.view_is) at c.requires.follows)
    c.requires.calm
    c.push_reserved.ensures.entries
