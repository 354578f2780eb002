use Rattle.std.proofs.Common.{◌≡◌, ◌∙◌, ◌++◌, ◌∷◌, [], List, length, true, refl, sym}
use Rattle.std.proofs.lemmas.Bool.{false≢true}
use Rattle.std.specs.Prelude.{reverse}
use Rattle.wx_id.specs.declared.numbers.ContextNo.{ContextNo}
use Rattle.wx_external.specs.World.{WorldLists}
use Rattle.wx_machine.specs.declared.entries.Who.TheVariants.{Context as ByContext}
use Rattle.wx_machine.specs.declared.entries.Call.TheVariants.{Listen}
use Rattle.wx_machine.specs.declared.entries.Answer.{Answer}
use Rattle.wx_machine.specs.declared.entries.Answer.TheVariants.{Done}
use Rattle.wx_machine.specs.declared.entries.Entry.{Entry}
use Rattle.wx_machine.specs.Words.{FollowsMachine}
use Rattle.wx_roster.specs.declared.roster.Member.{Member}
use Rattle.wx_tables.specs.State.{TablesState}
use Rattle.wx_context.specs.declared.contexts.Listens.{Listens}
use Rattle.wx_roster.specs.Members.{listening}
use Rattle.wx_roster.proofs.MembersLater.{ChangedAt}
use Rattle.wx_native_hosts.specs.Hosts.{HostState}
use Rattle.wx_broker.specs.Tables.{is_done}
use Rattle.wx_broker.proofs.KeptLater.{kept_quiet, may_call}
use Rattle.wx_broker.specs.Told.{IsTold}
use Rattle.wx_broker.proofs.PendingLater.{pending_same}
use Rattle.wx_broker.proofs.ToldLater.{told_next}
use Rattle.wx_broker.proofs.ContextsLater as contexts_later
use Rattle.wx_broker.proofs.NativeHostsLater as hosts_later
use Rattle.wx_broker.proofs.broker.Broker.listen.Goals as goal

-- the tables tell the journal once a context said what it listens to
told_listened : (world : WorldLists) (journal new : List Entry) (c : ContextNo) (l : Listens) (answer : Answer) (roster roster' : List Member) (tables : TablesState) (rows : List HostState) → IsTold world journal roster tables rows → FollowsMachine world (reverse journal) (record { who = ByContext c; call = Listen l; answer = answer }) → is_done answer ≡ true → new ≡ journal ++ record { who = ByContext c; call = Listen l; answer = answer } ∷ [] → ChangedAt (listening l) c roster roster' → length roster' ≡ length roster → IsTold world new roster' tables rows
told_listened world journal new c l Done roster roster' tables rows told follows done grown changed count =
    let e : Entry = record { who = ByContext c; call = Listen l; answer = Done } in
    let past = reverse journal in
    told_next world journal new e roster' tables rows grown
    (kept_quiet world journal (journal ++ e ∷ []) e tables.ports tables.requests told.kept follows refl refl)
    (contexts_later.contexts_listened past e c l roster roster' refl refl changed told.came)
    (contexts_later.count_kept past e roster' refl (count ∙ told.count))
    (rw count told.there)
    (pending_same world past e tables.queues (told.kept.legal, follows) told.waits refl (λ d. refl))
    (hosts_later.hosts_kept world past e rows (told.kept.legal, follows) refl told.started)
    (hosts_later.count_kept past e rows refl told.started_count)
told_listened world journal new c l answer roster roster' tables rows told follows done grown changed count = absurd (false≢true done)

pub invariant_of-self-3 : goal.invariant_of-self-3
invariant_of-self-3 c =
    let i = c.self.inside in
    told_listened i.world i.journal.entries c.push_reserved.new.self.entries c.args.c c.args.l c.done_if_live-answer.result i.roster c.listen.new.self i.tables i.hosts.hosts c.self.invariant
    (record { may = may_call (reverse i.journal.entries) c.args.c (rw (← c.self.view_is) at c.requires); answered = rw c.in_ok-reserve.ensures.same at c.done_if_live-answer.ensures })
    (sym c.is_done.ensures ∙ c.if-not-is_done.false)
    (rw c.in_ok-reserve.ensures.same at c.push_reserved.ensures.entries)
    c.listen.ensures.members c.listen.ensures.count
