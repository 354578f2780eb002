use Rattle.std.proofs.Common.{◌≡◌, ◌∙◌, ◌++◌, ◌∷◌, [], List, true, refl, sym}
use Rattle.std.proofs.lemmas.Bool.{false≢true}
use Rattle.std.specs.Prelude.{reverse}
use Rattle.wx_id.specs.declared.numbers.ContextNo.{ContextNo}
use Rattle.wx_external.specs.World.{WorldLists}
use Rattle.wx_machine.specs.declared.entries.Who.TheVariants.{Context as ByContext}
use Rattle.wx_machine.specs.declared.entries.Call.TheVariants.{Take}
use Rattle.wx_machine.specs.declared.entries.Answer.{Answer}
use Rattle.wx_machine.specs.declared.entries.Answer.TheVariants.{Event as Told}
use Rattle.wx_machine.specs.declared.entries.Entry.{Entry}
use Rattle.wx_machine.specs.Words.{FollowsMachine}
use Rattle.wx_roster.specs.declared.roster.Member.{Member}
use Rattle.wx_tables.specs.State.{TablesState}
use Rattle.wx_tables.specs.Ending.{EachQueue}
use Rattle.wx_tables.specs.Waiting.{taken}
use Rattle.wx_native_hosts.specs.Hosts.{HostState}
use Rattle.wx_broker.specs.Tables.{is_event}
use Rattle.wx_broker.proofs.KeptLater.{kept_quiet, may_call}
use Rattle.wx_broker.specs.Told.{IsTold}
use Rattle.wx_broker.proofs.TakenLater.{pending_taken}
use Rattle.wx_broker.proofs.ToldLater.{told_tables, same_length}
use Rattle.wx_broker.proofs.broker.Broker.take.Goals as goal

-- the tables tell the journal once an event was taken
told_taken : (world : WorldLists) (journal new : List Entry) (c : ContextNo) (answer : Answer) (roster : List Member) (tables tables' : TablesState) (rows : List HostState) → IsTold world journal roster tables rows → FollowsMachine world (reverse journal) (record { who = ByContext c; call = Take; answer = answer }) → is_event answer ≡ true → new ≡ journal ++ record { who = ByContext c; call = Take; answer = answer } ∷ [] → tables'.ports ≡ tables.ports → tables'.requests ≡ tables.requests → EachQueue (taken c) tables.queues tables'.queues → IsTold world new roster tables' rows
told_taken world journal new c (Told event) roster tables tables' rows told follows is grown ports requests queues =
    let e : Entry = record { who = ByContext c; call = Take; answer = Told event } in
    told_tables world journal new e roster tables tables' rows told follows grown refl refl
    (rw (ports, requests) (kept_quiet world journal (journal ++ e ∷ []) e tables.ports tables.requests told.kept follows refl refl))
    (same_length (taken c) tables.queues tables'.queues queues)
    (pending_taken world (reverse journal) c event tables.queues tables'.queues (told.kept.legal, follows) told.waits queues)
told_taken world journal new c answer roster tables tables' rows told follows is grown ports requests queues = absurd (false≢true is)

pub invariant_of-self-3 : goal.invariant_of-self-3
invariant_of-self-3 c =
    let i = c.self.inside in
    told_taken i.world i.journal.entries c.push_reserved.new.self.entries c.args.c c.take_answer-answer.result i.roster i.tables c.take.new.self i.hosts.hosts c.self.invariant
    (record { may = may_call (reverse i.journal.entries) c.args.c (rw (← c.self.view_is) at c.requires); answered = rw c.in_ok-reserve.ensures.same at c.take_answer-answer.ensures })
    (sym c.is_event.ensures ∙ c.if-not-is_event.false)
    (rw c.in_ok-reserve.ensures.same at c.push_reserved.ensures.entries)
    c.take.ensures.ports c.take.ensures.requests c.take.ensures.queues
