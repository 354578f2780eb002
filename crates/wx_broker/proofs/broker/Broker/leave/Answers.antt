use Rattle.std.proofs.Common.{◌≡◌, ◌∙◌, ◌++◌, ◌∷◌, [], Bool, List, length, map, cond, true, false, refl, sym}
use Rattle.std.proofs.lemmas.Bool.{false≢true}
use Rattle.std.proofs.lemmas.List.{length-reverse}
use Rattle.std.specs.Prelude.{reverse}
use Rattle.wx_id.specs.declared.numbers.ContextNo.{ContextNo}
use Rattle.wx_id.specs.declared.numbers.EntryNo.{EntryNo}
use Rattle.wx_external.specs.World.{WorldLists}
use Rattle.wx_machine.specs.declared.entries.Answer.{Answer}
use Rattle.wx_machine.specs.declared.entries.Answer.TheVariants.{Done, Gone}
use Rattle.wx_machine.specs.declared.entries.Entry.{Entry}
use Rattle.wx_machine.specs.Words.{FollowsMachine, is_live}
use Rattle.wx_roster.specs.declared.roster.Member.{Member}
use Rattle.wx_roster.specs.Members.{gone}
use Rattle.wx_roster.proofs.MembersLater.{ChangedAt}
use Rattle.wx_tables.specs.State.{TablesState}
use Rattle.wx_tables.specs.Asking.{request_left_at}
use Rattle.wx_tables.specs.Ending.{EachQueue}
use Rattle.wx_tables.specs.Leaving.{left_at}
use Rattle.wx_tables.specs.Asking.{told_left}
use Rattle.wx_native_hosts.specs.Hosts.{HostState}
use Rattle.wx_broker.specs.Tables.{is_done}
use Rattle.wx_broker.proofs.KeptLater.{may_call}
use Rattle.wx_broker.proofs.LivesLater.{leave_entry}
use Rattle.wx_broker.specs.Told.{IsTold}
use Rattle.wx_broker.proofs.LeftLater.{kept_left_at, pending_left}
use Rattle.wx_broker.proofs.ToldLater.{same_length, told_next}
use Rattle.wx_broker.proofs.ContextsLater as contexts_later
use Rattle.wx_broker.proofs.NativeHostsLater as hosts_later
use Rattle.wx_broker.proofs.broker.Broker.leave.Goals as goal

-- who is told `Done` lives
done_live : (live : Bool) (answer : Answer) → answer ≡ cond live Done Gone → is_done answer ≡ true → live ≡ true
done_live true answer is done = refl
done_live false answer is done = absurd (false≢true (rw is at done))

-- the tables tell the journal once a live context left
told_gone : (world : WorldLists) (journal new : List Entry) (c : ContextNo) (answer : Answer) (n : EntryNo) (roster roster' : List Member) (tables tables' : TablesState) (rows : List HostState) → IsTold world journal roster tables rows → FollowsMachine world (reverse journal) (leave_entry c answer) → is_live (reverse journal) c ≡ true → n.0 ≡ length (reverse journal) → new ≡ journal ++ leave_entry c answer ∷ [] → ChangedAt gone c roster roster' → length roster' ≡ length roster → tables'.ports ≡ map (left_at c) tables.ports → tables'.requests ≡ map (request_left_at c) tables.requests → EachQueue (told_left tables.ports tables.requests c n) tables.queues tables'.queues → IsTold world new roster' tables' rows
told_gone world journal new c answer n roster roster' tables tables' rows told follows lives at grown changed count ports requests queues =
    let e : Entry = leave_entry c answer in
    let past = reverse journal in
    told_next world journal new e roster' tables' rows grown
    (rw (ports, requests) (kept_left_at world journal c answer tables.ports tables.requests told.kept follows lives))
    (contexts_later.contexts_left past e c roster roster' refl refl changed told.came)
    (contexts_later.count_kept past e roster' refl (count ∙ told.count))
    (rw (count, same_length (told_left tables.ports tables.requests c n) tables.queues tables'.queues queues) told.there)
    (pending_left world past c answer tables.ports tables.requests tables.queues tables'.queues n at (told.kept.legal, follows) lives told.kept.channels told.kept.requests told.kept.awaited told.waits queues)
    (hosts_later.hosts_kept world past e rows (told.kept.legal, follows) refl told.started)
    (hosts_later.count_kept past e rows refl told.started_count)

pub invariant_of-self-3 : goal.invariant_of-self-3
invariant_of-self-3 c =
    let i = c.self.inside in
    told_gone i.world i.journal.entries c.push_reserved.new.self.entries c.args.c c.done_if_live-answer.result (record { 0 = c.len.result }) i.roster c.leave-2.new.self i.tables c.leave.new.self i.hosts.hosts c.self.invariant
    (record { may = may_call (reverse i.journal.entries) c.args.c (rw (← c.self.view_is) at c.requires); answered = rw c.in_ok-reserve.ensures.same at c.done_if_live-answer.ensures })
    (done_live (is_live (reverse i.journal.entries) c.args.c) c.done_if_live-answer.result (rw c.in_ok-reserve.ensures.same at c.done_if_live-answer.ensures) (sym c.is_done.ensures ∙ c.if-not-is_done.false))
    ((rw c.in_ok-reserve.ensures.same at c.len.ensures) ∙ sym (length-reverse i.journal.entries))
    (rw c.in_ok-reserve.ensures.same at c.push_reserved.ensures.entries)
    c.leave-2.ensures.members c.leave-2.ensures.count
    c.leave.ensures.ports c.leave.ensures.requests c.leave.ensures.queues
