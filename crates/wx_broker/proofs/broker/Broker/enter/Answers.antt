use Rattle.std.proofs.Common.{◌≡◌, ◌∙◌, ◌++◌, ◌∷◌, ◌+◌, ◌≤◌, [], ℕ, Bool, List, length, cond, true, false, refl, sym, ap, arith, subst}
use Rattle.std.proofs.lemmas.Bool.{false≢true}
use Rattle.std.proofs.lemmas.List.{length-append}
use Rattle.std.proofs.lemmas.Bool.Decides.{nat_tests}
use Rattle.std.specs.Prelude.{reverse, Ok, Err, OnErr, is_err, ◌==◌}
use Rattle.std.specs.declared.result.Result.{Result}
use Rattle.wx_id.specs.declared.numbers.ContextNo.{ContextNo}
use Rattle.wx_id.specs.declared.events.Event.{Event}
use Rattle.wx_context.specs.declared.contexts.Context.{Context}
use Rattle.wx_external.specs.World.{WorldLists}
use Rattle.wx_machine.specs.declared.entries.Answer.TheVariants.{Entered}
use Rattle.wx_machine.specs.declared.entries.Entry.{Entry}
use Rattle.wx_machine.specs.Words.{contexts, FollowsMachine}
use Rattle.wx_roster.specs.declared.roster.Member.{Member}
use Rattle.wx_roster.specs.Members.{newcomer}
use Rattle.wx_tables.specs.State.{TablesState}
use Rattle.wx_native_hosts.specs.Hosts.{HostState}
use Rattle.wx_broker.proofs.KeptLater.{kept_quiet, ok_holds}
use Rattle.wx_broker.proofs.TestsLater.{same_is, same_self}
use Rattle.wx_broker.specs.Told.{HasPending, IsTold}
use Rattle.wx_broker.proofs.EnteredLater.{enter_entry, pending_entered, pending_more}
use Rattle.wx_broker.proofs.ToldLater.{told_next}
use Rattle.wx_broker.proofs.ContextsLater as contexts_later
use Rattle.wx_broker.proofs.NativeHostsLater as hosts_later
use Rattle.wx_broker.proofs.broker.Broker.enter.Goals as goal

err_holds : {A B P : Type 0} (r : Result A B) → OnErr r P → is_err r ≡ true → P
err_holds (Ok a) h e = absurd (false≢true e)
err_holds (Err b) h e = h

-- the queues once there is one for context n
abbrev with_queue : List (List Event) → ℕ → List (List Event)
with_queue queues n = cond (length queues == n) (queues ++ [] ∷ []) queues

-- there is room for context n
queue_there : (queues : List (List Event)) (n : ℕ) → n ≤ length queues → n + 1 ≤ length (with_queue queues n)
queue_there queues n there = by (length queues == n) refl
  where
    by : (b : Bool) → (length queues == n) ≡ b → n + 1 ≤ length (cond b (queues ++ [] ∷ []) queues)
    by true same =
        let more : length (queues ++ [] ∷ []) ≡ length queues + 1 = length-append queues ([] ∷ []) in
        omega (arith, more, there)
    by false other = grind (arith, nat_tests, other, there)

-- the tables tell the journal where there is a queue more
told_with_queue : (world : WorldLists) (journal : List Entry) (roster : List Member) (tables tables' : TablesState) (rows : List HostState) → IsTold world journal roster tables rows → tables'.ports ≡ tables.ports → tables'.requests ≡ tables.requests → tables'.queues ≡ cond (length tables.queues == length roster) (tables.queues ++ [] ∷ []) tables.queues → IsTold world journal roster tables' rows
told_with_queue world journal roster tables tables' rows told ports requests queues = record {
  kept = rw (ports, requests) told.kept;
  came = told.came;
  count = told.count;
  there =
      let more : length roster + 1 ≤ length (with_queue tables.queues (length roster)) = queue_there tables.queues (length roster) told.there in
      let same : length tables'.queues ≡ length (with_queue tables.queues (length roster)) = ap length queues in
      omega (arith, more, same);
  waits = subst (HasPending (reverse journal)) (sym queues) (by (length tables.queues == length roster) refl);
  started = told.started;
  started_count = told.started_count;
}
  where
    by : (b : Bool) → (length tables.queues == length roster) ≡ b → HasPending (reverse journal) (cond b (tables.queues ++ [] ∷ []) tables.queues)
    by true same = pending_more world (reverse journal) tables.queues (tables.queues ++ [] ∷ []) told.kept.legal told.waits (same_is (length tables.queues) (length roster) same ∙ told.count) refl
    by false other = told.waits

-- the tables tell the journal once a context came in for whom there is a queue
told_entered : (world : WorldLists) (journal new : List Entry) (c : ContextNo) (x : Context) (roster roster' : List Member) (tables : TablesState) (rows : List HostState) → IsTold world journal roster tables rows → c.0 ≡ length roster → length roster + 1 ≤ length tables.queues → new ≡ journal ++ enter_entry c x ∷ [] → roster' ≡ roster ++ newcomer x ∷ [] → IsTold world new roster' tables rows
told_entered world journal new c x roster roster' tables rows told at there grown more =
    let e : Entry = enter_entry c x in
    let past = reverse journal in
    let number : c.0 ≡ contexts past = at ∙ told.count in
    let follows : FollowsMachine world (reverse journal) (enter_entry c x) = record { may = ap (λ (n : ℕ). n == contexts (reverse journal)) number ∙ same_self (contexts (reverse journal)); answered = ap (λ (n : ℕ). Entered (record { 0 = n })) number } in
    let longer : length (roster ++ newcomer x ∷ []) ≡ length roster + 1 = length-append roster (newcomer x ∷ []) in
    subst (λ r. IsTold world new r tables rows) (sym more)
    (told_next world journal new e (roster ++ newcomer x ∷ []) tables rows grown
    (kept_quiet world journal (journal ++ e ∷ []) e tables.ports tables.requests told.kept follows refl refl)
    (contexts_later.contexts_entered world past e c x roster refl number told.kept.legal told.count told.came)
    (contexts_later.count_entered past e x roster refl told.count)
    (omega (arith, longer, there))
    (pending_entered world past c x tables.queues (told.kept.legal, follows) told.waits)
    (hosts_later.hosts_kept world past e rows (told.kept.legal, follows) refl told.started)
    (hosts_later.count_kept past e rows refl told.started_count))

pub invariant_of-self-then-is_err-3 : goal.invariant_of-self-then-is_err-3
invariant_of-self-then-is_err-3 c =
    let i = c.self.inside in
    rw (c.reserve.ensures.same, err_holds c.enter.result c.enter.ensures.err (sym c.is_err-3.ensures.value ∙ c.if-is_err-3.true))
    (told_with_queue i.world i.journal.entries i.roster i.tables c.make_queue.new.tables i.hosts.hosts c.self.invariant c.make_queue.ensures.ports c.make_queue.ensures.requests
    (rw c.count.ensures at (ok_holds c.make_queue.result c.make_queue.ensures.ok (sym c.is_err-2.ensures.value ∙ c.if-is_err-2.false))))

pub invariant_of-self-2 : goal.invariant_of-self-2
invariant_of-self-2 c =
    let i = c.self.inside in
    let queues = rw c.count.ensures at (ok_holds c.make_queue.result c.make_queue.ensures.ok (sym c.is_err-2.ensures.value ∙ c.if-is_err-2.false)) in
    told_entered i.world i.journal.entries c.push_reserved.new.self.entries (record { 0 = c.count.result }) c.args.x i.roster c.enter.new.self c.make_queue.new.tables i.hosts.hosts
    (told_with_queue i.world i.journal.entries i.roster i.tables c.make_queue.new.tables i.hosts.hosts c.self.invariant c.make_queue.ensures.ports c.make_queue.ensures.requests queues)
    c.count.ensures
    (rw queues (queue_there i.tables.queues (length i.roster) c.self.invariant.there))
    (rw c.reserve.ensures.same at c.push_reserved.ensures.entries)
    (ok_holds c.enter.result c.enter.ensures.ok (sym c.is_err-3.ensures.value ∙ c.if-is_err-3.false))
