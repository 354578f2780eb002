-- The tables tell the journal one entry later.
use Rattle.std.proofs.Common.{◌≡◌, ◌≤◌, List, [], ◌∷◌, ◌++◌, length, sym, ap, ◌∙◌, true, false, subst, refl}
use Rattle.std.specs.Prelude.{Option, Some, None, IfSome, is_some, reverse}
use Rattle.std.proofs.lemmas.Bool.{false≢true}
use Rattle.wx_id.specs.declared.numbers.ContextNo.{ContextNo}
use Rattle.wx_id.specs.declared.events.Event.{Event}
use Rattle.wx_external.specs.World.{WorldLists}
use Rattle.wx_machine.specs.declared.entries.Entry.{Entry}
use Rattle.wx_machine.specs.declared.entries.Call.{Call}
use Rattle.wx_machine.specs.declared.entries.Call.TheVariants.{Enter}
use Rattle.wx_machine.specs.Words.{contexts, hosts, is_enter, FollowsMachine}
use Rattle.wx_roster.specs.declared.roster.Member.{Member}
use Rattle.wx_tables.specs.State.{TablesState}
use Rattle.wx_tables.specs.Ending.{EachQueue}
use Rattle.wx_native_hosts.specs.Hosts.{HostState}
use Rattle.wx_laws.proofs.Newest.{reverse-push}
use Rattle.wx_broker.specs.Tables.{IsKept}
use Rattle.wx_broker.proofs.TestsLater.{rows_length}
use Rattle.wx_broker.specs.Told.{IsTold, HasContexts, HasPending, HasHosts}
use Rattle.wx_broker.proofs.ContextsLater as contexts_later
use Rattle.wx_broker.proofs.NativeHostsLater as hosts_later

-- each part of it, said of the past with one more entry
pub told_next : (world : WorldLists) (journal new : List Entry) (e : Entry) (roster : List Member) (tables : TablesState) (rows : List HostState) → new ≡ journal ++ e ∷ []
    → IsKept world (journal ++ e ∷ []) tables.ports tables.requests
    → HasContexts (e ∷ reverse journal) roster
    → length roster ≡ contexts (e ∷ reverse journal)
    → length roster ≤ length tables.queues
    → HasPending (e ∷ reverse journal) tables.queues
    → HasHosts world (e ∷ reverse journal) rows
    → length rows ≡ length (hosts (e ∷ reverse journal))
    → IsTold world new roster tables rows
told_next world journal new e roster tables rows grown kept came count there waits started started_count =
    let turned : e ∷ reverse journal ≡ reverse new = sym (ap reverse grown ∙ reverse-push journal e) in
    record {
      kept = subst (λ j. IsKept world j tables.ports tables.requests) (sym grown) kept;
      came = subst (λ p. HasContexts p roster) turned came;
      count = count ∙ ap contexts turned;
      there = there;
      waits = subst (λ p. HasPending p tables.queues) turned waits;
      started = subst (λ p. HasHosts world p rows) turned started;
      started_count = started_count ∙ ap (λ p. length (hosts p)) turned;
    }

-- such a call is no enter
pub not_enter : (call : Call) → contexts_later.is_of_contexts call ≡ false → is_enter call ≡ false
not_enter (Enter x) h = h
not_enter call h = refl

-- a call of a context that lets nobody in or out, and touches no host
pub told_tables : (world : WorldLists) (journal new : List Entry) (e : Entry) (roster : List Member) (tables tables' : TablesState) (rows : List HostState)
    → IsTold world journal roster tables rows
    → FollowsMachine world (reverse journal) e
    → new ≡ journal ++ e ∷ []
    → contexts_later.is_of_contexts e.call ≡ false
    → hosts_later.spares_hosts e.call e.answer ≡ true
    → IsKept world (journal ++ e ∷ []) tables'.ports tables'.requests
    → length tables'.queues ≡ length tables.queues
    → HasPending (e ∷ reverse journal) tables'.queues
    → IsTold world new roster tables' rows
told_tables world journal new e roster tables tables' rows told follows grown calm spares kept same waits =
    let past = reverse journal in
    told_next world journal new e roster tables' rows grown kept
    (contexts_later.contexts_kept past e roster calm told.came)
    (contexts_later.count_kept past e roster (not_enter e.call calm) told.count)
    (rw same told.there)
    waits
    (hosts_later.hosts_kept world past e rows (told.kept.legal, follows) spares told.started)
    (hosts_later.count_kept past e rows spares told.started_count)

-- there are as many queues after each was changed
pub same_length : (change : ContextNo → List Event → List Event) (queues queues' : List (List Event)) → EachQueue change queues queues' → length queues' ≡ length queues
same_length change queues queues' each = rows_length (λ k. change (record { 0 = k })) queues queues' (λ k. each (record { 0 = k }))

pub same_length_if : {A : Type 0} (o : Option A) (change : A → ContextNo → List Event → List Event) (queues queues' : List (List Event)) → is_some o ≡ true → IfSome o (λ a. EachQueue (change a) queues queues') → length queues' ≡ length queues
same_length_if None change queues queues' some each = absurd (false≢true some)
same_length_if (Some a) change queues queues' some each = same_length (change a) queues queues' each
