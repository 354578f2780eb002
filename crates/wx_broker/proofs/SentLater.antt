-- A send that is answered with a request: the number in the answer, and how the tables tell of it.
use Rattle.std.proofs.Common.{◌≡◌, ℕ, List, [], ◌∷◌, ◌++◌, length, sym, ap, ◌∙◌, Bool, true, false, cond, subst, refl}
use Rattle.std.specs.Prelude.{reverse, nat_lt, Ok, Err, OnOk, IfOk, is_err}
use Rattle.std.specs.declared.result.Result.{Result}
use Rattle.std.proofs.lemmas.Bool.{false≢true, true≢false}
use Rattle.wx_id.specs.declared.numbers.ContextNo.{ContextNo}
use Rattle.wx_id.specs.declared.numbers.EntryNo.{EntryNo}
use Rattle.wx_id.specs.declared.numbers.RequestNo.{RequestNo}
use Rattle.wx_id.specs.declared.events.EventKind.TheVariants.{Asked}
use Rattle.wx_context.specs.declared.contexts.Target.{Target}
use Rattle.wx_external.specs.World.{WorldLists}
use Rattle.wx_external.specs.declared.gates.Verdict.{Verdict}
use Rattle.wx_external.specs.declared.gates.Verdict.TheVariants as gate
use Rattle.wx_machine.specs.declared.sorts.Sort.TheVariants.{Message}
use Rattle.wx_machine.specs.declared.entries.Who.TheVariants.{Context as ByContext}
use Rattle.wx_machine.specs.declared.entries.Call.TheVariants.{Send}
use Rattle.wx_machine.specs.declared.entries.Answer.{Answer}
use Rattle.wx_machine.specs.declared.entries.Answer.TheVariants.{Request as OnRequest, Gone, TooLong}
use Rattle.wx_machine.specs.declared.entries.Entry.{Entry}
use Rattle.wx_machine.specs.declared.entries.TheConstants.{LONGEST}
use Rattle.wx_machine.specs.Answers.{gate_for, where_heard, where_open}
use Rattle.wx_machine.specs.Words.{FollowsMachine, context_of, is_live, receivers_of, requests, where_short}
use Rattle.wx_one_shot.specs.Requests.{asked}
use Rattle.wx_roster.specs.declared.roster.Member.{Member}
use Rattle.wx_tables.specs.State.{TablesState, in_entry}
use Rattle.wx_tables.specs.Ending.{EachQueue, told_each}
use Rattle.wx_native_hosts.specs.Hosts.{HostState}
use Rattle.wx_broker.specs.Tables.{is_request}
use Rattle.wx_broker.proofs.KeptLater.{kept_sent}
use Rattle.wx_broker.proofs.RequestsLater.{requests_counted}
use Rattle.wx_broker.specs.Told.{IsTold}
use Rattle.wx_broker.proofs.OpenedLater.{send_entry, pending_sent}
use Rattle.wx_broker.proofs.ToldLater.{told_tables, same_length}

-- a send that is answered with a request is answered with the next one
request_given : (live : Bool) (v : Verdict) (rs : List ContextNo) (text : List ℕ) (next : RequestNo) (a : Answer) → a ≡ cond live (where_open v (where_heard rs (where_short text (OnRequest next)))) Gone → is_request a ≡ true → a ≡ OnRequest next
request_given live v rs text next a is asks = is ∙ by live v rs (nat_lt LONGEST (length text)) (sym (ap is_request is) ∙ asks)
  where
    by : (live : Bool) (v : Verdict) (rs : List ContextNo) (long : Bool) → is_request (cond live (where_open v (where_heard rs (cond long TooLong (OnRequest next)))) Gone) ≡ true → cond live (where_open v (where_heard rs (cond long TooLong (OnRequest next)))) Gone ≡ OnRequest next
    by false v rs long h = absurd (false≢true h)
    by true (gate.Open x) (c ∷ cs) false h = refl
    by true (gate.Open x) (c ∷ cs) true h = absurd (false≢true h)
    by true (gate.Open x) [] long h = absurd (false≢true h)
    by true gate.BadTarget rs long h = absurd (false≢true h)
    by true (gate.Forbidden rule) rs long h = absurd (false≢true h)

told_asked : (world : WorldLists) (journal new : List Entry) (c : ContextNo) (target : Target) (text : List ℕ) (r : RequestNo) (receivers : List ContextNo) (roster : List Member) (tables tables' : TablesState) (rows : List HostState) (n : EntryNo)
    → IsTold world journal roster tables rows
    → FollowsMachine world (reverse journal) (send_entry c target text r)
    → new ≡ journal ++ send_entry c target text r ∷ []
    → n.0 ≡ length (reverse journal)
    → receivers ≡ receivers_of (reverse journal) c target Message
    → r.0 ≡ length (requests (reverse journal))
    → tables'.ports ≡ tables.ports
    → tables'.requests ≡ tables.requests ++ asked c receivers ∷ []
    → EachQueue (told_each receivers (in_entry n (Asked r))) tables.queues tables'.queues
    → IsTold world new roster tables' rows
told_asked world journal new c target text r receivers roster tables tables' rows n told follows grown at found number ports more queues =
    told_tables world journal new (send_entry c target text r) roster tables tables' rows told follows grown refl refl
    (rw ports (kept_sent world journal (journal ++ send_entry c target text r ∷ []) c target text (OnRequest r) tables.ports tables.requests tables'.requests told.kept follows refl
    (more ∙ ap (λ l. tables.requests ++ asked c l ∷ []) found)))
    (same_length (told_each receivers (in_entry n (Asked r))) tables.queues tables'.queues queues)
    (pending_sent world (reverse journal) c target text r receivers tables.queues tables'.queues n at (told.kept.legal, follows) told.waits number found queues)

-- the tables tell of a send that is answered with a request, once it is asked
pub told_sent : {E : Type 0} (world : WorldLists) (journal new : List Entry) (c : ContextNo) (target : Target) (text : List ℕ) (answer : Answer) (receivers : List ContextNo) (roster : List Member) (tables tables' : TablesState) (rows : List HostState) (n : EntryNo) (result : Result RequestNo E)
    → IsTold world journal roster tables rows
    → FollowsMachine world (reverse journal) (record { who = ByContext c; call = Send target text; answer = answer })
    → is_request answer ≡ true
    → new ≡ journal ++ record { who = ByContext c; call = Send target text; answer = answer } ∷ []
    → n.0 ≡ length (reverse journal)
    → receivers ≡ receivers_of (reverse journal) c target Message
    → is_err result ≡ false
    → IfOk result (λ r. r.0 ≡ length tables.requests)
    → tables'.ports ≡ tables.ports
    → OnOk result (tables'.requests ≡ tables.requests ++ asked c receivers ∷ [])
    → IfOk result (λ r. EachQueue (told_each receivers (in_entry n (Asked r))) tables.queues tables'.queues)
    → IsTold world new roster tables' rows
told_sent world journal new c target text answer receivers roster tables tables' rows n (Err e) told follows asks grown at found ok number ports more queues = absurd (true≢false ok)
told_sent world journal new c target text answer receivers roster tables tables' rows n (Ok r) told follows asks grown at found ok number ports more queues =
    let past = reverse journal in
    let counted : r.0 ≡ length (requests (reverse journal)) = number ∙ requests_counted past tables.requests told.kept.requests in
    let is : answer ≡ OnRequest r = request_given (is_live past c) (gate_for world (context_of past c) target) (receivers_of past c target Message) text (record { 0 = length (requests past) }) answer follows.answered asks ∙ ap (λ (m : ℕ). OnRequest (record { 0 = m })) (sym counted) in
    told_asked world journal new c target text r receivers roster tables tables' rows n told
    (subst (λ a. FollowsMachine world (reverse journal) (record { who = ByContext c; call = Send target text; answer = a })) is follows)
    (subst (λ a. new ≡ journal ++ record { who = ByContext c; call = Send target text; answer = a } ∷ []) is grown)
    at found counted ports more queues
