-- What waits in the queues once a channel is opened or a request made, and that those who are told have a queue.
use Rattle.std.proofs.Common.{◌≡◌, ℕ, ◌<◌, ◌≤◌, List, [], ◌∷◌, ◌++◌, length, refl, ap, sym, ◌∙◌, Bool, true, false, cond, arith, append-nil, map}
use Rattle.std.specs.Prelude.{Option, Some, None, IsSome, slice_get, ◌||◌}
use Rattle.std.proofs.lemmas.Bool.{and_parts, true≢false}
use Rattle.wx_id.specs.Contexts.{is_among, same_context}
use Rattle.wx_id.specs.declared.numbers.ChannelNo.{ChannelNo}
use Rattle.wx_id.specs.declared.numbers.ContextNo.{ContextNo}
use Rattle.wx_id.specs.declared.numbers.EntryNo.{EntryNo}
use Rattle.wx_id.specs.declared.numbers.RequestNo.{RequestNo}
use Rattle.wx_id.specs.declared.events.Event.{Event}
use Rattle.wx_id.specs.declared.events.EventKind.{EventKind}
use Rattle.wx_id.specs.declared.events.EventKind.TheVariants.{Asked, Connected}
use Rattle.wx_id.specs.declared.events.End.TheVariants.{Opener, Receiver, Neither}
use Rattle.wx_id.proofs.ContextLemmas.{same_context_is}
use Rattle.wx_context.specs.declared.contexts.Target.{Target}
use Rattle.wx_external.specs.World.{WorldLists}
use Rattle.wx_machine.specs.declared.sorts.Sort.{Sort}
use Rattle.wx_machine.specs.declared.sorts.Sort.TheVariants.{Connection, Message}
use Rattle.wx_machine.specs.declared.entries.Who.TheVariants.{Context as ByContext}
use Rattle.wx_machine.specs.declared.entries.Call.TheVariants.{Connect, ConnectNative, Send, SendNative}
use Rattle.wx_machine.specs.declared.entries.Answer.TheVariants.{Channel as OnChannel, Request as OnRequest}
use Rattle.wx_machine.specs.declared.entries.Entry.{Entry}
use Rattle.wx_machine.specs.Words.{channels, contexts, delivered, is_receiver, is_receiving, marked, numbers, on, receivers_of, requests}
use Rattle.wx_tables.specs.State.{in_entry}
use Rattle.wx_tables.specs.Ending.{EachQueue, told_each}
use Rattle.wx_tables.specs.Opening.{AreThere}
use Rattle.wx_laws.specs.Legal.{IsLegalPast}
use Rattle.wx_broker.proofs.LivesLater.{among_passing}
use Rattle.wx_broker.proofs.NumbersLater.{caller_apart, numbers_below}
use Rattle.wx_broker.proofs.TestsLater.{outside, same_is}
use Rattle.wx_broker.specs.Told.{HasPending}
use Rattle.wx_broker.proofs.HeardLater.{heard_marked}
use Rattle.wx_broker.proofs.PendingLater.{pending_same, pending_told}

-- the entries of calls that were answered with a number
abbrev pub connect_entry : ContextNo → Target → List ℕ → ChannelNo → Entry
connect_entry c target name k = record { who = ByContext c; call = Connect target name; answer = OnChannel k }

abbrev pub connect_native_entry : ContextNo → List ℕ → ChannelNo → Entry
connect_native_entry c name k = record { who = ByContext c; call = ConnectNative name; answer = OnChannel k }

abbrev pub send_entry : ContextNo → Target → List ℕ → RequestNo → Entry
send_entry c target text r = record { who = ByContext c; call = Send target text; answer = OnRequest r }

abbrev pub send_native_entry : ContextNo → List ℕ → List ℕ → RequestNo → Entry
send_native_entry c name text r = record { who = ByContext c; call = SendNative name text; answer = OnRequest r }

-- each receiver of a channel that is opened has that in its queue
pub pending_connected : (world : WorldLists) (past : List Entry) (c : ContextNo) (target : Target) (name : List ℕ) (k : ChannelNo) (receivers : List ContextNo) (queues queues' : List (List Event)) (n : EntryNo) → n.0 ≡ length past → IsLegalPast world (connect_entry c target name k ∷ past) → HasPending past queues → k.0 ≡ length (channels past) → receivers ≡ receivers_of past c target Connection → EachQueue (told_each receivers (in_entry n (Connected k))) queues queues' → HasPending (connect_entry c target name k ∷ past) queues'
pending_connected world past c target name k receivers queues queues' n at legal waits number found changed =
    pending_told world past (connect_entry c target name k) (told_each receivers (in_entry n (Connected k))) queues queues' legal waits refl changed
    (λ d queue. heard_marked n (length past) (is_among receivers d) (Connected k) queue at ∙ ap (λ l. queue ++ l) (sym (told d)))
  where
    rs : List ContextNo
    rs = receivers_of past c target Connection

    hears : (d : ContextNo) (s : Bool) → same_context c d ≡ s → (a : Bool) → is_among rs d ≡ a → is_receiving (cond s Opener (cond a Receiver Neither)) ≡ a
    hears d true same true a = absurd (true≢false (sym a ∙ ap (is_among rs) (sym (same_context_is c d same)) ∙ caller_apart past c target Connection))
    hears d true same false a = refl
    hears d false same true a = refl
    hears d false same false a = refl

    nothing : (l : List EventKind) → l ++ [] ++ [] ++ ([] ++ [] ++ []) ≡ l
    nothing l = append-nil (l ++ [] ++ []) ∙ append-nil (l ++ []) ∙ append-nil l

    told : (d : ContextNo) → delivered past (connect_entry c target name k) d ≡ map (marked (length past)) (on (is_among receivers d) (Connected k))
    told d =
        ap (map (marked (length past))) (nothing (on (is_receiving (cond (same_context c d) Opener (cond (is_among rs d) Receiver Neither))) (Connected (record { 0 = length (channels past) }))))
        ∙ ap (λ b. map (marked (length past)) (on b (Connected (record { 0 = length (channels past) })))) (hears d (same_context c d) refl (is_among rs d) refl ∙ ap (λ l. is_among l d) (sym found))
        ∙ ap (λ (m : ℕ). map (marked (length past)) (on (is_among receivers d) (Connected (record { 0 = m })))) (sym number)

-- nobody is told of a channel to a native host
pub pending_connected_native : (world : WorldLists) (past : List Entry) (c : ContextNo) (name : List ℕ) (k : ChannelNo) (queues : List (List Event)) → IsLegalPast world (connect_native_entry c name k ∷ past) → HasPending past queues → HasPending (connect_native_entry c name k ∷ past) queues
pending_connected_native world past c name k queues legal waits =
    pending_same world past (connect_native_entry c name k) queues legal waits refl
    (λ d. ap (λ b. map (marked (length past)) (on b (Connected (record { 0 = length (channels past) })) ++ [] ++ [] ++ ([] ++ [] ++ []))) (silent (same_context c d)))
  where
    silent : (s : Bool) → is_receiving (cond s Opener Neither) ≡ false
    silent true = refl
    silent false = refl

-- each receiver of a request that is made has that in its queue
pub pending_sent : (world : WorldLists) (past : List Entry) (c : ContextNo) (target : Target) (text : List ℕ) (r : RequestNo) (receivers : List ContextNo) (queues queues' : List (List Event)) (n : EntryNo) → n.0 ≡ length past → IsLegalPast world (send_entry c target text r ∷ past) → HasPending past queues → r.0 ≡ length (requests past) → receivers ≡ receivers_of past c target Message → EachQueue (told_each receivers (in_entry n (Asked r))) queues queues' → HasPending (send_entry c target text r ∷ past) queues'
pending_sent world past c target text r receivers queues queues' n at legal waits number found changed =
    pending_told world past (send_entry c target text r) (told_each receivers (in_entry n (Asked r))) queues queues' legal waits refl changed
    (λ d queue. heard_marked n (length past) (is_among receivers d) (Asked r) queue at ∙ ap (λ l. queue ++ l) (sym (told d)))
  where
    nothing : (l : List EventKind) → l ++ [] ++ [] ≡ l
    nothing l = append-nil (l ++ []) ∙ append-nil l

    told : (d : ContextNo) → delivered past (send_entry c target text r) d ≡ map (marked (length past)) (on (is_among receivers d) (Asked r))
    told d =
        ap (map (marked (length past))) (nothing (on (is_among (receivers_of past c target Message) d) (Asked (record { 0 = length (requests past) }))))
        ∙ ap (λ l. map (marked (length past)) (on (is_among l d) (Asked (record { 0 = length (requests past) })))) (sym found)
        ∙ ap (λ (m : ℕ). map (marked (length past)) (on (is_among receivers d) (Asked (record { 0 = m })))) (sym number)

-- nobody is told of a request to a native host
pub pending_sent_native : (world : WorldLists) (past : List Entry) (c : ContextNo) (name text : List ℕ) (r : RequestNo) (queues : List (List Event)) → IsLegalPast world (send_native_entry c name text r ∷ past) → HasPending past queues → HasPending (send_native_entry c name text r ∷ past) queues
pending_sent_native world past c name text r queues legal waits = pending_same world past (send_native_entry c name text r) queues legal waits refl (λ d. refl)

-- a context whose number is below the count of queues has one
pub one_there : (queues : List (List Event)) (d : ContextNo) → d.0 < length queues → IsSome (slice_get queues d.0)
one_there queues d low = by (slice_get queues d.0) refl
  where
    by : (o : Option (List Event)) → slice_get queues d.0 ≡ o → IsSome (slice_get queues d.0)
    by None is = let past_all : length queues ≤ d.0 = outside queues d.0 is in absurd (omega (arith, past_all, low))
    by (Some queue) is = rw is refl

-- a caller and the receivers of its call have queues
pub all_there : {M : Type 0} (world : WorldLists) (past : List Entry) (c : ContextNo) (target : Target) (sort : Sort) (receivers : List ContextNo) (roster : List M) (queues : List (List Event)) → IsLegalPast world past → receivers ≡ receivers_of past c target sort → length roster ≡ contexts past → length roster ≤ length queues → c.0 < contexts past → AreThere (c ∷ receivers) queues
all_there world past c target sort receivers roster queues legal found count there low d among = one_there queues d (by (same_context c d) refl among)
  where
    within : is_among receivers d ≡ true → d.0 < contexts past
    within h = numbers_below world past legal d ((and_parts (is_receiver past c target sort d) (is_among (numbers past) d) (sym (among_passing (is_receiver past c target sort) (numbers past) d) ∙ ap (λ l. is_among l d) (sym found) ∙ h)).1)

    by : (s : Bool) → same_context c d ≡ s → (s || is_among receivers d) ≡ true → d.0 < length queues
    by true same h = let here : c.0 ≡ d.0 = same_is c.0 d.0 same in omega (arith, here, count, there, low)
    by false same h = let below : d.0 < contexts past = within h in omega (arith, below, count, there)
