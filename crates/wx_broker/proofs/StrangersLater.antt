-- To a context that did not come in nothing was delivered.
use Rattle.std.proofs.Common.{◌≡◌, ℕ, ◌<◌, ◌≤◌, List, [], ◌∷◌, ◌++◌, length, map, refl, ap, sym, ◌∙◌, Bool, true, false, cond, not, arith}
use Rattle.std.specs.Prelude.{Option, Some, None, filter, flat_map, is_some, ◌&&◌, ◌||◌, ◌==◌}
use Rattle.std.specs.List.{range_with_len}
use Rattle.std.proofs.lemmas.Bool.{true≢false, false_from_ne_true}
use Rattle.wx_id.specs.Contexts.{is_among, same_context}
use Rattle.wx_id.specs.declared.numbers.ContextNo.{ContextNo}
use Rattle.wx_id.specs.declared.events.EventKind.{EventKind}
use Rattle.wx_id.specs.declared.events.EventKind.TheVariants.{Closed, Connected, Disconnected, Message, Asked, Replied}
use Rattle.wx_id.specs.declared.events.End.{End}
use Rattle.wx_id.specs.declared.events.End.TheVariants.{Opener, Receiver, Neither}
use Rattle.wx_id.proofs.ContextLemmas.{same_context_is}
use Rattle.wx_context.specs.declared.contexts.Target.{Target}
use Rattle.wx_external.specs.World.{WorldLists}
use Rattle.wx_machine.specs.declared.sorts.Sort.{Sort}
use Rattle.wx_machine.specs.declared.sorts.Sort.TheVariants.{Connection, Message as AMessage}
use Rattle.wx_machine.specs.declared.entries.Who.{Who}
use Rattle.wx_machine.specs.declared.entries.Who.TheVariants.{Context as ByContext}
use Rattle.wx_machine.specs.declared.entries.Call.{Call}
use Rattle.wx_machine.specs.declared.entries.Call.TheVariants.{Connect, ConnectNative, Decline, Disconnect, HostEnded, HostSaid, Leave, Post, Reply, Send, SendNative}
use Rattle.wx_machine.specs.declared.entries.Answer.{Answer}
use Rattle.wx_machine.specs.declared.entries.Answer.TheVariants.{Channel as OnChannel, First, Gone, Passed, Posted, Request as OnRequest}
use Rattle.wx_machine.specs.declared.entries.Entry.{Entry}
use Rattle.wx_machine.specs.declared.work.Work.{Work}
use Rattle.wx_machine.specs.declared.work.Work.TheVariants.{Channel as ForChannel, Request as ForRequest}
use Rattle.wx_machine.specs.Words.{answer_after, asks, asked, asked_by, answered, channel, channels, closes, connected, contexts, delivered, disconnected, disconnected_on, end_in, Ends, enters}
use Rattle.wx_machine.specs.Words.{goes, goes_to, host_disconnected, host_unanswered, if_numbered, is_asked, is_asker, is_by, is_live, is_receiver, is_receiving, is_there, is_waiting, marked, message, numbers}
use Rattle.wx_machine.specs.Words.{on, opened_by, opens, pending, queued, receivers_of, replied, request, requests, said, settles, side_of, unanswered, unanswered_on, work_by}
use Rattle.wx_laws.specs.Legal.{IsLegalPast}
use Rattle.wx_laws.proofs.Numbers.{on_false}
use Rattle.wx_laws.proofs.Newest.{came_more}
use Rattle.wx_laws.proofs.ChannelsLater.{came_numbered, end_more}
use Rattle.wx_laws.proofs.RequestsLater.{asker_more}
use Rattle.wx_broker.proofs.LivesLater.{among_passing, came, live_came}
use Rattle.wx_broker.proofs.NumbersLater.{numbers_below}
use Rattle.wx_broker.proofs.TestsLater.{and_false}
use Rattle.wx_broker.specs.Calm.{is_gone}

-- a number that was not given out is of none that came in
pub new_is_strange : (world : WorldLists) (past : List Entry) (d : ContextNo) → IsLegalPast world past → contexts past ≤ d.0 → came past d ≡ false
new_is_strange world past d legal new =
    came_numbered past d ∙ false_from_ne_true _ (λ h. let low : d.0 < contexts past = numbers_below world past legal d h in absurd (omega (arith, low, new)))

strange_before : (e : Entry) (past : List Entry) (d : ContextNo) → came (e ∷ past) d ≡ false → came past d ≡ false
strange_before e past d none = by (came past d) (is_there (if_numbered d (enters e))) (sym (came_more e past d) ∙ none)
  where
    by : (a b : Bool) → (a || b) ≡ false → a ≡ false
    by true b h = absurd (true≢false h)
    by false b h = refl

not_among : (past : List Entry) (c : ContextNo) (target : Target) (sort : Sort) (d : ContextNo) → came past d ≡ false → is_among (receivers_of past c target sort) d ≡ false
not_among past c target sort d none =
    among_passing (is_receiver past c target sort) (numbers past) d
    ∙ ap (λ b. is_receiver past c target sort d && b) (sym (came_numbered past d) ∙ none)
    ∙ and_false (is_receiver past c target sort d)

-- a caller that is answered anything but `Gone` lives
pub lived : (live : Bool) (a answer : Answer) → answer ≡ cond live a Gone → is_gone answer ≡ false → live ≡ true
lived true a answer is h = refl
lived false a answer is h = absurd (true≢false (sym (ap is_gone is) ∙ h))

not_caller : (past : List Entry) (c d : ContextNo) → is_live past c ≡ true → came past d ≡ false → same_context c d ≡ false
not_caller past c d live none = false_from_ne_true _ (λ h. true≢false (sym (live_came past c live) ∙ ap (came past) (same_context_is c d h) ∙ none))

no_end : (world : WorldLists) (past : List Entry) (who : Who) (call : Call) (answer : Answer) (d : ContextNo) → answer ≡ answer_after world past who call → came past d ≡ false → end_in (opened_by past who call answer) d ≡ Neither
no_end world past (ByContext c) (Connect target name) (OnChannel k) d is none =
    rw (not_caller past c d (lived (is_live past c) _ (OnChannel k) is refl) none, not_among past c target Connection d none) refl
no_end world past (ByContext c) (ConnectNative name) (OnChannel k) d is none =
    rw (not_caller past c d (lived (is_live past c) _ (OnChannel k) is refl) none) refl
no_end world past who call answer d is none = refl

no_asker : (world : WorldLists) (past : List Entry) (who : Who) (call : Call) (answer : Answer) (d : ContextNo) → answer ≡ answer_after world past who call → came past d ≡ false → is_asker (asked_by past who call answer) d ≡ false
no_asker world past (ByContext c) (Send target text) (OnRequest r) d is none = not_caller past c d (lived (is_live past c) _ (OnRequest r) is refl) none
no_asker world past (ByContext c) (SendNative name text) (OnRequest r) d is none = not_caller past c d (lived (is_live past c) _ (OnRequest r) is refl) none
no_asker world past who call answer d is none = refl

no_asked : (past : List Entry) (who : Who) (call : Call) (answer : Answer) (d : ContextNo) → came past d ≡ false → is_asked (asked_by past who call answer) d ≡ false
no_asked past (ByContext c) (Send target text) (OnRequest r) d none = not_among past c target AMessage d none
no_asked past (ByContext c) (SendNative name text) (OnRequest r) d none = refl
no_asked past who call answer d none = refl

ends_strange : (world : WorldLists) (past : List Entry) (d : ContextNo) → IsLegalPast world past → came past d ≡ false → (k : ℕ) → end_in (channel past k) d ≡ Neither
ends_strange world [] d legal none k = refl
ends_strange world (e ∷ past) d legal none k = end_more e past k d ∙ by ((length (channels past) == k) && is_some (opens past e)) (ends_strange world past d legal.0 (strange_before e past d none) k)
  where
    by : (b : Bool) → end_in (channel past k) d ≡ Neither → cond b (end_in (opens past e) d) (end_in (channel past k) d) ≡ Neither
    by true before = no_end world past e.who e.call e.answer d legal.1.answered (strange_before e past d none)
    by false before = before

askers_strange : (world : WorldLists) (past : List Entry) (d : ContextNo) → IsLegalPast world past → came past d ≡ false → (r : ℕ) → is_asker (request past r) d ≡ false
askers_strange world [] d legal none r = refl
askers_strange world (e ∷ past) d legal none r = asker_more e past r d ∙ by ((length (requests past) == r) && is_some (asks past e)) (askers_strange world past d legal.0 (strange_before e past d none) r)
  where
    by : (b : Bool) → is_asker (request past r) d ≡ false → cond b (is_asker (asks past e) d) (is_asker (request past r) d) ≡ false
    by true before = no_asker world past e.who e.call e.answer d legal.1.answered (strange_before e past d none)
    by false before = before

not_goes : (past : List Entry) (ends : Option Ends) (who : Who) (d : ContextNo) → end_in ends d ≡ Neither → goes_to past ends who d ≡ false
not_goes past ends who d h = ap (λ x. goes (side_of ends who) x (is_live past d)) h ∙ by (side_of ends who)
  where
    by : (x : End) → goes x Neither (is_live past d) ≡ false
    by Opener = refl
    by Receiver = refl
    by Neither = refl

none_told : (f : ℕ → List EventKind) → ((k : ℕ) → f k ≡ []) → (ks : List ℕ) → flat_map f ks ≡ []
none_told f h [] = refl
none_told f h (k ∷ ks) = rw (h k) (none_told f h ks)

module _ (past : List Entry) (d : ContextNo) (no_ends : (k : ℕ) → end_in (channel past k) d ≡ Neither) (no_askers : (r : ℕ) → is_asker (request past r) d ≡ false) where
  no_message : (who : Who) (call : Call) (answer : Answer) → message past who call answer d ≡ []
  no_message who (Post k text) Posted = on_false (goes_to past (channel past k.0) who d) (Message k) (not_goes past (channel past k.0) who d (no_ends k.0))
  no_message who (HostSaid text) Passed = by (work_by past who)
    where
      by : (work : Option Work) → said past who work d ≡ []
      by None = refl
      by (Some (ForChannel k)) = on_false (goes_to past (channel past k.0) who d) (Message k) (not_goes past (channel past k.0) who d (no_ends k.0))
      by (Some (ForRequest r)) = refl
  no_message who call answer = refl

  no_end_told : (e : Entry) (k : ℕ) → disconnected_on past e d k ≡ []
  no_end_told e k =
      on_false (closes past e k && goes_to past (channel past k) e.who d) (Disconnected (record { 0 = k }))
      (ap (λ b. closes past e k && b) (not_goes past (channel past k) e.who d (no_ends k)) ∙ and_false (closes past e k))

  no_disconnect : (e : Entry) (call : Call) → disconnected past e call d ≡ []
  no_disconnect e (Disconnect k) = no_end_told e k.0
  no_disconnect e Leave = none_told (disconnected_on past e d) (no_end_told e) (range_with_len 0 (length (channels past)))
  no_disconnect e (HostEnded reason) = by (work_by past e.who)
    where
      by : (work : Option Work) → host_disconnected past e work d ≡ []
      by None = refl
      by (Some (ForChannel k)) = no_end_told e k.0
      by (Some (ForRequest r)) = refl
  no_disconnect e call = refl

  no_reply : (who : Who) (call : Call) (answer : Answer) → replied past who call answer d ≡ []
  no_reply who (Reply r text) First = on_false (is_asker (request past r.0) d) (Replied r) (no_askers r.0)
  no_reply who (HostSaid text) Passed = by (work_by past who)
    where
      by : (work : Option Work) → answered past work d ≡ []
      by None = refl
      by (Some (ForChannel k)) = refl
      by (Some (ForRequest r)) = on_false (is_asker (request past r.0) d) (Replied r) (no_askers r.0)
  no_reply who call answer = refl

  no_outcome : (e : Entry) (r : ℕ) → unanswered_on past e d r ≡ []
  no_outcome e r =
      on_false (settles past e r && is_asker (request past r) d && not (is_by e.who d)) (Closed (record { 0 = r }))
      (ap (λ b. settles past e r && b && not (is_by e.who d)) (no_askers r) ∙ ap (λ b. b && not (is_by e.who d)) (and_false (settles past e r)))

  no_answer : (e : Entry) (call : Call) → unanswered past e call d ≡ []
  no_answer e (Decline r) = no_outcome e r.0
  no_answer e Leave = none_told (unanswered_on past e d) (no_outcome e) (range_with_len 0 (length (requests past)))
  no_answer e (HostEnded reason) = by (work_by past e.who)
    where
      by : (work : Option Work) → host_unanswered past e work d ≡ []
      by None = refl
      by (Some (ForChannel k)) = refl
      by (Some (ForRequest r)) = no_outcome e r.0
  no_answer e call = refl

six_nothing : (n : ℕ) (a b c x y z : List EventKind) → a ≡ [] → b ≡ [] → c ≡ [] → x ≡ [] → y ≡ [] → z ≡ [] → map (marked n) ((a ++ b ++ c) ++ (x ++ y ++ z)) ≡ []
six_nothing n a b c x y z ea eb ec ex ey ez = rw (ea, eb, ec, ex, ey, ez) refl

none_delivered : (world : WorldLists) (past : List Entry) (e : Entry) (d : ContextNo) → IsLegalPast world (e ∷ past) → came past d ≡ false → delivered past e d ≡ []
none_delivered world past e d legal none =
    six_nothing (length past) (connected (length (channels past)) (opens past e) d) (message past e.who e.call e.answer d) (disconnected past e e.call d) (asked (length (requests past)) (asks past e) d) (replied past e.who e.call e.answer d) (unanswered past e e.call d)
    (ap (λ x. on (is_receiving x) (Connected (record { 0 = length (channels past) }))) (no_end world past e.who e.call e.answer d legal.1.answered none))
    (no_message past d no_ends no_askers e.who e.call e.answer)
    (no_disconnect past d no_ends no_askers e e.call)
    (on_false (is_asked (asks past e) d) (Asked (record { 0 = length (requests past) })) (no_asked past e.who e.call e.answer d none))
    (no_reply past d no_ends no_askers e.who e.call e.answer)
    (no_answer past d no_ends no_askers e e.call)
  where
    no_ends : (k : ℕ) → end_in (channel past k) d ≡ Neither
    no_ends = ends_strange world past d legal.0 none

    no_askers : (r : ℕ) → is_asker (request past r) d ≡ false
    no_askers = askers_strange world past d legal.0 none

none_queued : (world : WorldLists) (past : List Entry) (d : ContextNo) → IsLegalPast world past → came past d ≡ false → queued past d ≡ []
none_queued world [] d legal none = refl
none_queued world (e ∷ past) d legal none =
    ap (λ l. l ++ delivered past e d) (none_queued world past d legal.0 (strange_before e past d none))
    ∙ none_delivered world past e d legal (strange_before e past d none)

-- nothing is pending for one that did not come in
pub none_pending : (world : WorldLists) (past : List Entry) (d : ContextNo) → IsLegalPast world past → came past d ≡ false → pending past d ≡ []
none_pending world past d legal none = ap (filter (is_waiting past d)) (none_queued world past d legal none)
