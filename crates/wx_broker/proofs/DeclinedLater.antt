-- What a decline makes of the queues.
use Rattle.std.proofs.Common.{◌≡◌, ℕ, List, ◌∷◌, ◌++◌, length, set, refl, ap, sym, ◌∙◌, Bool, true, false, cond, not, subst, map}
use Rattle.std.specs.Prelude.{Option, Some, None, IfSome, is_some, slice_get, ◌&&◌, ◌||◌}
use Rattle.std.specs.Option.{option_map}
use Rattle.std.proofs.lemmas.Bool.{and_parts, false≢true, true≢false}
use Rattle.std.proofs.lemmas.Option.{same_Some}
use Rattle.wx_id.specs.Contexts.{is_among, same_context}
use Rattle.wx_id.specs.declared.numbers.ContextNo.{ContextNo}
use Rattle.wx_id.specs.declared.numbers.RequestNo.{RequestNo}
use Rattle.wx_id.specs.declared.numbers.EntryNo.{EntryNo}
use Rattle.wx_id.specs.declared.events.Event.{Event}
use Rattle.wx_id.specs.declared.events.EventKind.TheVariants.{Closed}
use Rattle.wx_id.proofs.ContextLemmas.{same_context_is}
use Rattle.wx_external.specs.World.{WorldLists}
use Rattle.wx_machine.specs.declared.entries.Answer.{Answer}
use Rattle.wx_machine.specs.declared.entries.Answer.TheVariants.{Done, Gone}
use Rattle.wx_machine.specs.declared.entries.Entry.{Entry}
use Rattle.wx_machine.specs.Words.{ends_request, has_declined, is_asked, is_asker, is_late, is_live, is_open_to, is_settled}
use Rattle.wx_machine.specs.Words.{marked, on, on_request, Parties, request, settles}
use Rattle.wx_one_shot.specs.Requests.{Request, without}
use Rattle.wx_tables.specs.State.{in_entry}
use Rattle.wx_tables.specs.Asking.{told_asker}
use Rattle.wx_tables.specs.Ending.{EachQueue}
use Rattle.wx_laws.specs.Legal.{IsLegalPast}
use Rattle.wx_broker.specs.Tables.{request_said, HasRequests, AreAwaited, is_done}
use Rattle.wx_broker.proofs.RequestsLater.{decline_entry, done_is, requests_declined, requests_stay, settled_more}
use Rattle.wx_broker.proofs.TestsLater.{not_not, row_changed, row_set, same_self}
use Rattle.wx_broker.specs.Told.{HasPending}
use Rattle.wx_broker.proofs.HeardLater.{heard_marked}
use Rattle.wx_broker.proofs.ApartLater.{parties_apart}
use Rattle.wx_broker.proofs.PendingLater.{pending_told}

-- a decline that is answered `Done` is by a receiver of an unsettled request
done_facts : (past : List Entry) (c : ContextNo) (r : ℕ) (answer : Answer) → answer ≡ cond (is_live past c) (on_request (is_asked (request past r) c) (is_late past r c) Done) Gone → is_done answer ≡ true → (o : Option Parties) → request past r ≡ o → (is_asked o c && is_open_to past r c && not (is_settled past r)) ≡ true
done_facts past c r answer answered done o at =
    ap (λ o. is_asked o c && is_open_to past r c && not (is_settled past r)) (sym at)
    ∙ sym (ap is_done answered ∙ done_is (is_live past c) (is_asked (request past r) c) (is_settled past r) (has_declined past r c)) ∙ done

-- the request is settled in the table where the decline settles it
settles_as : (past : List Entry) (c : ContextNo) (r : RequestNo) (answer : Answer) (rows : List Request) (parties : Parties) → answer ≡ cond (is_live past c) (on_request (is_asked (request past r.0) c) (is_late past r.0 c) Done) Gone → HasRequests past rows → AreAwaited rows → is_done answer ≡ true → request past r.0 ≡ Some parties → is_settled past r.0 ≡ false → (without c (request_said past r.0 parties)).is_settled ≡ settles past (decline_entry c r answer) r.0
settles_as past c r answer rows parties answered has awaited done is unsettled =
    settled_in (sym there ∙ now r.0 ∙ ap (λ rs. option_map (request_said (e ∷ past) r.0) (slice_get rs r.0)) (requests_stay e past refl) ∙ ap (option_map (request_said (e ∷ past) r.0)) is)
    ∙ settled_more e past r.0
    ∙ ap (λ b. b || ends_request past e r.0) unsettled
    ∙ ap (λ b. not b && ends_request past e r.0) (sym unsettled)
  where
    e : Entry
    e = decline_entry c r answer

    row : Request
    row = request_said past r.0 parties

    at : slice_get rows r.0 ≡ Some row
    at = has r.0 ∙ ap (option_map (request_said past r.0)) is

    rows' : List Request
    rows' = set rows r.0 (without c row)

    now : HasRequests (e ∷ past) rows'
    now = requests_declined past c r answer rows rows' answered (λ j. row_changed (without c) rows rows' r.0 (is_done answer) done (ap is_some at) (subst (λ o. IfSome o (λ q. rows' ≡ set rows r.0 (without c q))) (sym at) refl) j) has awaited

    there : slice_get rows' r.0 ≡ Some (without c row)
    there = row_set (without c) rows r.0 row r.0 at ∙ rw (same_self r.0, at) refl

    settled_in : Some (without c row) ≡ Some (request_said (e ∷ past) r.0 parties) → (without c row).is_settled ≡ is_settled (e ∷ past) r.0
    settled_in h = ap (λ q. q.is_settled) (same_Some (without c row) (request_said (e ∷ past) r.0 parties) h)

-- whom the table tells that the request is settled is whom the decline tells
told_is : (past : List Entry) (c : ContextNo) (r : RequestNo) (answer : Answer) (parties : Parties) (d : ContextNo) → request past r.0 ≡ Some parties → is_among parties.receivers c ≡ true → (without c (request_said past r.0 parties)).is_settled ≡ settles past (decline_entry c r answer) r.0 → ((without c (request_said past r.0 parties)).is_settled && same_context parties.asker d) ≡ ((settles past (decline_entry c r answer) r.0 && is_asker (request past r.0) d) && not (same_context c d))
told_is past c r answer parties d is among settling =
    ap (λ b. b && same_context parties.asker d) settling
    ∙ by (settles past (decline_entry c r answer) r.0) (same_context parties.asker d) (same_context c d) refl refl
    ∙ ap (λ o. (settles past (decline_entry c r answer) r.0 && is_asker o d) && not (same_context c d)) (sym is)
  where
    other : same_context parties.asker d ≡ true → same_context c d ≡ true → ⊥
    other asks same =
        let one : parties.asker ≡ c = same_context_is parties.asker d asks ∙ sym (same_context_is c d same) in
        true≢false (sym among ∙ ap (is_among parties.receivers) (sym one) ∙ parties_apart past r.0 parties is)

    by : (b t s : Bool) → same_context parties.asker d ≡ t → same_context c d ≡ s → (b && t) ≡ ((b && t) && not s)
    by true true true asks same = absurd (other asks same)
    by true true false asks same = refl
    by true false s asks same = refl
    by false t s asks same = refl

-- what waits after a decline that is answered `Done`
pub pending_declined : (world : WorldLists) (past : List Entry) (c : ContextNo) (r : RequestNo) (answer : Answer) (rows : List Request) (queues queues' : List (List Event)) (n : EntryNo) → n.0 ≡ length past → IsLegalPast world (decline_entry c r answer ∷ past) → HasRequests past rows → AreAwaited rows → HasPending past queues → is_done answer ≡ true → IfSome (slice_get rows r.0) (λ asked. EachQueue (told_asker (without c asked).is_settled asked (in_entry n (Closed r))) queues queues') → HasPending (decline_entry c r answer ∷ past) queues'
pending_declined world past c r answer rows queues queues' n at legal has awaited waits done changed =
    by (request past r.0) refl (done_facts past c r.0 answer legal.1.answered done (request past r.0) refl) (subst (λ o. IfSome o (λ asked. EachQueue (told_asker (without c asked).is_settled asked (in_entry n (Closed r))) queues queues')) (has r.0) changed)
  where
    by : (o : Option Parties) → request past r.0 ≡ o → (is_asked o c && is_open_to past r.0 c && not (is_settled past r.0)) ≡ true → IfSome (option_map (request_said past r.0) o) (λ asked. EachQueue (told_asker (without c asked).is_settled asked (in_entry n (Closed r))) queues queues') → HasPending (decline_entry c r answer ∷ past) queues'
    by None is h change = absurd (false≢true h)
    by (Some parties) is h change =
        let parts : ((is_among parties.receivers c && is_open_to past r.0 c) ≡ true) × (not (is_settled past r.0) ≡ true) = and_parts _ _ h in
        let unsettled : is_settled past r.0 ≡ false = sym (not_not (is_settled past r.0)) ∙ ap not parts.1 in
        let among : is_among parties.receivers c ≡ true = (and_parts _ _ parts.0).0 in
        let row = request_said past r.0 parties in
        pending_told world past (decline_entry c r answer) (told_asker (without c row).is_settled row (in_entry n (Closed r))) queues queues' legal waits refl change
        (λ d queue. heard_marked n (length past) ((without c row).is_settled && same_context parties.asker d) (Closed r) queue at
        ∙ ap (λ b. queue ++ map (marked (length past)) (on b (Closed r))) (told_is past c r answer parties d is among (settles_as past c r answer rows parties legal.1.answered has awaited done is unsettled)))
