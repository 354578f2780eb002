-- A leave of one who is gone changes no table.
use Rattle.std.proofs.Common.{◌≡◌, ℕ, suc, List, [], ◌∷◌, ◌++◌, refl, ap, sym, ◌∙◌, Bool, true, false, cond, not, subst, map}
use Rattle.std.specs.Prelude.{Option, Some, None, filter, reverse, slice_get, ◌&&◌}
use Rattle.std.specs.Option.{option_map}
use Rattle.std.proofs.lemmas.Bool.{false≢true, true≢false}
use Rattle.std.proofs.lemmas.Option.{none-some, same_Some}
use Rattle.wx_id.specs.Contexts.{is_among, same_context}
use Rattle.wx_id.specs.declared.numbers.ContextNo.{ContextNo}
use Rattle.wx_id.specs.declared.events.End.TheVariants.{Opener}
use Rattle.wx_external.specs.World.{WorldLists}
use Rattle.wx_machine.specs.declared.entries.Answer.{Answer}
use Rattle.wx_machine.specs.declared.entries.Answer.TheVariants.{Done, Gone}
use Rattle.wx_machine.specs.declared.entries.Entry.{Entry}
use Rattle.wx_machine.specs.Words.{channel, end_in, Ends, FollowsMachine, has_declined, is_closed, is_live, is_open_to, is_settled, Parties, request}
use Rattle.wx_port.specs.Port.{Port, left_by, with_live}
use Rattle.wx_one_shot.specs.Requests.{Request, left_by as request_left}
use Rattle.wx_tables.specs.Asking.{request_left_at}
use Rattle.wx_laws.specs.Legal.{IsLegalPast}
use Rattle.wx_laws.proofs.Closings.{opener_lives}
use Rattle.wx_broker.specs.Tables.{port_said, request_said, AreAwaited, HasChannels, HasRequests, IsKept}
use Rattle.wx_broker.proofs.KeptLater.{kept_left}
use Rattle.wx_broker.proofs.LivesLater.{among_passing, leave_entry}
use Rattle.wx_broker.proofs.PortsLater.{made}
use Rattle.wx_broker.proofs.TestsLater.{any_passes, has_some}
use Rattle.wx_broker.specs.Calm.{is_gone}
use Rattle.wx_broker.proofs.LiveEnds.{asker_lives, heard, IsHeard}
use Rattle.wx_broker.proofs.OutcomesLater.{none_of, rows_same}

-- a list of which each element stays
map_stays : {X : Type 0} (f : X → X) (xs : List X) → ((k : ℕ) (x : X) → slice_get xs k ≡ Some x → f x ≡ x) → map f xs ≡ xs
map_stays f [] h = refl
map_stays f (x ∷ xs) h = rw (h 0 x refl, map_stays f xs (λ k y at. h (suc k) y at)) refl

among_some : (xs : List ContextNo) (c : ContextNo) → is_among xs c ≡ true → has_some xs ≡ true
among_some [] c h = absurd (false≢true h)
among_some (x ∷ xs) c h = refl

-- a channel stays, once one who is gone has left it
port_gone : (world : WorldLists) (past : List Entry) (c : ContextNo) (k : ℕ) (ends : Ends) → IsLegalPast world past → is_live past c ≡ false → channel past k ≡ Some ends → left_by c (port_said past k ends) ≡ port_said past k ends
port_gone world past c k ends legal gone is = by (is_closed past k) refl
  where
    live : List ContextNo
    live = filter (is_live past) ends.receivers

    stay : (xs : List ContextNo) → has_some xs ≡ true → with_live (made ends xs false) xs ≡ made ends xs false
    stay [] some = absurd (false≢true some)
    stay (x ∷ xs) some = refl

    open_case : is_closed past k ≡ false → (s : Bool) → same_context ends.opener c ≡ s → (a : Bool) → is_among ends.receivers c ≡ a → left_by c (made ends live false) ≡ made ends live false
    open_case open_now true s a m =
        let opener : end_in (Some ends) c ≡ Opener = rw s refl in
        absurd (true≢false (sym (opener_lives world past c k legal open_now (ap (λ o. end_in o c) is ∙ opener)) ∙ gone))
    open_case open_now false s true m =
        let out : is_among live c ≡ false = among_passing (is_live past) ends.receivers c ∙ ap (λ b. b && is_among ends.receivers c) gone in
        let some : has_some live ≡ true = sym (any_passes (is_live past) ends.receivers) ∙ subst (IsHeard past) is (heard past k open_now) (among_some ends.receivers c m) in
        rw (s, m, none_of c live out) (stay live some)
    open_case open_now false s false m = rw (s, m) refl

    by : (w : Bool) → is_closed past k ≡ w → left_by c (made ends live w) ≡ made ends live w
    by true shut = refl
    by false open_now = open_case open_now (same_context ends.opener c) refl (is_among ends.receivers c) refl

ports_gone : (world : WorldLists) (past : List Entry) (c : ContextNo) (ports : List Port) → IsLegalPast world past → is_live past c ≡ false → HasChannels past ports → map (left_by c) ports ≡ ports
ports_gone world past c ports legal gone has = map_stays (left_by c) ports (λ k port at. by k port (channel past k) refl (sym at ∙ has k))
  where
    by : (k : ℕ) (port : Port) (o : Option Ends) → channel past k ≡ o → Some port ≡ option_map (port_said past k) o → left_by c port ≡ port
    by k port None is at = absurd (none-some port (sym at))
    by k port (Some ends) is at =
        let same : port ≡ port_said past k ends = same_Some port (port_said past k ends) at in
        ap (left_by c) same ∙ port_gone world past c k ends legal gone is ∙ sym same

-- a request concerns none who is gone
row_gone : (world : WorldLists) (past : List Entry) (c : ContextNo) (r : ℕ) (parties : Parties) → IsLegalPast world past → is_live past c ≡ false → request past r ≡ Some parties → request_left_at c (request_said past r parties) ≡ request_said past r parties
row_gone world past c r parties legal gone is = by (is_settled past r) refl
  where
    open_now : List ContextNo
    open_now = filter (is_open_to past r) parties.receivers

    said : Bool → Request
    said w = record { asker = parties.asker; receivers = parties.receivers; still_open = cond w [] open_now; is_settled = w }

    out : is_among open_now c ≡ false
    out = among_passing (is_open_to past r) parties.receivers c ∙ ap (λ b. (b && not (has_declined past r c)) && is_among parties.receivers c) gone

    open_case : is_settled past r ≡ false → (s : Bool) → same_context parties.asker c ≡ s → request_left_at c (said false) ≡ said false
    open_case unsettled true s = absurd (true≢false (sym (asker_lives world past r c legal unsettled (rw is s)) ∙ gone))
    open_case unsettled false s = rw (s, out) refl

    by : (w : Bool) → is_settled past r ≡ w → request_left_at c (said w) ≡ said w
    by true over = refl
    by false unsettled = open_case unsettled (same_context parties.asker c) refl

rows_gone : (world : WorldLists) (past : List Entry) (c : ContextNo) (rows : List Request) → IsLegalPast world past → is_live past c ≡ false → HasRequests past rows → AreAwaited rows → map (request_left c) rows ≡ rows
rows_gone world past c rows legal gone has awaited =
    sym (rows_same rows c awaited) ∙ map_stays (request_left_at c) rows (λ r row at. by r row (request past r) refl (sym at ∙ has r))
  where
    by : (r : ℕ) (row : Request) (o : Option Parties) → request past r ≡ o → Some row ≡ option_map (request_said past r) o → request_left_at c row ≡ row
    by r row None is at = absurd (none-some row (sym at))
    by r row (Some parties) is at =
        let same : row ≡ request_said past r parties = same_Some row (request_said past r parties) at in
        ap (request_left_at c) same ∙ row_gone world past c r parties legal gone is ∙ sym same

gone_is : (live : Bool) (answer : Answer) → answer ≡ cond live Done Gone → is_gone answer ≡ true → live ≡ false
gone_is true answer answered h = absurd (false≢true (sym (ap is_gone answered) ∙ h))
gone_is false answer answered h = refl

-- the journal is legal and the tables tell it, after a leave that is answered `Gone`
pub kept_gone : (world : WorldLists) (journal : List Entry) (c : ContextNo) (answer : Answer) (ports : List Port) (rows : List Request) → IsKept world journal ports rows → FollowsMachine world (reverse journal) (leave_entry c answer) → is_gone answer ≡ true → IsKept world (journal ++ leave_entry c answer ∷ []) ports rows
kept_gone world journal c answer ports rows kept follows h =
    let gone : is_live (reverse journal) c ≡ false = gone_is (is_live (reverse journal) c) answer follows.answered h in
    kept_left world journal (journal ++ leave_entry c answer ∷ []) c answer ports ports rows rows kept follows refl
    (sym (ports_gone world (reverse journal) c ports kept.legal gone kept.channels))
    (sym (rows_gone world (reverse journal) c rows kept.legal gone kept.requests kept.awaited))
