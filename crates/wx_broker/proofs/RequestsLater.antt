-- What an entry leaves of the table of requests.
use Rattle.std.proofs.Common.{◌≡◌, ℕ, ◌≤◌, List, [], ◌∷◌, ◌++◌, length, refl, ap, sym, ◌∙◌, Bool, true, false, cond, not, arith, subst, append-nil, map, rules}
use Rattle.std.specs.Prelude.{Option, Some, None, IfSome, is_some, option_to_list, ◌<◌, filter, slice_get, ◌&&◌, ◌||◌, ◌==◌, nat_lt}
use Rattle.std.specs.Option.{option_or, option_map}
use Rattle.std.specs.List.{list_all, list_any}
use Rattle.std.proofs.lemmas.Bool.{and_parts, not-true, false≢true}
use Rattle.std.proofs.lemmas.Option.{slice_get_past, slice_get-map}
use Rattle.std.proofs.lemmas.List.Elements.{filter_agree}
use Rattle.wx_id.proofs.ContextLemmas.{same_context_is}
use Rattle.wx_id.specs.Contexts.{is_among, is_other, same_context}
use Rattle.wx_id.specs.declared.numbers.RequestNo.{RequestNo}
use Rattle.wx_id.specs.declared.numbers.ContextNo.{ContextNo}
use Rattle.wx_id.specs.declared.numbers.HostNo.{HostNo}
use Rattle.wx_context.specs.declared.contexts.Target.{Target}
use Rattle.wx_machine.specs.declared.sorts.Sort.TheVariants.{Message}
use Rattle.wx_machine.specs.declared.entries.Who.{Who}
use Rattle.wx_machine.specs.declared.entries.Call.{Call}
use Rattle.wx_machine.specs.declared.entries.Answer.{Answer}
use Rattle.wx_machine.specs.declared.entries.Entry.{Entry}
use Rattle.wx_machine.specs.Words.{is_live, is_leave, receivers_of, Parties, asks, asked_by, requests, request, is_asked, is_for_request, work_of, is_decline}
use Rattle.wx_machine.specs.Words.{has_declined, is_open_to, has_open, settles_by, ends_request, settled_at, is_settled, on_request, is_late, where_short}
use Rattle.wx_machine.specs.declared.entries.Who.TheVariants.{Context as ByContext, Host as ByHost}
use Rattle.wx_machine.specs.declared.entries.Call.TheVariants.{Leave, Send, SendNative, Reply, Decline, HostSaid, HostEnded}
use Rattle.wx_machine.specs.declared.entries.Answer.TheVariants.{Request as OnRequest, First, Done, Gone, TooLong}
use Rattle.wx_machine.specs.declared.entries.TheConstants.{LONGEST}
use Rattle.wx_one_shot.specs.declared.requests.Standing.TheVariants.{Open, Late, Stranger}
use Rattle.wx_one_shot.specs.Requests.{Request, asked, settled, left_to, without, left_by, standing_at, is_unsettled_at}
use Rattle.wx_laws.proofs.ChannelsLater.{place_more}
use Rattle.wx_laws.proofs.RequestsLater.{requests_more}
use Rattle.wx_broker.specs.Tables.{request_said, HasRequests, IsAwaited, AreAwaited, is_done, is_first, on_standing}
use Rattle.wx_broker.proofs.TestsLater.{or_false, and_false, and_true, same_back, same_self, same_is, has_some, nil_test, any_passes, filter_where, filter_whole, filter_twice, all_weaker, all_fail, rows_length, rows_changed, rows_more, map_whole, shorter}
use Rattle.wx_broker.proofs.WorkLater.{other_request}
use Rattle.wx_broker.proofs.LivesLater.{came, came_stays, live_came, live_stays, live_left, leave_entry, among_passing, receivers_live}

-- whether request r is settled after one more entry
pub settled_more : (e : Entry) (past : List Entry) (r : ℕ) → is_settled (e ∷ past) r ≡ (is_settled past r || ends_request past e r)
settled_more e past r = by (settled_at past r) (ends_request past e r)
  where
    by : (o : Option ℕ) (b : Bool) → is_some (option_or o (cond b (Some (length past)) None)) ≡ (is_some o || b)
    by None true = refl
    by None false = refl
    by (Some n) b = refl

-- an entry that makes none leaves the requests
pub requests_stay : (e : Entry) (past : List Entry) → asks past e ≡ None → requests (e ∷ past) ≡ requests past
requests_stay e past none = rw none (append-nil (requests past))

-- the receivers of a request came in
abbrev all_came : List Entry → Option Parties → Bool
all_came past None = true
all_came past (Some parties) = list_all (came past) parties.receivers

asked_came : (past now : List Entry) → ((d : ContextNo) → came past d ≡ true → came now d ≡ true) → (who : Who) (call : Call) (answer : Answer) → all_came now (asked_by past who call answer) ≡ true
asked_came past now stays (ByContext c) (Send target text) (OnRequest r) =
    all_weaker (is_live past) (came now) (λ d h. stays d (live_came past d h)) (receivers_of past c target Message) (receivers_live past c target Message)
asked_came past now stays (ByContext c) (SendNative name text) (OnRequest r) = refl
asked_came past now stays who call answer = refl

all_came_stay : (past now : List Entry) → ((d : ContextNo) → came past d ≡ true → came now d ≡ true) → (o : Option Parties) → all_came past o ≡ true → all_came now o ≡ true
all_came_stay past now stays None h = refl
all_came_stay past now stays (Some parties) h = all_weaker (came past) (came now) stays parties.receivers h

receivers_came : (past : List Entry) (r : ℕ) → all_came past (request past r) ≡ true
receivers_came [] r = refl
receivers_came (e ∷ past) r =
    place_more (all_came (e ∷ past)) (requests past) (asks past e) r
    ∙ by (all_came_stay past (e ∷ past) (came_stays e past) (request past r) (receivers_came past r)) ((length (requests past) == r) && is_some (asks past e))
  where
    by : all_came (e ∷ past) (request past r) ≡ true → (b : Bool) → cond b (all_came (e ∷ past) (asks past e)) (all_came (e ∷ past) (request past r)) ≡ true
    by old true = asked_came past (e ∷ past) (came_stays e past) e.who e.call e.answer
    by old false = old

parties_came : (past : List Entry) (r : ℕ) (parties : Parties) → request past r ≡ Some parties → list_all (came past) parties.receivers ≡ true
parties_came past r parties at = subst (λ o. all_came past o ≡ true) at (receivers_came past r)

-- who declined, after an entry that is no decline
declined_stay : (e : Entry) (past : List Entry) (r : ℕ) (d : ContextNo) → is_decline r e.call ≡ false → has_declined (e ∷ past) r d ≡ has_declined past r d
declined_stay e past r d none = rw none (or_false (has_declined past r d))

-- who may reply, after an entry that is no leave and no decline
open_stays : (e : Entry) (past : List Entry) (r : ℕ) (parties : Parties) → is_leave e.call ≡ false → is_decline r e.call ≡ false → request past r ≡ Some parties → filter (is_open_to (e ∷ past) r) parties.receivers ≡ filter (is_open_to past r) parties.receivers
open_stays e past r parties stays none at =
    filter_where (came past) (is_open_to (e ∷ past) r) (is_open_to past r)
    (λ d h. ap (λ b. b && not (has_declined (e ∷ past) r d)) (live_stays e past d stays h) ∙ ap (λ b. is_live past d && not b) (declined_stay e past r d none))
    parties.receivers (parties_came past r parties at)

-- a request with these parties, to whom of the receivers it is open unless it is settled
abbrev made : Parties → List ContextNo → Bool → Request
made parties left settled_now = record { asker = parties.asker; receivers = parties.receivers; still_open = cond settled_now [] left; is_settled = settled_now }

made_same : (parties : Parties) (left left' : List ContextNo) (b b' : Bool) → left ≡ left' → b ≡ b' → made parties left b ≡ made parties left' b'
made_same parties left left' b b' same_left same = rw (same_left, same) refl

-- a request that an entry does not end stays as it was
pub request_kept : (e : Entry) (past : List Entry) (r : ℕ) (parties : Parties) → is_leave e.call ≡ false → is_decline r e.call ≡ false → ends_request past e r ≡ false → request past r ≡ Some parties → request_said past r parties ≡ request_said (e ∷ past) r parties
request_kept e past r parties stays none kept at =
    made_same parties _ _ _ _ (sym (open_stays e past r parties stays none at)) (sym (settled_more e past r ∙ ap (λ b. is_settled past r || b) kept ∙ or_false (is_settled past r)))

-- so does the table, where an entry makes and ends none
pub requests_kept : (e : Entry) (past : List Entry) (rows : List Request) → is_leave e.call ≡ false → ((r : ℕ) → is_decline r e.call ≡ false) → asks past e ≡ None → ((r : ℕ) → ends_request past e r ≡ false) → HasRequests past rows → HasRequests (e ∷ past) rows
requests_kept e past rows stays none asks_none ends has r =
    rows_changed (request_said past) (request_said (e ∷ past)) (λ _ row. row) (requests past) rows rows (λ j. map_whole (slice_get rows j))
    (λ j x at. request_kept e past j x stays (none j) (ends j) at) has r
    ∙ ap (λ rs. option_map (request_said (e ∷ past) r) (slice_get rs r)) (sym (requests_stay e past asks_none))

-- a request that was not made is not settled, and nobody declined it
none_settles : (past : List Entry) (e : Entry) (r : ℕ) (who : Who) (call : Call) → length (requests past) ≤ r → settles_by past e r None who call ≡ false
none_settles past e r (ByContext c) (Reply j text) before = by (j.0 == r)
  where
    by : (b : Bool) → (b && false && is_open_to past r c && not (nat_lt LONGEST (length text))) ≡ false
    by true = refl
    by false = refl
none_settles past e r (ByContext c) (Decline j) before = by (j.0 == r)
  where
    by : (b : Bool) → (b && false && is_live past c && not (has_open (e ∷ past) r None)) ≡ false
    by true = refl
    by false = refl
none_settles past e r (ByHost h) (HostSaid text) before = other_request past h r before
none_settles past e r (ByHost h) (HostEnded reason) before = other_request past h r before
none_settles past e r who call before = refl

earlier : (e : Entry) (past : List Entry) (r : ℕ) → length (requests (e ∷ past)) ≤ r → length (requests past) ≤ r
earlier e past r h = shorter (is_some (asks past e)) (length (requests past)) (length (requests (e ∷ past))) r (requests_more e past) h

pub settled_later : (past : List Entry) (r : ℕ) → length (requests past) ≤ r → is_settled past r ≡ false
settled_later [] r h = refl
settled_later (e ∷ past) r h =
    let before : length (requests past) ≤ r = earlier e past r h in
    settled_more e past r
    ∙ ap (λ b. b || ends_request past e r) (settled_later past r before)
    ∙ ap (λ o. settles_by past e r o e.who e.call) (slice_get_past (requests past) r before)
    ∙ none_settles past e r e.who e.call before

declined_later : (past : List Entry) (r : ℕ) (d : ContextNo) → length (requests past) ≤ r → has_declined past r d ≡ false
declined_later [] r d h = refl
declined_later (e ∷ past) r d h =
    let before : length (requests past) ≤ r = earlier e past r h in
    rw (declined_later past r d before, slice_get_past (requests past) r before) (and_false _)

-- the table after an entry that makes a request with these parties
requests_grown : (e : Entry) (past : List Entry) (parties : Parties) (rows rows' : List Request) → is_leave e.call ≡ false → ((r : ℕ) → is_decline r e.call ≡ false) → ((r : ℕ) → ends_request past e r ≡ false) → asks past e ≡ Some parties → list_all (is_live past) parties.receivers ≡ true → rows' ≡ rows ++ asked parties.asker parties.receivers ∷ [] → HasRequests past rows → HasRequests (e ∷ past) rows'
requests_grown e past parties rows rows' stays none ends asks_is lives grown has r =
    rows_more (request_said past) (request_said (e ∷ past)) (requests past) parties rows rows' (asked parties.asker parties.receivers) grown
    (λ j x at. request_kept e past j x stays (none j) (ends j) at)
    (made_same parties parties.receivers _ false _ (sym (filter_whole (is_open_to (e ∷ past) (length (requests past))) parties.receivers open_now)) (sym unsettled))
    has r
    ∙ ap (λ o. option_map (request_said (e ∷ past) r) (slice_get (requests past ++ option_to_list o) r)) (sym asks_is)
  where
    open_now : list_all (is_open_to (e ∷ past) (length (requests past))) parties.receivers ≡ true
    open_now =
        all_weaker (is_live past) (is_open_to (e ∷ past) (length (requests past)))
        (λ d h. ap (λ b. b && not (has_declined (e ∷ past) (length (requests past)) d)) (live_stays e past d stays (live_came past d h) ∙ h) ∙ ap not (declined_stay e past (length (requests past)) d (none (length (requests past))) ∙ declined_later past (length (requests past)) d (omega arith)))
        parties.receivers lives

    unsettled : is_settled (e ∷ past) (length (requests past)) ≡ false
    unsettled =
        settled_more e past (length (requests past))
        ∙ ap (λ b. is_settled past (length (requests past)) || b) (ends (length (requests past)))
        ∙ or_false _
        ∙ settled_later past (length (requests past)) (omega arith)

-- after a send that makes a request to these receivers
pub requests_asked : (past : List Entry) (c : ContextNo) (target : Target) (text : List ℕ) (r : RequestNo) (rows rows' : List Request) → let e : Entry = record { who = ByContext c; call = Send target text; answer = OnRequest r } in rows' ≡ rows ++ asked c (receivers_of past c target Message) ∷ [] → HasRequests past rows → HasRequests (e ∷ past) rows'
requests_asked past c target text r rows rows' grown has =
    requests_grown (record { who = ByContext c; call = Send target text; answer = OnRequest r }) past (record { asker = c; receivers = receivers_of past c target Message }) rows rows' refl (λ j. refl) (λ j. refl) refl (receivers_live past c target Message) grown has

-- after a send that makes a request to a native host
pub requests_asked_native : (past : List Entry) (c : ContextNo) (name text : List ℕ) (r : RequestNo) (rows rows' : List Request) → let e : Entry = record { who = ByContext c; call = SendNative name text; answer = OnRequest r } in rows' ≡ rows ++ asked c [] ∷ [] → HasRequests past rows → HasRequests (e ∷ past) rows'
requests_asked_native past c name text r rows rows' grown has =
    requests_grown (record { who = ByContext c; call = SendNative name text; answer = OnRequest r }) past (record { asker = c; receivers = [] }) rows rows' refl (λ j. refl) (λ j. refl) refl refl grown has

-- after an entry of host h that settles the request that it works for
pub requests_worked : (e : Entry) (past : List Entry) (h : HostNo) (rows rows' : List Request) → is_leave e.call ≡ false → ((r : ℕ) → is_decline r e.call ≡ false) → asks past e ≡ None → ((r : ℕ) → ends_request past e r ≡ is_for_request r (work_of past h)) → ((r : ℕ) → slice_get rows' r ≡ option_map (λ row. cond (is_for_request r (work_of past h) && not row.is_settled) (settled row) row) (slice_get rows r)) → HasRequests past rows → HasRequests (e ∷ past) rows'
requests_worked e past h rows rows' stays none asks_none ends changed has r =
    rows_changed (request_said past) (request_said (e ∷ past)) (λ r' row. cond (is_for_request r' (work_of past h) && not row.is_settled) (settled row) row) (requests past) rows rows' changed each has r
    ∙ ap (λ rs. option_map (request_said (e ∷ past) r) (slice_get rs r)) (sym (requests_stay e past asks_none))
  where
    row : (parties : Parties) (left : List ContextNo) (w x : Bool) → cond (x && not w) (settled (made parties left w)) (made parties left w) ≡ made parties left (w || x)
    row parties left true true = refl
    row parties left true false = refl
    row parties left false true = refl
    row parties left false false = refl

    each : (r' : ℕ) (parties : Parties) → request past r' ≡ Some parties → cond (is_for_request r' (work_of past h) && not (is_settled past r')) (settled (request_said past r' parties)) (request_said past r' parties) ≡ request_said (e ∷ past) r' parties
    each r' parties at =
        row parties (filter (is_open_to past r') parties.receivers) (is_settled past r') (is_for_request r' (work_of past h))
        ∙ sym (made_same parties _ _ _ _ (open_stays e past r' parties stays (none r') at) (settled_more e past r' ∙ ap (λ b. is_settled past r' || b) (ends r')))

abbrev pub reply_entry : ContextNo → RequestNo → List ℕ → Answer → Entry
reply_entry c r text answer = record { who = ByContext c; call = Reply r text; answer = answer }

-- a reply is answered `First` exactly to a live receiver of an unsettled request that did not decline it, and whose text is not too long
first_is : (live is shut declined long : Bool) → is_first (cond live (on_request is (shut || declined) (cond long TooLong First)) Gone) ≡ (is && (live && not declined) && not long && not shut)
first_is true true true declined long = last declined long
  where
    last : (d l : Bool) → false ≡ ((true && (true && not d)) && not l && false)
    last true l = refl
    last false true = refl
    last false false = refl
first_is true true false true long = refl
first_is true true false false true = refl
first_is true true false false false = refl
first_is true false shut declined long = refl
first_is false true shut declined long = refl
first_is false false shut declined long = refl

-- the table after a reply
pub requests_replied : (past : List Entry) (c : ContextNo) (j : RequestNo) (text : List ℕ) (answer : Answer) (rows rows' : List Request) → answer ≡ cond (is_live past c) (on_request (is_asked (request past j.0) c) (is_late past j.0 c) (where_short text First)) Gone → ((r : ℕ) → slice_get rows' r ≡ option_map (λ row. cond (is_first answer && (j.0 == r)) (settled row) row) (slice_get rows r)) → HasRequests past rows → HasRequests (reply_entry c j text answer ∷ past) rows'
requests_replied past c j text answer rows rows' answered changed has r =
    rows_changed (request_said past) (request_said (e ∷ past)) (λ r' row. cond (is_first answer && (j.0 == r')) (settled row) row) (requests past) rows rows' changed each has r
    ∙ ap (λ rs. option_map (request_said (e ∷ past) r) (slice_get rs r)) (sym (requests_stay e past refl))
  where
    e : Entry
    e = reply_entry c j text answer

    long : Bool
    long = nat_lt LONGEST (length text)

    first : is_first answer ≡ (is_asked (request past j.0) c && is_open_to past j.0 c && not long && not (is_settled past j.0))
    first = ap is_first answered ∙ first_is (is_live past c) (is_asked (request past j.0) c) (is_settled past j.0) (has_declined past j.0 c) long

    row : (parties : Parties) (left : List ContextNo) (w x : Bool) → cond ((x && not w) && true) (settled (made parties left w)) (made parties left w) ≡ made parties left (w || x)
    row parties left true true = refl
    row parties left true false = refl
    row parties left false true = refl
    row parties left false false = refl

    other : (parties : Parties) (left : List ContextNo) (w f : Bool) → cond (f && false) (settled (made parties left w)) (made parties left w) ≡ made parties left (w || false)
    other parties left true true = refl
    other parties left true false = refl
    other parties left false true = refl
    other parties left false false = refl

    each : (r' : ℕ) (parties : Parties) → request past r' ≡ Some parties → cond (is_first answer && (j.0 == r')) (settled (request_said past r' parties)) (request_said past r' parties) ≡ request_said (e ∷ past) r' parties
    each r' parties at = by (j.0 == r') refl ∙ sym said
      where
        left : List ContextNo
        left = filter (is_open_to past r') parties.receivers

        said : request_said (e ∷ past) r' parties ≡ made parties left (is_settled past r' || ((j.0 == r') && is_asked (Some parties) c && is_open_to past r' c && not long))
        said = made_same parties _ _ _ _ (open_stays e past r' parties refl refl at) (settled_more e past r' ∙ ap (λ o. is_settled past r' || settles_by past e r' o (ByContext c) (Reply j text)) at)

        by : (b : Bool) → (j.0 == r') ≡ b → cond (is_first answer && b) (settled (made parties left (is_settled past r'))) (made parties left (is_settled past r')) ≡ made parties left (is_settled past r' || (b && is_asked (Some parties) c && is_open_to past r' c && not long))
        by true same =
            let here : is_first answer ≡ (is_asked (Some parties) c && is_open_to past r' c && not long && not (is_settled past r')) =
            first ∙ ap (λ n. is_asked (request past n) c && is_open_to past n c && not long && not (is_settled past n)) (same_is j.0 r' same) ∙ ap (λ o. is_asked o c && is_open_to past r' c && not long && not (is_settled past r')) at in
            ap (λ b. cond (b && true) (settled (made parties left (is_settled past r'))) (made parties left (is_settled past r'))) here
            ∙ row parties left (is_settled past r') (is_asked (Some parties) c && is_open_to past r' c && not long)
        by false same = other parties left (is_settled past r') (is_first answer)

-- an unsettled request that is left to these contexts
lasts : (parties : Parties) (before xs : List ContextNo) → left_to xs (made parties before false) ≡ made parties xs (not (has_some xs))
lasts parties before xs = rw (nil_test xs) (by xs)
  where
    by : (ys : List ContextNo) → record { asker = parties.asker; receivers = parties.receivers; still_open = ys; is_settled = not (has_some ys) } ≡ made parties ys (not (has_some ys))
    by [] = refl
    by (y ∷ ys) = refl

-- what a leave makes of one request
row_left : (c : ContextNo) (parties : Parties) (may may' : ContextNo → Bool) → ((d : ContextNo) → may' d ≡ (may d && is_other c d)) → (w : Bool) → left_by c (made parties (filter may parties.receivers) w) ≡ made parties (filter may' parties.receivers) (w || (same_context parties.asker c || (is_among parties.receivers c && not (list_any may' parties.receivers))))
row_left c parties may may' law true = refl
row_left c parties may may' law false = by (same_context parties.asker c) refl (is_among parties.receivers c) refl
  where
    fewer : filter (is_other c) (filter may parties.receivers) ≡ filter may' parties.receivers
    fewer = filter_twice (is_other c) may parties.receivers ∙ sym (filter_agree may' (λ d. may d && is_other c d) law parties.receivers)

    stay : is_among parties.receivers c ≡ false → filter may parties.receivers ≡ filter may' parties.receivers
    stay none = filter_where (is_other c) may may' (λ d h. sym (law d ∙ ap (λ b. may d && b) h ∙ and_true (may d))) parties.receivers (all_fail (λ d. same_context d c) parties.receivers none)

    by : (s : Bool) → same_context parties.asker c ≡ s → (a : Bool) → is_among parties.receivers c ≡ a → left_by c (made parties (filter may parties.receivers) false) ≡ made parties (filter may' parties.receivers) (same_context parties.asker c || (is_among parties.receivers c && not (list_any may' parties.receivers)))
    by true same a among = rw same refl
    by false same true among = rw (same, among, fewer, any_passes may' parties.receivers) (lasts parties (filter may parties.receivers) (filter may' parties.receivers))
    by false same false among = rw (same, among, stay among) refl

-- who may reply after a leave
pub open_left : (c : ContextNo) (answer : Answer) (past : List Entry) (r : ℕ) (d : ContextNo) → is_open_to (leave_entry c answer ∷ past) r d ≡ (is_open_to past r d && is_other c d)
open_left c answer past r d =
    ap (λ b. b && not (has_declined (leave_entry c answer ∷ past) r d)) (live_left c answer past d)
    ∙ ap (λ b. (is_live past d && is_other c d) && not b) (declined_stay (leave_entry c answer) past r d refl)
    ∙ by (is_live past d) (is_other c d) (has_declined past r d)
  where
    by : (l o w : Bool) → ((l && o) && not w) ≡ ((l && not w) && o)
    by true true true = refl
    by true true false = refl
    by true false true = refl
    by true false false = refl
    by false o w = refl

-- the table after a leave
pub requests_left : (past : List Entry) (c : ContextNo) (answer : Answer) (rows : List Request) → HasRequests past rows → HasRequests (leave_entry c answer ∷ past) (map (left_by c) rows)
requests_left past c answer rows has r =
    rows_changed (request_said past) (request_said (e ∷ past)) (λ _ row. left_by c row) (requests past) rows (map (left_by c) rows) (λ j. slice_get-map (left_by c) rows j) each has r
    ∙ ap (λ rs. option_map (request_said (e ∷ past) r) (slice_get rs r)) (sym (requests_stay e past refl))
  where
    e : Entry
    e = leave_entry c answer

    each : (r' : ℕ) (parties : Parties) → request past r' ≡ Some parties → left_by c (request_said past r' parties) ≡ request_said (e ∷ past) r' parties
    each r' parties at =
        row_left c parties (is_open_to past r') (is_open_to (e ∷ past) r') (open_left c answer past r') (is_settled past r')
        ∙ ap (λ o. made parties (filter (is_open_to (e ∷ past) r') parties.receivers) (is_settled past r' || settles_by past e r' o (ByContext c) Leave)) (sym at)
        ∙ ap (made parties (filter (is_open_to (e ∷ past) r') parties.receivers)) (sym (settled_more e past r'))

abbrev pub decline_entry : ContextNo → RequestNo → Answer → Entry
decline_entry c r answer = record { who = ByContext c; call = Decline r; answer = answer }

-- a decline is answered `Done` exactly to a live receiver of an unsettled request that did not decline it before
pub done_is : (live is shut declined : Bool) → is_done (cond live (on_request is (shut || declined) Done) Gone) ≡ (is && (live && not declined) && not shut)
done_is true true true true = refl
done_is true true true false = refl
done_is true true false true = refl
done_is true true false false = refl
done_is true false shut declined = refl
done_is false true shut declined = refl
done_is false false shut declined = refl

-- what a decline makes of its request
row_declined : (c : ContextNo) (parties : Parties) (may may' : ContextNo → Bool) (is live declined w : Bool) → may c ≡ (live && not declined) → filter may' parties.receivers ≡ cond (is && live) (filter (is_other c) (filter may parties.receivers)) (filter may parties.receivers) → (is ≡ true → w ≡ false → false ≡ (length (filter may parties.receivers) == 0)) → cond ((is && (live && not declined) && not w) && true) (without c (made parties (filter may parties.receivers) w)) (made parties (filter may parties.receivers) w) ≡ made parties (filter may' parties.receivers) (w || (is && live && not (list_any may' parties.receivers)))
row_declined c parties may may' true true true true here fewer waits = refl
row_declined c parties may may' true true false true here fewer waits = refl
row_declined c parties may may' true false declined true here fewer waits = refl
row_declined c parties may may' false live declined true here fewer waits = refl
row_declined c parties may may' true false declined false here fewer waits = rw fewer refl
row_declined c parties may may' false live declined false here fewer waits = rw fewer refl
row_declined c parties may may' true true false false here fewer waits = rw (any_passes may' parties.receivers, fewer) (lasts parties (filter may parties.receivers) (filter (is_other c) (filter may parties.receivers)))
row_declined c parties may may' true true true false here fewer waits =
    let left = filter may parties.receivers in
    let none : is_among left c ≡ false = among_passing may parties.receivers c ∙ ap (λ b. b && is_among parties.receivers c) here in
    let whole : filter (is_other c) left ≡ left = filter_whole (is_other c) left (all_fail (λ d. same_context d c) left none) in
    rw (any_passes may' parties.receivers, fewer, whole) (ap (made parties left) (waits refl refl ∙ nil_test left))

exchange : (p q : ContextNo → Bool) (c d : ContextNo) → (same_context c d && p d && q d) ≡ (same_context c d && p c && q c)
exchange p q c d = by (same_context c d) refl
  where
    by : (s : Bool) → same_context c d ≡ s → (s && p d && q d) ≡ (s && p c && q c)
    by true same = ap (λ x. p x && q x) (sym (same_context_is c d same))
    by false same = refl

-- who of the receivers may reply after a decline
open_declined : (past : List Entry) (c : ContextNo) (j : RequestNo) (answer : Answer) (r : ℕ) (parties : Parties) → (j.0 == r) ≡ true → request past r ≡ Some parties → filter (is_open_to (decline_entry c j answer ∷ past) r) parties.receivers ≡ cond (is_among parties.receivers c && is_live past c) (filter (is_other c) (filter (is_open_to past r) parties.receivers)) (filter (is_open_to past r) parties.receivers)
open_declined past c j answer r parties same at =
    filter_where (came past) (is_open_to (e ∷ past) r) (fewer (is_among parties.receivers c) (is_live past c)) now parties.receivers (parties_came past r parties at)
    ∙ by (is_among parties.receivers c) (is_live past c)
  where
    e : Entry
    e = decline_entry c j answer

    fewer : Bool → Bool → ContextNo → Bool
    fewer is live d = is_live past d && not (has_declined past r d || (same_context c d && live && is))

    now : (d : ContextNo) → came past d ≡ true → is_open_to (e ∷ past) r d ≡ fewer (is_among parties.receivers c) (is_live past c) d
    now d h =
        ap (λ b. b && not (has_declined (e ∷ past) r d)) (live_stays e past d refl h)
        ∙ ap (λ b. is_live past d && not (has_declined past r d || (b && same_context c d && is_live past d && is_asked (request past r) d))) same
        ∙ ap (λ o. is_live past d && not (has_declined past r d || (same_context c d && is_live past d && is_asked o d))) at
        ∙ ap (λ b. is_live past d && not (has_declined past r d || b)) (exchange (is_live past) (is_among parties.receivers) c d)

    kept : (l w s : Bool) → (l && not (w || (s && true && true))) ≡ ((l && not w) && not s)
    kept true true s = refl
    kept true false true = refl
    kept true false false = refl
    kept false w s = refl

    none : (l w s b : Bool) → (l && not (w || (s && b && false))) ≡ (l && not w)
    none true true s b = refl
    none true false true true = refl
    none true false true false = refl
    none true false false b = refl
    none false w s b = refl

    dead : (l w s b : Bool) → (l && not (w || (s && false && b))) ≡ (l && not w)
    dead true true s b = refl
    dead true false true b = refl
    dead true false false b = refl
    dead false w s b = refl

    by : (is live : Bool) → filter (fewer is live) parties.receivers ≡ cond (is && live) (filter (is_other c) (filter (is_open_to past r) parties.receivers)) (filter (is_open_to past r) parties.receivers)
    by true true =
        filter_agree (fewer true true) (λ d. is_open_to past r d && is_other c d) (λ d. kept (is_live past d) (has_declined past r d) (same_context c d) ∙ ap (λ b. is_open_to past r d && not b) (same_back c.0 d.0)) parties.receivers
        ∙ sym (filter_twice (is_other c) (is_open_to past r) parties.receivers)
    by true false = filter_agree (fewer true false) (is_open_to past r) (λ d. dead (is_live past d) (has_declined past r d) (same_context c d) true) parties.receivers
    by false live = filter_agree (fewer false live) (is_open_to past r) (λ d. none (is_live past d) (has_declined past r d) (same_context c d) live) parties.receivers

-- one whom a request was sent to is one of its receivers
some_among : (cs : List ContextNo) (c : ContextNo) → is_among cs c ≡ true → 0 < length cs
some_among [] c h = absurd (false≢true h)
some_among (d ∷ cs) c h = omega arith

-- a request that was sent to one, and is not settled, still has a receiver that may reply
still_waits : (past : List Entry) (rows : List Request) (r : ℕ) (parties : Parties) (c : ContextNo) → HasRequests past rows → AreAwaited rows → request past r ≡ Some parties → is_among parties.receivers c ≡ true → is_settled past r ≡ false → false ≡ (length (filter (is_open_to past r) parties.receivers) == 0)
still_waits past rows r parties c has awaited at among unsettled =
    let row : IfSome (Some (request_said past r parties)) IsAwaited =
    subst (λ o. IfSome o IsAwaited) (has r ∙ ap (option_map (request_said past r)) at) (awaited r) in
    rw unsettled at (row (some_among parties.receivers c among))

-- the table after a decline
pub requests_declined : (past : List Entry) (c : ContextNo) (j : RequestNo) (answer : Answer) (rows rows' : List Request) → answer ≡ cond (is_live past c) (on_request (is_asked (request past j.0) c) (is_late past j.0 c) Done) Gone → ((r : ℕ) → slice_get rows' r ≡ option_map (λ row. cond (is_done answer && (j.0 == r)) (without c row) row) (slice_get rows r)) → HasRequests past rows → AreAwaited rows → HasRequests (decline_entry c j answer ∷ past) rows'
requests_declined past c j answer rows rows' answered changed has awaited r =
    rows_changed (request_said past) (request_said (e ∷ past)) (λ r' row. cond (is_done answer && (j.0 == r')) (without c row) row) (requests past) rows rows' changed each has r
    ∙ ap (λ rs. option_map (request_said (e ∷ past) r) (slice_get rs r)) (sym (requests_stay e past refl))
  where
    e : Entry
    e = decline_entry c j answer

    done : is_done answer ≡ (is_asked (request past j.0) c && is_open_to past j.0 c && not (is_settled past j.0))
    done = ap is_done answered ∙ done_is (is_live past c) (is_asked (request past j.0) c) (is_settled past j.0) (has_declined past j.0 c)

    each : (r' : ℕ) (parties : Parties) → request past r' ≡ Some parties → cond (is_done answer && (j.0 == r')) (without c (request_said past r' parties)) (request_said past r' parties) ≡ request_said (e ∷ past) r' parties
    each r' parties at = by (j.0 == r') refl
      where
        by : (b : Bool) → (j.0 == r') ≡ b → cond (is_done answer && b) (without c (request_said past r' parties)) (request_said past r' parties) ≡ request_said (e ∷ past) r' parties
        by true same =
            let here : is_done answer ≡ (is_among parties.receivers c && is_open_to past r' c && not (is_settled past r')) =
            done ∙ ap (λ n. is_asked (request past n) c && is_open_to past n c && not (is_settled past n)) (same_is j.0 r' same) ∙ ap (λ o. is_asked o c && is_open_to past r' c && not (is_settled past r')) at in
            let settles : is_settled (e ∷ past) r' ≡ (is_settled past r' || (is_among parties.receivers c && is_live past c && not (list_any (is_open_to (e ∷ past) r') parties.receivers))) =
            settled_more e past r' ∙ ap (λ o. is_settled past r' || settles_by past e r' o (ByContext c) (Decline j)) at
            ∙ ap (λ b. is_settled past r' || (b && is_among parties.receivers c && is_live past c && not (list_any (is_open_to (e ∷ past) r') parties.receivers))) same in
            ap (λ b. cond (b && true) (without c (request_said past r' parties)) (request_said past r' parties)) here
            ∙ row_declined c parties (is_open_to past r') (is_open_to (e ∷ past) r') (is_among parties.receivers c) (is_live past c) (has_declined past r' c) (is_settled past r') refl (open_declined past c j answer r' parties same at) (still_waits past rows r' parties c has awaited at)
            ∙ ap (made parties (filter (is_open_to (e ∷ past) r') parties.receivers)) (sym settles)
        by false same =
            ap (λ b. cond b (without c (request_said past r' parties)) (request_said past r' parties)) (and_false (is_done answer))
            ∙ request_kept e past r' parties refl same (ap (λ b. b && is_asked (request past r') c && is_live past c && not (has_open (e ∷ past) r' (request past r'))) same) at

-- Rows that are settled exactly where none of their receivers may still reply.

pub awaited_changed : (change : ℕ → Request → Request) (rows rows' : List Request) → ((r : ℕ) (row : Request) → IsAwaited row → IsAwaited (change r row)) → ((r : ℕ) → slice_get rows' r ≡ option_map (change r) (slice_get rows r)) → AreAwaited rows → AreAwaited rows'
awaited_changed change rows rows' stays changed awaited r = rw (changed r) (by (slice_get rows r) (awaited r))
  where
    by : (o : Option Request) → IfSome o IsAwaited → IfSome (option_map (change r) o) IsAwaited
    by None h = tt
    by (Some row) h = stays r row h

pub awaited_settled : (b : Bool) (row : Request) → IsAwaited row → IsAwaited (cond b (settled row) row)
awaited_settled true row h = λ _. sym (same_self 0)
awaited_settled false row h = h

pub awaited_without : (b : Bool) (c : ContextNo) (row : Request) → IsAwaited row → IsAwaited (cond b (without c row) row)
awaited_without true c row h = λ _. refl
awaited_without false c row h = h

pub awaited_left : (c : ContextNo) (rows : List Request) → AreAwaited rows → AreAwaited (map (left_by c) rows)
awaited_left c rows awaited = awaited_changed (λ _ row. left_by c row) rows (map (left_by c) rows) (λ r row h. by row h row.is_settled (same_context row.asker c) (is_among row.receivers c)) (λ r. slice_get-map (left_by c) rows r) awaited
  where
    by : (row : Request) → IsAwaited row → (b s a : Bool) → IsAwaited (cond b row (cond s (settled row) (cond a (without c row) row)))
    by row h true s a = h
    by row h false true a = λ _. sym (same_self 0)
    by row h false false true = λ _. refl
    by row h false false false = h

-- a new request may be replied to by each of its receivers, where it has some
asked_awaited : (c : ContextNo) (rs : List ContextNo) → IsAwaited (asked c rs)
asked_awaited c [] some = absurd (omega (arith, some))
asked_awaited c (d ∷ rs) some = sym (nil_test (d ∷ rs))

pub awaited_asked : (c : ContextNo) (rs : List ContextNo) (rows rows' : List Request) → rows' ≡ rows ++ asked c rs ∷ [] → AreAwaited rows → AreAwaited rows'
awaited_asked c rs rows rows' grown awaited r =
    rw (grown, place_more (λ o. o) rows (Some (asked c rs)) r) (by (length rows == r))
  where
    by : (b : Bool) → IfSome (cond (b && true) (Some (asked c rs)) (slice_get rows r)) IsAwaited
    by true = asked_awaited c rs
    by false = awaited r

-- the answer on a request by the table is the machine's, to one who lives
pub answered_on : (past : List Entry) (rows : List Request) (r : ℕ) (c : ContextNo) (x : Answer) → HasRequests past rows → cond (is_live past c) (on_standing (standing_at (slice_get rows r) c) x) Gone ≡ cond (is_live past c) (on_request (is_asked (request past r) c) (is_late past r c) x) Gone
answered_on past rows r c x has = by (is_live past c) refl
  where
    late : (is w d : Bool) → on_standing (cond is (cond (not w && (not d && is)) Open Late) Stranger) x ≡ on_request is (w || d) x
    late true true d = refl
    late true false true = refl
    late true false false = refl
    late false w d = refl

    left : (parties : Parties) → is_live past c ≡ true → (w : Bool) → (not w && is_among (cond w [] (filter (is_open_to past r) parties.receivers)) c) ≡ (not w && (not (has_declined past r c) && is_among parties.receivers c))
    left parties live true = refl
    left parties live false = among_passing (is_open_to past r) parties.receivers c ∙ ap (λ b. b && not (has_declined past r c) && is_among parties.receivers c) live

    at : is_live past c ≡ true → (o : Option Parties) → on_standing (standing_at (option_map (request_said past r) o) c) x ≡ on_request (is_asked o c) (is_late past r c) x
    at live None = refl
    at live (Some parties) =
        ap (λ b. on_standing (cond (is_among parties.receivers c) (cond b Open Late) Stranger) x) (left parties live (is_settled past r))
        ∙ late (is_among parties.receivers c) (is_settled past r) (has_declined past r c)

    by : (b : Bool) → is_live past c ≡ b → cond b (on_standing (standing_at (slice_get rows r) c) x) Gone ≡ cond b (on_request (is_asked (request past r) c) (is_late past r c) x) Gone
    by true live = ap (λ o. on_standing (standing_at o c) x) (has r) ∙ at live (request past r)
    by false live = refl

-- a reply that is answered `First` finds the request unsettled
pub first_unsettled : (past : List Entry) (c : ContextNo) (r : ℕ) (text : List ℕ) (rows : List Request) (answer : Answer) → answer ≡ cond (is_live past c) (on_request (is_asked (request past r) c) (is_late past r c) (where_short text First)) Gone → HasRequests past rows → is_first answer ≡ true → is_unsettled_at (slice_get rows r) ≡ true
first_unsettled past c r text rows answer answered has first =
    ap is_unsettled_at (has r)
    ∙ by (request past r) (sym (ap is_first answered ∙ first_is (is_live past c) (is_asked (request past r) c) (is_settled past r) (has_declined past r c) (nat_lt LONGEST (length text))) ∙ first)
  where
    by : (o : Option Parties) → (is_asked o c && is_open_to past r c && not (nat_lt LONGEST (length text)) && not (is_settled past r)) ≡ true → is_unsettled_at (option_map (request_said past r) o) ≡ true
    by None h = absurd (false≢true h)
    by (Some parties) h = (and_parts (is_among parties.receivers c && is_open_to past r c && not (nat_lt LONGEST (length text))) (not (is_settled past r)) h).1

pub unsettled_there : (o : Option Request) → is_unsettled_at o ≡ true → is_some o ≡ true
unsettled_there None h = absurd (false≢true h)
unsettled_there (Some row) h = refl

-- a decline that is answered `Done` is one of a receiver that may reply
pub done_standing : (past : List Entry) (c : ContextNo) (r : ℕ) (rows : List Request) (answer : Answer) → answer ≡ cond (is_live past c) (on_request (is_asked (request past r) c) (is_late past r c) Done) Gone → HasRequests past rows → is_done answer ≡ true → standing_at (slice_get rows r) c ≡ Open
done_standing past c r rows answer answered has done =
    ap (λ o. standing_at o c) (has r)
    ∙ by (request past r) (sym (ap is_done answered ∙ done_is (is_live past c) (is_asked (request past r) c) (is_settled past r) (has_declined past r c)) ∙ done)
  where
    by : (o : Option Parties) → (is_asked o c && is_open_to past r c && not (is_settled past r)) ≡ true → standing_at (option_map (request_said past r) o) c ≡ Open
    by None h = absurd (false≢true h)
    by (Some parties) h =
        let parts : ((is_among parties.receivers c && is_open_to past r c) ≡ true) × (not (is_settled past r) ≡ true) = and_parts _ _ h in
        let two : (is_among parties.receivers c ≡ true) × (is_open_to past r c ≡ true) = and_parts _ _ parts.0 in
        ap (λ w. cond (is_among parties.receivers c) (cond (not w && is_among (cond w [] (filter (is_open_to past r) parties.receivers)) c) Open Late) Stranger) (not-true _ parts.1)
        ∙ ap (λ b. cond (is_among parties.receivers c) (cond b Open Late) Stranger) (among_passing (is_open_to past r) parties.receivers c ∙ ap (λ b. b && is_among parties.receivers c) two.1 ∙ two.0)
        ∙ ap (λ b. cond b Open Stranger) two.0

pub open_request_there : (o : Option Request) (c : ContextNo) → standing_at o c ≡ Open → is_some o ≡ true
open_request_there None c h = absurd (stranger_not_open h)
  where
    stranger_not_open : Stranger ≡ Open → ⊥
    stranger_not_open h = search rules
open_request_there (Some row) c h = refl

-- there are as many requests as the table has rows
pub requests_counted : (past : List Entry) (rows : List Request) → HasRequests past rows → length rows ≡ length (requests past)
requests_counted past rows has = rows_length (request_said past) (requests past) rows has
