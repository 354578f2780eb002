-- What a leave tells of requests, by the tables and by the journal.
use Rattle.std.proofs.Common.{◌≡◌, ℕ, suc, ◌<◌, List, [], ◌∷◌, ◌++◌, length, refl, ap, sym, ◌∙◌, Bool, true, false, cond, not, arith, subst, map}
use Rattle.std.specs.Prelude.{Option, Some, None, IfSome, filter, flat_map, slice_get, ◌&&◌, ◌||◌, ◌==◌}
use Rattle.std.specs.Option.{option_map}
use Rattle.std.specs.List.{list_any, range_with_len}
use Rattle.std.proofs.lemmas.Bool.{false≢true, true≢false}
use Rattle.std.proofs.lemmas.List.Elements.{filter_agree}
use Rattle.wx_id.specs.declared.numbers.ContextNo.{ContextNo}
use Rattle.wx_id.specs.declared.events.EventKind.TheVariants.{Closed}
use Rattle.wx_machine.specs.declared.entries.Who.TheVariants.{Context as ByContext}
use Rattle.wx_machine.specs.declared.entries.Answer.{Answer}
use Rattle.wx_machine.specs.declared.entries.Entry.{Entry}
use Rattle.wx_id.specs.Contexts.{is_among, is_other, same_context}
use Rattle.wx_machine.specs.Words.{has_open, is_asked, is_asker, is_by, is_open_to, is_settled, on, Parties, request, settles, unanswered_on}
use Rattle.wx_one_shot.specs.Requests.{Request, left_by}
use Rattle.wx_tables.specs.Asking.{hears_outcome, outcome_told, outcomes_told, request_left_at}
use Rattle.wx_broker.specs.Tables.{request_said, HasRequests, AreAwaited, IsAwaited}
use Rattle.wx_broker.proofs.LivesLater.{among_passing, leave_entry}
use Rattle.wx_broker.proofs.TestsLater.{any_passes, has_some, nil_test, filter_twice, and_false, same_is, not_not}

-- none of a list is c, so it stays whole without c
pub none_of : (c : ContextNo) (xs : List ContextNo) → is_among xs c ≡ false → filter (is_other c) xs ≡ xs
none_of c [] h = refl
none_of c (x ∷ xs) h = by (same_context x c) refl h (none_of c xs)
  where
    by : (s : Bool) → same_context x c ≡ s → (s || is_among xs c) ≡ false → (is_among xs c ≡ false → filter (is_other c) xs ≡ xs) → filter (is_other c) (x ∷ xs) ≡ x ∷ xs
    by true same h rest = absurd (true≢false h)
    by false same h rest = rw (same, rest h) refl

some_length : (xs : List ContextNo) (c : ContextNo) → is_among xs c ≡ true → 0 < length xs
some_length [] c h = absurd (false≢true h)
some_length (x ∷ xs) c h = omega arith

-- what a leave makes of one request, by whom it concerns and by its parties
row_same : (row : Request) (c : ContextNo) → IsAwaited row → request_left_at c row ≡ left_by c row
row_same row c awaited = by row.is_settled refl (row.asker.0 == c.0) refl (is_among row.receivers c) refl (is_among row.still_open c) refl
  where
    by : (w : Bool) → row.is_settled ≡ w → (s : Bool) → (row.asker.0 == c.0) ≡ s → (a : Bool) → is_among row.receivers c ≡ a → (o : Bool) → is_among row.still_open c ≡ o → request_left_at c row ≡ left_by c row
    by true w s e a m o n = rw w refl
    by false w true e a m o n = rw (w, e) refl
    by false w false e true m true n = rw (w, e, m, n) refl
    by false w false e true m false n =
        let waits : row.is_settled ≡ (length row.still_open == 0) = awaited (some_length row.receivers c m) in
        let open_now : (length row.still_open == 0) ≡ false = sym waits ∙ w in
        rw (w, e, m, n) (sym (rw (none_of c row.still_open n, open_now) refl))
    by false w false e false m true n = rw (w, e, m, n) refl
    by false w false e false m false n = rw (w, e, m, n) refl

-- the same of all requests
pub rows_same : (rows : List Request) (c : ContextNo) → AreAwaited rows → map (request_left_at c) rows ≡ map (left_by c) rows
rows_same [] c awaited = refl
rows_same (x ∷ xs) c awaited = rw (row_same x c (awaited 0), rows_same xs c (λ r. awaited (suc r))) refl

-- whom the tables tell of a request's outcome is whom the journal tells
outcome_is : (past : List Entry) (c : ContextNo) (answer : Answer) (rows : List Request) (r : ℕ) (d : ContextNo) → HasRequests past rows → AreAwaited rows → ((d : ContextNo) → is_open_to (leave_entry c answer ∷ past) r d ≡ (is_open_to past r d && is_other c d)) → hears_outcome (slice_get rows r) c d ≡ (settles past (leave_entry c answer) r && is_asker (request past r) d && not (is_by (ByContext c) d))
outcome_is past c answer rows r d has awaited law = ap (λ o. hears_outcome o c d) (has r) ∙ by (request past r) (subst (λ o. IfSome o IsAwaited) (has r) (awaited r))
  where
    by : (o : Option Parties) → IfSome (option_map (request_said past r) o) IsAwaited → hears_outcome (option_map (request_said past r) o) c d ≡ ((not (is_settled past r) && (is_asker o c || (is_asked o c && not (has_open (leave_entry c answer ∷ past) r o)))) && is_asker o d && not (same_context c d))
    by None h = none (is_settled past r) (same_context c d)
      where
        none : (w s : Bool) → false ≡ ((not w && (false || (false && true))) && false && not s)
        none true s = refl
        none false s = refl
    by (Some parties) h = with (is_settled past r) h
      where
        rs : List ContextNo
        rs = parties.receivers

        open_now : List ContextNo
        open_now = filter (is_open_to past r) rs

        said : Bool → Request
        said w = record { asker = parties.asker; receivers = rs; still_open = cond w [] open_now; is_settled = w }

        left_is : list_any (is_open_to (leave_entry c answer ∷ past) r) rs ≡ has_some (filter (is_other c) open_now)
        left_is = any_passes (is_open_to (leave_entry c answer ∷ past) r) rs ∙ ap has_some (filter_agree (is_open_to (leave_entry c answer ∷ past) r) (λ x. is_open_to past r x && is_other c x) law rs ∙ sym (filter_twice (is_other c) (is_open_to past r) rs))

        own : (s : Bool) → (parties.asker.0 == c.0) ≡ true → (parties.asker.0 == d.0) ≡ s → (s && not (same_context c d)) ≡ false
        own false e t = refl
        own true e t = ap not (ap (λ n. n == d.0) (sym (same_is parties.asker.0 c.0 e)) ∙ t)

        apart : (s : Bool) → (parties.asker.0 == c.0) ≡ false → (parties.asker.0 == d.0) ≡ s → s ≡ (s && not (same_context c d))
        apart false e t = refl
        apart true e t = sym (ap not (by_other (same_context c d) refl))
          where
            by_other : (q : Bool) → (c.0 == d.0) ≡ q → q ≡ false
            by_other false u = refl
            by_other true u = absurd (true≢false (sym t ∙ ap (λ n. parties.asker.0 == n) (sym (same_is c.0 d.0 u)) ∙ e))

        open_case : IsAwaited (said false) → (s : Bool) → (parties.asker.0 == c.0) ≡ s → (a : Bool) → is_among rs c ≡ a → (o : Bool) → is_open_to past r c ≡ o → hears_outcome (Some (said false)) c d ≡ ((true && ((parties.asker.0 == c.0) || (is_among rs c && not (list_any (is_open_to (leave_entry c answer ∷ past) r) rs)))) && (parties.asker.0 == d.0) && not (same_context c d))
        open_case waits true e a m o n = rw e (sym (own (parties.asker.0 == d.0) e refl))
        open_case waits false e false m o n =
            let not_open : is_among open_now c ≡ false = among_passing (is_open_to past r) rs c ∙ rw m (and_false (is_open_to past r c)) in
            rw (e, not_open, m) refl
        open_case waits false e true m true n =
            let in_open : is_among open_now c ≡ true = among_passing (is_open_to past r) rs c ∙ rw (n, m) refl in
            rw (e, in_open, m) (ap (λ b. b && (parties.asker.0 == d.0)) (nil_test (filter (is_other c) open_now) ∙ ap not (sym left_is)) ∙ tail (not (list_any (is_open_to (leave_entry c answer ∷ past) r) rs)) (parties.asker.0 == d.0) (apart (parties.asker.0 == d.0) e refl))
          where
            tail : (x t : Bool) → t ≡ (t && not (same_context c d)) → (x && t) ≡ (x && t && not (same_context c d))
            tail true t h = h
            tail false t h = refl
        open_case waits false e true m false n =
            let not_open : is_among open_now c ≡ false = among_passing (is_open_to past r) rs c ∙ rw n refl in
            let unsettled : false ≡ (length open_now == 0) = waits (some_length rs c m) in
            let some : has_some open_now ≡ true = sym (not_not (has_some open_now)) ∙ ap not (sym (nil_test open_now) ∙ sym unsettled) in
            let still : list_any (is_open_to (leave_entry c answer ∷ past) r) rs ≡ true = left_is ∙ ap has_some (none_of c open_now not_open) ∙ some in
            rw (e, not_open, m, still) refl

        with : (w : Bool) → IsAwaited (said w) → hears_outcome (Some (said w)) c d ≡ ((not w && ((parties.asker.0 == c.0) || (is_among rs c && not (list_any (is_open_to (leave_entry c answer ∷ past) r) rs)))) && (parties.asker.0 == d.0) && not (same_context c d))
        with true waits = refl
        with false waits = open_case waits (parties.asker.0 == c.0) refl (is_among rs c) refl (is_open_to past r c) refl

-- the kinds that the tables tell of outcomes are those that the journal tells
pub outcomes_are : (past : List Entry) (c : ContextNo) (answer : Answer) (rows : List Request) (d : ContextNo) → HasRequests past rows → AreAwaited rows → ((r : ℕ) (d : ContextNo) → is_open_to (leave_entry c answer ∷ past) r d ≡ (is_open_to past r d && is_other c d)) → (n : ℕ) → outcomes_told rows c d n ≡ flat_map (unanswered_on past (leave_entry c answer) d) (range_with_len 0 n)
outcomes_are past c answer rows d has awaited law n = each (range_with_len 0 n)
  where
    each : (xs : List ℕ) → flat_map (outcome_told rows c d) xs ≡ flat_map (unanswered_on past (leave_entry c answer) d) xs
    each [] = refl
    each (r ∷ xs) = rw (each xs) (ap (λ b. on b (Closed (record { 0 = r })) ++ flat_map (unanswered_on past (leave_entry c answer) d) xs) (outcome_is past c answer rows r d has awaited (law r)))
