-- What a leave makes of the tables and of the queues.
use Rattle.std.proofs.Common.{◌≡◌, ℕ, suc, List, [], ◌∷◌, ◌++◌, length, refl, ap, sym, ◌∙◌, Bool, true, false, cond, not, map}
use Rattle.std.specs.Prelude.{Option, Some, None, filter, flat_map, reverse, slice_get, ◌&&◌, ◌||◌, if◌then◌else◌}
use Rattle.std.specs.Option.{option_map}
use Rattle.std.specs.List.{list_any, range_with_len}
use Rattle.std.proofs.lemmas.List.{append_assoc, map-append}
use Rattle.std.proofs.lemmas.List.Elements.{filter_agree}
use Rattle.std.proofs.lemmas.Option.{none-some, same_Some}
use Rattle.wx_id.specs.Contexts.{is_among, is_other, same_context}
use Rattle.wx_id.specs.declared.numbers.ContextNo.{ContextNo}
use Rattle.wx_id.specs.declared.numbers.EntryNo.{EntryNo}
use Rattle.wx_id.specs.declared.events.Event.{Event}
use Rattle.wx_id.specs.declared.events.EventKind.TheVariants.{Disconnected}
use Rattle.wx_external.specs.World.{WorldLists}
use Rattle.wx_machine.specs.declared.entries.Who.TheVariants.{Context as ByContext}
use Rattle.wx_machine.specs.declared.entries.Answer.{Answer}
use Rattle.wx_machine.specs.declared.entries.Entry.{Entry}
use Rattle.wx_machine.specs.Words.{channel, channels, closes, delivered, disconnected_on, end_in, Ends, FollowsMachine, goes, goes_to, has_live}
use Rattle.wx_machine.specs.Words.{is_closed, is_live, is_one, leaving, marked, on, requests, unanswered_on}
use Rattle.wx_port.specs.Port.{Port, is_live_end, left_by, with_live, without}
use Rattle.wx_one_shot.specs.Requests.{Request}
use Rattle.wx_tables.specs.State.{in_entry}
use Rattle.wx_tables.specs.Asking.{outcomes_told, request_left_at, told_left}
use Rattle.wx_tables.specs.Ending.{EachQueue, other_side}
use Rattle.wx_tables.specs.Leaving.{closes_by, end_told, ends_told, hears_end, left_at}
use Rattle.wx_laws.specs.Legal.{IsLegalPast}
use Rattle.wx_broker.specs.Tables.{port_said, AreAwaited, HasChannels, HasRequests, IsKept}
use Rattle.wx_broker.proofs.KeptLater.{kept_left}
use Rattle.wx_broker.proofs.LivesLater.{among_passing, leave_entry, live_left}
use Rattle.wx_broker.proofs.PortsLater.{channels_counted, made}
use Rattle.wx_broker.proofs.RequestsLater.{open_left, requests_counted}
use Rattle.wx_broker.proofs.TestsLater.{and_false, any_passes, filter_twice, has_some}
use Rattle.wx_broker.specs.Told.{HasPending}
use Rattle.wx_broker.proofs.ApartLater.{ends_apart}
use Rattle.wx_broker.proofs.OutcomesLater.{outcomes_are, rows_same}
use Rattle.wx_broker.proofs.PartedLater.{side_is}
use Rattle.wx_broker.proofs.PendingLater.{pending_told}

-- the last live receiver's leave closes the channel, by the tables and by the journal
last_is : (port : Port) (xs : List ContextNo) → port.is_open ≡ true → not (with_live port xs).is_open ≡ not (has_some xs)
last_is port [] h = refl
last_is port (x ∷ xs) h = ap not h

-- some receiver lives after the leave of c exactly where another than c lived before
pub fewer_is : (past : List Entry) (c : ContextNo) (answer : Answer) (rs : List ContextNo) → list_any (is_live (leave_entry c answer ∷ past)) rs ≡ has_some (filter (is_other c) (filter (is_live past) rs))
fewer_is past c answer rs =
    any_passes (is_live (leave_entry c answer ∷ past)) rs
    ∙ ap has_some (filter_agree (is_live (leave_entry c answer ∷ past)) (λ d. is_live past d && is_other c d) (λ d. live_left c answer past d) rs ∙ sym (filter_twice (is_other c) (is_live past) rs))

-- whom the tables tell of the end of a channel is whom the journal tells
hears_is : (past : List Entry) (c : ContextNo) (answer : Answer) (ports : List Port) (k : ℕ) (d : ContextNo) → HasChannels past ports → is_live past c ≡ true → hears_end (slice_get ports k) c d ≡ (closes past (leave_entry c answer) k && goes_to past (channel past k) (ByContext c) d)
hears_is past c answer ports k d has lives = ap (λ o. hears_end o c d) (has k) ∙ by (channel past k) refl
  where
    by : (o : Option Ends) → channel past k ≡ o → hears_end (option_map (port_said past k) o) c d ≡ ((not (is_closed past k) && leaving (end_in o c) (has_live (leave_entry c answer ∷ past) o)) && goes (end_in o c) (end_in o d) (is_live past d))
    by None is = none (is_closed past k)
      where
        none : (w : Bool) → false ≡ ((not w && false) && false)
        none true = refl
        none false = refl
    by (Some ends) is = with (is_closed past k) (ends_apart past k ends is)
      where
        live : List ContextNo
        live = filter (is_live past) ends.receivers

        open_port : Port
        open_port = made ends live false

        sides : is_among ends.receivers ends.opener ≡ false → is_one (end_in (Some ends) c) ≡ true → is_among (other_side open_port c) d ≡ goes (end_in (Some ends) c) (end_in (Some ends) d) (is_live past d)
        sides alone one = side_is (is_live past) ends c d alone one

        open_case : is_among ends.receivers ends.opener ≡ false → (s : Bool) → same_context ends.opener c ≡ s → (a : Bool) → is_among ends.receivers c ≡ a → hears_end (Some open_port) c d ≡ (leaving (end_in (Some ends) c) (has_live (leave_entry c answer ∷ past) (Some ends)) && goes (end_in (Some ends) c) (end_in (Some ends) d) (is_live past d))
        open_case alone true s a m =
            let one : is_one (end_in (Some ends) c) ≡ true = rw s refl in
            ap (λ b. is_live_end (Some open_port) c && closes_by open_port c && b) (sides alone one)
            ∙ rw s refl
        open_case alone false s true m =
            let one : is_one (end_in (Some ends) c) ≡ true = rw (s, m) refl in
            let in_live : is_among live c ≡ true = among_passing (is_live past) ends.receivers c ∙ rw (lives, m) refl in
            let closing : closes_by open_port c ≡ not (list_any (is_live (leave_entry c answer ∷ past)) ends.receivers) = rw s (last_is open_port (filter (is_other c) live) refl) ∙ ap not (sym (fewer_is past c answer ends.receivers)) in
            ap (λ b. is_live_end (Some open_port) c && closes_by open_port c && b) (sides alone one)
            ∙ ap (λ b. is_live_end (Some open_port) c && b && goes (end_in (Some ends) c) (end_in (Some ends) d) (is_live past d)) closing
            ∙ ap (λ b. (true && (same_context ends.opener c || b)) && not (list_any (is_live (leave_entry c answer ∷ past)) ends.receivers) && goes (end_in (Some ends) c) (end_in (Some ends) d) (is_live past d)) in_live
            ∙ rw (s, m) refl
        open_case alone false s false m =
            let not_live : is_among live c ≡ false = among_passing (is_live past) ends.receivers c ∙ rw m (and_false (is_live past c)) in
            ap (λ b. (true && (same_context ends.opener c || b)) && closes_by open_port c && is_among (other_side open_port c) d) not_live
            ∙ rw (s, m) refl

        with : (w : Bool) → is_among ends.receivers ends.opener ≡ false → hears_end (Some (made ends live w)) c d ≡ ((not w && leaving (end_in (Some ends) c) (has_live (leave_entry c answer ∷ past) (Some ends))) && goes (end_in (Some ends) c) (end_in (Some ends) d) (is_live past d))
        with true alone = refl
        with false alone = open_case alone (same_context ends.opener c) refl (is_among ends.receivers c) refl

-- the kinds that the tables tell are those that the journal tells
ends_are : (past : List Entry) (c : ContextNo) (answer : Answer) (ports : List Port) (d : ContextNo) → HasChannels past ports → is_live past c ≡ true → (n : ℕ) → ends_told ports c d n ≡ flat_map (disconnected_on past (leave_entry c answer) d) (range_with_len 0 n)
ends_are past c answer ports d has lives n = each (range_with_len 0 n)
  where
    each : (xs : List ℕ) → flat_map (end_told ports c d) xs ≡ flat_map (disconnected_on past (leave_entry c answer) d) xs
    each [] = refl
    each (k ∷ xs) = rw (each xs) (ap (λ b. on b (Disconnected (record { 0 = k })) ++ flat_map (disconnected_on past (leave_entry c answer) d) xs) (hears_is past c answer ports k d has lives))

-- what a leave makes of the channels, by live ends and by ends
left_same : (past : List Entry) (c : ContextNo) (ports : List Port) → HasChannels past ports → is_live past c ≡ true → map (left_at c) ports ≡ map (left_by c) ports
left_same past c ports has lives = each ports (λ k port at. one k port (sym at ∙ has k))
  where
    each : (xs : List Port) → ((k : ℕ) (port : Port) → slice_get xs k ≡ Some port → left_at c port ≡ left_by c port) → map (left_at c) xs ≡ map (left_by c) xs
    each [] h = refl
    each (x ∷ xs) h = rw (h 0 x refl, each xs (λ k port at. h (suc k) port at)) refl

    one : (k : ℕ) (port : Port) → Some port ≡ option_map (port_said past k) (channel past k) → left_at c port ≡ left_by c port
    one k port at = by (channel past k) at
      where
        by : (o : Option Ends) → Some port ≡ option_map (port_said past k) o → left_at c port ≡ left_by c port
        by None at = absurd (none-some port (sym at))
        by (Some ends) at = rw (same_Some port (port_said past k ends) at) (with (is_closed past k))
          where
            with : (w : Bool) → left_at c (made ends (filter (is_live past) ends.receivers) w) ≡ left_by c (made ends (filter (is_live past) ends.receivers) w)
            with true = refl
            with false = rw (among_passing (is_live past) ends.receivers c, lives) (parts (same_context ends.opener c || is_among ends.receivers c) (without c (made ends (filter (is_live past) ends.receivers) false)) (made ends (filter (is_live past) ends.receivers) false))
              where
                parts : (b : Bool) (x y : Port) → cond (true && b) x y ≡ (if (true && b) then x else y)
                parts true x y = refl
                parts false x y = refl

-- what a leave delivers
delivered_left : (past : List Entry) (c : ContextNo) (answer : Answer) (d : ContextNo) → delivered past (leave_entry c answer) d ≡ map (marked (length past)) (flat_map (disconnected_on past (leave_entry c answer) d) (range_with_len 0 (length (channels past)))) ++ map (marked (length past)) (flat_map (unanswered_on past (leave_entry c answer) d) (range_with_len 0 (length (requests past))))
delivered_left past c answer d = map-append (marked (length past)) (flat_map (disconnected_on past (leave_entry c answer) d) (range_with_len 0 (length (channels past)))) (flat_map (unanswered_on past (leave_entry c answer) d) (range_with_len 0 (length (requests past))))

-- what waits after the leave of a live context
pub pending_left : (world : WorldLists) (past : List Entry) (c : ContextNo) (answer : Answer) (ports : List Port) (rows : List Request) (queues queues' : List (List Event)) (n : EntryNo) → n.0 ≡ length past → IsLegalPast world (leave_entry c answer ∷ past) → is_live past c ≡ true → HasChannels past ports → HasRequests past rows → AreAwaited rows → HasPending past queues → EachQueue (told_left ports rows c n) queues queues' → HasPending (leave_entry c answer ∷ past) queues'
pending_left world past c answer ports rows queues queues' n at legal lives has_ports has_rows awaited waits changed =
    pending_told world past e (told_left ports rows c n) queues queues' legal waits refl changed tells
  where
    e : Entry
    e = leave_entry c answer

    tells : (d : ContextNo) (queue : List Event) → told_left ports rows c n d queue ≡ queue ++ delivered past e d
    tells d queue =
        append_assoc queue (map (in_entry n) (ends_told ports c d (length ports))) (map (in_entry n) (outcomes_told rows c d (length rows)))
        ∙ ap (λ l. queue ++ l) (
        ap (λ l. map (in_entry n) l ++ map (in_entry n) (outcomes_told rows c d (length rows))) (ends_are past c answer ports d has_ports lives (length ports) ∙ ap (λ m. flat_map (disconnected_on past e d) (range_with_len 0 m)) (channels_counted past ports has_ports))
        ∙ ap (λ l. map (in_entry n) (flat_map (disconnected_on past e d) (range_with_len 0 (length (channels past)))) ++ map (in_entry n) l) (outcomes_are past c answer rows d has_rows awaited (λ r x. open_left c answer past r x) (length rows) ∙ ap (λ m. flat_map (unanswered_on past e d) (range_with_len 0 m)) (requests_counted past rows has_rows))
        ∙ ap (λ (m : ℕ). map (marked m) (flat_map (disconnected_on past e d) (range_with_len 0 (length (channels past)))) ++ map (marked m) (flat_map (unanswered_on past e d) (range_with_len 0 (length (requests past))))) at
        ∙ sym (delivered_left past c answer d))

-- the journal is legal and the tables tell it, after the leave of a live context
pub kept_left_at : (world : WorldLists) (journal : List Entry) (c : ContextNo) (answer : Answer) (ports : List Port) (rows : List Request) → IsKept world journal ports rows → FollowsMachine world (reverse journal) (leave_entry c answer) → is_live (reverse journal) c ≡ true → IsKept world (journal ++ leave_entry c answer ∷ []) (map (left_at c) ports) (map (request_left_at c) rows)
kept_left_at world journal c answer ports rows kept follows lives =
    kept_left world journal (journal ++ leave_entry c answer ∷ []) c answer ports (map (left_at c) ports) rows (map (request_left_at c) rows) kept follows refl
    (left_same (reverse journal) c ports kept.channels lives)
    (rows_same rows c kept.awaited)
