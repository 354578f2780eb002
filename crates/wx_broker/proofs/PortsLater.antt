-- What an entry leaves of the table of channels.
use Rattle.std.proofs.Common.{◌≡◌, ℕ, ◌≤◌, List, [], ◌∷◌, ◌++◌, length, refl, ap, sym, ◌∙◌, Bool, true, false, cond, not, arith, subst, append-nil, map}
use Rattle.std.specs.Prelude.{Option, Some, None, is_some, option_to_list, filter, slice_get, ◌&&◌, ◌||◌, ◌==◌}
use Rattle.std.specs.Option.{option_or, option_map}
use Rattle.std.specs.List.{list_all, list_any}
use Rattle.std.proofs.lemmas.Bool.{false≢true}
use Rattle.std.proofs.lemmas.Option.{slice_get_past, slice_get-map}
use Rattle.std.proofs.lemmas.List.Elements.{filter_agree}
use Rattle.wx_id.specs.Contexts.{is_among, is_other, same_context}
use Rattle.wx_id.specs.declared.numbers.ChannelNo.{ChannelNo}
use Rattle.wx_id.specs.declared.numbers.ContextNo.{ContextNo}
use Rattle.wx_id.specs.declared.numbers.HostNo.{HostNo}
use Rattle.wx_id.specs.declared.events.End.{End}
use Rattle.wx_id.specs.declared.events.End.TheVariants.{Opener, Receiver, Neither}
use Rattle.wx_context.specs.declared.contexts.Target.{Target}
use Rattle.wx_machine.specs.declared.sorts.Sort.TheVariants.{Connection}
use Rattle.wx_machine.specs.declared.entries.Who.{Who}
use Rattle.wx_machine.specs.declared.entries.Call.{Call}
use Rattle.wx_machine.specs.declared.entries.Answer.{Answer}
use Rattle.wx_machine.specs.declared.entries.Entry.{Entry}
use Rattle.wx_machine.specs.declared.entries.Reason.{Reason}
use Rattle.wx_machine.specs.Words.{is_live, is_leave, receivers_of, Ends, opens, opened_by, channels, channel, end_in, is_for_channel}
use Rattle.wx_machine.specs.Words.{work_of, is_one, leaving, ends_by, ends_channel, closed_at, is_closed, at_end}
use Rattle.wx_machine.specs.declared.entries.Who.TheVariants.{Context as ByContext, Host as ByHost}
use Rattle.wx_machine.specs.declared.entries.Call.TheVariants.{Connect, ConnectNative, Disconnect, HostEnded, Leave}
use Rattle.wx_machine.specs.declared.entries.Answer.TheVariants.{Channel as OnChannel, NoEffect, Done, Gone}
use Rattle.wx_port.specs.Port.{Port, end_of, is_open_port, closed, with_live, opened, left_by}
use Rattle.wx_laws.proofs.ChannelsLater.{channels_more, channel_more}
use Rattle.wx_broker.specs.Tables.{port_said, HasChannels, is_done}
use Rattle.wx_broker.proofs.TestsLater.{or_false, and_true, not_not, same_is, has_some, any_passes, filter_where, filter_whole, filter_twice, all_weaker, all_fail, rows_length, rows_changed, rows_more, map_whole, shorter}
use Rattle.wx_broker.proofs.WorkLater.{other_channel}
use Rattle.wx_broker.proofs.LivesLater.{came, came_stays, live_came, live_stays, live_left, leave_entry, receivers_live}

-- whether channel k is closed after one more entry
pub closed_more : (e : Entry) (past : List Entry) (k : ℕ) → is_closed (e ∷ past) k ≡ (is_closed past k || ends_channel past e k)
closed_more e past k = by (closed_at past k) (ends_channel past e k)
  where
    by : (o : Option ℕ) (b : Bool) → is_some (option_or o (cond b (Some (length past)) None)) ≡ (is_some o || b)
    by None true = refl
    by None false = refl
    by (Some n) b = refl

-- an entry that opens none leaves the channels
pub channels_stay : (e : Entry) (past : List Entry) → opens past e ≡ None → channels (e ∷ past) ≡ channels past
channels_stay e past none = rw none (append-nil (channels past))

-- the receivers of a channel came in
abbrev all_came : List Entry → Option Ends → Bool
all_came past None = true
all_came past (Some ends) = list_all (came past) ends.receivers

opened_came : (past now : List Entry) → ((d : ContextNo) → came past d ≡ true → came now d ≡ true) → (who : Who) (call : Call) (answer : Answer) → all_came now (opened_by past who call answer) ≡ true
opened_came past now stays (ByContext c) (Connect target name) (OnChannel k) =
    all_weaker (is_live past) (came now) (λ d h. stays d (live_came past d h)) (receivers_of past c target Connection) (receivers_live past c target Connection)
opened_came past now stays (ByContext c) (ConnectNative name) (OnChannel k) = refl
opened_came past now stays who call answer = refl

all_came_stay : (past now : List Entry) → ((d : ContextNo) → came past d ≡ true → came now d ≡ true) → (o : Option Ends) → all_came past o ≡ true → all_came now o ≡ true
all_came_stay past now stays None h = refl
all_came_stay past now stays (Some ends) h = all_weaker (came past) (came now) stays ends.receivers h

receivers_came : (past : List Entry) (k : ℕ) → all_came past (channel past k) ≡ true
receivers_came [] k = refl
receivers_came (e ∷ past) k =
    channel_more (all_came (e ∷ past)) e past k
    ∙ by (all_came_stay past (e ∷ past) (came_stays e past) (channel past k) (receivers_came past k)) ((length (channels past) == k) && is_some (opens past e))
  where
    by : all_came (e ∷ past) (channel past k) ≡ true → (b : Bool) → cond b (all_came (e ∷ past) (opens past e)) (all_came (e ∷ past) (channel past k)) ≡ true
    by old true = opened_came past (e ∷ past) (came_stays e past) e.who e.call e.answer
    by old false = old

ends_came : (past : List Entry) (k : ℕ) (ends : Ends) → channel past k ≡ Some ends → list_all (came past) ends.receivers ≡ true
ends_came past k ends at = subst (λ o. all_came past o ≡ true) at (receivers_came past k)

-- who lives of them, after an entry that is no leave
lives_stay : (e : Entry) (past : List Entry) (k : ℕ) (ends : Ends) → is_leave e.call ≡ false → channel past k ≡ Some ends → filter (is_live (e ∷ past)) ends.receivers ≡ filter (is_live past) ends.receivers
lives_stay e past k ends stays at = filter_where (came past) (is_live (e ∷ past)) (is_live past) (λ d h. live_stays e past d stays h) ends.receivers (ends_came past k ends at)

-- a channel with these ends, of whose receivers those live, closed or open
abbrev pub made : Ends → List ContextNo → Bool → Port
made ends live closed_now = record { opener = ends.opener; receivers = ends.receivers; live = cond closed_now [] live; is_open = not closed_now }

made_same : (ends : Ends) (live live' : List ContextNo) (b b' : Bool) → live ≡ live' → b ≡ b' → made ends live b ≡ made ends live' b'
made_same ends live live' b b' same_live same = rw (same_live, same) refl

-- a channel that an entry does not end stays as it was
pub port_kept : (e : Entry) (past : List Entry) (k : ℕ) (ends : Ends) → is_leave e.call ≡ false → (is_closed past k ≡ false → ends_channel past e k ≡ false) → channel past k ≡ Some ends → port_said past k ends ≡ port_said (e ∷ past) k ends
port_kept e past k ends stays kept at =
    made_same ends _ _ _ _ (sym (lives_stay e past k ends stays at)) (sym (closed_more e past k ∙ by (is_closed past k) kept))
  where
    by : (b : Bool) → (b ≡ false → ends_channel past e k ≡ false) → (b || ends_channel past e k) ≡ b
    by true h = refl
    by false h = h refl

-- so does the table, where an entry opens and closes none
pub channels_kept : (e : Entry) (past : List Entry) (ports : List Port) → is_leave e.call ≡ false → opens past e ≡ None → ((k : ℕ) → ends_channel past e k ≡ false) → HasChannels past ports → HasChannels (e ∷ past) ports
channels_kept e past ports stays none ends has k =
    rows_changed (port_said past) (port_said (e ∷ past)) (λ _ port. port) (channels past) ports ports (λ j. map_whole (slice_get ports j))
    (λ j x at. port_kept e past j x stays (λ _. ends j) at) has k
    ∙ ap (λ cs. option_map (port_said (e ∷ past) k) (slice_get cs k)) (sym (channels_stay e past none))

-- a channel that was not opened is not closed
none_ends : (past : List Entry) (e : Entry) (k : ℕ) (who : Who) (call : Call) → length (channels past) ≤ k → ends_by past e k None who call ≡ false
none_ends past e k (ByContext c) (Disconnect j) before = by (j.0 == k)
  where
    by : (b : Bool) → (b && false && is_live past c) ≡ false
    by true = refl
    by false = refl
none_ends past e k (ByHost h) (HostEnded reason) before = other_channel past h k before
none_ends past e k who call before = refl

closed_later : (past : List Entry) (k : ℕ) → length (channels past) ≤ k → is_closed past k ≡ false
closed_later [] k h = refl
closed_later (e ∷ past) k h =
    let before : length (channels past) ≤ k = shorter (is_some (opens past e)) (length (channels past)) (length (channels (e ∷ past))) k (channels_more e past) h in
    let none : channel past k ≡ None = slice_get_past (channels past) k before in
    closed_more e past k
    ∙ ap (λ b. b || ends_channel past e k) (closed_later past k before)
    ∙ ap (λ o. ends_by past e k o e.who e.call) none
    ∙ none_ends past e k e.who e.call before

-- the table after an entry that opens a channel with these ends
channels_grown : (e : Entry) (past : List Entry) (ends : Ends) (ports ports' : List Port) → is_leave e.call ≡ false → ((k : ℕ) → ends_channel past e k ≡ false) → opens past e ≡ Some ends → list_all (is_live past) ends.receivers ≡ true → ports' ≡ ports ++ opened ends.opener ends.receivers ∷ [] → HasChannels past ports → HasChannels (e ∷ past) ports'
channels_grown e past ends ports ports' stays none opens_is lives grown has k =
    rows_more (port_said past) (port_said (e ∷ past)) (channels past) ends ports ports' (opened ends.opener ends.receivers) grown
    (λ j x at. port_kept e past j x stays (λ _. none j) at)
    (made_same ends ends.receivers _ false _ (sym (filter_whole (is_live (e ∷ past)) ends.receivers live)) (sym open_now))
    has k
    ∙ ap (λ o. option_map (port_said (e ∷ past) k) (slice_get (channels past ++ option_to_list o) k)) (sym opens_is)
  where
    live : list_all (is_live (e ∷ past)) ends.receivers ≡ true
    live = all_weaker (is_live past) (is_live (e ∷ past)) (λ d h. live_stays e past d stays (live_came past d h) ∙ h) ends.receivers lives

    open_now : is_closed (e ∷ past) (length (channels past)) ≡ false
    open_now =
        closed_more e past (length (channels past))
        ∙ ap (λ b. is_closed past (length (channels past)) || b) (none (length (channels past)))
        ∙ or_false _
        ∙ closed_later past (length (channels past)) (omega arith)

-- after a connect that opens a channel to these receivers
pub channels_opened : (past : List Entry) (c : ContextNo) (target : Target) (name : List ℕ) (k : ChannelNo) (ports ports' : List Port) → let e : Entry = record { who = ByContext c; call = Connect target name; answer = OnChannel k } in ports' ≡ ports ++ opened c (receivers_of past c target Connection) ∷ [] → HasChannels past ports → HasChannels (e ∷ past) ports'
channels_opened past c target name k ports ports' grown has =
    channels_grown (record { who = ByContext c; call = Connect target name; answer = OnChannel k }) past (record { opener = c; receivers = receivers_of past c target Connection }) ports ports' refl (λ j. refl) refl (receivers_live past c target Connection) grown has

-- after a connect that opens a channel to a native host
pub channels_opened_native : (past : List Entry) (c : ContextNo) (name : List ℕ) (k : ChannelNo) (ports ports' : List Port) → let e : Entry = record { who = ByContext c; call = ConnectNative name; answer = OnChannel k } in ports' ≡ ports ++ opened c [] ∷ [] → HasChannels past ports → HasChannels (e ∷ past) ports'
channels_opened_native past c name k ports ports' grown has =
    channels_grown (record { who = ByContext c; call = ConnectNative name; answer = OnChannel k }) past (record { opener = c; receivers = [] }) ports ports' refl (λ j. refl) refl refl grown has

abbrev pub ended_entry : HostNo → Reason → Answer → Entry
ended_entry h reason answer = record { who = ByHost h; call = HostEnded reason; answer = answer }

-- after the end of a host
pub channels_ended : (past : List Entry) (h : HostNo) (reason : Reason) (answer : Answer) (ports ports' : List Port) → ((k : ℕ) → slice_get ports' k ≡ option_map (λ port. cond (is_for_channel k (work_of past h) && port.is_open) (closed port) port) (slice_get ports k)) → HasChannels past ports → HasChannels (ended_entry h reason answer ∷ past) ports'
channels_ended past h reason answer ports ports' changed has k =
    rows_changed (port_said past) (port_said (e ∷ past)) (λ k' port. cond (is_for_channel k' (work_of past h) && port.is_open) (closed port) port) (channels past) ports ports' changed each has k
    ∙ ap (λ cs. option_map (port_said (e ∷ past) k) (slice_get cs k)) (sym (channels_stay e past refl))
  where
    e : Entry
    e = ended_entry h reason answer

    row : (ends : Ends) (live : List ContextNo) (w x : Bool) → cond (x && not w) (closed (made ends live w)) (made ends live w) ≡ made ends live (w || x)
    row ends live true true = refl
    row ends live true false = refl
    row ends live false true = refl
    row ends live false false = refl

    each : (k' : ℕ) (ends : Ends) → channel past k' ≡ Some ends → cond (is_for_channel k' (work_of past h) && not (is_closed past k')) (closed (port_said past k' ends)) (port_said past k' ends) ≡ port_said (e ∷ past) k' ends
    each k' ends at =
        row ends (filter (is_live past) ends.receivers) (is_closed past k') (is_for_channel k' (work_of past h))
        ∙ sym (made_same ends _ _ _ _ (lives_stay e past k' ends refl at) (closed_more e past k'))

abbrev pub disconnect_entry : ContextNo → ChannelNo → Answer → Entry
disconnect_entry c k answer = record { who = ByContext c; call = Disconnect k; answer = answer }

-- a disconnect is answered `Done` exactly to a live end of an open channel
pub done_is : (live shut : Bool) (end : End) → is_done (cond live (at_end end shut NoEffect Done) Gone) ≡ (is_one end && live && not shut)
done_is true true Opener = refl
done_is true false Opener = refl
done_is true true Receiver = refl
done_is true false Receiver = refl
done_is true shut Neither = refl
done_is false shut Opener = refl
done_is false shut Receiver = refl
done_is false shut Neither = refl

-- the table after a disconnect
pub channels_disconnected : (past : List Entry) (c : ContextNo) (j : ChannelNo) (answer : Answer) (ports ports' : List Port) → answer ≡ cond (is_live past c) (at_end (end_in (channel past j.0) c) (is_closed past j.0) NoEffect Done) Gone → ((k : ℕ) → slice_get ports' k ≡ option_map (λ port. cond (is_done answer && (j.0 == k)) (closed port) port) (slice_get ports k)) → HasChannels past ports → HasChannels (disconnect_entry c j answer ∷ past) ports'
channels_disconnected past c j answer ports ports' answered changed has k =
    rows_changed (port_said past) (port_said (e ∷ past)) (λ k' port. cond (is_done answer && (j.0 == k')) (closed port) port) (channels past) ports ports' changed each has k
    ∙ ap (λ cs. option_map (port_said (e ∷ past) k) (slice_get cs k)) (sym (channels_stay e past refl))
  where
    e : Entry
    e = disconnect_entry c j answer

    done : is_done answer ≡ (is_one (end_in (channel past j.0) c) && is_live past c && not (is_closed past j.0))
    done = ap is_done answered ∙ done_is (is_live past c) (is_closed past j.0) (end_in (channel past j.0) c)

    row : (ends : Ends) (live : List ContextNo) (w x : Bool) → cond (x && not w) (closed (made ends live w)) (made ends live w) ≡ made ends live (w || x)
    row ends live true true = refl
    row ends live true false = refl
    row ends live false true = refl
    row ends live false false = refl

    other : (ends : Ends) (live : List ContextNo) (w d x : Bool) → cond (d && false) (closed (made ends live w)) (made ends live w) ≡ made ends live (w || (false && x))
    other ends live true true x = refl
    other ends live true false x = refl
    other ends live false true x = refl
    other ends live false false x = refl

    said : (k' : ℕ) (ends : Ends) → channel past k' ≡ Some ends → port_said (e ∷ past) k' ends ≡ made ends (filter (is_live past) ends.receivers) (is_closed past k' || (((j.0 == k') && is_one (end_in (Some ends) c)) && is_live past c))
    said k' ends at = made_same ends _ _ _ _ (lives_stay e past k' ends refl at) (closed_more e past k' ∙ ap (λ o. is_closed past k' || ends_by past e k' o (ByContext c) (Disconnect j)) at)

    each : (k' : ℕ) (ends : Ends) → channel past k' ≡ Some ends → cond (is_done answer && (j.0 == k')) (closed (port_said past k' ends)) (port_said past k' ends) ≡ port_said (e ∷ past) k' ends
    each k' ends at = by (j.0 == k') refl ∙ sym (said k' ends at)
      where
        live : List ContextNo
        live = filter (is_live past) ends.receivers

        by : (b : Bool) → (j.0 == k') ≡ b → cond (is_done answer && b) (closed (made ends live (is_closed past k'))) (made ends live (is_closed past k')) ≡ made ends live (is_closed past k' || ((b && is_one (end_in (Some ends) c)) && is_live past c))
        by true same =
            let here : is_done answer ≡ (is_one (end_in (Some ends) c) && is_live past c && not (is_closed past k')) =
            done ∙ ap (λ n. is_one (end_in (channel past n) c) && is_live past c && not (is_closed past n)) (same_is j.0 k' same) ∙ ap (λ o. is_one (end_in o c) && is_live past c && not (is_closed past k')) at in
            ap (λ b. cond (b && true) (closed (made ends live (is_closed past k'))) (made ends live (is_closed past k'))) here
            ∙ ap (λ b. cond b (closed (made ends live (is_closed past k'))) (made ends live (is_closed past k'))) (and_true _)
            ∙ row ends live (is_closed past k') (is_one (end_in (Some ends) c) && is_live past c)
        by false same = other ends live (is_closed past k') (is_done answer) (is_one (end_in (Some ends) c)) ∙ again (is_closed past k') (is_one (end_in (Some ends) c)) (is_live past c)
          where
            again : (w x l : Bool) → made ends live (w || (false && x)) ≡ made ends live (w || ((false && x) && l))
            again w x l = refl

-- what a leave makes of one channel
row_left : (c : ContextNo) (ends : Ends) (live live' : ContextNo → Bool) → ((d : ContextNo) → live' d ≡ (live d && is_other c d)) → (w : Bool) → left_by c (made ends (filter live ends.receivers) w) ≡ made ends (filter live' ends.receivers) (w || leaving (end_in (Some ends) c) (list_any live' ends.receivers))
row_left c ends live live' law true = refl
row_left c ends live live' law false = by (same_context ends.opener c) refl (is_among ends.receivers c) refl
  where
    fewer : filter (is_other c) (filter live ends.receivers) ≡ filter live' ends.receivers
    fewer = filter_twice (is_other c) live ends.receivers ∙ sym (filter_agree live' (λ d. live d && is_other c d) law ends.receivers)

    stay : is_among ends.receivers c ≡ false → filter live ends.receivers ≡ filter live' ends.receivers
    stay none = filter_where (is_other c) live live' (λ d h. sym (law d ∙ ap (λ b. live d && b) h ∙ and_true (live d))) ends.receivers (all_fail (λ d. same_context d c) ends.receivers none)

    lasts : (xs : List ContextNo) → with_live (made ends (filter live ends.receivers) false) xs ≡ made ends xs (not (has_some xs))
    lasts [] = refl
    lasts (x ∷ xs) = refl

    by : (s : Bool) → same_context ends.opener c ≡ s → (a : Bool) → is_among ends.receivers c ≡ a → left_by c (made ends (filter live ends.receivers) false) ≡ made ends (filter live' ends.receivers) (leaving (end_in (Some ends) c) (list_any live' ends.receivers))
    by true same a among = rw same refl
    by false same true among = rw (same, among, fewer, any_passes live' ends.receivers) (lasts (filter live' ends.receivers))
    by false same false among = rw (same, among, stay among) refl

-- the table after a leave
pub channels_left : (past : List Entry) (c : ContextNo) (answer : Answer) (ports : List Port) → HasChannels past ports → HasChannels (leave_entry c answer ∷ past) (map (left_by c) ports)
channels_left past c answer ports has k =
    rows_changed (port_said past) (port_said (e ∷ past)) (λ _ port. left_by c port) (channels past) ports (map (left_by c) ports) (λ j. slice_get-map (left_by c) ports j) each has k
    ∙ ap (λ cs. option_map (port_said (e ∷ past) k) (slice_get cs k)) (sym (channels_stay e past refl))
  where
    e : Entry
    e = leave_entry c answer

    each : (k' : ℕ) (ends : Ends) → channel past k' ≡ Some ends → left_by c (port_said past k' ends) ≡ port_said (e ∷ past) k' ends
    each k' ends at =
        row_left c ends (is_live past) (is_live (e ∷ past)) (live_left c answer past) (is_closed past k')
        ∙ ap (λ o. made ends (filter (is_live (e ∷ past)) ends.receivers) (is_closed past k' || ends_by past e k' o (ByContext c) Leave)) (sym at)
        ∙ ap (made ends (filter (is_live (e ∷ past)) ends.receivers)) (sym (closed_more e past k'))

-- the answer on a channel by the table is the machine's
pub answered_at : (past : List Entry) (ports : List Port) (k : ℕ) (c : ContextNo) (x y : Answer) → HasChannels past ports → at_end (end_of (slice_get ports k) c) (not (is_open_port (slice_get ports k))) x y ≡ at_end (end_in (channel past k) c) (is_closed past k) x y
answered_at past ports k c x y has =
    ap (λ o. at_end (end_of o c) (not (is_open_port o)) x y) (has k) ∙ by (channel past k)
  where
    by : (o : Option Ends) → at_end (end_of (option_map (port_said past k) o) c) (not (is_open_port (option_map (port_said past k) o))) x y ≡ at_end (end_in o c) (is_closed past k) x y
    by None = refl
    by (Some ends) = ap (λ b. at_end (end_in (Some ends) c) b x y) (not_not (is_closed past k))

-- a disconnect that is answered `Done` finds the channel open
pub done_open : (past : List Entry) (c : ContextNo) (k : ℕ) (ports : List Port) (answer : Answer) → answer ≡ cond (is_live past c) (at_end (end_in (channel past k) c) (is_closed past k) NoEffect Done) Gone → HasChannels past ports → is_done answer ≡ true → is_open_port (slice_get ports k) ≡ true
done_open past c k ports answer answered has done =
    ap is_open_port (has k) ∙ by (channel past k) (sym (ap is_done answered ∙ done_is (is_live past c) (is_closed past k) (end_in (channel past k) c)) ∙ done)
  where
    by : (o : Option Ends) → (is_one (end_in o c) && is_live past c && not (is_closed past k)) ≡ true → is_open_port (option_map (port_said past k) o) ≡ true
    by None h = absurd (false≢true h)
    by (Some ends) h = last (is_one (end_in (Some ends) c) && is_live past c) (not (is_closed past k)) h
      where
        last : (a b : Bool) → (a && b) ≡ true → b ≡ true
        last true b h = h
        last false b h = absurd (false≢true h)

pub open_there : (o : Option Port) → is_open_port o ≡ true → is_some o ≡ true
open_there None h = absurd (false≢true h)
open_there (Some port) h = refl

-- there are as many channels as the table has rows
pub channels_counted : (past : List Entry) (ports : List Port) → HasChannels past ports → length ports ≡ length (channels past)
channels_counted past ports has = rows_length (port_said past) (channels past) ports has
