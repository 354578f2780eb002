-- What a disconnect makes of the queues.
use Rattle.std.proofs.Common.{◌≡◌, ℕ, List, [], ◌∷◌, ◌++◌, length, refl, ap, sym, ◌∙◌, Bool, true, false, cond, not, subst, append-nil, map}
use Rattle.std.specs.Prelude.{Option, Some, None, IfSome, filter, slice_get, ◌&&◌, ◌||◌}
use Rattle.std.specs.Option.{option_map}
use Rattle.std.proofs.lemmas.Bool.{and_parts, false≢true}
use Rattle.std.proofs.lemmas.List.Elements.{filter_agree}
use Rattle.wx_id.specs.Contexts.{is_among, same_context}
use Rattle.wx_id.specs.declared.numbers.ContextNo.{ContextNo}
use Rattle.wx_id.specs.declared.numbers.ChannelNo.{ChannelNo}
use Rattle.wx_id.specs.declared.numbers.EntryNo.{EntryNo}
use Rattle.wx_id.specs.declared.events.Event.{Event}
use Rattle.wx_id.specs.declared.events.EventKind.{EventKind}
use Rattle.wx_id.specs.declared.events.EventKind.TheVariants.{Connected, Message, Disconnected, Asked, Replied, Closed}
use Rattle.wx_id.specs.declared.events.End.{End}
use Rattle.wx_id.specs.declared.events.End.TheVariants.{Opener, Receiver, Neither}
use Rattle.wx_id.proofs.ContextLemmas.{same_context_is}
use Rattle.wx_external.specs.World.{WorldLists}
use Rattle.wx_machine.specs.declared.entries.Who.TheVariants.{Context as ByContext}
use Rattle.wx_machine.specs.declared.entries.Call.TheVariants.{Disconnect}
use Rattle.wx_machine.specs.declared.entries.Answer.{Answer}
use Rattle.wx_machine.specs.declared.entries.Answer.TheVariants.{Done, Gone, NoEffect}
use Rattle.wx_machine.specs.declared.entries.Entry.{Entry}
use Rattle.wx_machine.specs.Words.{at_end, channel, closes, delivered, disconnected_on, drops_by, end_in, Ends, goes, goes_to, is_closed}
use Rattle.wx_machine.specs.Words.{is_live, is_of, is_one, marked, on}
use Rattle.wx_port.specs.Port.{Port, is_live_end}
use Rattle.wx_mailbox.specs.Mailbox.{is_apart, is_of as is_of_channel}
use Rattle.wx_tables.specs.State.{in_entry}
use Rattle.wx_tables.specs.Ending.{EachQueue, other_side, parted}
use Rattle.wx_laws.specs.Legal.{IsLegalPast}
use Rattle.wx_laws.proofs.Waiting.{leaves_waiting}
use Rattle.wx_broker.specs.Tables.{port_said, HasChannels, is_done}
use Rattle.wx_broker.proofs.LivesLater.{among_passing}
use Rattle.wx_broker.proofs.PortsLater.{disconnect_entry, done_is}
use Rattle.wx_broker.proofs.TestsLater.{and_false, and_true, not_not, same_self}
use Rattle.wx_broker.specs.Told.{HasPending}
use Rattle.wx_broker.proofs.HeardLater.{heard_marked}
use Rattle.wx_broker.proofs.ApartLater.{ends_apart}
use Rattle.wx_broker.proofs.PendingLater.{pending_later}

-- a disconnect that is answered `Done` is by a live end of an open channel
done_facts : (past : List Entry) (c : ContextNo) (k : ℕ) (answer : Answer) → answer ≡ cond (is_live past c) (at_end (end_in (channel past k) c) (is_closed past k) NoEffect Done) Gone → is_done answer ≡ true → (o : Option Ends) → channel past k ≡ o → (is_one (end_in o c) && is_live past c && not (is_closed past k)) ≡ true
done_facts past c k answer answered done o at =
    ap (λ o. is_one (end_in o c) && is_live past c && not (is_closed past k)) (sym at)
    ∙ sym (ap is_done answered ∙ done_is (is_live past c) (is_closed past k) (end_in (channel past k) c)) ∙ done

-- what the answer `Done` says of the channel
record IsParted (past : List Entry) (c : ContextNo) (k : ℕ) (ends : Ends) : Type 0 where
  one : is_one (end_in (Some ends) c) ≡ true
  live : is_live past c ≡ true
  opened : is_closed past k ≡ false

is_parted : (past : List Entry) (c : ContextNo) (k : ℕ) (ends : Ends) → (is_one (end_in (Some ends) c) && is_live past c && not (is_closed past k)) ≡ true → IsParted past c k ends
is_parted past c k ends h =
    let first : ((is_one (end_in (Some ends) c) && is_live past c) ≡ true) × (not (is_closed past k) ≡ true) = and_parts _ _ h in
    let second : (is_one (end_in (Some ends) c) ≡ true) × (is_live past c ≡ true) = and_parts _ _ first.0 in
    record { one = second.0; live = second.1; opened = sym (not_not (is_closed past k)) ∙ ap not first.1 }

-- a disconnect that is answered `Done` is by what the tables have as a live end
pub done_live : (past : List Entry) (c : ContextNo) (k : ℕ) (ports : List Port) (answer : Answer) → answer ≡ cond (is_live past c) (at_end (end_in (channel past k) c) (is_closed past k) NoEffect Done) Gone → HasChannels past ports → is_done answer ≡ true → is_live_end (slice_get ports k) c ≡ true
done_live past c k ports answer answered has done =
    ap (λ o. is_live_end o c) (has k) ∙ by (channel past k) (done_facts past c k answer answered done (channel past k) refl)
  where
    one_of : (s a : Bool) → is_one (cond s Opener (cond a Receiver Neither)) ≡ true → (true && (s || (true && a))) ≡ true
    one_of true a h = refl
    one_of false true h = refl
    one_of false false h = absurd (false≢true h)

    by : (o : Option Ends) → (is_one (end_in o c) && is_live past c && not (is_closed past k)) ≡ true → is_live_end (option_map (port_said past k) o) c ≡ true
    by None h = absurd (false≢true h)
    by (Some ends) h =
        let facts : IsParted past c k ends = is_parted past c k ends h in
        rw facts.opened (ap (λ b. true && (same_context ends.opener c || b)) (among_passing (is_live past) ends.receivers c ∙ ap (λ b. b && is_among ends.receivers c) facts.live) ∙ one_of (same_context ends.opener c) (is_among ends.receivers c) facts.one)

-- whom the tables tell is whom it goes to
pub side_is : (live : ContextNo → Bool) (ends : Ends) (c d : ContextNo) → is_among ends.receivers ends.opener ≡ false → is_one (end_in (Some ends) c) ≡ true → is_among (cond (same_context ends.opener c) (filter live ends.receivers) (ends.opener ∷ [])) d ≡ goes (end_in (Some ends) c) (end_in (Some ends) d) (live d)
side_is live ends c d alone one = by (same_context ends.opener c) (is_among ends.receivers c) (same_context ends.opener d) refl (is_among ends.receivers d) refl one
  where
    of_opener : same_context ends.opener d ≡ true → is_among ends.receivers d ≡ false
    of_opener h = ap (is_among ends.receivers) (sym (same_context_is ends.opener d h)) ∙ alone

    by : (s a : Bool) → (t : Bool) → same_context ends.opener d ≡ t → (b : Bool) → is_among ends.receivers d ≡ b → is_one (cond s Opener (cond a Receiver Neither)) ≡ true → is_among (cond s (filter live ends.receivers) (ends.opener ∷ [])) d ≡ goes (cond s Opener (cond a Receiver Neither)) (cond (same_context ends.opener d) Opener (cond (is_among ends.receivers d) Receiver Neither)) (live d)
    by true a true t b m h = among_passing live ends.receivers d ∙ ap (λ x. live d && x) (of_opener t) ∙ and_false (live d) ∙ sym (rw t refl)
    by true a false t true m h = among_passing live ends.receivers d ∙ rw (t, m) (and_true (live d))
    by true a false t false m h = among_passing live ends.receivers d ∙ rw (t, m) (and_false (live d))
    by false true true t b m h = rw t refl
    by false true false t true m h = rw (t, m) refl
    by false true false t false m h = rw (t, m) refl
    by false false t tt b m h = absurd (false≢true h)

of_same : (k : ℕ) (kind : EventKind) → is_of_channel k kind ≡ is_of k kind
of_same k (Connected j) = refl
of_same k (Message j) = refl
of_same k (Disconnected j) = refl
of_same k (Asked j) = refl
of_same k (Replied j) = refl
of_same k (Closed j) = refl

drops_is : (k : ChannelNo) (answer : Answer) (kind : EventKind) → is_done answer ≡ true → drops_by (Disconnect k) answer kind ≡ is_of k.0 kind
drops_is k Done kind done = refl
drops_is k answer kind done = absurd (false≢true done)

-- what a disconnect leaves of what waited
left_is : (c : ContextNo) (k : ChannelNo) (answer : Answer) (d : ContextNo) (queue : List Event) → is_done answer ≡ true → filter (leaves_waiting (disconnect_entry c k answer) d) queue ≡ cond (same_context c d) (filter (is_apart k.0) queue) queue
left_is c k answer d queue done =
    filter_agree (leaves_waiting (disconnect_entry c k answer) d) (λ event. not (same_context c d && is_of_channel k.0 event.kind)) (λ event. ap (λ b. not (same_context c d && b)) (drops_is k answer event.kind done ∙ sym (of_same k.0 event.kind))) queue
    ∙ by (same_context c d) queue
  where
    all : (queue : List Event) → filter (λ event. not (false && is_of_channel k.0 event.kind)) queue ≡ queue
    all [] = refl
    all (x ∷ xs) = ap (λ l. x ∷ l) (all xs)

    by : (b : Bool) (queue : List Event) → filter (λ event. not (b && is_of_channel k.0 event.kind)) queue ≡ cond b (filter (is_apart k.0) queue) queue
    by true queue = refl
    by false queue = all queue

-- what a disconnect delivers
delivered_is : (past : List Entry) (c : ContextNo) (k : ChannelNo) (answer : Answer) (d : ContextNo) (ends : Ends) → channel past k.0 ≡ Some ends → IsParted past c k.0 ends → delivered past (disconnect_entry c k answer) d ≡ map (marked (length past)) (on (goes (end_in (Some ends) c) (end_in (Some ends) d) (is_live past d)) (Disconnected k))
delivered_is past c k answer d ends at facts =
    ap (map (marked (length past))) (append-nil (disconnected_on past (disconnect_entry c k answer) d k.0) ∙ ap (λ b. on b (Disconnected k)) told)
  where
    closing : closes past (disconnect_entry c k answer) k.0 ≡ true
    closing = rw (facts.opened, at, same_self k.0, facts.one, facts.live) refl

    told : (closes past (disconnect_entry c k answer) k.0 && goes_to past (channel past k.0) (ByContext c) d) ≡ goes (end_in (Some ends) c) (end_in (Some ends) d) (is_live past d)
    told = ap (λ b. b && goes_to past (channel past k.0) (ByContext c) d) closing ∙ ap (λ o. goes_to past o (ByContext c) d) at

-- each queue after a disconnect of this channel
queue_parted : (past : List Entry) (c : ContextNo) (k : ChannelNo) (answer : Answer) (ends : Ends) (n : EntryNo) → n.0 ≡ length past → is_done answer ≡ true → channel past k.0 ≡ Some ends → IsParted past c k.0 ends → (d : ContextNo) (queue : List Event) → parted (port_said past k.0 ends) c k.0 (in_entry n (Disconnected k)) d queue ≡ filter (leaves_waiting (disconnect_entry c k answer) d) queue ++ delivered past (disconnect_entry c k answer) d
queue_parted past c k answer ends n at done is facts d queue =
    ap (λ l. cond (same_context c d) (filter (is_apart k.0) l) l) told
    ∙ by (same_context c d) refl
    ∙ sym (ap (λ l. l ++ delivered past (disconnect_entry c k answer) d) (left_is c k answer d queue done) ∙ ap (λ l. cond (same_context c d) (filter (is_apart k.0) queue) queue ++ l) (delivered_is past c k answer d ends is facts))
  where
    to : ContextNo → Bool
    to b = goes (end_in (Some ends) c) (end_in (Some ends) b) (is_live past b)

    tail : List Event
    tail = map (marked (length past)) (on (to d) (Disconnected k))

    side : is_among (other_side (port_said past k.0 ends) c) d ≡ to d
    side =
        ap (λ w. is_among (cond (same_context ends.opener c) (cond w [] (filter (is_live past) ends.receivers)) (ends.opener ∷ [])) d) facts.opened
        ∙ side_is (is_live past) ends c d (ends_apart past k.0 ends is) facts.one

    self_silent : (x : End) (live : Bool) → goes x x live ≡ false
    self_silent Opener live = refl
    self_silent Receiver live = refl
    self_silent Neither live = refl

    silent : same_context c d ≡ true → to d ≡ false
    silent same = ap to (sym (same_context_is c d same)) ∙ self_silent (end_in (Some ends) c) (is_live past c)

    told : queue ++ cond (is_among (other_side (port_said past k.0 ends) c) d) (in_entry n (Disconnected k) ∷ []) [] ≡ queue ++ tail
    told = ap (λ b. queue ++ cond b (in_entry n (Disconnected k) ∷ []) []) side ∙ heard_marked n (length past) (to d) (Disconnected k) queue at

    by : (s : Bool) → same_context c d ≡ s → cond s (filter (is_apart k.0) (queue ++ tail)) (queue ++ tail) ≡ cond s (filter (is_apart k.0) queue) queue ++ tail
    by false same = refl
    by true same = rw (silent same) (ap (filter (is_apart k.0)) (append-nil queue) ∙ sym (append-nil (filter (is_apart k.0) queue)))

-- what waits after a disconnect that is answered `Done`
pub pending_disconnected : (world : WorldLists) (past : List Entry) (c : ContextNo) (k : ChannelNo) (answer : Answer) (ports : List Port) (queues queues' : List (List Event)) (n : EntryNo) → n.0 ≡ length past → IsLegalPast world (disconnect_entry c k answer ∷ past) → HasChannels past ports → HasPending past queues → is_done answer ≡ true → IfSome (slice_get ports k.0) (λ port. EachQueue (parted port c k.0 (in_entry n (Disconnected k))) queues queues') → HasPending (disconnect_entry c k answer ∷ past) queues'
pending_disconnected world past c k answer ports queues queues' n at legal has waits done changed =
    by (channel past k.0) refl (done_facts past c k.0 answer legal.1.answered done (channel past k.0) refl) (subst (λ o. IfSome o (λ port. EachQueue (parted port c k.0 (in_entry n (Disconnected k))) queues queues')) (has k.0) changed)
  where
    e : Entry
    e = disconnect_entry c k answer

    by : (o : Option Ends) → channel past k.0 ≡ o → (is_one (end_in o c) && is_live past c && not (is_closed past k.0)) ≡ true → IfSome (option_map (port_said past k.0) o) (λ port. EachQueue (parted port c k.0 (in_entry n (Disconnected k))) queues queues') → HasPending (e ∷ past) queues'
    by None is h change = absurd (false≢true h)
    by (Some ends) is h change =
        pending_later world past e queues queues' legal waits (λ d stays. change d ∙ queue d (slice_get queues d.0))
      where
        queue : (d : ContextNo) (o : Option (List Event)) → option_map (parted (port_said past k.0 ends) c k.0 (in_entry n (Disconnected k)) d) o ≡ option_map (λ q. filter (leaves_waiting e d) q ++ delivered past e d) o
        queue d None = refl
        queue d (Some q) = ap Some (queue_parted past c k answer ends n at done is (is_parted past c k.0 ends h) d q)
