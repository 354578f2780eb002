-- What waits in the queues once a message has gone to the other side of its channel.
use Rattle.std.proofs.Common.{◌≡◌, ℕ, ◌<◌, ◌≤◌, List, [], ◌∷◌, ◌++◌, length, refl, ap, sym, ◌∙◌, Bool, true, false, cond, arith, subst, append-nil, map}
use Rattle.std.specs.Prelude.{Option, Some, None, IfSome, filter, slice_get, ◌||◌, nat_lt}
use Rattle.std.specs.Option.{option_map}
use Rattle.std.proofs.lemmas.Bool.{false≢true, true≢false}
use Rattle.wx_id.specs.Contexts.{is_among, same_context}
use Rattle.wx_id.specs.declared.numbers.ChannelNo.{ChannelNo}
use Rattle.wx_id.specs.declared.numbers.ContextNo.{ContextNo}
use Rattle.wx_id.specs.declared.numbers.EntryNo.{EntryNo}
use Rattle.wx_id.specs.declared.numbers.HostNo.{HostNo}
use Rattle.wx_id.specs.declared.events.Event.{Event}
use Rattle.wx_id.specs.declared.events.EventKind.{EventKind}
use Rattle.wx_id.specs.declared.events.EventKind.TheVariants.{Message}
use Rattle.wx_id.specs.declared.events.End.{End}
use Rattle.wx_id.specs.declared.events.End.TheVariants.{Opener, Receiver, Neither}
use Rattle.wx_external.specs.World.{WorldLists}
use Rattle.wx_machine.specs.declared.entries.Who.TheVariants.{Context as ByContext}
use Rattle.wx_machine.specs.declared.entries.Call.TheVariants.{Post}
use Rattle.wx_machine.specs.declared.entries.Answer.TheVariants.{Gone, Passed, Posted, PortClosed, TooLong}
use Rattle.wx_machine.specs.declared.entries.Entry.{Entry}
use Rattle.wx_machine.specs.declared.entries.TheConstants.{LONGEST}
use Rattle.wx_machine.specs.declared.work.Work.TheVariants.{Channel as ForChannel}
use Rattle.wx_machine.specs.Words.{at_end, channel, channels, delivered, end_in, Ends, goes, is_closed, is_live, is_one, marked, on, requests, work_of}
use Rattle.wx_port.specs.Port.{Port}
use Rattle.wx_tables.specs.State.{in_entry}
use Rattle.wx_tables.specs.Ending.{EachQueue, other_side, told_each, told_end, told_opener}
use Rattle.wx_laws.specs.Legal.{IsLegalPast}
use Rattle.wx_broker.specs.Tables.{HasChannels, IsWithin, port_said}
use Rattle.wx_broker.proofs.TestsLater.{outside}
use Rattle.wx_broker.proofs.WorkLater.{work_within}
use Rattle.wx_broker.specs.Calm.{is_posted}
use Rattle.wx_broker.specs.Told.{HasPending}
use Rattle.wx_broker.proofs.ApartLater.{ends_apart}
use Rattle.wx_broker.proofs.HeardLater.{heard_marked}
use Rattle.wx_broker.proofs.PartedLater.{side_is}
use Rattle.wx_broker.proofs.PendingLater.{keeps_all, pending_told}
use Rattle.wx_broker.proofs.KeptLater.{said_entry}

-- the entry in which a context posted on a channel
abbrev pub post_entry : ContextNo → ChannelNo → List ℕ → Entry
post_entry c k text = record { who = ByContext c; call = Post k text; answer = Posted }

-- a list with nothing after it
pub nothing : (l : List EventKind) → l ++ [] ++ [] ≡ l
nothing l = append-nil (l ++ []) ∙ append-nil l

-- what waits after an entry that tells these of a message
message_told : (world : WorldLists) (past : List Entry) (e : Entry) (k : ChannelNo) (to : List ContextNo) (queues queues' : List (List Event)) (n : EntryNo) → n.0 ≡ length past → IsLegalPast world (e ∷ past) → HasPending past queues → keeps_all e.call e.answer ≡ true → ((d : ContextNo) → delivered past e d ≡ map (marked (length past)) (on (is_among to d) (Message k))) → EachQueue (told_each to (in_entry n (Message k))) queues queues' → HasPending (e ∷ past) queues'
message_told world past e k to queues queues' n at legal waits keeps tells changed =
    pending_told world past e (told_each to (in_entry n (Message k))) queues queues' legal waits keeps changed
    (λ d queue. heard_marked n (length past) (is_among to d) (Message k) queue at ∙ ap (λ l. queue ++ l) (sym (tells d)))

-- what is posted is posted by an end of an open channel
pub posted_facts : (live shut long : Bool) (end : End) → Posted ≡ cond live (at_end end shut PortClosed (cond long TooLong Posted)) Gone → (is_one end ≡ true) × (shut ≡ false)
posted_facts true false long Opener h = (refl, refl)
posted_facts true false long Receiver h = (refl, refl)
posted_facts true true long Opener h = absurd (true≢false (ap is_posted h))
posted_facts true true long Receiver h = absurd (true≢false (ap is_posted h))
posted_facts true shut long Neither h = absurd (true≢false (ap is_posted h))
posted_facts false shut long end h = absurd (true≢false (ap is_posted h))

-- what waits after a post that is answered `Posted`
pub pending_posted : (world : WorldLists) (past : List Entry) (c : ContextNo) (k : ChannelNo) (text : List ℕ) (ports : List Port) (queues queues' : List (List Event)) (n : EntryNo) → n.0 ≡ length past → IsLegalPast world (post_entry c k text ∷ past) → HasChannels past ports → HasPending past queues → IfSome (slice_get ports k.0) (λ port. EachQueue (told_end port c (in_entry n (Message k))) queues queues') → HasPending (post_entry c k text ∷ past) queues'
pending_posted world past c k text ports queues queues' n at legal has waits changed =
    by (channel past k.0) refl (subst (λ o. IfSome o (λ port. EachQueue (told_end port c (in_entry n (Message k))) queues queues')) (has k.0) changed)
  where
    facts : (is_one (end_in (channel past k.0) c) ≡ true) × (is_closed past k.0 ≡ false)
    facts = posted_facts (is_live past c) (is_closed past k.0) (nat_lt LONGEST (length text)) (end_in (channel past k.0) c) legal.1.answered

    by : (o : Option Ends) → channel past k.0 ≡ o → IfSome (option_map (port_said past k.0) o) (λ port. EachQueue (told_end port c (in_entry n (Message k))) queues queues') → HasPending (post_entry c k text ∷ past) queues'
    by None is change = absurd (false≢true (sym (ap (λ o. is_one (end_in o c)) is) ∙ facts.0))
    by (Some ends) is change =
        message_told world past (post_entry c k text) k (other_side (port_said past k.0 ends) c) queues queues' n at legal waits refl tells change
      where
        side : (d : ContextNo) → is_among (other_side (port_said past k.0 ends) c) d ≡ goes (end_in (Some ends) c) (end_in (Some ends) d) (is_live past d)
        side d =
            ap (λ w. is_among (cond (same_context ends.opener c) (cond w [] (filter (is_live past) ends.receivers)) (ends.opener ∷ [])) d) facts.1
            ∙ side_is (is_live past) ends c d (ends_apart past k.0 ends is) (sym (ap (λ o. is_one (end_in o c)) is) ∙ facts.0)

        tells : (d : ContextNo) → delivered past (post_entry c k text) d ≡ map (marked (length past)) (on (is_among (other_side (port_said past k.0 ends) c) d) (Message k))
        tells d =
            ap (map (marked (length past))) (nothing (on (goes (end_in (channel past k.0) c) (end_in (channel past k.0) d) (is_live past d)) (Message k)))
            ∙ ap (λ o. map (marked (length past)) (on (goes (end_in o c) (end_in o d) (is_live past d)) (Message k))) is
            ∙ ap (λ b. map (marked (length past)) (on b (Message k))) (sym (side d))

-- what waits after a host has said a message on its channel
pub pending_heard : (world : WorldLists) (past : List Entry) (h : HostNo) (text : List ℕ) (k : ChannelNo) (ports : List Port) (queues queues' : List (List Event)) (n : EntryNo) → n.0 ≡ length past → IsLegalPast world (said_entry h text Passed ∷ past) → HasChannels past ports → HasPending past queues → work_of past h ≡ Some (ForChannel k) → IfSome (slice_get ports k.0) (λ port. EachQueue (told_opener port (in_entry n (Message k))) queues queues') → HasPending (said_entry h text Passed ∷ past) queues'
pending_heard world past h text k ports queues queues' n at legal has waits works changed =
    by (channel past k.0) refl (subst (λ o. IfSome o (λ port. EachQueue (told_opener port (in_entry n (Message k))) queues queues')) (has k.0) changed)
  where
    by : (o : Option Ends) → channel past k.0 ≡ o → IfSome (option_map (port_said past k.0) o) (λ port. EachQueue (told_opener port (in_entry n (Message k))) queues queues') → HasPending (said_entry h text Passed ∷ past) queues'
    by None is change =
        let past_end : length (channels past) ≤ k.0 = outside (channels past) k.0 is in
        let within : k.0 < length (channels past) = subst (IsWithin (length (channels past)) (length (requests past))) works (work_within past h) in
        absurd (omega (arith, past_end, within))
    by (Some ends) is change =
        message_told world past (said_entry h text Passed) k (ends.opener ∷ []) queues queues' n at legal waits refl tells change
      where
        to_opener : (s a live : Bool) → goes Receiver (cond s Opener (cond a Receiver Neither)) live ≡ (s || false)
        to_opener true a live = refl
        to_opener false true live = refl
        to_opener false false live = refl

        tells : (d : ContextNo) → delivered past (said_entry h text Passed) d ≡ map (marked (length past)) (on (is_among (ends.opener ∷ []) d) (Message k))
        tells d =
            rw works
            (ap (map (marked (length past))) (nothing (on (goes Receiver (end_in (channel past k.0) d) (is_live past d)) (Message k)))
            ∙ ap (λ o. map (marked (length past)) (on (goes Receiver (end_in o d) (is_live past d)) (Message k))) is
            ∙ ap (λ b. map (marked (length past)) (on b (Message k))) (to_opener (same_context ends.opener d) (is_among ends.receivers d) (is_live past d)))
