-- What a slot's turns come to over a broker. Every list of entries has the newest first.
use Rattle.std.proofs.Common.{◌≡◌, ℕ, ◌+◌, ◌<◌, ◌≤◌, List, [], ◌∷◌, Bool, true, false, not, ◌&&◌, Option, Some, None, ◌⊎◌, inl, inr, refl, ap, ◌∙◌, sym, subst, arith}
use Rattle.std.specs.Prelude.{reverse, is_some, IsSome, Result, Ok, Err, IfOk, OnOk}
use Rattle.std.proofs.lemmas.Bool.{true≢false}
use Rattle.wx_id.specs.declared.numbers.HostNo.{HostNo}
use Rattle.wx_external.specs.World.{WorldLists}
use Rattle.wx_native_frame.specs.Frames.{Unfinished}
use Rattle.wx_machine.specs.declared.entries.Who.TheVariants.{Host as ByHost}
use Rattle.wx_machine.specs.declared.entries.Call.TheVariants.{HostEnded}
use Rattle.wx_machine.specs.declared.entries.Reason.TheVariants.{StartFailed}
use Rattle.wx_machine.specs.declared.entries.Answer.{Answer}
use Rattle.wx_machine.specs.declared.entries.Entry.{Entry}
use Rattle.wx_machine.specs.Words.{FollowsMachine, IsLegal, is_host_ready, EachAfter, has_ended}
use Rattle.wx_machine.specs.declared.entries.TheConstants.{LONGEST_SAID}
use Rattle.wx_broker.specs.State.{BrokerState}
use Rattle.wx_outside.specs.Causes.{Rose}
use Rattle.wx_host_launch.specs.Pipes.{InState, OutState}
use Rattle.wx_host_launch.specs.Records.{Program, Writing, StarterState, starting, Starts, AreFresh}
use Rattle.wx_host_launch.specs.declared.starter.StartFault.{StartFault}
use Rattle.wx_host_launch.specs.declared.starter.StartFault.TheVariants as start
use Rattle.wx_desk.specs.Desks.{past_of, MakesOne}
use Rattle.wx_desk.proofs.OverLemmas.{past_over}
use Rattle.wx_host_launch.proofs.BrokerLemmas.{host_over}
use Rattle.wx_host_launch.specs.Turns.{IsInTurn, IsOutTurn}
use Rattle.wx_host_launch.specs.declared.turns.InTurn.{InTurn}
use Rattle.wx_host_launch.specs.declared.turns.InTurn.TheVariants as into
use Rattle.wx_host_launch.specs.declared.turns.OutTurn.{OutTurn}
use Rattle.wx_host_launch.specs.declared.turns.OutTurn.TheVariants as out
use Rattle.wx_host_slot.specs.Journals.{program_of}
use Rattle.wx_host_slot.specs.Slots.{ChildState, SlotState, SlotView, slot_of, StandsRunning, StandsAs, waiting, untold, running, at_end, Stands, WasStarted, turns_left, CameTo, IsServed, IsStarted, HasSaidOrEnded}
use Rattle.wx_host_slot.specs.Turns.{HostTurn}
use Rattle.wx_host_slot.specs.declared.slot.Served.{Served}
use Rattle.wx_host_slot.specs.declared.slot.Served.TheVariants.{Moved, Rested}
use Rattle.wx_host_slot.proofs.JournalLemmas.{own, turn_map}
use Rattle.wx_host_slot.proofs.StartLemmas.{fresh_child, start_runs, start_fails, failed_slot, told_slot, tells_failed, started_from}
use Rattle.wx_host_slot.proofs.DeskLemmas.{one_past, at_first, one_at}
use Rattle.wx_host_slot.proofs.EndLemmas.{after_turn_of}
use Rattle.wx_host_slot.proofs.InLemmas.{with_input, Leads, in_moved, in_closed, in_waits, in_ended}
use Rattle.wx_host_slot.proofs.OutLemmas.{with_output, Speaks, never_waits, out_moved, out_ended}

-- How it stands before

-- where a child was started and the host has not ended, the child runs
pub running_of : (writing : Option Writing) (world : WorldLists) (past : List Entry) (h : HostNo) (slot : SlotState) (child : ChildState) → Stands writing world past h slot → slot.ended ≡ false → slot.child ≡ Some child → StandsRunning writing world past h slot child
running_of writing world past h slot child s unended has = by s.stands
  where
    same : (o : Option ChildState) (c : ChildState) → o ≡ Some c → c ≡ child → o ≡ Some child
    same o c e f = e ∙ ap Some f

    one : (c d : ChildState) → Some c ≡ Some d → c ≡ d
    one c d e = cc

    by : StandsAs writing world past h slot → StandsRunning writing world past h slot child
    by (waiting un empty is) = absurd (true≢false (ap is_some (sym has ∙ ap (λ (x : SlotState). x.child) is)))
    by (untold t) = absurd (true≢false (ap is_some (sym has ∙ t.no_child)))
    by (running c run) = (let R : ChildState → Type 0 = StandsRunning writing world past h slot in subst R (one c child (sym run.has_child ∙ has)) run)
    by (at_end ended was meets) = absurd (true≢false (sym ended ∙ unended))

-- the turn of a host that has ended
pub rests : (writing : Option Writing) (world : WorldLists) (past : List Entry) (h : HostNo) (slot : SlotState) → Stands writing world past h slot → slot.ended ≡ true → is_host_ready past h ≡ false
rests writing world past h slot s ended = by s.stands
  where
    not_now : (b c : Bool) → b ≡ true → (not b && c) ≡ false
    not_now true c e = refl
    not_now false c e = absurd (true≢false (sym e))

    by : StandsAs writing world past h slot → is_host_ready past h ≡ false
    by (waiting un empty is) = absurd (true≢false (sym ended ∙ ap (λ (x : SlotState). x.ended) is))
    by (untold t) = absurd (true≢false (sym ended ∙ t.unended))
    by (running c run) = absurd (true≢false (sym ended ∙ run.unended))
    by (at_end ended was meets) = not_now (has_ended past h) _ was

-- it stands so for its own starter's children
pub own_writing : (writing : Option Writing) (world : WorldLists) (past : List Entry) (h : HostNo) (slot : SlotState) → Stands writing world past h slot → Stands slot.starter.writing world past h slot
own_writing writing world past h slot s =
    let W : Option Writing → Type 0 = λ w. Stands w world past h slot in
    subst W (ap (λ (t : StarterState). t.writing) (sym s.alone)) s

-- A turn of the input

served_over : (writing : Option Writing) (world : WorldLists) (past : List Entry) (h : HostNo) (slot after : SlotState) (broker : BrokerState) (came : Served) → Leads writing world h past slot after (host_over h broker) came → IsServed writing world h past (reverse broker.entries) slot after came
served_over writing world past h slot after broker came l =
    let S : List Entry → Type 0 = λ now. IsServed writing world h past now slot after came in
    subst S (sym (one_past h h world l.now (reverse broker.entries) (host_over h broker) l.at refl)) l.served

-- A turn of a host's input was made, over the broker.
pub record TakesTurn (writing : Option Writing) (h : HostNo) (before : BrokerState) (slot : SlotState) (child : ChildState) : Type 0 where
  pub stands : Stands writing before.world (reverse before.entries) h slot
  pub runs : StandsRunning writing before.world (reverse before.entries) h slot child
  pub room : slot.made < 65536

-- the slot as it was, but for its child and its count
abbrev pub after_turn : SlotState → ChildState → ℕ → SlotState
after_turn slot child more = after_turn_of slot child more slot.ended

unended_after : (writing : Option Writing) (world : WorldLists) (past now : List Entry) (h : HostNo) (slot : SlotState) (child : ChildState) (came : Served) → slot.ended ≡ false → IsServed writing world h past now slot (after_turn_of slot child 1 false) came → IsServed writing world h past now slot (after_turn slot child 1) came
unended_after writing world past now h slot child came unended served =
    let S : Bool → Type 0 = λ b. IsServed writing world h past now slot (after_turn_of slot child 1 b) came in
    subst S (sym unended) served

legal_over : (h : HostNo) (world : WorldLists) (broker : BrokerState) → IsLegal world broker.entries → EachAfter (FollowsMachine world) (past_of (host_over h broker))
legal_over h world broker legal =
    let P : List Entry → Type 0 = EachAfter (FollowsMachine world) in
    subst P (sym (past_over ByHost h broker)) legal

pub serves_moved : (writing : Option Writing) (h : HostNo) (old new : BrokerState) (slot : SlotState) (child : ChildState) (input : InState) → TakesTurn writing h old slot child → IsLegal old.world new.entries → IsInTurn (host_over h old) (host_over h new) child.input input into.Moved
    → IsServed writing old.world h (reverse old.entries) (reverse new.entries) slot (after_turn slot (with_input child input) 1) Moved
serves_moved writing h old new slot child input t legal turn =
    let past = reverse old.entries in
    unended_after writing old.world past (reverse new.entries) h slot (with_input child input) Moved t.runs.unended
    (served_over writing old.world past h slot (after_turn_of slot (with_input child input) 1 false) new Moved
    (in_moved writing old.world past h slot child (host_over h old) (host_over h new) input (at_first h old) (legal_over h old.world new legal) t.stands t.runs t.room turn))

pub serves_closed : (writing : Option Writing) (h : HostNo) (old new : BrokerState) (slot : SlotState) (child : ChildState) (input : InState) → TakesTurn writing h old slot child → IsInTurn (host_over h old) (host_over h new) child.input input into.Closed
    → IsServed writing old.world h (reverse old.entries) (reverse new.entries) slot (after_turn slot (with_input child input) 1) Moved
serves_closed writing h old new slot child input t turn =
    let past = reverse old.entries in
    unended_after writing old.world past (reverse new.entries) h slot (with_input child input) Moved t.runs.unended
    (served_over writing old.world past h slot (after_turn_of slot (with_input child input) 1 false) new Moved
    (in_closed writing old.world past h slot child (host_over h old) (host_over h new) input (at_first h old) t.stands t.runs t.room turn))

pub serves_waits : (writing : Option Writing) (h : HostNo) (old new : BrokerState) (slot : SlotState) (child : ChildState) (input : InState) → TakesTurn writing h old slot child → IsInTurn (host_over h old) (host_over h new) child.input input into.Waits
    → IsServed writing old.world h (reverse old.entries) (reverse new.entries) slot (record slot { child = Some (with_input child input) }) Rested
serves_waits writing h old new slot child input t turn =
    let past = reverse old.entries in
    served_over writing old.world past h slot (record slot { child = Some (with_input child input) }) new Rested
    (in_waits writing old.world past h slot child (host_over h old) (host_over h new) input (at_first h old) t.stands t.runs turn)

pub serves_ended : (writing : Option Writing) (h : HostNo) (old new : BrokerState) (slot : SlotState) (child : ChildState) (input : InState) → TakesTurn writing h old slot child → IsLegal old.world new.entries → IsInTurn (host_over h old) (host_over h new) child.input input into.Ended
    → IsServed writing old.world h (reverse old.entries) (reverse new.entries) slot (after_turn_of slot (with_input child input) 2 true) Moved
serves_ended writing h old new slot child input t legal turn =
    let past = reverse old.entries in
    served_over writing old.world past h slot (after_turn_of slot (with_input child input) 2 true) new Moved
    (in_ended writing old.world past h slot child (host_over h old) (host_over h new) input (at_first h old) (legal_over h old.world new legal) t.stands t.runs t.room turn)

-- A turn of the output

spoken_over : (writing : Option Writing) (world : WorldLists) (past : List Entry) (h : HostNo) (slot after : SlotState) (broker : BrokerState) → Speaks writing world h past slot after (host_over h broker) → HasSaidOrEnded writing world h past (reverse broker.entries) slot after
spoken_over writing world past h slot after broker l =
    let S : List Entry → Type 0 = λ now. HasSaidOrEnded writing world h past now slot after in
    subst S (sym (one_past h h world l.now (reverse broker.entries) (host_over h broker) l.at refl)) l.spoken

pub speaks_moved : (writing : Option Writing) (h : HostNo) (old new : BrokerState) (slot : SlotState) (child : ChildState) (output : OutState) (reader : Unfinished) → TakesTurn writing h old slot child → reader.limit ≡ LONGEST_SAID → IsOutTurn (host_over h old) (host_over h new) child.reader reader child.output output out.Moved
    → HasSaidOrEnded writing old.world h (reverse old.entries) (reverse new.entries) slot (after_turn slot (with_output child output reader) 1)
speaks_moved writing h old new slot child output reader t limit turn =
    let past = reverse old.entries in
    let S : Bool → Type 0 = λ b. HasSaidOrEnded writing old.world h past (reverse new.entries) slot (after_turn_of slot (with_output child output reader) 1 b) in
    subst S (sym t.runs.unended) (spoken_over writing old.world past h slot (after_turn_of slot (with_output child output reader) 1 false) new
    (out_moved writing old.world past h slot child (host_over h old) (host_over h new) output reader (at_first h old) t.stands t.runs t.room limit turn))

pub speaks_ended : (writing : Option Writing) (h : HostNo) (old new : BrokerState) (slot : SlotState) (child : ChildState) (output : OutState) (reader : Unfinished) → TakesTurn writing h old slot child → IsOutTurn (host_over h old) (host_over h new) child.reader reader child.output output out.Ended
    → HasSaidOrEnded writing old.world h (reverse old.entries) (reverse new.entries) slot (after_turn_of slot (with_output child output reader) 1 true)
speaks_ended writing h old new slot child output reader t turn =
    let past = reverse old.entries in
    spoken_over writing old.world past h slot (after_turn_of slot (with_output child output reader) 1 true) new
    (out_ended writing old.world past h slot child (host_over h old) (host_over h new) output reader (at_first h old) t.stands t.runs t.room turn)

pub speaks_never_waits : (writing : Option Writing) (h : HostNo) (old new : BrokerState) (slot : SlotState) (child : ChildState) (output : OutState) (reader : Unfinished) → TakesTurn writing h old slot child → is_host_ready (reverse old.entries) h ≡ false → ¬ IsOutTurn (host_over h old) (host_over h new) child.reader reader child.output output out.Waits
speaks_never_waits writing h old new slot child output reader t ready turn =
    never_waits h old.world (reverse old.entries) (host_over h old) (host_over h new) child.reader reader child.output output (at_first h old) ready t.runs.host_unended turn

-- A slot by its fields

abbrev pub slot_kept : {P : Type 0} → P → Option ChildState → Bool → ℕ → Bool → SlotView P
slot_kept starter child failed made ended = record { starter = starter; child = child; failed = failed; made = made; ended = ended }

pub ended_as : {P : Type 0} (was slot : SlotView P) (b : Bool) → was ≡ slot → was.ended ≡ b → slot.ended ≡ b
ended_as {P} was slot b same is = ap (λ (v : SlotView P). v.ended) (sym same) ∙ is

pub failed_as : {P : Type 0} (was slot : SlotView P) (b : Bool) → was ≡ slot → was.failed ≡ b → slot.failed ≡ b
failed_as {P} was slot b same is = ap (λ (v : SlotView P). v.failed) (sym same) ∙ is

-- Putting a child back

-- the slot with its child put back, and more entries made
pub put_back : {P : Type 0} (state : P → StarterState) (was slot : SlotView P) (child : ChildState) (more : ℕ) (S : SlotState → Type 0) → was ≡ slot → S (after_turn (slot_of state slot) child more) → S (slot_of state (record { starter = was.starter; child = Some child; failed = was.failed; made = was.made + more; ended = was.ended }))
put_back {P} state was slot child more S same h =
    let V : SlotView P → Type 0 = λ v. S (slot_of state (record { starter = v.starter; child = Some child; failed = v.failed; made = v.made + more; ended = v.ended })) in
    subst V (sym same) h

pub put_back_ended : {P : Type 0} (state : P → StarterState) (was slot : SlotView P) (child : ChildState) (more : ℕ) (S : SlotState → Type 0) → was ≡ slot → S (after_turn_of (slot_of state slot) child more true) → S (slot_of state (record { starter = was.starter; child = Some child; failed = was.failed; made = was.made + more; ended = true }))
put_back_ended {P} state was slot child more S same h =
    let V : SlotView P → Type 0 = λ v. S (slot_of state (record { starter = v.starter; child = Some child; failed = v.failed; made = v.made + more; ended = true })) in
    subst V (sym same) h

pub put_back_only : {P : Type 0} (state : P → StarterState) (was slot : SlotView P) (child : ChildState) (S : SlotState → Type 0) → was ≡ slot → S (record (slot_of state slot) { child = Some child }) → S (slot_of state (record { starter = was.starter; child = Some child; failed = was.failed; made = was.made; ended = was.ended }))
put_back_only {P} state was slot child S same h =
    let V : SlotView P → Type 0 = λ v. S (slot_of state (record { starter = v.starter; child = Some child; failed = v.failed; made = v.made; ended = v.ended })) in
    subst V (sym same) h

-- the slot's child runs, and a turn may be made
pub takes_turn : {P : Type 0} (state : P → StarterState) (h : HostNo) (broker : BrokerState) (was slot : SlotView P) (child : ChildState) → was ≡ slot → was.child ≡ Some child → Stands (state slot.starter).writing broker.world (reverse broker.entries) h (slot_of state slot) → slot.ended ≡ false → slot.made < 65536 → TakesTurn (state slot.starter).writing h broker (slot_of state slot) child
takes_turn {P} state h broker was slot child same has s unended room = record {
  stands = s;
  runs = running_of (state slot.starter).writing broker.world (reverse broker.entries) h (slot_of state slot) child s unended (ap (λ (v : SlotView P). v.child) (sym same) ∙ has);
  room = room;
}

-- What a turn of the slot comes to

-- it took and goes on
pub taken_on : {P : Type 0} (state : P → StarterState) (h : HostNo) (old new : BrokerState) (was slot : SlotView P) (child next : ChildState) (came : InTurn) → was ≡ slot → was.child ≡ Some child → Stands (state slot.starter).writing old.world (reverse old.entries) h (slot_of state slot) → slot.ended ≡ false → slot.made < 65536 → IsLegal old.world new.entries
    → IsInTurn (host_over h old) (host_over h new) child.input next.input came → next ≡ with_input child next.input → (came ≡ into.Moved) ⊎ (came ≡ into.Closed)
    → IsServed (state slot.starter).writing old.world h (reverse old.entries) (reverse new.entries) (slot_of state slot) (slot_of state (record { starter = was.starter; child = Some next; failed = was.failed; made = was.made + 1; ended = was.ended })) Moved
taken_on {P} state h old new was slot child next came same has s unended room legal turn next_is is =
    let writing = (state slot.starter).writing in
    let before = takes_turn state h old was slot child same has s unended room in
    let T : InTurn → Type 0 = IsInTurn (host_over h old) (host_over h new) child.input next.input in
    let S : SlotState → Type 0 = λ after. IsServed writing old.world h (reverse old.entries) (reverse new.entries) (slot_of state slot) after Moved in
    let N : ChildState → Type 0 = λ c. S (after_turn (slot_of state slot) c 1) in
    put_back state was slot next 1 S same (subst N (sym next_is) (elim is [
      | inl moved ↦ serves_moved writing h old new (slot_of state slot) child next.input before legal (subst T moved turn)
      | inr closed ↦ serves_closed writing h old new (slot_of state slot) child next.input before (subst T closed turn)
    ]))

-- it had nothing new to take
pub taken_none : {P : Type 0} (state : P → StarterState) (h : HostNo) (old new : BrokerState) (was slot : SlotView P) (child next : ChildState) (came : InTurn) → was ≡ slot → was.child ≡ Some child → Stands (state slot.starter).writing old.world (reverse old.entries) h (slot_of state slot) → slot.ended ≡ false → slot.made < 65536
    → IsInTurn (host_over h old) (host_over h new) child.input next.input came → next ≡ with_input child next.input → came ≡ into.Waits
    → IsServed (state slot.starter).writing old.world h (reverse old.entries) (reverse new.entries) (slot_of state slot) (slot_of state (record { starter = was.starter; child = Some next; failed = was.failed; made = was.made; ended = was.ended })) Rested
taken_none {P} state h old new was slot child next came same has s unended room turn next_is is =
    let writing = (state slot.starter).writing in
    let before = takes_turn state h old was slot child same has s unended room in
    let T : InTurn → Type 0 = IsInTurn (host_over h old) (host_over h new) child.input next.input in
    let S : SlotState → Type 0 = λ after. IsServed writing old.world h (reverse old.entries) (reverse new.entries) (slot_of state slot) after Rested in
    let N : ChildState → Type 0 = λ c. S (record (slot_of state slot) { child = Some c }) in
    put_back_only state was slot next S same (subst N (sym next_is) (serves_waits writing h old new (slot_of state slot) child next.input before (subst T is turn)))

-- it took and could not be written to
pub taken_last : {P : Type 0} (state : P → StarterState) (h : HostNo) (old new : BrokerState) (was slot : SlotView P) (child next : ChildState) (came : InTurn) → was ≡ slot → was.child ≡ Some child → Stands (state slot.starter).writing old.world (reverse old.entries) h (slot_of state slot) → slot.ended ≡ false → slot.made < 65536 → IsLegal old.world new.entries
    → IsInTurn (host_over h old) (host_over h new) child.input next.input came → next ≡ with_input child next.input → came ≡ into.Ended
    → IsServed (state slot.starter).writing old.world h (reverse old.entries) (reverse new.entries) (slot_of state slot) (slot_of state (record { starter = was.starter; child = Some next; failed = was.failed; made = was.made + 2; ended = true })) Moved
taken_last {P} state h old new was slot child next came same has s unended room legal turn next_is is =
    let writing = (state slot.starter).writing in
    let before = takes_turn state h old was slot child same has s unended room in
    let T : InTurn → Type 0 = IsInTurn (host_over h old) (host_over h new) child.input next.input in
    let S : SlotState → Type 0 = λ after. IsServed writing old.world h (reverse old.entries) (reverse new.entries) (slot_of state slot) after Moved in
    let N : ChildState → Type 0 = λ c. S (after_turn_of (slot_of state slot) c 2 true) in
    put_back_ended state was slot next 2 S same (subst N (sym next_is) (serves_ended writing h old new (slot_of state slot) child next.input before legal (subst T is turn)))

-- it said a text
pub heard_on : {P : Type 0} (state : P → StarterState) (h : HostNo) (old new : BrokerState) (was slot : SlotView P) (child next : ChildState) (came : OutTurn) → was ≡ slot → was.child ≡ Some child → Stands (state slot.starter).writing old.world (reverse old.entries) h (slot_of state slot) → slot.ended ≡ false → slot.made < 65536 → next.reader.limit ≡ LONGEST_SAID
    → IsOutTurn (host_over h old) (host_over h new) child.reader next.reader child.output next.output came → next ≡ with_output child next.output next.reader → came ≡ out.Moved
    → HasSaidOrEnded (state slot.starter).writing old.world h (reverse old.entries) (reverse new.entries) (slot_of state slot) (slot_of state (record { starter = was.starter; child = Some next; failed = was.failed; made = was.made + 1; ended = was.ended }))
heard_on {P} state h old new was slot child next came same has s unended room limit turn next_is is =
    let writing = (state slot.starter).writing in
    let before = takes_turn state h old was slot child same has s unended room in
    let T : OutTurn → Type 0 = IsOutTurn (host_over h old) (host_over h new) child.reader next.reader child.output next.output in
    let S : SlotState → Type 0 = HasSaidOrEnded writing old.world h (reverse old.entries) (reverse new.entries) (slot_of state slot) in
    let N : ChildState → Type 0 = λ c. S (after_turn (slot_of state slot) c 1) in
    put_back state was slot next 1 S same (subst N (sym next_is) (speaks_moved writing h old new (slot_of state slot) child next.output next.reader before limit (subst T is turn)))

-- it ended
pub heard_last : {P : Type 0} (state : P → StarterState) (h : HostNo) (old new : BrokerState) (was slot : SlotView P) (child next : ChildState) (came : OutTurn) → was ≡ slot → was.child ≡ Some child → Stands (state slot.starter).writing old.world (reverse old.entries) h (slot_of state slot) → slot.ended ≡ false → slot.made < 65536
    → IsOutTurn (host_over h old) (host_over h new) child.reader next.reader child.output next.output came → next ≡ with_output child next.output next.reader → came ≡ out.Ended
    → HasSaidOrEnded (state slot.starter).writing old.world h (reverse old.entries) (reverse new.entries) (slot_of state slot) (slot_of state (record { starter = was.starter; child = Some next; failed = was.failed; made = was.made + 1; ended = true }))
heard_last {P} state h old new was slot child next came same has s unended room turn next_is is =
    let writing = (state slot.starter).writing in
    let before = takes_turn state h old was slot child same has s unended room in
    let T : OutTurn → Type 0 = IsOutTurn (host_over h old) (host_over h new) child.reader next.reader child.output next.output in
    let S : SlotState → Type 0 = HasSaidOrEnded writing old.world h (reverse old.entries) (reverse new.entries) (slot_of state slot) in
    let N : ChildState → Type 0 = λ c. S (after_turn_of (slot_of state slot) c 1 true) in
    put_back_ended state was slot next 1 S same (subst N (sym next_is) (speaks_ended writing h old new (slot_of state slot) child next.output next.reader before (subst T is turn)))

-- it doesn't wait
pub heard_never : {P : Type 0} (state : P → StarterState) (h : HostNo) (old new : BrokerState) (was slot : SlotView P) (child next : ChildState) (came : OutTurn) → was ≡ slot → was.child ≡ Some child → Stands (state slot.starter).writing old.world (reverse old.entries) h (slot_of state slot) → slot.ended ≡ false → slot.made < 65536 → is_host_ready (reverse old.entries) h ≡ false
    → IsOutTurn (host_over h old) (host_over h new) child.reader next.reader child.output next.output came → came ≡ out.Waits → ⊥
heard_never {P} state h old new was slot child next came same has s unended room ready turn is =
    let before = takes_turn state h old was slot child same has s unended room in
    let T : OutTurn → Type 0 = IsOutTurn (host_over h old) (host_over h new) child.reader next.reader child.output next.output in
    speaks_never_waits (state slot.starter).writing h old new (slot_of state slot) child next.output next.reader before ready (subst T is turn)

-- the limit of its child's reader
pub reader_limit : {P : Type 0} (state : P → StarterState) (h : HostNo) (broker : BrokerState) (was slot : SlotView P) (child : ChildState) → was ≡ slot → was.child ≡ Some child → Stands (state slot.starter).writing broker.world (reverse broker.entries) h (slot_of state slot) → slot.ended ≡ false → slot.made < 65536 → child.reader.limit ≡ LONGEST_SAID
reader_limit {P} state h broker was slot child same has s unended room = (takes_turn state h broker was slot child same has s unended room).runs.runs.limit

-- A start

some_of : {A : Type 0} (o : Option A) → IsSome o → (x : A) × (o ≡ Some x)
some_of None e = absurd (true≢false (sym e))
some_of (Some x) e = (x, refl)

pub starts_child : {P : Type 0} (state : P → StarterState) (h : HostNo) (broker : BrokerState) (was slot : SlotView P) (starter : P) (input : InState) (output : OutState) (reader : Unfinished) → was ≡ slot → Stands (state slot.starter).writing broker.world (reverse broker.entries) h (slot_of state slot) → slot.ended ≡ false → slot.child ≡ None → slot.failed ≡ false → IsSome (program_of broker.world (reverse broker.entries) h)
    → ((p : Program) → program_of broker.world (reverse broker.entries) h ≡ Some p → (n : ℕ) × ((state was.starter).slot.failed_starts ≤ n) × (state starter ≡ starting (state was.starter) p.path p.arguments n))
    → ((p : Program) → program_of broker.world (reverse broker.entries) h ≡ Some p → AreFresh (state was.starter).writing p.path input output) → reader.limit ≡ LONGEST_SAID → reader.bytes ≡ []
    → IsStarted (state slot.starter).writing broker.world h (reverse broker.entries) (reverse broker.entries) (slot_of state slot) (slot_of state (record { starter = starter; child = Some (fresh_child input output reader); failed = was.failed; made = was.made; ended = was.ended }))
starts_child {P} state h broker was slot starter input output reader same s unended none not_failed known starts fresh limit bytes =
    let past = reverse broker.entries in
    let writing = (state slot.starter).writing in
    let (p, is) = some_of (program_of broker.world past h) known in
    let (n, least, left) = starts p is in
    let child = fresh_child input output reader in
    let F : SlotView P → Type 0 = λ v. AreFresh (state v.starter).writing p.path input output in
    let base = start_runs broker.world past h (slot_of state slot) p n input output reader s unended none not_failed is (subst F same (fresh p is)) limit bytes in
    let G : SlotState → Type 0 = IsStarted writing broker.world h past past (slot_of state slot) in
    let V : SlotView P → Type 0 = λ v. G (record { starter = starting (state v.starter) p.path p.arguments n; child = Some child; failed = v.failed; made = v.made; ended = v.ended }) in
    let T : StarterState → Type 0 = λ t. G (record { starter = t; child = Some child; failed = was.failed; made = was.made; ended = was.ended }) in
    subst T (sym left) (subst V (sym same) base)

pub failed_starts : (old new : StarterState) (path : List ℕ) (arguments : List (List ℕ)) (fault : StartFault) → fault ≡ start.Failed → Starts {T = Unit {0}} old new path arguments (Err fault) → (n : ℕ) × Rose old.slot.failed_starts n × (new ≡ starting old path arguments n)
failed_starts old new path arguments fault is h =
    let F : StartFault → Type 0 = λ f. Starts {T = Unit {0}} old new path arguments (Err f) in
    subst F is h

-- the slot whose program could not be started, before its host tells that
abbrev pub failed_view : {P : Type 0} → SlotView P → P → SlotView P
failed_view was starter = record { starter = starter; child = was.child; failed = true; made = was.made; ended = was.ended }

pub fails_to_start : {P : Type 0} (state : P → StarterState) (h : HostNo) (broker : BrokerState) (was slot : SlotView P) (starter : P) → was ≡ slot → Stands (state slot.starter).writing broker.world (reverse broker.entries) h (slot_of state slot) → slot.ended ≡ false → slot.child ≡ None → slot.failed ≡ false
    → IsSome (program_of broker.world (reverse broker.entries) h)
    → ((p : Program) → program_of broker.world (reverse broker.entries) h ≡ Some p → (n : ℕ) × Rose (state was.starter).slot.failed_starts n × (state starter ≡ starting (state was.starter) p.path p.arguments n))
    → Stands (state starter).writing broker.world (reverse broker.entries) h (slot_of state (failed_view was starter))
fails_to_start {P} state h broker was slot starter same s unended none not_failed known starts =
    let past = reverse broker.entries in
    let (p, is) = some_of (program_of broker.world past h) known in
    let (n, rose, left) = starts p is in
    let R : SlotView P → Type 0 = λ v. Rose (state v.starter).slot.failed_starts n in
    let base = start_fails broker.world past h (slot_of state slot) p n s unended none not_failed is (subst R same rose) in
    let V : SlotView P → Type 0 = λ v. Stands (state v.starter).writing broker.world past h (failed_slot (slot_of state v) p n) in
    let T : StarterState → Type 0 = λ t. Stands t.writing broker.world past h (record { starter = t; child = was.child; failed = true; made = was.made; ended = was.ended }) in
    subst T (sym left) (subst V (sym same) base)

-- a start that failed leaves what children write
pub same_children : {P : Type 0} (state : P → StarterState) (world : WorldLists) (past : List Entry) (h : HostNo) (was slot : SlotView P) (starter : P) → was ≡ slot → IsSome (program_of world past h)
    → ((p : Program) → program_of world past h ≡ Some p → (n : ℕ) × Rose (state was.starter).slot.failed_starts n × (state starter ≡ starting (state was.starter) p.path p.arguments n)) → (state starter).writing ≡ (state slot.starter).writing
same_children {P} state world past h was slot starter same known starts =
    let (p, is) = some_of (program_of world past h) known in
    let (n, rose, left) = starts p is in
    ap (λ (t : StarterState). t.writing) left ∙ ap (λ (v : SlotView P). (state v.starter).writing) same

-- a host tells that its program could not be started
pub tells : {P : Type 0} (state : P → StarterState) (h : HostNo) (old new : BrokerState) (was slot : SlotView P) (a : Answer) → was ≡ slot → Stands (state slot.starter).writing old.world (reverse old.entries) h (slot_of state slot) → slot.ended ≡ false → slot.child ≡ None → slot.failed ≡ true
    → MakesOne (host_over h old) (host_over h new) (HostEnded StartFailed) a
    → IsStarted (state slot.starter).writing old.world h (reverse old.entries) (reverse new.entries) (slot_of state slot) (slot_of state (record { starter = was.starter; child = was.child; failed = was.failed; made = 1; ended = true }))
tells {P} state h old new was slot a same s unended none failed one =
    let past = reverse old.entries in
    let writing = (state slot.starter).writing in
    let now : reverse new.entries ≡ own h (HostEnded StartFailed) a ∷ past = one_past h h old.world (own h (HostEnded StartFailed) a ∷ past) (reverse new.entries) (host_over h new) (one_at h old.world past (host_over h old) (host_over h new) (HostEnded StartFailed) a (at_first h old) one) refl in
    let E : List Entry → Type 0 = λ after. IsStarted writing old.world h past after (slot_of state slot) (told_slot (slot_of state slot)) in
    let V : SlotView P → Type 0 = λ v. IsStarted writing old.world h past (reverse new.entries) (slot_of state slot) (told_slot (slot_of state v)) in
    subst V (sym same) (subst E (sym now) (tells_failed writing old.world past h (slot_of state slot) a s unended none failed))

-- the same, told of the slot before the start
pub tells_of : {P : Type 0} (state : P → StarterState) (h : HostNo) (world : WorldLists) (before after : List Entry) (was slot new : SlotView P) (starter : P) → was ≡ slot → slot.ended ≡ false → slot.child ≡ None → (state starter).writing ≡ (state slot.starter).writing
    → IsStarted (state starter).writing world h before after (slot_of state (failed_view was starter)) (slot_of state new) → IsStarted (state slot.starter).writing world h before after (slot_of state slot) (slot_of state new)
tells_of {P} state h world before after was slot new starter same unended none writing_is s =
    let W : Option Writing → Type 0 = λ w. IsStarted w world h before after (slot_of state (failed_view was starter)) (slot_of state new) in
    let was_none : was.child ≡ None = ap (λ (v : SlotView P). v.child) same ∙ none in
    let was_unended : was.ended ≡ false = ap (λ (v : SlotView P). v.ended) same ∙ unended in
    started_from (state slot.starter).writing world h before after (slot_of state slot) (slot_of state (failed_view was starter)) (slot_of state new) none was_none unended was_unended (subst W writing_is s)

pub tells_if : {P E : Type 0} (state : P → StarterState) (h : HostNo) (world : WorldLists) (before after : List Entry) (was slot new : SlotView P) (starter : P) (r : Result Unit E) → was ≡ slot → slot.ended ≡ false → slot.child ≡ None → (state starter).writing ≡ (state slot.starter).writing
    → OnOk r (IsStarted (state starter).writing world h before after (slot_of state (failed_view was starter)) (slot_of state new)) → OnOk r (IsStarted (state slot.starter).writing world h before after (slot_of state slot) (slot_of state new))
tells_if state h world before after was slot new starter (Ok done) same unended none writing_is s = tells_of state h world before after was slot new starter same unended none writing_is s
tells_if state h world before after was slot new starter (Err e) same unended none writing_is s = tt

-- What a turn answers

pub served_turn : {E : Type 0} (writing : Option Writing) (world : WorldLists) (h : HostNo) (before after : List Entry) (old new : SlotState) (result : Result Served E) → IfOk result (λ served. IsServed writing world h before after old new served) → OnOk result (HostTurn (¬ WasStarted old) h before after)
served_turn writing world h before after old new (Ok served) s = s.turn
served_turn writing world h before after old new (Err e) s = tt

pub served_stands : {E : Type 0} (writing : Option Writing) (world : WorldLists) (h : HostNo) (before after : List Entry) (old new : SlotState) (result : Result Served E) → IfOk result (λ served. IsServed writing world h before after old new served) → OnOk result (Stands writing world after h new)
served_stands writing world h before after old new (Ok served) s = s.stands
served_stands writing world h before after old new (Err e) s = tt

-- A start, and a turn after it

pub served_failed : (writing : Option Writing) (world : WorldLists) (h : HostNo) (a b : List Entry) (slot new : SlotState) → IsStarted writing world h a b slot new → new.ended ≡ true → IsServed writing world h a b slot new Moved
served_failed writing world h a b slot new s ended = record { turn = s.turn ended; stands = s.stands; started = s.started; came = s.less }

came_less : (h : HostNo) (b c : List Entry) (mid new : SlotState) (came : Served) (most : ℕ) → CameTo h b c mid new came → turns_left mid < most → turns_left new < most
came_less h b c mid new Moved most less first = omega (arith, less, first)
came_less h b c mid new Rested most came first =
    let (entries, not_ready, same) = came in
    let left : turns_left new ≡ turns_left mid = ap turns_left same in
    omega (arith, left, first)

pub stands_after : (writing : Option Writing) (world other : WorldLists) (past : List Entry) (h : HostNo) (slot : SlotState) → other ≡ world → Stands writing world past h slot → Stands slot.starter.writing other past h slot
stands_after writing world other past h slot same s =
    let W : WorldLists → Type 0 = λ w. Stands slot.starter.writing w past h slot in
    subst W (sym same) (own_writing writing world past h slot s)

pub served_after : (writing : Option Writing) (world : WorldLists) (h : HostNo) (a b c : List Entry) (slot mid new : SlotState) (came : Served) → IsStarted writing world h a b slot mid → mid.ended ≡ false → IsServed writing world h b c mid new came → IsServed writing world h a c slot new Moved
served_after writing world h a b c slot mid new came s unended served =
    let (same, none) = s.no_entry unended in
    let T : List Entry → Type 0 = λ x. HostTurn (¬ WasStarted slot) h x c in
    let turn = turn_map (λ unstarted. absurd (unstarted s.started)) h b c served.turn in
    record {
      turn = subst T same turn;
      stands = served.stands;
      started = served.started;
      came = came_less h b c mid new came (turns_left slot) served.came s.less;
    }

-- the same, told by what the starter tells after the start
pub served_again : (writing : Option Writing) (world other : WorldLists) (h : HostNo) (a b c : List Entry) (slot mid new : SlotState) (came : Served) → IsStarted writing world h a b slot mid → other ≡ world → mid.ended ≡ false → IsServed mid.starter.writing other h b c mid new came → IsServed writing world h a c slot new Moved
served_again writing world other h a b c slot mid new came s same unended served =
    let W : Option Writing → Type 0 = λ w. IsServed w world h b c mid new came in
    let O : WorldLists → Type 0 = λ o. IsServed mid.starter.writing o h b c mid new came in
    served_after writing world h a b c slot mid new came s unended (subst W (ap (λ (t : StarterState). t.writing) s.stands.alone) (subst O same served))
