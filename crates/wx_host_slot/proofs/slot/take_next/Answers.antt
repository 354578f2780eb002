use Rattle.std.proofs.Common.{subst}
use Rattle.std.specs.Prelude.{reverse}
use Rattle.wx_id.specs.declared.numbers.HostNo.{HostNo}
use Rattle.wx_external.specs.World.{WorldLists}
use Rattle.wx_machine.specs.declared.entries.Who.TheVariants.{Host}
use Rattle.wx_machine.specs.Words.{FollowsMachine, EachAfter}
use Rattle.wx_desk.proofs.OverLemmas.{sound_over, legal_over}
use Rattle.wx_host_launch.specs.Turns.{IsInTurn}
use Rattle.wx_host_launch.proofs.BrokerLemmas.{host_over}
use Rattle.wx_host_launch.proofs.KeptLemmas.{same_in}
use Rattle.wx_host_slot.specs.Slots.{ChildState}
use Rattle.wx_host_slot.proofs.slot.take_next.Goals as goal

pub in_turn-came-requires-clause-sound : goal.in_turn-came-requires-clause-sound
in_turn-came-requires-clause-sound g c κs within = sound_over Host c.args.h c.args.desk.now.broker c.requires.legal c.requires.host

pub returns-clause-turn : goal.returns-clause-turn
returns-clause-turn g c =
    let input = g.I.HostIn.state in
    let old = host_over c.args.h c.args.desk.now.broker in
    let turn = c.in_turn-came.ensures.turn in
    let T : HostNo → Type 0 = λ h. IsInTurn old (host_over h c.in_turn-came.new.desk.broker) (input c.child.inside.input) (input c.in_turn-came.new.input) c.in_turn-came.result in
    let C : ChildState → Type 0 = λ child. IsInTurn old (host_over c.args.h c.in_turn-came.new.desk.broker) child.input (input c.in_turn-came.new.input) c.in_turn-came.result in
    subst C c.child.view_is (subst T (same_in _ _ _ _ _ turn).0 turn)

pub returns-clause-legal : goal.returns-clause-legal
returns-clause-legal g c =
    let new = c.in_turn-came.new.desk in
    let L : WorldLists → Type 0 = λ w. EachAfter (FollowsMachine w) (reverse new.broker.entries) in
    subst L (same_in _ _ _ _ _ c.in_turn-came.ensures.turn).1 (legal_over Host new.host new.broker c.in_turn-came.ensures.sound)
