use Rattle.std.proofs.Common.{subst}
use Rattle.std.specs.Prelude.{reverse}
use Rattle.wx_id.specs.declared.numbers.HostNo.{HostNo}
use Rattle.wx_external.specs.World.{WorldLists}
use Rattle.wx_machine.specs.declared.entries.Who.TheVariants.{Host}
use Rattle.wx_machine.specs.Words.{FollowsMachine, EachAfter}
use Rattle.wx_desk.proofs.OverLemmas.{sound_over, legal_over}
use Rattle.wx_host_launch.specs.Turns.{IsOutTurn}
use Rattle.wx_host_launch.proofs.BrokerLemmas.{host_over}
use Rattle.wx_host_launch.proofs.KeptLemmas.{same_out}
use Rattle.wx_host_slot.specs.Slots.{ChildState}
use Rattle.wx_host_slot.proofs.slot.hear_next.Goals as goal

pub out_turn-came-requires-clause-sound : goal.out_turn-came-requires-clause-sound
out_turn-came-requires-clause-sound g c κs within = sound_over Host c.args.h c.args.desk.now.broker c.requires.legal c.requires.host

pub returns-clause-turn : goal.returns-clause-turn
returns-clause-turn g c =
    let output = g.O.HostOut.state in
    let old = host_over c.args.h c.args.desk.now.broker in
    let reader = c.out_turn-came.new.reader in
    let turn = c.out_turn-came.ensures.turn in
    let T : HostNo → Type 0 = λ h. IsOutTurn old (host_over h c.out_turn-came.new.desk.broker) c.child.inside.reader reader (output c.child.inside.output) (output c.out_turn-came.new.output) c.out_turn-came.result in
    let C : ChildState → Type 0 = λ child. IsOutTurn old (host_over c.args.h c.out_turn-came.new.desk.broker) child.reader reader child.output (output c.out_turn-came.new.output) c.out_turn-came.result in
    subst C c.child.view_is (subst T (same_out _ _ _ _ _ _ _ turn).0 turn)

pub returns-clause-legal : goal.returns-clause-legal
returns-clause-legal g c =
    let new = c.out_turn-came.new.desk in
    let L : WorldLists → Type 0 = λ w. EachAfter (FollowsMachine w) (reverse new.broker.entries) in
    subst L (same_out _ _ _ _ _ _ _ c.out_turn-came.ensures.turn).1 (legal_over Host new.host new.broker c.out_turn-came.ensures.sound)
