use Rattle.std.proofs.Common.{subst}
use Rattle.std.specs.Prelude.{reverse}
use Rattle.wx_id.specs.declared.numbers.HostNo.{HostNo}
use Rattle.wx_external.specs.World.{WorldLists}
use Rattle.wx_machine.specs.declared.entries.Who.TheVariants.{Host}
use Rattle.wx_machine.specs.declared.entries.Call.TheVariants.{HostEnded}
use Rattle.wx_machine.specs.declared.entries.Reason.TheVariants.{StartFailed}
use Rattle.wx_machine.specs.Words.{FollowsMachine, EachAfter}
use Rattle.wx_desk.specs.Desks.{MakesOne}
use Rattle.wx_desk.proofs.OverLemmas.{sound_over, legal_over}
use Rattle.wx_host_launch.proofs.BrokerLemmas.{host_over}
use Rattle.wx_host_launch.proofs.KeptLemmas.{same_one}
use Rattle.wx_host_slot.proofs.ServeLemmas.{slot_kept, tells}
use Rattle.wx_host_slot.proofs.slot.HostSlot.tell_failed.Goals as goal

pub host_ended-requires-clause-sound : goal.host_ended-requires-clause-sound
host_ended-requires-clause-sound g c = sound_over Host c.args.h c.args.desk.now.broker c.requires.legal c.requires.host

pub returns-clause-started : goal.returns-clause-started
returns-clause-started g c =
    let was = slot_kept c.self.inside.starter c.self.inside.child c.self.inside.failed c.self.inside.made c.self.inside.ended in
    let one = c.in_ok-host_ended.ensures.made in
    let T : HostNo → Type 0 = λ h. MakesOne (host_over c.args.h c.args.desk.now.broker) (host_over h c.host_ended.new.self.broker) (HostEnded StartFailed) c.in_ok-host_ended.field-0 in
    tells g.P.Starter.state c.args.h c.args.desk.now.broker c.host_ended.new.self.broker was c.args.self.now c.in_ok-host_ended.field-0 c.self.view_is c.requires.stands c.requires.unended c.requires.none c.requires.failed (subst T (same_one _ _ _ _ one).0 one)

pub returns-clause-legal : goal.returns-clause-legal
returns-clause-legal g c =
    let new = c.host_ended.new.self in
    let L : WorldLists → Type 0 = λ w. EachAfter (FollowsMachine w) (reverse new.broker.entries) in
    subst L (same_one _ _ _ _ c.in_ok-host_ended.ensures.made).1 (legal_over Host new.host new.broker c.in_ok-host_ended.ensures.sound)
