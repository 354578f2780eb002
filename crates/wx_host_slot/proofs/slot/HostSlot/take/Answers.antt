use Rattle.std.proofs.Common.{◌∙◌, sym}
use Rattle.wx_host_slot.proofs.ServeLemmas.{slot_kept, taken_on, taken_none, taken_last}
use Rattle.wx_host_slot.proofs.slot.HostSlot.take.Goals as goal

pub returns-in-Moved-clause-served : goal.returns-in-Moved-clause-served
returns-in-Moved-clause-served g c =
    let was = slot_kept c.self.inside.starter c.self.inside.child c.self.inside.failed c.self.inside.made c.self.inside.ended in
    taken_on g.P.Starter.state c.args.h c.args.desk.now.broker c.take_next-child.new.desk.broker was c.args.self.now c.in-Some.child c.take_next-child.result.0 c.take_next-child.result.1 c.self.view_is (sym c.take.ensures.value ∙ c.in-Some.is) c.requires.stands c.requires.unended c.requires.room
    c.take_next-child.ensures.legal c.take_next-child.ensures.turn c.take_next-child.ensures.same c.in-Moved.is

pub returns-in-Waits-clause-served : goal.returns-in-Waits-clause-served
returns-in-Waits-clause-served g c =
    let was = slot_kept c.self.inside.starter c.self.inside.child c.self.inside.failed c.self.inside.made c.self.inside.ended in
    taken_none g.P.Starter.state c.args.h c.args.desk.now.broker c.take_next-child.new.desk.broker was c.args.self.now c.in-Some.child c.take_next-child.result.0 c.take_next-child.result.1 c.self.view_is (sym c.take.ensures.value ∙ c.in-Some.is) c.requires.stands c.requires.unended c.requires.room
    c.take_next-child.ensures.turn c.take_next-child.ensures.same c.in-Waits.is

pub returns-in-Ended-clause-served : goal.returns-in-Ended-clause-served
returns-in-Ended-clause-served g c =
    let was = slot_kept c.self.inside.starter c.self.inside.child c.self.inside.failed c.self.inside.made c.self.inside.ended in
    taken_last g.P.Starter.state c.args.h c.args.desk.now.broker c.take_next-child.new.desk.broker was c.args.self.now c.in-Some.child c.take_next-child.result.0 c.take_next-child.result.1 c.self.view_is (sym c.take.ensures.value ∙ c.in-Some.is) c.requires.stands c.requires.unended c.requires.room
    c.take_next-child.ensures.legal c.take_next-child.ensures.turn c.take_next-child.ensures.same c.in-Ended.is
