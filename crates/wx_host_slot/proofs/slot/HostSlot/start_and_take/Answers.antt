use Rattle.std.specs.Prelude.{reverse, true, false}
use Rattle.wx_host_slot.specs.Slots.{slot_of}
use Rattle.wx_host_slot.proofs.ServeLemmas.{slot_kept, ended_as, stands_after, served_again, served_failed}
use Rattle.wx_host_slot.proofs.slot.HostSlot.start_and_take.Goals as goal

pub take-requires-clause-stands : goal.take-requires-clause-stands
take-requires-clause-stands g c = λ lifetimes bounds.
    let state = g.P.Starter.state in
    stands_after (state c.args.self.now.starter).writing c.args.desk.now.broker.world c.start.new.desk.broker.world (reverse c.start.new.desk.broker.entries) c.args.h (slot_of state c.start.new.self) c.in_ok-start.ensures.same_world c.in_ok-start.ensures.started.stands

pub returns-in_ok-take-clause-served : goal.returns-in_ok-take-clause-served
returns-in_ok-take-clause-served g c =
    let state = g.P.Starter.state in
    let was = slot_kept c.self.inside.starter c.self.inside.child c.self.inside.failed c.self.inside.made c.self.inside.ended in
    served_again (state c.args.self.now.starter).writing c.args.desk.now.broker.world c.start.new.desk.broker.world c.args.h (reverse c.args.desk.now.broker.entries) (reverse c.start.new.desk.broker.entries) (reverse c.take.new.desk.broker.entries) (slot_of state c.args.self.now) (slot_of state c.start.new.self) (slot_of state c.take.new.self) c.in_ok-take.field-0
    c.in_ok-start.ensures.started c.in_ok-start.ensures.same_world (ended_as was c.start.new.self false c.self.view_is c.if-not-self.true) c.in_ok-take.ensures.served

pub returns-else-not-self-clause-served : goal.returns-else-not-self-clause-served
returns-else-not-self-clause-served g c =
    let state = g.P.Starter.state in
    let was = slot_kept c.self.inside.starter c.self.inside.child c.self.inside.failed c.self.inside.made c.self.inside.ended in
    served_failed (state c.args.self.now.starter).writing c.args.desk.now.broker.world c.args.h (reverse c.args.desk.now.broker.entries) (reverse c.start.new.desk.broker.entries) (slot_of state c.args.self.now) (slot_of state c.start.new.self) c.in_ok-start.ensures.started (ended_as was c.start.new.self true c.self.view_is c.if-not-self.false)
