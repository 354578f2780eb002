use Rattle.std.proofs.Common.{◌∙◌, sym}
use Rattle.wx_host_slot.specs.Slots.{slot_of}
use Rattle.wx_host_slot.proofs.EndLemmas.{room_left}
use Rattle.wx_host_slot.proofs.ServeLemmas.{slot_kept, heard_on, heard_last, heard_never, reader_limit}
use Rattle.wx_host_slot.proofs.slot.HostSlot.hear.Goals as goal

pub hear_next-child-requires-clause-limit : goal.hear_next-child-requires-clause-limit
hear_next-child-requires-clause-limit g c = λ lifetimes bounds.
    let was = slot_kept c.self.inside.starter c.self.inside.child c.self.inside.failed c.self.inside.made c.self.inside.ended in
    let room = room_left (slot_of g.P.Starter.state c.args.self.now) c.requires.unspent c.requires.unended in
    reader_limit g.P.Starter.state c.args.h c.args.desk.now.broker was c.args.self.now c.in-Some.child c.self.view_is (sym c.take.ensures.value ∙ c.in-Some.is) c.requires.stands c.requires.unended room

pub unreachable-requires-in-Waits : goal.unreachable-requires-in-Waits
unreachable-requires-in-Waits g c =
    let was = slot_kept c.self.inside.starter c.self.inside.child c.self.inside.failed c.self.inside.made c.self.inside.ended in
    let room = room_left (slot_of g.P.Starter.state c.args.self.now) c.requires.unspent c.requires.unended in
    heard_never g.P.Starter.state c.args.h c.args.desk.now.broker c.hear_next-child.new.desk.broker was c.args.self.now c.in-Some.child c.hear_next-child.result.0 c.hear_next-child.result.1 c.self.view_is (sym c.take.ensures.value ∙ c.in-Some.is) c.requires.stands c.requires.unended room
    c.requires.none_to_take c.hear_next-child.ensures.turn c.in-Waits.is

pub returns-in-Moved-clause-turn : goal.returns-in-Moved-clause-turn
returns-in-Moved-clause-turn g c =
    let was = slot_kept c.self.inside.starter c.self.inside.child c.self.inside.failed c.self.inside.made c.self.inside.ended in
    let room = room_left (slot_of g.P.Starter.state c.args.self.now) c.requires.unspent c.requires.unended in
    (heard_on g.P.Starter.state c.args.h c.args.desk.now.broker c.hear_next-child.new.desk.broker was c.args.self.now c.in-Some.child c.hear_next-child.result.0 c.hear_next-child.result.1 c.self.view_is (sym c.take.ensures.value ∙ c.in-Some.is) c.requires.stands c.requires.unended room
    c.hear_next-child.ensures.limit c.hear_next-child.ensures.turn c.hear_next-child.ensures.same c.in-Moved.is).turn

pub returns-in-Moved-clause-stands : goal.returns-in-Moved-clause-stands
returns-in-Moved-clause-stands g c =
    let was = slot_kept c.self.inside.starter c.self.inside.child c.self.inside.failed c.self.inside.made c.self.inside.ended in
    let room = room_left (slot_of g.P.Starter.state c.args.self.now) c.requires.unspent c.requires.unended in
    (heard_on g.P.Starter.state c.args.h c.args.desk.now.broker c.hear_next-child.new.desk.broker was c.args.self.now c.in-Some.child c.hear_next-child.result.0 c.hear_next-child.result.1 c.self.view_is (sym c.take.ensures.value ∙ c.in-Some.is) c.requires.stands c.requires.unended room
    c.hear_next-child.ensures.limit c.hear_next-child.ensures.turn c.hear_next-child.ensures.same c.in-Moved.is).stands

pub returns-in-Ended-clause-turn : goal.returns-in-Ended-clause-turn
returns-in-Ended-clause-turn g c =
    let was = slot_kept c.self.inside.starter c.self.inside.child c.self.inside.failed c.self.inside.made c.self.inside.ended in
    let room = room_left (slot_of g.P.Starter.state c.args.self.now) c.requires.unspent c.requires.unended in
    (heard_last g.P.Starter.state c.args.h c.args.desk.now.broker c.hear_next-child.new.desk.broker was c.args.self.now c.in-Some.child c.hear_next-child.result.0 c.hear_next-child.result.1 c.self.view_is (sym c.take.ensures.value ∙ c.in-Some.is) c.requires.stands c.requires.unended room
    c.hear_next-child.ensures.turn c.hear_next-child.ensures.same c.in-Ended.is).turn

pub returns-in-Ended-clause-stands : goal.returns-in-Ended-clause-stands
returns-in-Ended-clause-stands g c =
    let was = slot_kept c.self.inside.starter c.self.inside.child c.self.inside.failed c.self.inside.made c.self.inside.ended in
    let room = room_left (slot_of g.P.Starter.state c.args.self.now) c.requires.unspent c.requires.unended in
    (heard_last g.P.Starter.state c.args.h c.args.desk.now.broker c.hear_next-child.new.desk.broker was c.args.self.now c.in-Some.child c.hear_next-child.result.0 c.hear_next-child.result.1 c.self.view_is (sym c.take.ensures.value ∙ c.in-Some.is) c.requires.stands c.requires.unended room
    c.hear_next-child.ensures.turn c.hear_next-child.ensures.same c.in-Ended.is).stands
