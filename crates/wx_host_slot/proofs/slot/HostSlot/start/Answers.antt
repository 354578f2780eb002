use Rattle.std.proofs.Common.{false}
use Rattle.std.specs.Prelude.{reverse}
use Rattle.wx_host_slot.proofs.ServeLemmas.{slot_kept, failed_as, starts_child, failed_starts, same_children, tells_if}
use Rattle.wx_host_slot.proofs.slot.HostSlot.start.Goals as goal

pub returns-in-Ok-clause-started : goal.returns-in-Ok-clause-started
returns-in-Ok-clause-started g c =
    let was = slot_kept c.self.inside.starter c.self.inside.child c.self.inside.failed c.self.inside.made c.self.inside.ended in
    starts_child g.P.Starter.state c.args.h c.args.desk.now.broker was c.args.self.now c.launch.new.starter (g.P.In.HostIn.state c.in-Ok.input) (g.P.Out.HostOut.state c.in-Ok.output) c.new.result c.self.view_is c.requires.stands c.requires.unended c.requires.none
    (failed_as was c.args.self.now false c.self.view_is c.if-self.false) c.in-Ok.ensures.known c.in-Ok.ensures.slot c.in-Ok.ensures.ends c.new.ensures.limit c.new.ensures.bytes

pub returns-in-Err-Failed-clause-started : goal.returns-in-Err-Failed-clause-started
returns-in-Err-Failed-clause-started g c =
    let state = g.P.Starter.state in
    let world = c.args.desk.now.broker.world in
    let past = reverse c.args.desk.now.broker.entries in
    let was = slot_kept c.self.inside.starter c.self.inside.child c.self.inside.failed c.self.inside.made c.self.inside.ended in
    tells_if state c.args.h world past (reverse c.tell_failed-in-Err-Failed.new.desk.broker.entries) was c.args.self.now c.tell_failed-in-Err-Failed.new.self c.launch.new.starter c.tell_failed-in-Err-Failed.result c.self.view_is c.requires.unended c.requires.none
    (same_children state world past c.args.h was c.args.self.now c.launch.new.starter c.self.view_is c.in-Err-Failed.ensures.known
    (λ p is. failed_starts (state was.starter) (state c.launch.new.starter) p.path p.arguments c.in-Err-Failed.field-0 c.in-Err-Failed.field-0-is (c.in-Err-Failed.ensures.slot p is)))
    c.tell_failed-in-Err-Failed.ensures.started
