use Rattle.std.specs.Prelude.{reverse}
use Rattle.wx_host_slot.specs.Slots.{slot_of}
use Rattle.wx_host_slot.proofs.ServeLemmas.{served_turn, served_stands}
use Rattle.wx_host_slot.proofs.slot.HostSlot.serve.Goals as goal

pub returns-then-is_none-clause-turn : goal.returns-then-is_none-clause-turn
returns-then-is_none-clause-turn g c =
    let state = g.P.Starter.state in
    served_turn (state c.args.self.now.starter).writing c.args.desk.now.broker.world c.args.h (reverse c.args.desk.now.broker.entries) (reverse c.start_and_take.new.desk.broker.entries) (slot_of state c.args.self.now) (slot_of state c.start_and_take.new.self) c.start_and_take.result c.start_and_take.ensures.served

pub returns-then-is_none-clause-stands : goal.returns-then-is_none-clause-stands
returns-then-is_none-clause-stands g c =
    let state = g.P.Starter.state in
    served_stands (state c.args.self.now.starter).writing c.args.desk.now.broker.world c.args.h (reverse c.args.desk.now.broker.entries) (reverse c.start_and_take.new.desk.broker.entries) (slot_of state c.args.self.now) (slot_of state c.start_and_take.new.self) c.start_and_take.result c.start_and_take.ensures.served

pub returns-else-is_none-clause-turn : goal.returns-else-is_none-clause-turn
returns-else-is_none-clause-turn g c =
    let state = g.P.Starter.state in
    served_turn (state c.args.self.now.starter).writing c.args.desk.now.broker.world c.args.h (reverse c.args.desk.now.broker.entries) (reverse c.take.new.desk.broker.entries) (slot_of state c.args.self.now) (slot_of state c.take.new.self) c.take.result c.take.ensures.served

pub returns-else-is_none-clause-stands : goal.returns-else-is_none-clause-stands
returns-else-is_none-clause-stands g c =
    let state = g.P.Starter.state in
    served_stands (state c.args.self.now.starter).writing c.args.desk.now.broker.world c.args.h (reverse c.args.desk.now.broker.entries) (reverse c.take.new.desk.broker.entries) (slot_of state c.args.self.now) (slot_of state c.take.new.self) c.take.result c.take.ensures.served
