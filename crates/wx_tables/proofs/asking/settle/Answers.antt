use Rattle.std.proofs.Common.{refl, true}
use Rattle.std.specs.Prelude.{slice_get}
use Rattle.wx_one_shot.specs.Requests.{settled}
use Rattle.wx_mailbox.specs.Mailbox.{paid}
use Rattle.wx_tables.proofs.AskingLater.{asker_owed, owed_settled, queues_paid, always}
use Rattle.wx_tables.proofs.asking.settle.Goals as goal

pub pay-requires-clause-owed : goal.pay-requires-clause-owed
pay-requires-clause-owed c = asker_owed c.args.ports.now c.args.requests.now c.args.boxes.now.items c.args.r.0 c.asker-asker.result c.requires.owed c.requires.unsettled c.asker-asker.ensures

pub returns-clause-owed : goal.returns-clause-owed
returns-clause-owed c = owed_settled c.args.ports.now c.args.requests.now c.settle.new.self c.args.boxes.now.items c.pay.new.boxes.items c.args.r.0 c.asker-asker.result settled (paid c.args.e) (λ b. refl) c.requires.owed c.requires.unsettled c.asker-asker.ensures c.settle.ensures (always (slice_get c.args.requests.now c.args.r.0)) c.pay.ensures

pub returns-clause-queues : goal.returns-clause-queues
returns-clause-queues c = queues_paid (slice_get c.args.requests.now c.args.r.0) c.asker-asker.result true c.args.e c.args.boxes.now.items c.pay.new.boxes.items refl c.asker-asker.ensures c.pay.ensures
