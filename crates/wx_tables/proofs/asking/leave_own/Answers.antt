use Rattle.std.proofs.Common.{refl, [], ◌∷◌}
use Rattle.std.specs.Prelude.{slice_get}
use Rattle.wx_one_shot.specs.Requests.{settled}
use Rattle.wx_mailbox.specs.Mailbox.{forgiven}
use Rattle.wx_tables.proofs.AskingLater.{asker_owed, owed_settled, always}
use Rattle.wx_tables.proofs.LeavingLater.{queues_same}
use Rattle.wx_tables.proofs.asking.leave_own.Goals as goal

pub forgive-requires-clause-owed : goal.forgive-requires-clause-owed
forgive-requires-clause-owed c = asker_owed c.args.ports.now c.args.requests.now c.args.boxes.now.items c.args.r.0 c.args.c c.requires.owed c.requires.unsettled c.requires.asker

pub returns-clause-owed : goal.returns-clause-owed
returns-clause-owed c = owed_settled c.args.ports.now c.args.requests.now c.settle.new.self c.args.boxes.now.items c.forgive.new.boxes.items c.args.r.0 c.args.c settled forgiven (λ b. refl) c.requires.owed c.requires.unsettled c.requires.asker c.settle.ensures (always (slice_get c.args.requests.now c.args.r.0)) c.forgive.ensures

pub returns-clause-queues : goal.returns-clause-queues
returns-clause-queues c = queues_same (c.args.c ∷ []) c.args.boxes.now.items c.forgive.new.boxes.items c.forgive.ensures
