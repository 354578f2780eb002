use Rattle.std.proofs.Common.{refl}
use Rattle.std.specs.Prelude.{slice_get}
use Rattle.wx_one_shot.specs.Requests.{without}
use Rattle.wx_mailbox.specs.Mailbox.{paid}
use Rattle.wx_tables.specs.State.{queues_in}
use Rattle.wx_tables.proofs.AskingLater.{asker_owed, owed_settled, owed_open, paid_if, queues_quiet, open_unsettled, settled_after, stays_open, shut_is}
use Rattle.wx_tables.proofs.asking.drop_receiver.Goals as goal

pub pay-requires-clause-owed : goal.pay-requires-clause-owed
pay-requires-clause-owed c = asker_owed c.args.ports.now c.args.requests.now c.args.boxes.now.items c.args.r.0 c.asker-asker.result c.requires.owed (open_unsettled (slice_get c.args.requests.now c.args.r.0) c.args.c c.requires.standing) c.asker-asker.ensures

pub returns-then-drop_receiver-clause-owed : goal.returns-then-drop_receiver-clause-owed
returns-then-drop_receiver-clause-owed c =
    let open_is = open_unsettled (slice_get c.args.requests.now c.args.r.0) c.args.c c.requires.standing in
    let shut = shut_is (slice_get c.args.requests.now c.args.r.0) (without c.args.c) _ _ c.if-drop_receiver.true (settled_after c.args.requests.now c.drop_receiver.new.self c.args.r.0 (without c.args.c) c.drop_receiver.result open_is c.drop_receiver.ensures.requests c.drop_receiver.ensures.settled) in
    owed_settled c.args.ports.now c.args.requests.now c.drop_receiver.new.self c.args.boxes.now.items c.pay.new.boxes.items c.args.r.0 c.asker-asker.result (without c.args.c) (paid c.args.e) (λ b. refl) c.requires.owed open_is c.asker-asker.ensures c.drop_receiver.ensures.requests shut c.pay.ensures

pub returns-then-drop_receiver-clause-queues : goal.returns-then-drop_receiver-clause-queues
returns-then-drop_receiver-clause-queues c =
    let open_is = open_unsettled (slice_get c.args.requests.now c.args.r.0) c.args.c c.requires.standing in
    let shut = shut_is (slice_get c.args.requests.now c.args.r.0) (without c.args.c) _ _ c.if-drop_receiver.true (settled_after c.args.requests.now c.drop_receiver.new.self c.args.r.0 (without c.args.c) c.drop_receiver.result open_is c.drop_receiver.ensures.requests c.drop_receiver.ensures.settled) in
    paid_if (slice_get c.args.requests.now c.args.r.0) c.asker-asker.result (without c.args.c) c.args.e c.args.boxes.now.items c.pay.new.boxes.items shut c.asker-asker.ensures c.pay.ensures

pub returns-else-drop_receiver-clause-owed : goal.returns-else-drop_receiver-clause-owed
returns-else-drop_receiver-clause-owed c =
    let open_is = open_unsettled (slice_get c.args.requests.now c.args.r.0) c.args.c c.requires.standing in
    owed_open c.args.ports.now c.args.requests.now c.drop_receiver.new.self c.args.boxes.now.items c.args.r.0 (without c.args.c) c.requires.owed open_is c.drop_receiver.ensures.requests
    (stays_open c.args.c (slice_get c.args.requests.now c.args.r.0) c.drop_receiver.result c.if-drop_receiver.false (settled_after c.args.requests.now c.drop_receiver.new.self c.args.r.0 (without c.args.c) c.drop_receiver.result open_is c.drop_receiver.ensures.requests c.drop_receiver.ensures.settled))

pub returns-else-drop_receiver-clause-queues : goal.returns-else-drop_receiver-clause-queues
returns-else-drop_receiver-clause-queues c =
    let open_is = open_unsettled (slice_get c.args.requests.now c.args.r.0) c.args.c c.requires.standing in
    queues_quiet (slice_get c.args.requests.now c.args.r.0) (λ request. (without c.args.c request).is_settled) c.args.e (queues_in c.args.boxes.now.items)
    (shut_is (slice_get c.args.requests.now c.args.r.0) (without c.args.c) _ _ c.if-drop_receiver.false (settled_after c.args.requests.now c.drop_receiver.new.self c.args.r.0 (without c.args.c) c.drop_receiver.result open_is c.drop_receiver.ensures.requests c.drop_receiver.ensures.settled))
