use Rattle.std.proofs.Common.{[], ◌∷◌}
use Rattle.std.specs.Prelude.{slice_get}
use Rattle.wx_tables.proofs.OwedLater.{ends_owed, owed_after, queues_after, opener_hears}
use Rattle.wx_tables.proofs.ending.end_by_host.Goals as goal

pub end_by_receiver-requires-clause-owed : goal.end_by_receiver-requires-clause-owed
end_by_receiver-requires-clause-owed c = ends_owed c.args.ports.now c.args.requests.now c.args.boxes.now.items c.args.k.0 c.requires.owed

pub returns-clause-owed : goal.returns-clause-owed
returns-clause-owed c = owed_after c.args.ports.now c.close.new.self c.args.requests.now c.args.boxes.now.items c.end_by_receiver.new.boxes.items c.args.k.0 (λ port. port.opener ∷ []) c.args.e c.requires.owed c.requires.is_open c.end_by_receiver.ensures c.close.ensures

pub returns-clause-queues : goal.returns-clause-queues
returns-clause-queues c = queues_after (slice_get c.args.ports.now c.args.k.0) c.args.boxes.now.items c.end_by_receiver.new.boxes.items (λ port. port.opener ∷ []) c.args.e (opener_hears (slice_get c.args.ports.now c.args.k.0) c.requires.is_open) c.end_by_receiver.ensures
