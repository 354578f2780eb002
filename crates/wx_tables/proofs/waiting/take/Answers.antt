use Rattle.std.specs.Prelude.{drop}
use Rattle.std.proofs.lemmas.List.{length-map}
use Rattle.wx_tables.specs.State.{queue_in}
use Rattle.wx_tables.proofs.OwedLater.{queues_at}
use Rattle.wx_tables.proofs.waiting.take.Goals as goal

pub returns-clause-queues : goal.returns-clause-queues
returns-clause-queues c = queues_at c.args.boxes.now.items c.args.c (λ queue. drop 1 queue) c.index_mut.result.now c.take.new.self (rw (length-map c.args.boxes.now.items queue_in) at c.requires.there) c.index_mut.ensures.value c.take.ensures.events
