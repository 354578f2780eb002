use Rattle.std.specs.Vec.Iter.{into_iter_items, into_iter_len}
use Rattle.wx_host_slot.specs.Slots.{slots_of}
use Rattle.wx_run.proofs.FinishLemmas.{FinishedSoFar}
use Rattle.wx_run.proofs.hosts.finish_hosts.Given as goal

-- the slots that are left still have their places, and their records are to come
abbrev pub invariant-loop-slot : goal.invariant-loop-slot
invariant-loop-slot g l =
    let state = g.P.Starter.state in
    FinishedSoFar (state l.initial.starter) (state l.starter) (slots_of state l.fn.slots.items) (slots_of state (into_iter_items l.slot-iterator)) (into_iter_len l.slot-iterator)
