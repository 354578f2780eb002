use Rattle.std.proofs.Common.{◌-◌, length, reverse}
use Rattle.wx_machine.specs.Words.{hosts}
use Rattle.wx_host_slot.specs.Slots.{slots_of}
use Rattle.wx_run.proofs.AddLemmas.{AddedSoFar}
use Rattle.wx_run.proofs.hosts.add_slots.Given as goal

-- what was added so far
abbrev pub invariant-loop-starter : goal.invariant-loop-starter
invariant-loop-starter g l =
    let state = g.P.Starter.state in
    AddedSoFar l.broker.world (reverse l.broker.entries) (state l.initial.starter) (state l.starter) (slots_of state l.initial.slots.items) (slots_of state l.slots.items)

-- hosts without a slot
abbrev pub decreases-loop-starter : goal.decreases-loop-starter
decreases-loop-starter g l = length (hosts (reverse l.broker.entries)) - length l.slots.items
