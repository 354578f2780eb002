use Rattle.std.proofs.Common.{◌∙◌, arith, ap, sym}
use Rattle.std.specs.Vec.Iter.{into_iter_items}
use Rattle.wx_host_slot.specs.Slots.{slot_of, slots_of}
use Rattle.wx_run.proofs.FinishLemmas.{finishing_begins, place_left, slot_absorbed, all_finished}
use Rattle.wx_run.proofs.ViewLemmas.{size_of}
use Rattle.wx_run.proofs.hosts.finish_hosts.Goals as goal

pub loop-slot-init : goal.loop-slot-init
loop-slot-init g c =
    let state = g.P.Starter.state in
    let size = size_of state c.args.slots.items in
    let gives = c.into_iter-slot-iterator.ensures.into_iter_gives in
    finishing_begins (state c.args.starter.now) (slots_of state c.args.slots.items) _ _ (ap (slots_of state) gives.0) (gives.1 ∙ c.args.slots.ok.0 ∙ sym size) (omega (arith, size, c.requires))

pub absorb-requires : goal.absorb-requires
absorb-requires g c =
    let state = g.P.Starter.state in
    place_left _ _ _ (slots_of state (into_iter_items c.loop-slot.slot-iterator)) (slots_of state (into_iter_items c.next.new.self)) (slot_of state c.in-Some.slot) _ c.loop-slot.invariant (ap (slots_of state) c.in-Some.ensures.steps.0)

pub loop-slot-preserved : goal.loop-slot-preserved
loop-slot-preserved g c =
    let state = g.P.Starter.state in
    slot_absorbed _ (state c.loop-slot.starter) _ (state c.finish.result) (slots_of state c.args.slots.items) (slots_of state (into_iter_items c.loop-slot.slot-iterator)) (slots_of state (into_iter_items c.next.new.self)) (slot_of state c.in-Some.slot) _ _
    c.loop-slot.invariant (ap (slots_of state) c.in-Some.ensures.steps.0) c.in-Some.ensures.steps.1 c.finish.ensures c.absorb.ensures

pub returns : goal.returns
returns g c = all_finished _ _ (slots_of g.P.Starter.state c.args.slots.items) _ _ c.loop-slot.invariant c.in-None.ensures.steps.0
