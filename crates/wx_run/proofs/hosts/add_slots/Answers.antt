use Rattle.std.proofs.Common.{rules, ◌≡◌, ◌<◌, ◌∙◌, length, reverse, true, arith, ap}
use Rattle.std.specs.Prelude.{is_ok}
use Rattle.wx_machine.specs.Words.{hosts}
use Rattle.wx_host_slot.specs.Slots.{slot_of, slots_of}
use Rattle.wx_run.specs.Slots.{keeping}
use Rattle.wx_run.proofs.AddLemmas.{adding_begins, slot_pushed}
use Rattle.wx_run.proofs.ViewLemmas.{size_of, pushed_of, more_of}
use Rattle.wx_run.proofs.hosts.add_slots.Goals as goal

pub loop-starter-init : goal.loop-starter-init
loop-starter-init g c = adding_begins c.args.broker.now.world _ (g.P.Starter.state c.args.starter.now) (slots_of g.P.Starter.state c.args.slots.now.items) c.requires

pub loop-starter-preserved : goal.loop-starter-preserved
loop-starter-preserved g c =
    let state = g.P.Starter.state in
    let past = reverse c.args.broker.now.entries in
    let slots = slots_of state c.loop-starter.slots.items in
    let ok : is_ok c.push.result ≡ true = search rules in
    let below : length slots < length (hosts past) = omega (arith, size_of state c.loop-starter.slots.items, c.loop-starter.slots.ok.0, c.len.ensures, c.hosts.ensures, c.loop-starter-test.true) in
    slot_pushed c.args.broker.now.world past _ (state c.loop-starter.starter) _ _ (slots_of state c.args.slots.now.items) slots (slots_of state c.push.new.self.items) (slot_of state c.new-slot.result) (is_ok c.push.result)
    c.loop-starter.invariant below c.in_ok-another.ensures.made c.in_ok-another.ensures.kept c.new-slot.ensures (pushed_of state c.loop-starter.slots.items c.push.new.self.items c.new-slot.result (is_ok c.push.result) c.push.ensures.items) ok

pub returns-clause-all : goal.returns-clause-all
returns-clause-all g c =
    let within = c.loop-starter.invariant.stand.below in
    omega (arith, within, size_of g.P.Starter.state c.loop-starter.slots.items, c.loop-starter.slots.ok.0, c.len.ensures, c.hosts.ensures, c.loop-starter-test.false)

pub returns-clause-left : goal.returns-clause-left
returns-clause-left g c =
    let left = c.loop-starter.invariant.left in
    omega (arith, left, more_of g.P.Starter.state c.args.slots.now.items c.loop-starter.slots.items)

pub returns-clause-kept : goal.returns-clause-kept
returns-clause-kept g c =
    let state = g.P.Starter.state in
    c.loop-starter.invariant.kept ∙ ap (λ n. keeping n (state c.args.starter.now)) (more_of state c.args.slots.now.items c.loop-starter.slots.items)
