use Rattle.std.proofs.Common.{◌≡◌, ◌+◌, ◌<◌, ◌∙◌, Bool, length, reverse, arith, sym, subst, refl}
use Rattle.std.specs.Prelude.{◌||◌}
use Rattle.std.proofs.lemmas.List.{length-set}
use Rattle.wx_machine.specs.Words.{IsLegal, hosts}
use Rattle.wx_script.specs.declared.scene.SpentWho.TheVariants.{Host}
use Rattle.wx_host_slot.specs.Slots.{Stands, slot_of, slots_of}
use Rattle.wx_run.specs.declared.rounds.Rounded.TheVariants.{Spent}
use Rattle.wx_run.specs.Hosts.{host_numbered}
use Rattle.wx_run.specs.Slots.{HostsStand}
use Rattle.wx_run.specs.Serving.{HostsServed}
use Rattle.wx_run.proofs.ServeLemmas.{ServedSoFar, serving_begins, stand_behind, IsNextTurn, is_turn, turn_served, turn_spends, all_moved, all_rested}
use Rattle.wx_run.proofs.ViewLemmas.{size_of, set_of, view_at}
use Rattle.wx_run.proofs.hosts.serve_hosts.Goals as goal

pub loop-i-init : goal.loop-i-init
loop-i-init g c = record {
  same_length = sym c.len-i-end.ensures;
  same_size = refl;
  same_world = refl;
  legal = c.requires.legal;
  so_far = serving_begins c.args.desk.now.broker.world (slots_of g.P.Starter.state c.args.slots.now.items) _ c.requires.unspent;
}

pub serve-requires-clause-stands : goal.serve-requires-clause-stands
serve-requires-clause-stands g c κs within =
    let state = g.P.Starter.state in
    let i = c.loop-i.i in
    let world = c.args.desk.now.broker.world in
    let so = c.loop-i.invariant.so_far in
    let p = slot_of state c.index_mut-slot.result.now in
    let a = reverse c.loop-i.desk.broker.entries in
    let below : i < length c.loop-i.slots.items = omega (arith, c.loop-i.slots.ok.0, c.loop-i.invariant.same_length, c.loop-i-test.true) in
    let slot = view_at state c.requires.stand.0 world i c.loop-i.slots.items a c.index_mut-slot.result.now (so.stand c.requires.stand.0 c.requires.stand.1) so.unspent below c.index_mut-slot.ensures.value in
    subst (λ w. Stands p.starter.writing w a (host_numbered i) p) (sym c.loop-i.invariant.same_world) slot.stands

pub serve-requires-clause-unspent : goal.serve-requires-clause-unspent
serve-requires-clause-unspent g c κs within =
    let state = g.P.Starter.state in
    let i = c.loop-i.i in
    let world = c.args.desk.now.broker.world in
    let so = c.loop-i.invariant.so_far in
    let p = slot_of state c.index_mut-slot.result.now in
    let a = reverse c.loop-i.desk.broker.entries in
    let below : i < length c.loop-i.slots.items = omega (arith, c.loop-i.slots.ok.0, c.loop-i.invariant.same_length, c.loop-i-test.true) in
    let slot = view_at state c.requires.stand.0 world i c.loop-i.slots.items a c.index_mut-slot.result.now (so.stand c.requires.stand.0 c.requires.stand.1) so.unspent below c.index_mut-slot.ensures.value in
    slot.unspent

pub returns-then-is_spent-clause-stand : goal.returns-then-is_spent-clause-stand
returns-then-is_spent-clause-stand g c =
    let state = g.P.Starter.state in
    let i = c.loop-i.i in
    let world = c.args.desk.now.broker.world in
    let so = c.loop-i.invariant.so_far in
    let p = slot_of state c.index_mut-slot.result.now in
    let a = reverse c.loop-i.desk.broker.entries in
    let below : i < length c.loop-i.slots.items = omega (arith, c.loop-i.slots.ok.0, c.loop-i.invariant.same_length, c.loop-i-test.true) in
    let slot = view_at state c.requires.stand.0 world i c.loop-i.slots.items a c.index_mut-slot.result.now (so.stand c.requires.stand.0 c.requires.stand.1) so.unspent below c.index_mut-slot.ensures.value in
    let b = reverse c.serve.new.desk.broker.entries in
    let q = slot_of state c.serve.new.self in
    let slots = slots_of state c.loop-i.slots.items in
    let next : IsNextTurn world i slots a b p q c.in_ok-served.served = record {
      at = slot.at;
      turn = c.in_ok-served.ensures.turn;
      stands = subst (λ w. Stands p.starter.writing w b (host_numbered i) q) c.loop-i.invariant.same_world c.in_ok-served.ensures.stands;
      started = c.in_ok-served.ensures.started;
      came_to = c.in_ok-served.ensures.came;
    } in
    λ writing first. subst (λ s. HostsStand writing world b s) (set_of state c.loop-i.slots.items i c.serve.new.self)
    (stand_behind writing world i slots a b p q so.unspent (is_turn world i slots a b p q c.in_ok-served.served next) (so.stand writing first))

pub returns-then-is_spent-clause-served : goal.returns-then-is_spent-clause-served
returns-then-is_spent-clause-served g c =
    let state = g.P.Starter.state in
    let i = c.loop-i.i in
    let world = c.args.desk.now.broker.world in
    let so = c.loop-i.invariant.so_far in
    let p = slot_of state c.index_mut-slot.result.now in
    let a = reverse c.loop-i.desk.broker.entries in
    let below : i < length c.loop-i.slots.items = omega (arith, c.loop-i.slots.ok.0, c.loop-i.invariant.same_length, c.loop-i-test.true) in
    let slot = view_at state c.requires.stand.0 world i c.loop-i.slots.items a c.index_mut-slot.result.now (so.stand c.requires.stand.0 c.requires.stand.1) so.unspent below c.index_mut-slot.ensures.value in
    let b = reverse c.serve.new.desk.broker.entries in
    let q = slot_of state c.serve.new.self in
    let slots = slots_of state c.loop-i.slots.items in
    let next : IsNextTurn world i slots a b p q c.in_ok-served.served = record {
      at = slot.at;
      turn = c.in_ok-served.ensures.turn;
      stands = subst (λ w. Stands p.starter.writing w b (host_numbered i) q) c.loop-i.invariant.same_world c.in_ok-served.ensures.stands;
      started = c.in_ok-served.ensures.started;
      came_to = c.in_ok-served.ensures.came;
    } in
    let old = slots_of state c.args.slots.now.items in
    let past = reverse c.args.desk.now.broker.entries in
    λ known first. subst (λ s. HostsServed known past b old s (Spent (Host (host_numbered i)))) (set_of state c.loop-i.slots.items i c.serve.new.self)
    (turn_spends c.requires.stand.0 world i old slots past a b p q c.loop-i.moved c.in_ok-served.served c.requires.stand.1 (size_of state c.args.slots.now.items ∙ c.requires.all) so next (sym {A = Bool} c.if-is_spent.ensures) known first)

pub loop-i-preserved : goal.loop-i-preserved
loop-i-preserved g c =
    let state = g.P.Starter.state in
    let i = c.loop-i.i in
    let world = c.args.desk.now.broker.world in
    let so = c.loop-i.invariant.so_far in
    let p = slot_of state c.index_mut-slot.result.now in
    let a = reverse c.loop-i.desk.broker.entries in
    let below : i < length c.loop-i.slots.items = omega (arith, c.loop-i.slots.ok.0, c.loop-i.invariant.same_length, c.loop-i-test.true) in
    let slot = view_at state c.requires.stand.0 world i c.loop-i.slots.items a c.index_mut-slot.result.now (so.stand c.requires.stand.0 c.requires.stand.1) so.unspent below c.index_mut-slot.ensures.value in
    let b = reverse c.serve.new.desk.broker.entries in
    let q = slot_of state c.serve.new.self in
    let slots = slots_of state c.loop-i.slots.items in
    let next : IsNextTurn world i slots a b p q c.in_ok-served.served = record {
      at = slot.at;
      turn = c.in_ok-served.ensures.turn;
      stands = subst (λ w. Stands p.starter.writing w b (host_numbered i) q) c.loop-i.invariant.same_world c.in_ok-served.ensures.stands;
      started = c.in_ok-served.ensures.started;
      came_to = c.in_ok-served.ensures.came;
    } in
    let old = slots_of state c.args.slots.now.items in
    let past = reverse c.args.desk.now.broker.entries in
    record {
      same_length = c.loop-i.invariant.same_length;
      same_size = length-set c.loop-i.slots.items i c.serve.new.self ∙ c.loop-i.invariant.same_size;
      same_world = c.in_ok-served.ensures.same_world ∙ c.loop-i.invariant.same_world;
      legal = subst (λ w. IsLegal w c.serve.new.desk.broker.entries) c.loop-i.invariant.same_world c.in_ok-served.ensures.legal;
      so_far = subst (λ s. ServedSoFar world (i + 1) old s past b (c.loop-i.moved || c.has_moved.result)) (set_of state c.loop-i.slots.items i c.serve.new.self)
          (turn_served world i old slots past a b p q c.loop-i.moved c.has_moved.result c.in_ok-served.served so next c.has_moved.ensures (sym {A = Bool} c.if-is_spent.ensures));
    }

pub returns-then-moved-clause-served : goal.returns-then-moved-clause-served
returns-then-moved-clause-served g c =
    let state = g.P.Starter.state in
    let world = c.args.desk.now.broker.world in
    let so = c.loop-i.invariant.so_far in
    let old = slots_of state c.args.slots.now.items in
    let slots = slots_of state c.loop-i.slots.items in
    let past = reverse c.args.desk.now.broker.entries in
    let b = reverse c.loop-i.desk.broker.entries in
    let all : c.loop-i.i ≡ length (hosts past) = omega (arith, c.loop-i.slots.ok.0, c.loop-i.invariant.same_length, c.loop-i-test.false, c.loop-i.auto.i-end, c.loop-i.invariant.same_size, c.requires.all) in
    all_moved world c.loop-i.i old slots past b all (size_of state c.args.slots.now.items ∙ c.requires.all) (subst (λ m. ServedSoFar world c.loop-i.i old slots past b m) c.if-moved.true so)

pub returns-else-moved-clause-served : goal.returns-else-moved-clause-served
returns-else-moved-clause-served g c =
    let state = g.P.Starter.state in
    let world = c.args.desk.now.broker.world in
    let so = c.loop-i.invariant.so_far in
    let old = slots_of state c.args.slots.now.items in
    let slots = slots_of state c.loop-i.slots.items in
    let past = reverse c.args.desk.now.broker.entries in
    let b = reverse c.loop-i.desk.broker.entries in
    let all : c.loop-i.i ≡ length (hosts past) = omega (arith, c.loop-i.slots.ok.0, c.loop-i.invariant.same_length, c.loop-i-test.false, c.loop-i.auto.i-end, c.loop-i.invariant.same_size, c.requires.all) in
    λ known first. all_rested world c.loop-i.i old slots past b all (size_of state c.args.slots.now.items ∙ c.requires.all) (subst (λ m. ServedSoFar world c.loop-i.i old slots past b m) c.if-moved.false so) known
