use Rattle.std.proofs.Common.{rules, ◌≡◌, ◌∙◌, Bool, reverse, Some, None, arith, sym, subst, refl}
use Rattle.wx_script.specs.declared.scene.SpentWho.TheVariants.{Host}
use Rattle.wx_host_slot.specs.Slots.{slot_of, slots_of}
use Rattle.wx_run.specs.declared.rounds.Rounded.TheVariants.{Moved, Spent}
use Rattle.wx_run.specs.Hosts.{host_numbered}
use Rattle.wx_run.specs.Slots.{HostsStand, first_unended_slot}
use Rattle.wx_run.specs.Serving.{FirstHeard}
use Rattle.wx_run.proofs.ServeLemmas.{all_ended, is_first_unended, stand_behind, IsHeardTurn, heard_turn, heard_moved, heard_spent}
use Rattle.wx_run.proofs.ViewLemmas.{size_of, set_of, first_view}
use Rattle.wx_run.proofs.hosts.hear_first.Goals as goal

pub returns-in_default-clause-heard : goal.returns-in_default-clause-heard
returns-in_default-clause-heard g c =
    let slots = slots_of g.P.Starter.state c.args.slots.now.items in
    let none : first_unended_slot 0 slots ≡ None = search rules in
    (refl, all_ended c.requires.stand.0 c.args.desk.now.broker.world _ slots c.requires.stand.1 (size_of g.P.Starter.state c.args.slots.now.items ∙ c.requires.all) none, refl)

pub index_mut-slot-requires : goal.index_mut-slot-requires
index_mut-slot-requires g c =
    let slots = slots_of g.P.Starter.state c.args.slots.now.items in
    let found : first_unended_slot 0 slots ≡ Some c.in-Some.i = search rules in
    let below = (is_first_unended c.requires.stand.0 c.args.desk.now.broker.world _ slots c.in-Some.i c.requires.stand.1 found).is_host in
    omega (arith, c.args.slots.now.ok.0, c.requires.all, below)

pub hear-requires-clause-host : goal.hear-requires-clause-host
hear-requires-clause-host g c κs within =
    let state = g.P.Starter.state in
    let i = c.in-Some.i in
    let world = c.args.desk.now.broker.world in
    let a = reverse c.args.desk.now.broker.entries in
    let slots = slots_of state c.args.slots.now.items in
    let found : first_unended_slot 0 slots ≡ Some c.in-Some.i = search rules in
    let first = first_view state c.requires.stand.0 world i c.args.slots.now.items a c.index_mut-slot.result.now c.requires.stand.1 c.requires.all c.requires.unspent c.requires.started found c.index_mut-slot.ensures.value in
    first.first.is_host

pub hear-requires-clause-stands : goal.hear-requires-clause-stands
hear-requires-clause-stands g c κs within =
    let state = g.P.Starter.state in
    let i = c.in-Some.i in
    let world = c.args.desk.now.broker.world in
    let a = reverse c.args.desk.now.broker.entries in
    let slots = slots_of state c.args.slots.now.items in
    let found : first_unended_slot 0 slots ≡ Some c.in-Some.i = search rules in
    let first = first_view state c.requires.stand.0 world i c.args.slots.now.items a c.index_mut-slot.result.now c.requires.stand.1 c.requires.all c.requires.unspent c.requires.started found c.index_mut-slot.ensures.value in
    first.slot.stands

pub hear-requires-clause-unspent : goal.hear-requires-clause-unspent
hear-requires-clause-unspent g c κs within =
    let state = g.P.Starter.state in
    let i = c.in-Some.i in
    let world = c.args.desk.now.broker.world in
    let a = reverse c.args.desk.now.broker.entries in
    let slots = slots_of state c.args.slots.now.items in
    let found : first_unended_slot 0 slots ≡ Some c.in-Some.i = search rules in
    let first = first_view state c.requires.stand.0 world i c.args.slots.now.items a c.index_mut-slot.result.now c.requires.stand.1 c.requires.all c.requires.unspent c.requires.started found c.index_mut-slot.ensures.value in
    first.slot.unspent

pub hear-requires-clause-unended : goal.hear-requires-clause-unended
hear-requires-clause-unended g c κs within =
    let state = g.P.Starter.state in
    let i = c.in-Some.i in
    let world = c.args.desk.now.broker.world in
    let a = reverse c.args.desk.now.broker.entries in
    let slots = slots_of state c.args.slots.now.items in
    let found : first_unended_slot 0 slots ≡ Some c.in-Some.i = search rules in
    let first = first_view state c.requires.stand.0 world i c.args.slots.now.items a c.index_mut-slot.result.now c.requires.stand.1 c.requires.all c.requires.unspent c.requires.started found c.index_mut-slot.ensures.value in
    first.unended

pub hear-requires-clause-started : goal.hear-requires-clause-started
hear-requires-clause-started g c κs within =
    let state = g.P.Starter.state in
    let i = c.in-Some.i in
    let world = c.args.desk.now.broker.world in
    let a = reverse c.args.desk.now.broker.entries in
    let slots = slots_of state c.args.slots.now.items in
    let found : first_unended_slot 0 slots ≡ Some c.in-Some.i = search rules in
    let first = first_view state c.requires.stand.0 world i c.args.slots.now.items a c.index_mut-slot.result.now c.requires.stand.1 c.requires.all c.requires.unspent c.requires.started found c.index_mut-slot.ensures.value in
    first.started

pub hear-requires-clause-none_to_take : goal.hear-requires-clause-none_to_take
hear-requires-clause-none_to_take g c κs within =
    let state = g.P.Starter.state in
    let i = c.in-Some.i in
    let world = c.args.desk.now.broker.world in
    let a = reverse c.args.desk.now.broker.entries in
    let slots = slots_of state c.args.slots.now.items in
    let found : first_unended_slot 0 slots ≡ Some c.in-Some.i = search rules in
    let first = first_view state c.requires.stand.0 world i c.args.slots.now.items a c.index_mut-slot.result.now c.requires.stand.1 c.requires.all c.requires.unspent c.requires.started found c.index_mut-slot.ensures.value in
    c.requires.none_ready (host_numbered i) first.first.is_host

pub returns-then-is_spent-clause-stand : goal.returns-then-is_spent-clause-stand
returns-then-is_spent-clause-stand g c =
    let state = g.P.Starter.state in
    let i = c.in-Some.i in
    let world = c.args.desk.now.broker.world in
    let a = reverse c.args.desk.now.broker.entries in
    let slots = slots_of state c.args.slots.now.items in
    let found : first_unended_slot 0 slots ≡ Some c.in-Some.i = search rules in
    let first = first_view state c.requires.stand.0 world i c.args.slots.now.items a c.index_mut-slot.result.now c.requires.stand.1 c.requires.all c.requires.unspent c.requires.started found c.index_mut-slot.ensures.value in
    let p = slot_of state c.index_mut-slot.result.now in
    let q = slot_of state c.hear.new.self in
    let b = reverse c.hear.new.desk.broker.entries in
    let heard : IsHeardTurn world i slots a b p q = record { at = first.slot.at; first = first.first; turn = c.in_ok-hear.ensures.turn; stands = c.in_ok-hear.ensures.stands; started = c.in_ok-hear.ensures.started; less = c.in_ok-hear.ensures.less } in
    let set = set_of state c.args.slots.now.items i c.hear.new.self in
    λ writing so. subst (λ s. HostsStand writing world b s) set (stand_behind writing world i slots a b p q c.requires.unspent (heard_turn world i slots a b p q heard) so)

pub returns-then-is_spent-clause-heard : goal.returns-then-is_spent-clause-heard
returns-then-is_spent-clause-heard g c =
    let state = g.P.Starter.state in
    let i = c.in-Some.i in
    let world = c.args.desk.now.broker.world in
    let a = reverse c.args.desk.now.broker.entries in
    let slots = slots_of state c.args.slots.now.items in
    let found : first_unended_slot 0 slots ≡ Some c.in-Some.i = search rules in
    let first = first_view state c.requires.stand.0 world i c.args.slots.now.items a c.index_mut-slot.result.now c.requires.stand.1 c.requires.all c.requires.unspent c.requires.started found c.index_mut-slot.ensures.value in
    let p = slot_of state c.index_mut-slot.result.now in
    let q = slot_of state c.hear.new.self in
    let b = reverse c.hear.new.desk.broker.entries in
    let heard : IsHeardTurn world i slots a b p q = record { at = first.slot.at; first = first.first; turn = c.in_ok-hear.ensures.turn; stands = c.in_ok-hear.ensures.stands; started = c.in_ok-hear.ensures.started; less = c.in_ok-hear.ensures.less } in
    let set = set_of state c.args.slots.now.items i c.hear.new.self in
    subst (λ s. FirstHeard a b slots s (Spent (Host (host_numbered i)))) set
    (heard_spent c.requires.stand.0 world i slots a b p q c.requires.stand.1 (size_of state c.args.slots.now.items ∙ c.requires.all) c.requires.unspent heard (sym {A = Bool} c.if-is_spent.ensures))

pub returns-else-is_spent-clause-stand : goal.returns-else-is_spent-clause-stand
returns-else-is_spent-clause-stand g c =
    let state = g.P.Starter.state in
    let i = c.in-Some.i in
    let world = c.args.desk.now.broker.world in
    let a = reverse c.args.desk.now.broker.entries in
    let slots = slots_of state c.args.slots.now.items in
    let found : first_unended_slot 0 slots ≡ Some c.in-Some.i = search rules in
    let first = first_view state c.requires.stand.0 world i c.args.slots.now.items a c.index_mut-slot.result.now c.requires.stand.1 c.requires.all c.requires.unspent c.requires.started found c.index_mut-slot.ensures.value in
    let p = slot_of state c.index_mut-slot.result.now in
    let q = slot_of state c.hear.new.self in
    let b = reverse c.hear.new.desk.broker.entries in
    let heard : IsHeardTurn world i slots a b p q = record { at = first.slot.at; first = first.first; turn = c.in_ok-hear.ensures.turn; stands = c.in_ok-hear.ensures.stands; started = c.in_ok-hear.ensures.started; less = c.in_ok-hear.ensures.less } in
    let set = set_of state c.args.slots.now.items i c.hear.new.self in
    λ writing so. subst (λ s. HostsStand writing world b s) set (stand_behind writing world i slots a b p q c.requires.unspent (heard_turn world i slots a b p q heard) so)

pub returns-else-is_spent-clause-heard : goal.returns-else-is_spent-clause-heard
returns-else-is_spent-clause-heard g c =
    let state = g.P.Starter.state in
    let i = c.in-Some.i in
    let world = c.args.desk.now.broker.world in
    let a = reverse c.args.desk.now.broker.entries in
    let slots = slots_of state c.args.slots.now.items in
    let found : first_unended_slot 0 slots ≡ Some c.in-Some.i = search rules in
    let first = first_view state c.requires.stand.0 world i c.args.slots.now.items a c.index_mut-slot.result.now c.requires.stand.1 c.requires.all c.requires.unspent c.requires.started found c.index_mut-slot.ensures.value in
    let p = slot_of state c.index_mut-slot.result.now in
    let q = slot_of state c.hear.new.self in
    let b = reverse c.hear.new.desk.broker.entries in
    let heard : IsHeardTurn world i slots a b p q = record { at = first.slot.at; first = first.first; turn = c.in_ok-hear.ensures.turn; stands = c.in_ok-hear.ensures.stands; started = c.in_ok-hear.ensures.started; less = c.in_ok-hear.ensures.less } in
    let set = set_of state c.args.slots.now.items i c.hear.new.self in
    subst (λ s. FirstHeard a b slots s Moved) set (heard_moved world i slots a b p q c.requires.unspent c.requires.started heard (sym {A = Bool} c.if-is_spent.ensures))
