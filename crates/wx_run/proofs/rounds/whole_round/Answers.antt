use Rattle.std.proofs.Common.{◌∙◌, ℕ, sym, subst}
use Rattle.std.specs.Prelude.{reverse}
use Rattle.wx_machine.specs.Words.{IsLegal}
use Rattle.wx_host_slot.specs.Slots.{slots_of}
use Rattle.wx_run.specs.declared.rounds.Rounded.TheVariants.{Idle, Spent}
use Rattle.wx_run.specs.Cursors.{scripts_in}
use Rattle.wx_run.specs.Slots.{HostsStand, WereStartedBelow}
use Rattle.wx_run.specs.Serving.{HostsServed}
use Rattle.wx_run.specs.Round.{IsRound}
use Rattle.wx_run.specs.Running.{IsWholeRound}
use Rattle.wx_run.proofs.AddLemmas.{were_started, none_below}
use Rattle.wx_run.proofs.RunLemmas.{round_keeps, round_made, whole_cut, whole_served, whole_rested, served_stand, slots_added, served_lessens, rested_lessens, same_sizes, places_added, keeps_same, keeps_on}
use Rattle.wx_run.proofs.rounds.whole_round.Goals as goal

pub returns-in-Spent-clause-hosts_stand : goal.returns-in-Spent-clause-hosts_stand
returns-in-Spent-clause-hosts_stand g c =
    round_keeps (g.P.Starter.state c.args.starter.now).writing c.args.desk.now.broker.world (scripts_in c.args.endpoints.now.items) c.round.new.endpoints.items (slots_of g.P.Starter.state c.args.slots.now.items)
    (reverse c.args.desk.now.broker.entries) (reverse c.round.new.desk.broker.entries) c.in_ok-turns.turns c.in_ok-turns.ensures.round c.requires.hosts_stand

pub returns-in-Spent-clause-round : goal.returns-in-Spent-clause-round
returns-in-Spent-clause-round g c =
    let scripts = scripts_in c.args.endpoints.now.items in
    let ps = c.round.new.endpoints.items in
    let a = reverse c.args.desk.now.broker.entries in
    let b = reverse c.round.new.desk.broker.entries in
    let who = c.in-Spent.field-0 in
    let round : IsRound scripts ps a b (Spent who) = subst (λ r. IsRound scripts ps a b r) c.in-Spent.is c.in_ok-turns.ensures.round in
    let slots = slots_of g.P.Starter.state c.args.slots.now.items in
    λ known first. subst (λ r. IsWholeRound known scripts ps slots a b r) (sym c.in-Spent.is)
    (whole_cut known (g.P.Starter.state c.args.starter.now).writing c.args.desk.now.broker.world scripts ps slots a b who c.requires.hosts_stand c.requires.hosts_unspent round)

pub add_slots-requires-after_bounds : goal.add_slots-requires-after_bounds
add_slots-requires-after_bounds g c κs within =
    let writing = (g.P.Starter.state c.args.starter.now).writing in
    let slots = slots_of g.P.Starter.state c.args.slots.now.items in
    let b = reverse c.round.new.desk.broker.entries in
    let here = round_keeps writing c.args.desk.now.broker.world (scripts_in c.args.endpoints.now.items) c.round.new.endpoints.items slots (reverse c.args.desk.now.broker.entries) b c.in_ok-turns.turns c.in_ok-turns.ensures.round c.requires.hosts_stand in
    subst (λ w. HostsStand writing w b slots) (sym c.in_ok-turns.ensures.same_world) here

pub returns-in-Idle : goal.returns-in-Idle
returns-in-Idle g c =
    let state = g.P.Starter.state in
    let writing = (state c.args.starter.now).writing in
    let world = c.args.desk.now.broker.world in
    let scripts = scripts_in c.args.endpoints.now.items in
    let ps = c.round.new.endpoints.items in
    let a = reverse c.args.desk.now.broker.entries in
    let b = reverse c.round.new.desk.broker.entries in
    let d = reverse c.serve_hosts.new.desk.broker.entries in
    let old = slots_of state c.args.slots.now.items in
    let mid = slots_of state c.add_slots.new.slots.items in
    let new = slots_of state c.serve_hosts.new.slots.items in
    let turns = c.in_ok-turns.ensures in
    let added = c.in_ok-add_slots.ensures in
    let serves = c.in_ok-served.ensures in
    let served : (known : ℕ) → WereStartedBelow known old → HostsServed known b d mid new Idle = λ known first.
    subst (λ r. HostsServed known b d mid new r) c.in-Idle.is (serves.served known (were_started old mid known added.front first)) in
    let some = served 0 (none_below old) in
    let legal : IsLegal world c.serve_hosts.new.desk.broker.entries = subst (λ w. IsLegal w c.serve_hosts.new.desk.broker.entries) turns.same_world serves.legal in
    let all_there = slots_added state c.args.slots.now.items c.add_slots.new.slots.items b added.all added.left in
    let keeps = places_added state writing world b c.args.slots.now.items c.add_slots.new.slots.items (state c.args.starter.now) (state c.add_slots.new.starter)
    (round_keeps writing world scripts ps old a b c.in_ok-turns.turns turns.round c.requires.hosts_stand) added.all added.kept in
    record {
      stand = served_stand world scripts ps 0 mid new b d Idle turns.stand some legal;
      hosts_stand = subst (λ w. HostsStand writing w d new) turns.same_world (serves.stand writing added.stand);
      round = λ known first. whole_rested known scripts ps mid new a b d c.in_ok-turns.turns turns.round c.in_default.not-Spent all_there.all (served known first);
      less = rested_lessens scripts c.args.endpoints.now.items ps 0 old mid new a b d c.in_ok-turns.turns turns.round turns.less c.requires.all all_there some;
      kept = keeps_on old mid new (state c.args.starter.now) (state c.add_slots.new.starter) (state c.add_slots.new.starter) keeps
          (keeps_same mid new (state c.add_slots.new.starter) (same_sizes state c.add_slots.new.slots.items c.serve_hosts.new.slots.items serves.same_size));
      same_world = serves.same_world ∙ turns.same_world;
    }

pub returns-in_default-2 : goal.returns-in_default-2
returns-in_default-2 g c =
    let state = g.P.Starter.state in
    let writing = (state c.args.starter.now).writing in
    let world = c.args.desk.now.broker.world in
    let scripts = scripts_in c.args.endpoints.now.items in
    let ps = c.round.new.endpoints.items in
    let a = reverse c.args.desk.now.broker.entries in
    let b = reverse c.round.new.desk.broker.entries in
    let d = reverse c.serve_hosts.new.desk.broker.entries in
    let old = slots_of state c.args.slots.now.items in
    let mid = slots_of state c.add_slots.new.slots.items in
    let new = slots_of state c.serve_hosts.new.slots.items in
    let turns = c.in_ok-turns.ensures in
    let added = c.in_ok-add_slots.ensures in
    let serves = c.in_ok-served.ensures in
    let r = c.in_ok-served.served in
    let served : (known : ℕ) → WereStartedBelow known old → HostsServed known b d mid new r = λ known first. serves.served known (were_started old mid known added.front first) in
    let some = served 0 (none_below old) in
    let size = same_sizes state c.add_slots.new.slots.items c.serve_hosts.new.slots.items serves.same_size in
    let made = round_made scripts ps a b c.in_ok-turns.turns turns.round c.in_default.not-Spent in
    let legal : IsLegal world c.serve_hosts.new.desk.broker.entries = subst (λ w. IsLegal w c.serve_hosts.new.desk.broker.entries) turns.same_world serves.legal in
    let all_there = slots_added state c.args.slots.now.items c.add_slots.new.slots.items b added.all added.left in
    let keeps = places_added state writing world b c.args.slots.now.items c.add_slots.new.slots.items (state c.args.starter.now) (state c.add_slots.new.starter)
    (round_keeps writing world scripts ps old a b c.in_ok-turns.turns turns.round c.requires.hosts_stand) added.all added.kept in
    record {
      stand = served_stand world scripts ps 0 mid new b d r turns.stand some legal;
      hosts_stand = subst (λ w. HostsStand writing w d new) turns.same_world (serves.stand writing added.stand);
      round = λ known first. whole_served known world scripts ps mid new a b d r turns.stand made.0 made.1 (size ∙ all_there.all) c.in_default-2.not-Idle (served known first);
      less = served_lessens c.args.endpoints.now.items ps 0 old mid new a b d r c.in_ok-turns.turns turns.less c.in_default.not-Spent c.requires.all all_there c.in_default-2.not-Idle some;
      kept = keeps_on old mid new (state c.args.starter.now) (state c.add_slots.new.starter) (state c.add_slots.new.starter) keeps (keeps_same mid new (state c.add_slots.new.starter) size);
      same_world = serves.same_world ∙ turns.same_world;
    }
