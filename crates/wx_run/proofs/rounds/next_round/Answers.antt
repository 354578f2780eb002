use Rattle.std.proofs.Common.{◌∙◌, subst, sym}
use Rattle.std.proofs.lemmas.List.{length-map}
use Rattle.std.specs.Prelude.{reverse, OnOk}
use Rattle.wx_machine.specs.Words.{IsLegal}
use Rattle.wx_host_slot.specs.Slots.{slot_of, slots_of}
use Rattle.wx_run.specs.declared.rounds.Rounded.TheVariants.{Idle}
use Rattle.wx_run.specs.Cursors.{scripts_in}
use Rattle.wx_run.specs.Hosts.{NoneReady}
use Rattle.wx_run.specs.Running.{IsWholeRound, turns_in, TurnsLessen}
use Rattle.wx_run.proofs.AddLemmas.{none_below}
use Rattle.wx_run.proofs.RunLemmas.{heard_stands, heard_next, heard_lessens_on, next_whole, same_sizes}
use Rattle.wx_run.proofs.rounds.next_round.Goals as goal

pub hear_first-requires-clause-all : goal.hear_first-requires-clause-all
hear_first-requires-clause-all g c κs within =
    let scripts = scripts_in c.args.endpoints.now.items in
    let ps = c.whole_round.new.endpoints.items in
    let slots = slots_of g.P.Starter.state c.whole_round.new.slots.items in
    let a = reverse c.args.desk.now.broker.entries in
    let b = reverse c.whole_round.new.desk.broker.entries in
    let idle : IsWholeRound 0 scripts ps slots a b Idle = subst (λ r. IsWholeRound 0 scripts ps slots a b r) c.in-Idle.is (c.in_ok-rounded.ensures.round 0 (none_below _)) in
    sym (length-map c.whole_round.new.slots.items (slot_of g.P.Starter.state)) ∙ idle.3.all

pub hear_first-requires-clause-unspent : goal.hear_first-requires-clause-unspent
hear_first-requires-clause-unspent g c κs within =
    let scripts = scripts_in c.args.endpoints.now.items in
    let ps = c.whole_round.new.endpoints.items in
    let slots = slots_of g.P.Starter.state c.whole_round.new.slots.items in
    let a = reverse c.args.desk.now.broker.entries in
    let b = reverse c.whole_round.new.desk.broker.entries in
    let idle : IsWholeRound 0 scripts ps slots a b Idle = subst (λ r. IsWholeRound 0 scripts ps slots a b r) c.in-Idle.is (c.in_ok-rounded.ensures.round 0 (none_below _)) in
    idle.3.hosts_unspent

pub hear_first-requires-clause-started : goal.hear_first-requires-clause-started
hear_first-requires-clause-started g c κs within =
    let scripts = scripts_in c.args.endpoints.now.items in
    let ps = c.whole_round.new.endpoints.items in
    let slots = slots_of g.P.Starter.state c.whole_round.new.slots.items in
    let a = reverse c.args.desk.now.broker.entries in
    let b = reverse c.whole_round.new.desk.broker.entries in
    let idle : IsWholeRound 0 scripts ps slots a b Idle = subst (λ r. IsWholeRound 0 scripts ps slots a b r) c.in-Idle.is (c.in_ok-rounded.ensures.round 0 (none_below _)) in
    idle.3.started

pub hear_first-requires-clause-none_ready : goal.hear_first-requires-clause-none_ready
hear_first-requires-clause-none_ready g c κs within =
    let scripts = scripts_in c.args.endpoints.now.items in
    let ps = c.whole_round.new.endpoints.items in
    let slots = slots_of g.P.Starter.state c.whole_round.new.slots.items in
    let a = reverse c.args.desk.now.broker.entries in
    let b = reverse c.whole_round.new.desk.broker.entries in
    let idle : IsWholeRound 0 scripts ps slots a b Idle = subst (λ r. IsWholeRound 0 scripts ps slots a b r) c.in-Idle.is (c.in_ok-rounded.ensures.round 0 (none_below _)) in
    subst (λ j. NoneReady j) (sym idle.0) idle.2

pub returns-in-Idle-clause-stand : goal.returns-in-Idle-clause-stand
returns-in-Idle-clause-stand g c =
    let legal : OnOk c.hear_first.result (IsLegal c.args.desk.now.broker.world c.hear_first.new.desk.broker.entries) = subst (λ w. OnOk c.hear_first.result (IsLegal w c.hear_first.new.desk.broker.entries)) c.in_ok-rounded.ensures.same_world c.hear_first.ensures.legal in
    heard_stands c.args.desk.now.broker.world (scripts_in c.args.endpoints.now.items) c.whole_round.new.endpoints.items (slots_of g.P.Starter.state c.whole_round.new.slots.items) (slots_of g.P.Starter.state c.hear_first.new.slots.items)
    (reverse c.whole_round.new.desk.broker.entries) (reverse c.hear_first.new.desk.broker.entries) c.hear_first.result c.in_ok-rounded.ensures.stand c.hear_first.ensures.heard legal

pub returns-in-Idle-clause-round : goal.returns-in-Idle-clause-round
returns-in-Idle-clause-round g c =
    let scripts = scripts_in c.args.endpoints.now.items in
    let ps = c.whole_round.new.endpoints.items in
    let a = reverse c.args.desk.now.broker.entries in
    let b = reverse c.whole_round.new.desk.broker.entries in
    let old = slots_of g.P.Starter.state c.whole_round.new.slots.items in
    let legal : OnOk c.hear_first.result (IsLegal c.args.desk.now.broker.world c.hear_first.new.desk.broker.entries) = subst (λ w. OnOk c.hear_first.result (IsLegal w c.hear_first.new.desk.broker.entries)) c.in_ok-rounded.ensures.same_world c.hear_first.ensures.legal in
    let size = same_sizes g.P.Starter.state c.whole_round.new.slots.items c.hear_first.new.slots.items c.hear_first.ensures.same_size in
    λ known first. let idle : IsWholeRound known scripts ps old a b Idle = subst (λ r. IsWholeRound known scripts ps old a b r) c.in-Idle.is (c.in_ok-rounded.ensures.round known first) in
    heard_next known c.args.desk.now.broker.world scripts ps old (slots_of g.P.Starter.state c.hear_first.new.slots.items) a b (reverse c.hear_first.new.desk.broker.entries) c.hear_first.result c.in_ok-rounded.ensures.stand size idle c.hear_first.ensures.heard legal

pub returns-in-Idle-clause-less : goal.returns-in-Idle-clause-less
returns-in-Idle-clause-less g c =
    let state = g.P.Starter.state in
    let ps = c.whole_round.new.endpoints.items in
    let b = reverse c.whole_round.new.desk.broker.entries in
    let old = slots_of state c.whole_round.new.slots.items in
    let before = turns_in c.args.endpoints.now.items (slots_of state c.args.slots.now.items) in
    let less : TurnsLessen before (turns_in ps old) Idle = subst (λ r. TurnsLessen before (turns_in ps old) r) c.in-Idle.is c.in_ok-rounded.ensures.less in
    heard_lessens_on before ps old (slots_of state c.hear_first.new.slots.items) b (reverse c.hear_first.new.desk.broker.entries) c.hear_first.result less c.hear_first.ensures.heard

pub returns-in_default : goal.returns-in_default
returns-in_default g c =
    let all = c.in_ok-rounded.ensures in
    record {
      stand = all.stand;
      hosts_stand = all.hosts_stand;
      round = λ known first. next_whole known (scripts_in c.args.endpoints.now.items) c.whole_round.new.endpoints.items (slots_of g.P.Starter.state c.whole_round.new.slots.items)
          (reverse c.args.desk.now.broker.entries) (reverse c.whole_round.new.desk.broker.entries) c.in_ok-rounded.rounded c.in_default.not-Idle (all.round known first);
      less = all.less;
      kept = all.kept;
      same_world = all.same_world;
    }
