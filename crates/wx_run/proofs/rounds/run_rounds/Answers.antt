use Rattle.std.proofs.Common.{◌∙◌, ℕ, sym, ap, subst, refl, cond}
use Rattle.std.specs.Prelude.{reverse}
use Rattle.wx_host_slot.specs.Slots.{slots_of}
use Rattle.wx_run.specs.declared.rounds.Rounded.TheVariants.{Moved, Idle, Spent}
use Rattle.wx_run.specs.declared.outcome.RunEnd.TheVariants.{Done, Stalled}
use Rattle.wx_run.specs.Cursors.{scripts_in, all_left}
use Rattle.wx_run.specs.Slots.{WereStartedBelow}
use Rattle.wx_run.specs.Round.{AllStand}
use Rattle.wx_run.specs.Running.{IsNextRound, turns_in, TurnsLessen, AreRounds}
use Rattle.wx_run.proofs.AddLemmas.{none_below}
use Rattle.wx_run.proofs.RoundLemmas.{scripts_behind}
use Rattle.wx_run.proofs.RunLemmas.{keeps_none, keeps_on, keeps_writing, ready_now, stand_now, hosts_now, round_now, none_spent, ready_again, rounds_begin, rounds_go_on, rounds_idle, rounds_spent}
use Rattle.wx_run.proofs.rounds.run_rounds.Goals as goal

pub loop-endpoints-init : goal.loop-endpoints-init
loop-endpoints-init g c = record {
  same_world = refl;
  kept = keeps_none (slots_of g.P.Starter.state c.args.slots.now.items) (g.P.Starter.state c.args.starter.now);
  ready = c.requires;
  so_far = λ known first. rounds_begin known (scripts_in c.args.endpoints.now.items) (slots_of g.P.Starter.state c.args.slots.now.items) _ first;
}

pub next_round-requires-after_bounds : goal.next_round-requires-after_bounds
next_round-requires-after_bounds g c κs within =
    let so = c.loop-endpoints.invariant in
    let scripts = scripts_in c.args.endpoints.now.items in
    let ps = c.loop-endpoints.endpoints.items in
    ready_now (g.P.Starter.state c.args.starter.now).writing (g.P.Starter.state c.loop-endpoints.starter).writing c.args.desk.now.broker.world c.loop-endpoints.desk.broker.world scripts (scripts_in ps) ps
    (slots_of g.P.Starter.state c.loop-endpoints.slots.items) (reverse c.loop-endpoints.desk.broker.entries)
    (keeps_writing _ _ _ _ c.loop-endpoints.invariant.kept) c.loop-endpoints.invariant.same_world (scripts_behind scripts ps _ so.ready.endpoints.behind) so.ready

pub loop-endpoints-smaller : goal.loop-endpoints-smaller
loop-endpoints-smaller g c =
    let before = turns_in c.loop-endpoints.endpoints.items (slots_of g.P.Starter.state c.loop-endpoints.slots.items) in
    let after = turns_in c.next_round.new.endpoints.items (slots_of g.P.Starter.state c.next_round.new.slots.items) in
    subst (λ r. TurnsLessen before after r) c.in-Moved.is c.in_ok-next_round.ensures.less

pub loop-endpoints-preserved : goal.loop-endpoints-preserved
loop-endpoints-preserved g c =
    let so = c.loop-endpoints.invariant in
    let state = g.P.Starter.state in
    let world = c.args.desk.now.broker.world in
    let scripts = scripts_in c.args.endpoints.now.items in
    let ps = c.loop-endpoints.endpoints.items in
    let qs = c.next_round.new.endpoints.items in
    let b = reverse c.loop-endpoints.desk.broker.entries in
    let d = reverse c.next_round.new.desk.broker.entries in
    let old = slots_of state c.loop-endpoints.slots.items in
    let new = slots_of state c.next_round.new.slots.items in
    let all = c.in_ok-next_round.ensures in
    let same_scripts = scripts_behind scripts ps b so.ready.endpoints.behind in
    let stand : AllStand world scripts qs d = stand_now world c.loop-endpoints.desk.broker.world scripts (scripts_in ps) qs d c.loop-endpoints.invariant.same_world same_scripts all.stand in
    let round : (known : ℕ) → WereStartedBelow known old → IsNextRound known scripts qs new b d Moved = λ known first.
    round_now known scripts (scripts_in ps) qs new b d c.in_ok-next_round.field-0 Moved same_scripts c.in-Moved.is (all.round known first) in
    let hosts_stand = hosts_now (g.P.Starter.state c.args.starter.now).writing (g.P.Starter.state c.loop-endpoints.starter).writing c.args.desk.now.broker.world c.loop-endpoints.desk.broker.world (reverse c.next_round.new.desk.broker.entries) (slots_of g.P.Starter.state c.next_round.new.slots.items)
    (keeps_writing _ _ _ _ c.loop-endpoints.invariant.kept) c.loop-endpoints.invariant.same_world c.in_ok-next_round.ensures.hosts_stand in
    let ready = ready_again (state c.args.starter.now).writing world scripts qs new d stand hosts_stand (round 0 (none_below old)).1 in
    record {
      same_world = all.same_world ∙ c.loop-endpoints.invariant.same_world;
      kept = keeps_on (slots_of g.P.Starter.state c.args.slots.now.items) (slots_of g.P.Starter.state c.loop-endpoints.slots.items) (slots_of g.P.Starter.state c.next_round.new.slots.items)
          (g.P.Starter.state c.args.starter.now) (g.P.Starter.state c.loop-endpoints.starter) (g.P.Starter.state c.next_round.new.starter) c.loop-endpoints.invariant.kept c.in_ok-next_round.ensures.kept;
      ready = ready;
      so_far = λ known first. let far = so.so_far known first in
          rounds_go_on known scripts qs old new _ b d all.kept.more (none_spent (state c.args.starter.now).writing world scripts qs new d ready) far (round far.now far.started);
    }

pub returns-in-Idle-clause-rounds : goal.returns-in-Idle-clause-rounds
returns-in-Idle-clause-rounds g c =
    let so = c.loop-endpoints.invariant in
    let state = g.P.Starter.state in
    let world = c.args.desk.now.broker.world in
    let scripts = scripts_in c.args.endpoints.now.items in
    let ps = c.loop-endpoints.endpoints.items in
    let qs = c.next_round.new.endpoints.items in
    let b = reverse c.loop-endpoints.desk.broker.entries in
    let d = reverse c.next_round.new.desk.broker.entries in
    let old = slots_of state c.loop-endpoints.slots.items in
    let new = slots_of state c.next_round.new.slots.items in
    let all = c.in_ok-next_round.ensures in
    let same_scripts = scripts_behind scripts ps b so.ready.endpoints.behind in
    let stand : AllStand world scripts qs d = stand_now world c.loop-endpoints.desk.broker.world scripts (scripts_in ps) qs d c.loop-endpoints.invariant.same_world same_scripts all.stand in
    λ known first. let far = so.so_far known first in
    let round : IsNextRound far.now scripts qs new b d Idle = round_now far.now scripts (scripts_in ps) qs new b d c.in_ok-next_round.field-0 Idle same_scripts c.in-Idle.is (all.round far.now far.started) in
    subst (λ end. AreRounds known scripts (reverse c.args.desk.now.broker.entries) d end)
    (sym (c.end_of.ensures ∙ ap (λ ps. cond (all_left ps) Done Stalled) c.deref.ensures.value))
    (rounds_idle known world scripts qs old new _ b d far stand round)

pub returns-in-Spent-clause-rounds : goal.returns-in-Spent-clause-rounds
returns-in-Spent-clause-rounds g c =
    let so = c.loop-endpoints.invariant in
    let state = g.P.Starter.state in
    let world = c.args.desk.now.broker.world in
    let scripts = scripts_in c.args.endpoints.now.items in
    let ps = c.loop-endpoints.endpoints.items in
    let qs = c.next_round.new.endpoints.items in
    let b = reverse c.loop-endpoints.desk.broker.entries in
    let d = reverse c.next_round.new.desk.broker.entries in
    let old = slots_of state c.loop-endpoints.slots.items in
    let new = slots_of state c.next_round.new.slots.items in
    let all = c.in_ok-next_round.ensures in
    let same_scripts = scripts_behind scripts ps b so.ready.endpoints.behind in
    let stand : AllStand world scripts qs d = stand_now world c.loop-endpoints.desk.broker.world scripts (scripts_in ps) qs d c.loop-endpoints.invariant.same_world same_scripts all.stand in
    λ known first. let far = so.so_far known first in
    let round : IsNextRound far.now scripts qs new b d (Spent c.in-Spent.who) = round_now far.now scripts (scripts_in ps) qs new b d c.in_ok-next_round.field-0 (Spent c.in-Spent.who) same_scripts c.in-Spent.is (all.round far.now far.started) in
    rounds_spent known world scripts qs old new _ b d c.in-Spent.who far stand round

pub returns-in-Idle-clause-hosts_stand : goal.returns-in-Idle-clause-hosts_stand
returns-in-Idle-clause-hosts_stand g c =
    hosts_now (g.P.Starter.state c.args.starter.now).writing (g.P.Starter.state c.loop-endpoints.starter).writing c.args.desk.now.broker.world c.loop-endpoints.desk.broker.world (reverse c.next_round.new.desk.broker.entries) (slots_of g.P.Starter.state c.next_round.new.slots.items)
    (keeps_writing _ _ _ _ c.loop-endpoints.invariant.kept) c.loop-endpoints.invariant.same_world c.in_ok-next_round.ensures.hosts_stand

pub returns-in-Idle-clause-kept : goal.returns-in-Idle-clause-kept
returns-in-Idle-clause-kept g c =
    keeps_on (slots_of g.P.Starter.state c.args.slots.now.items) (slots_of g.P.Starter.state c.loop-endpoints.slots.items) (slots_of g.P.Starter.state c.next_round.new.slots.items)
    (g.P.Starter.state c.args.starter.now) (g.P.Starter.state c.loop-endpoints.starter) (g.P.Starter.state c.next_round.new.starter) c.loop-endpoints.invariant.kept c.in_ok-next_round.ensures.kept

pub returns-in-Idle-clause-same_world : goal.returns-in-Idle-clause-same_world
returns-in-Idle-clause-same_world g c = c.in_ok-next_round.ensures.same_world ∙ c.loop-endpoints.invariant.same_world

pub returns-in-Spent-clause-hosts_stand : goal.returns-in-Spent-clause-hosts_stand
returns-in-Spent-clause-hosts_stand g c =
    hosts_now (g.P.Starter.state c.args.starter.now).writing (g.P.Starter.state c.loop-endpoints.starter).writing c.args.desk.now.broker.world c.loop-endpoints.desk.broker.world (reverse c.next_round.new.desk.broker.entries) (slots_of g.P.Starter.state c.next_round.new.slots.items)
    (keeps_writing _ _ _ _ c.loop-endpoints.invariant.kept) c.loop-endpoints.invariant.same_world c.in_ok-next_round.ensures.hosts_stand

pub returns-in-Spent-clause-kept : goal.returns-in-Spent-clause-kept
returns-in-Spent-clause-kept g c =
    keeps_on (slots_of g.P.Starter.state c.args.slots.now.items) (slots_of g.P.Starter.state c.loop-endpoints.slots.items) (slots_of g.P.Starter.state c.next_round.new.slots.items)
    (g.P.Starter.state c.args.starter.now) (g.P.Starter.state c.loop-endpoints.starter) (g.P.Starter.state c.next_round.new.starter) c.loop-endpoints.invariant.kept c.in_ok-next_round.ensures.kept

pub returns-in-Spent-clause-same_world : goal.returns-in-Spent-clause-same_world
returns-in-Spent-clause-same_world g c = c.in_ok-next_round.ensures.same_world ∙ c.loop-endpoints.invariant.same_world
