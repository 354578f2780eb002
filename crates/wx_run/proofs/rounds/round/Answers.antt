use Rattle.std.proofs.Common.{◌≡◌, ◌∙◌, ◌<◌, true, length, arith, sym, subst, refl}
use Rattle.std.specs.Prelude.{reverse}
use Rattle.wx_script.specs.Ends.{numbered}
use Rattle.wx_run.specs.Cursors.{scripts_in}
use Rattle.wx_run.specs.Step.{IsReady, Moves, Rests, IsStep}
use Rattle.wx_run.specs.Round.{RoundSoFar}
use Rattle.wx_run.proofs.RoundLemmas.{at_index, ready_at, round_moves, round_spends, round_rests, moves_lessen, rests_lessen, round_begins, all_turns, all_idle, length_behind}
use Rattle.wx_run.proofs.rounds.round.Goals as goal

pub loop-i-init : goal.loop-i-init
loop-i-init c = record {
  same_length = sym c.len-i-end.ensures;
  same_world = refl;
  less = record { fewer = refl; one_host_each = omega arith };
  so_far = round_begins c.args.desk.now.broker.world (scripts_in c.args.endpoints.now.items) c.args.endpoints.now.items _ c.requires.stand c.requires.unspent;
}

pub make_turn-requires : goal.make_turn-requires
make_turn-requires c =
    let so = c.loop-i.invariant.so_far in
    let p = c.index_mut-endpoint.result.now in
    let below : c.loop-i.i < length c.loop-i.endpoints.items = omega (arith, c.loop-i.endpoints.ok.0, c.loop-i.invariant.same_length, c.loop-i-test.true) in
    let at = at_index (scripts_in c.args.endpoints.now.items) c.loop-i.endpoints.items c.loop-i.i p p _ so.stand.behind below c.index_mut-endpoint.ensures.value in
    subst (λ w. IsReady w (numbered c.loop-i.i) p (reverse c.loop-i.desk.broker.entries)) (sym c.loop-i.invariant.same_world)
    (ready_at c.args.desk.now.broker.world (scripts_in c.args.endpoints.now.items) c.loop-i.i c.loop-i.endpoints.items _ p p _ so.stand so.unspent at)

pub loop-i-preserved-then-not-branch : goal.loop-i-preserved-then-not-branch
loop-i-preserved-then-not-branch c =
    let so = c.loop-i.invariant.so_far in
    let p = c.index_mut-endpoint.result.now in
    let q = c.make_turn.new.endpoint in
    let below : c.loop-i.i < length c.loop-i.endpoints.items = omega (arith, c.loop-i.endpoints.ok.0, c.loop-i.invariant.same_length, c.loop-i-test.true) in
    let at = at_index (scripts_in c.args.endpoints.now.items) c.loop-i.endpoints.items c.loop-i.i p q _ so.stand.behind below c.index_mut-endpoint.ensures.value in
    let rests : Rests (numbered c.loop-i.i) p q (reverse c.loop-i.desk.broker.entries) (reverse c.make_turn.new.desk.broker.entries) =
    subst (λ made. IsStep c.loop-i.desk.broker.world (numbered c.loop-i.i) p q (reverse c.loop-i.desk.broker.entries) (reverse c.make_turn.new.desk.broker.entries) made) c.if-not-branch.true c.in_ok-make_turn.ensures.step in
    record {
      same_length = c.loop-i.invariant.same_length;
      same_world = c.in_ok-make_turn.ensures.same_world ∙ c.loop-i.invariant.same_world;
      less = rests_lessen (scripts_in c.args.endpoints.now.items) c.loop-i.i c.args.endpoints.now.items c.loop-i.endpoints.items _ p q _ _ _ c.loop-i.moved at rests c.loop-i.invariant.less;
      so_far = round_rests c.args.desk.now.broker.world (scripts_in c.args.endpoints.now.items) c.loop-i.i c.loop-i.endpoints.items _ p q _ _ _ c.loop-i.moved so at rests;
    }

pub returns-then-is_spent-clause-stand : goal.returns-then-is_spent-clause-stand
returns-then-is_spent-clause-stand c =
    let so = c.loop-i.invariant.so_far in
    let p = c.index_mut-endpoint.result.now in
    let q = c.make_turn.new.endpoint in
    let below : c.loop-i.i < length c.loop-i.endpoints.items = omega (arith, c.loop-i.endpoints.ok.0, c.loop-i.invariant.same_length, c.loop-i-test.true) in
    let at = at_index (scripts_in c.args.endpoints.now.items) c.loop-i.endpoints.items c.loop-i.i p q _ so.stand.behind below c.index_mut-endpoint.ensures.value in
    let step : IsStep c.loop-i.desk.broker.world (numbered c.loop-i.i) p q (reverse c.loop-i.desk.broker.entries) (reverse c.make_turn.new.desk.broker.entries) true =
    subst (λ made. IsStep c.loop-i.desk.broker.world (numbered c.loop-i.i) p q (reverse c.loop-i.desk.broker.entries) (reverse c.make_turn.new.desk.broker.entries) made) c.if-not-branch.false c.in_ok-make_turn.ensures.step in
    let moves : Moves c.args.desk.now.broker.world (numbered c.loop-i.i) p q (reverse c.loop-i.desk.broker.entries) (reverse c.make_turn.new.desk.broker.entries) =
    subst (λ w. Moves w (numbered c.loop-i.i) p q (reverse c.loop-i.desk.broker.entries) (reverse c.make_turn.new.desk.broker.entries)) c.loop-i.invariant.same_world step in
    (round_spends c.args.desk.now.broker.world (scripts_in c.args.endpoints.now.items) c.loop-i.i c.loop-i.endpoints.items _ p q _ _ _ c.loop-i.moved so at moves (sym c.if-is_spent.ensures)).0

pub returns-then-is_spent-clause-round : goal.returns-then-is_spent-clause-round
returns-then-is_spent-clause-round c =
    let so = c.loop-i.invariant.so_far in
    let p = c.index_mut-endpoint.result.now in
    let q = c.make_turn.new.endpoint in
    let below : c.loop-i.i < length c.loop-i.endpoints.items = omega (arith, c.loop-i.endpoints.ok.0, c.loop-i.invariant.same_length, c.loop-i-test.true) in
    let at = at_index (scripts_in c.args.endpoints.now.items) c.loop-i.endpoints.items c.loop-i.i p q _ so.stand.behind below c.index_mut-endpoint.ensures.value in
    let step : IsStep c.loop-i.desk.broker.world (numbered c.loop-i.i) p q (reverse c.loop-i.desk.broker.entries) (reverse c.make_turn.new.desk.broker.entries) true =
    subst (λ made. IsStep c.loop-i.desk.broker.world (numbered c.loop-i.i) p q (reverse c.loop-i.desk.broker.entries) (reverse c.make_turn.new.desk.broker.entries) made) c.if-not-branch.false c.in_ok-make_turn.ensures.step in
    let moves : Moves c.args.desk.now.broker.world (numbered c.loop-i.i) p q (reverse c.loop-i.desk.broker.entries) (reverse c.make_turn.new.desk.broker.entries) =
    subst (λ w. Moves w (numbered c.loop-i.i) p q (reverse c.loop-i.desk.broker.entries) (reverse c.make_turn.new.desk.broker.entries)) c.loop-i.invariant.same_world step in
    (round_spends c.args.desk.now.broker.world (scripts_in c.args.endpoints.now.items) c.loop-i.i c.loop-i.endpoints.items _ p q _ _ _ c.loop-i.moved so at moves (sym c.if-is_spent.ensures)).1

pub loop-i-preserved : goal.loop-i-preserved
loop-i-preserved c =
    let so = c.loop-i.invariant.so_far in
    let p = c.index_mut-endpoint.result.now in
    let q = c.make_turn.new.endpoint in
    let below : c.loop-i.i < length c.loop-i.endpoints.items = omega (arith, c.loop-i.endpoints.ok.0, c.loop-i.invariant.same_length, c.loop-i-test.true) in
    let at = at_index (scripts_in c.args.endpoints.now.items) c.loop-i.endpoints.items c.loop-i.i p q _ so.stand.behind below c.index_mut-endpoint.ensures.value in
    let step : IsStep c.loop-i.desk.broker.world (numbered c.loop-i.i) p q (reverse c.loop-i.desk.broker.entries) (reverse c.make_turn.new.desk.broker.entries) true =
    subst (λ made. IsStep c.loop-i.desk.broker.world (numbered c.loop-i.i) p q (reverse c.loop-i.desk.broker.entries) (reverse c.make_turn.new.desk.broker.entries) made) c.if-not-branch.false c.in_ok-make_turn.ensures.step in
    let moves : Moves c.args.desk.now.broker.world (numbered c.loop-i.i) p q (reverse c.loop-i.desk.broker.entries) (reverse c.make_turn.new.desk.broker.entries) =
    subst (λ w. Moves w (numbered c.loop-i.i) p q (reverse c.loop-i.desk.broker.entries) (reverse c.make_turn.new.desk.broker.entries)) c.loop-i.invariant.same_world step in
    record {
      same_length = c.loop-i.invariant.same_length;
      same_world = c.in_ok-make_turn.ensures.same_world ∙ c.loop-i.invariant.same_world;
      less = moves_lessen c.args.desk.now.broker.world (scripts_in c.args.endpoints.now.items) c.loop-i.i c.args.endpoints.now.items c.loop-i.endpoints.items _ p q _ _ _ c.loop-i.moved so.stand at moves c.loop-i.invariant.less;
      so_far = round_moves c.args.desk.now.broker.world (scripts_in c.args.endpoints.now.items) c.loop-i.i c.loop-i.endpoints.items _ p q _ _ _ c.loop-i.moved so at moves (sym c.if-is_spent.ensures);
    }

pub returns-then-moved-clause-round : goal.returns-then-moved-clause-round
returns-then-moved-clause-round c =
    let so = c.loop-i.invariant.so_far in
    let len = length_behind (scripts_in c.args.endpoints.now.items) c.loop-i.endpoints.items _ so.stand.behind in
    (all_turns c.args.desk.now.broker.world (scripts_in c.args.endpoints.now.items) c.loop-i.i c.loop-i.endpoints.items _ _ c.loop-i.moved (omega (arith, c.loop-i.endpoints.ok.0, c.loop-i.invariant.same_length, c.loop-i-test.false, c.loop-i.auto.i-end, len)) so, so.unspent)

pub returns-else-moved-clause-round : goal.returns-else-moved-clause-round
returns-else-moved-clause-round c =
    let so = c.loop-i.invariant.so_far in
    let len = length_behind (scripts_in c.args.endpoints.now.items) c.loop-i.endpoints.items _ so.stand.behind in
    let all : c.loop-i.i ≡ length (scripts_in c.args.endpoints.now.items) = omega (arith, c.loop-i.endpoints.ok.0, c.loop-i.invariant.same_length, c.loop-i-test.false, c.loop-i.auto.i-end, len) in
    let here = subst (λ m. RoundSoFar c.args.desk.now.broker.world (scripts_in c.args.endpoints.now.items) c.loop-i.i c.loop-i.endpoints.items (reverse c.args.desk.now.broker.entries) (reverse c.loop-i.desk.broker.entries) m) c.if-moved.false so in
    all_idle c.args.desk.now.broker.world (scripts_in c.args.endpoints.now.items) c.loop-i.i c.loop-i.endpoints.items _ _ all here
