use Rattle.std.proofs.Common.{◌≡◌, ◌+◌, ◌-◌, ◌<◌, drop, length, refl, ap, ◌∙◌, arith, rules, length-drop}
use Rattle.wx_host_launch.specs.Pipes.{OutState}
use Rattle.wx_host_kit.specs.Serving.{IsServing, IsOver}
use Rattle.wx_host_kit.proofs.ServeLemmas.{within_next, within_last, within_all}
use Rattle.wx_host_kit.proofs.serve.answer_piece.Goals as goal

pub loop-at-init : goal.loop-at-init
loop-at-init g c = record { same = refl; inside = omega arith; limit = c.requires.limit; under_way = c.requires.under_way; serves = λ bytes before so. so }

pub step_in-requires-clause-limit : goal.step_in-requires-clause-limit
step_in-requires-clause-limit g c κs within = c.loop-at.invariant.limit

pub step_in-requires-clause-under_way : goal.step_in-requires-clause-under_way
step_in-requires-clause-under_way g c κs within = c.loop-at.invariant.under_way

pub overflow_add-at : goal.overflow_add-at
overflow_add-at g c =
    let rest_is : c.split_at.result.1.now ≡ drop c.loop-at.at c.args.piece.now = search rules in
    let size = length-drop c.loop-at.at c.args.piece.now in
    let long = ap length rest_is in
    let few = c.in-Used.ensures.goes.1 in
    omega arith

pub loop-at-smaller : goal.loop-at-smaller
loop-at-smaller g c =
    let some = c.in-Used.ensures.goes.0 in
    let less : length c.args.piece.now - (c.loop-at.at + c.in-Used.used) < length c.args.piece.now - c.loop-at.at = omega (arith, c.loop-at-test.true) in
    less

pub loop-at-preserved : goal.loop-at-preserved
loop-at-preserved g c =
    let rest_is : c.split_at.result.1.now ≡ drop c.loop-at.at c.args.piece.now = search rules in
    within_next ((goal.Handler-dyn g (c.args.handler.now.vtable, c.args.handler.now.value)).reply c.args.handler.now.value) ((goal.Handler-dyn g (c.loop-at.handler.vtable, c.loop-at.handler.value)).reply c.loop-at.handler.value) ((goal.Handler-dyn g (c.step_in.new.handler.vtable, c.step_in.new.handler.value)).reply c.step_in.new.handler.value) c.args.reader.now c.loop-at.reader c.step_in.new.reader c.args.piece.now c.split_at.result.1.now c.loop-at.at c.in-Used.used (g.O.HostIn.state c.args.output.now) (g.O.HostIn.state c.loop-at.output) (g.O.HostIn.state c.step_in.new.output) c.loop-at.invariant rest_is c.step_in.ensures.same c.step_in.ensures.limit c.in-Used.ensures.goes c.in-Used.ensures.came

pub returns-in-All-clause-came : goal.returns-in-All-clause-came
returns-in-All-clause-came g c = λ bytes before so.
    let rest_is : c.split_at.result.1.now ≡ drop c.loop-at.at c.args.piece.now = search rules in
    (c.in-All.ensures.goes, within_last ((goal.Handler-dyn g (c.args.handler.now.vtable, c.args.handler.now.value)).reply c.args.handler.now.value) ((goal.Handler-dyn g (c.loop-at.handler.vtable, c.loop-at.handler.value)).reply c.loop-at.handler.value) c.args.reader.now c.loop-at.reader c.args.piece.now c.split_at.result.1.now c.loop-at.at _ _ (λ reply bytes before. IsServing reply bytes c.step_in.new.reader.bytes before (g.O.HostIn.state c.step_in.new.output)) c.loop-at.invariant rest_is c.in-All.ensures.came bytes before so)

pub returns-in-All-clause-same : goal.returns-in-All-clause-same
returns-in-All-clause-same g c = c.step_in.ensures.same ∙ c.loop-at.invariant.same

pub returns-in-Ended-clause-came : goal.returns-in-Ended-clause-came
returns-in-Ended-clause-came g c = λ bytes before so.
    let rest_is : c.split_at.result.1.now ≡ drop c.loop-at.at c.args.piece.now = search rules in
    within_last ((goal.Handler-dyn g (c.args.handler.now.vtable, c.args.handler.now.value)).reply c.args.handler.now.value) ((goal.Handler-dyn g (c.loop-at.handler.vtable, c.loop-at.handler.value)).reply c.loop-at.handler.value) c.args.reader.now c.loop-at.reader c.args.piece.now c.split_at.result.1.now c.loop-at.at _ _ (λ reply bytes before. (old new : OutState) → IsOver reply bytes old new before (g.O.HostIn.state c.step_in.new.output) c.in-Ended.end) c.loop-at.invariant rest_is c.in-Ended.ensures.came bytes before so

pub returns-in-Ended-clause-same : goal.returns-in-Ended-clause-same
returns-in-Ended-clause-same g c = c.step_in.ensures.same ∙ c.loop-at.invariant.same

pub returns-clause-limit : goal.returns-clause-limit
returns-clause-limit g c = c.loop-at.invariant.limit

pub returns-clause-came : goal.returns-clause-came
returns-clause-came g c = within_all ((goal.Handler-dyn g (c.args.handler.now.vtable, c.args.handler.now.value)).reply c.args.handler.now.value) ((goal.Handler-dyn g (c.loop-at.handler.vtable, c.loop-at.handler.value)).reply c.loop-at.handler.value) c.args.reader.now c.loop-at.reader c.args.piece.now c.loop-at.at _ _ c.loop-at.invariant (omega (arith, c.loop-at-test.false))

pub returns-clause-same : goal.returns-clause-same
returns-clause-same g c = c.loop-at.invariant.same
