use Rattle.std.proofs.Common.{sym, subst}
use Rattle.std.specs.Prelude.{reverse}
use Rattle.wx_endpoint.specs.Turn.{CursorState}
use Rattle.wx_run.specs.Step.{IsReady, Moves, Rests}
use Rattle.wx_run.proofs.StepLemmas.{ready_sound, ready_behind, moved, rested, passed_over, rests_on}
use Rattle.wx_run.proofs.step.make_turn.Goals as goal

pub stays_idle-requires : goal.stays_idle-requires
stays_idle-requires c = c.requires.given

pub returns-then-stays_idle-clause-step : goal.returns-then-stays_idle-clause-step
returns-then-stays_idle-clause-step c = passed_over c.args.desk.now.broker.world c.args.desk.now.context c.args.endpoint.now _ c.requires (c.stays_idle.ensures c.if-stays_idle.true)

pub turn-requires-clause-sound : goal.turn-requires-clause-sound
turn-requires-clause-sound c = λ lifetimes. ready_sound c.args.desk.now.broker.world c.args.desk.now.context c.args.endpoint.now _ c.requires

pub turn-requires-clause-behind : goal.turn-requires-clause-behind
turn-requires-clause-behind c = λ lifetimes.
    ready_behind c.args.desk.now.broker.world c.args.desk.now.context c.endpoint.inside.cursor _
    (subst (λ (p : CursorState). IsReady c.args.desk.now.broker.world c.args.desk.now.context p (reverse c.args.desk.now.broker.entries)) (sym c.endpoint.view_is) c.requires)

pub returns-in-Moved-clause-step : goal.returns-in-Moved-clause-step
returns-in-Moved-clause-step c =
    let world = c.args.desk.now.broker.world in
    let before = reverse c.args.desk.now.broker.entries in
    let ready = subst (λ (p : CursorState). IsReady world c.args.desk.now.context p before) (sym c.endpoint.view_is) c.requires in
    subst (λ (p : CursorState). Moves world c.args.desk.now.context p c.turn.new.cursor before (reverse c.turn.new.desk.broker.entries)) c.endpoint.view_is
    (moved c.args.desk.now.context c.turn.new.desk.context world c.turn.new.desk.broker.world _ _ c.endpoint.inside.cursor c.turn.new.cursor
    ready c.in-Moved.ensures.turn c.turn.ensures.behind c.turn.ensures.sound c.turn.ensures.same_script)

pub returns-in-Waits : goal.returns-in-Waits
returns-in-Waits c =
    let world = c.args.desk.now.broker.world in
    let before = reverse c.args.desk.now.broker.entries in
    let ready = subst (λ (p : CursorState). IsReady world c.args.desk.now.context p before) (sym c.endpoint.view_is) c.requires in
    let rests = rested c.args.desk.now.context c.turn.new.desk.context world c.turn.new.desk.broker.world _ _ c.endpoint.inside.cursor c.turn.new.cursor c.turn.result ready c.in-Waits.is c.turn.ensures.turn in
    let step = subst (λ (p : CursorState). Rests c.args.desk.now.context p c.turn.new.cursor before (reverse c.turn.new.desk.broker.entries)) c.endpoint.view_is rests.0 in
    record { step = step; same_context = rests.1; same_world = rests.2 }

pub invariant_of-endpoint-in-Waits : goal.invariant_of-endpoint-in-Waits
invariant_of-endpoint-in-Waits c =
    let world = c.args.desk.now.broker.world in
    let before = reverse c.args.desk.now.broker.entries in
    let ready = subst (λ (p : CursorState). IsReady world c.args.desk.now.context p before) (sym c.endpoint.view_is) c.requires in
    λ is_true. rests_on c.args.desk.now.context c.turn.new.desk.context world c.turn.new.desk.broker.world _ _ c.endpoint.inside.cursor c.turn.new.cursor c.turn.result ready c.in-Waits.is c.turn.ensures.turn c.turn.ensures.behind c.turn.ensures.sound
