use Rattle.std.proofs.Common.{rules, arith}
use Rattle.wx_turn.specs.History.{marks}
use Rattle.wx_turn.proofs.Histories.{marks_length}
use Rattle.wx_turn.proofs.TurnSteps.{draw_keeps, acted, turned, some_of}
use Rattle.wx_turn.proofs.lock.Turn.with_turn.Goals as goal

pub fetch_add-ticket-requires : goal.fetch_add-ticket-requires
fetch_add-ticket-requires g c = (search rules, search rules, draw_keeps g.S.Stands.stands g.S.Stands.fixed _ _ _ _ c.args.seat.now.number c.args.seat.now.numbered c.args.seat.now.rests (search rules))

pub act-answer-requires : goal.act-answer-requires
act-answer-requires g c = let b = c.begin-state.ensures.begun in let long = b.long in let count = g.met.S.Stands.counted c.begin-state.result (marks c.begin-state.new.place.me.0.history) b.stands_for in
    omega (arith, count, marks_length c.begin-state.new.place.me.0.history, long.0, long.1)

pub finish-requires : goal.finish-requires
finish-requires g c =
    let f = some_of c.args.seat.now.place.me.0.fixed c.args.seat.now.alive in
    let all = acted g.S.Stands.stands g.S.Stands.fixed (λ z h e. g.W.Work.relates c.args.work.now c.act-answer.new.self z h e c.act-answer.result) c.args.seat.now.place.me _ c.begin-state.new.place.me c.args.seat.now.number
    c.fetch_add-ticket.result c.begin-state.result c.act-answer.new.state f.0 c.fetch_add-ticket.ensures.2 c.begin-state.ensures.begun c.args.seat.now.numbered f.1 c.act-answer.ensures in
    record { table = search rules; ready = (c.begin-state.ensures.vacant, all.0, (let l = all.1 in omega arith)); stands = all.2 }

pub invariant_of-seat : goal.invariant_of-seat
invariant_of-seat g c =
    let f = some_of c.args.seat.now.place.me.0.fixed c.args.seat.now.alive in
    let all = turned g.S.Stands.stands g.S.Stands.fixed (λ z h e. g.W.Work.relates c.args.work.now c.act-answer.new.self z h e c.act-answer.result) c.args.seat.now.place.me _ c.begin-state.new.place.me c.finish.new.place.me
    c.args.seat.now.number c.fetch_add-ticket.result c.begin-state.result c.act-answer.new.state f.0 c.fetch_add-ticket.ensures.2 c.begin-state.ensures.begun c.args.seat.now.numbered f.1 c.act-answer.ensures c.finish.ensures.served in
    record {
      empty = all.1;
      rests = all.2;
      numbered = all.3;
      alive = λ gone. absurd (cc (gone, all.0.fixed_is.1));
      counted = (let l = all.4 in let k = c.args.seat.now.counted in omega arith, let k = c.args.seat.now.counted in let n = c.if-seat-eq-TURN_LIMIT.false in omega arith);
    }

pub returns-clause-turn : goal.returns-clause-turn
returns-clause-turn g c =
    let f = some_of c.args.seat.now.place.me.0.fixed c.args.seat.now.alive in
    let all = turned g.S.Stands.stands g.S.Stands.fixed (λ z h e. g.W.Work.relates c.args.work.now c.act-answer.new.self z h e c.act-answer.result) c.args.seat.now.place.me _ c.begin-state.new.place.me c.finish.new.place.me
    c.args.seat.now.number c.fetch_add-ticket.result c.begin-state.result c.act-answer.new.state f.0 c.fetch_add-ticket.ensures.2 c.begin-state.ensures.begun c.args.seat.now.numbered f.1 c.act-answer.ensures c.finish.ensures.served in
    all.0
