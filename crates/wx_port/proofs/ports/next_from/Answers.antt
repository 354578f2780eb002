use Rattle.std.proofs.Common.{◌≤◌, length, arith}
use Rattle.wx_port.proofs.SearchLater.{none_before, before_place}
use Rattle.wx_port.proofs.ports.next_from.Goals as goal

pub returns-then-has_live_end-clause-least : goal.returns-then-has_live_end-clause-least
returns-then-has_live_end-clause-least c = λ j low high.
    none_before c.args.table.now c.args.c c.args.own.now c.args.from.0 c.loop-i.i j c.requires.sound c.requires.own c.loop-i.invariant low
    (λ p inside at. before_place c.args.own.now c.loop-i.i j p c.requires.rising c.loop-i-test.true high inside at)

pub returns-clause-none : goal.returns-clause-none
returns-clause-none c = λ is j low.
    let end : length c.args.own.now ≤ c.loop-i.i = c.loop-i-test.false in
    none_before c.args.table.now c.args.c c.args.own.now c.args.from.0 c.loop-i.i j c.requires.sound c.requires.own c.loop-i.invariant low (λ p inside at. omega (arith, inside, end))
