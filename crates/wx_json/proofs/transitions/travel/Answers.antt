use Rattle.std.proofs.Common.{◌<◌, ◌≤◌, length, arith}
use Rattle.wx_json.specs.States.{next_of}
use Rattle.wx_json.proofs.Leading.{leads-joined, leads-more, next_of-entered, next_of-state}
use Rattle.wx_json.proofs.transitions.travel.Goals as goal

pub returns-then-next-lt-FIRST_STATE-clause-value : goal.returns-then-next-lt-FIRST_STATE-clause-value
returns-then-next-lt-FIRST_STATE-clause-value c = λ σ comma.
    let l = c.loop-at in let skip = c.skip-begin in let stop = c.follow-stop in
    leads-joined σ c.args.piece.now c.args.from c.args.start l.state stop.result.state skip.result stop.result.at (omega (arith, l.invariant.1, skip.ensures.bounds.0)) stop.ensures.bounds.0
    (leads-joined σ c.args.piece.now c.args.from c.args.start l.state l.state l.at skip.result l.invariant.1 skip.ensures.bounds.0 (l.invariant.3 σ comma) (skip.ensures.value σ))
    (stop.ensures.value σ)

pub loop-at-preserved : goal.loop-at-preserved
loop-at-preserved c =
    let l = c.loop-at in let skip = c.skip-begin in let stop = c.follow-stop in
    let next = next_of stop.result.entry stop.result.state c.args.after_comma in
    let is = c.plain_next-next.ensures in
    let high : 64 ≤ next = omega (arith, is, c.if-next-lt-FIRST_STATE.false) in
    let inside : stop.result.at < length c.args.piece.now = omega (arith, stop.ensures.bounds.1, c.if-stop-piece.false) in (
      rw is (next_of-state stop.result.entry stop.result.state c.args.after_comma stop.ensures.state c.requires.comma high),
      omega (arith, l.invariant.1, skip.ensures.bounds.0, stop.ensures.bounds.0),
      omega (arith, inside),
      λ σ comma. rw is (leads-more σ c.args.piece.now c.args.from c.args.start stop.result.state next stop.result.entry stop.result.at (omega (arith, l.invariant.1, skip.ensures.bounds.0, stop.ensures.bounds.0)) inside
          (leads-joined σ c.args.piece.now c.args.from c.args.start l.state stop.result.state skip.result stop.result.at (omega (arith, l.invariant.1, skip.ensures.bounds.0)) stop.ensures.bounds.0
          (leads-joined σ c.args.piece.now c.args.from c.args.start l.state l.state l.at skip.result l.invariant.1 skip.ensures.bounds.0 (l.invariant.3 σ comma) (skip.ensures.value σ))
          (stop.ensures.value σ))
          (stop.ensures.next inside)
          (λ k n. next_of-entered stop.result.entry stop.result.state c.args.after_comma k n σ high comma)),
    )
