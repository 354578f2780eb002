use Rattle.std.proofs.Common.{◌≤◌, arith}
use Rattle.wx_json.proofs.Table.{state_bounds}
use Rattle.wx_json.proofs.Parts.{entered-went}
use Rattle.wx_json.proofs.Leading.{leads-more}
use Rattle.wx_json.specs.Check.{running}
use Rattle.wx_json.specs.States.{mode_of, coding_of}
use Rattle.wx_json.proofs.transitions.follow.Goals as goal

pub loop-at-preserved : goal.loop-at-preserved
loop-at-preserved c =
    let entry = c.transition-entry in
    let high : 64 ≤ entry.result = omega (arith, c.if-entry-lt-FIRST_STATE.false) in (
      entry.ensures.state high,
      omega (arith, c.loop-at.invariant.1),
      omega (arith, c.loop-at-test.true),
      omega (arith, (state_bounds entry.result (entry.ensures.state high)).1),
      λ σ. leads-more σ c.args.piece.now c.args.from c.args.start c.loop-at.state entry.result entry.result c.loop-at.at c.loop-at.invariant.1 c.loop-at-test.true (c.loop-at.invariant.4 σ) entry.ensures.value
          (λ k n. entered-went entry.result (running k (coding_of c.loop-at.state) (mode_of c.loop-at.state) n σ) high),
    )
