use Rattle.std.proofs.Common.{arith, ℕ, ◌≡◌, length, subst}
use Rattle.wx_match_pattern.proofs.GlobLemmas.{RunsFrom, RunsFrom-zero, RunsFrom-suc, run_of-at_star, run_of-at_end, run_of-at_other, run_of-same_length, run_of-other_length}
use Rattle.wx_match_pattern.proofs.glob.run_at_front.Goals as goal
use Rattle.wx_match_pattern.proofs.glob.run_at_front.Goals.{then-i-text-via-then-i-text, then-i-text-via-else-i-text+then-text-i}

pub loop-i-init : goal.loop-i-init
loop-i-init c = RunsFrom-zero c.args.pattern.now c.args.text.now

pub returns-then-byte-eq42-clause-value : goal.returns-then-byte-eq42-clause-value
returns-then-byte-eq42-clause-value c =
    run_of-at_star c.args.pattern.now c.args.text.now c.loop-i.i c.loop-i.invariant (omega arith) c.if-byte-eq42.true

pub returns-then-i-text-clause-value : goal.returns-then-i-text-clause-value
returns-then-i-text-clause-value c =
    elim c.then-i-text.branch [
      | then-i-text-via-then-i-text w ↦
          run_of-at_end c.args.pattern.now c.args.text.now c.loop-i.i c.loop-i.invariant (omega arith) c.if-byte-eq42.false
          (omega arith)
      | then-i-text-via-else-i-text+then-text-i w ↦
          run_of-at_other c.args.pattern.now c.args.text.now c.loop-i.i c.loop-i.invariant (omega arith) (omega arith)
          c.if-byte-eq42.false (λ e. omega arith)
    ]

pub loop-i-preserved : goal.loop-i-preserved
loop-i-preserved c =
    RunsFrom-suc c.args.pattern.now c.args.text.now c.loop-i.i c.loop-i.invariant (omega arith) (omega arith)
    c.if-byte-eq42.false (omega arith)

pub returns-then-pattern-text-clause-value : goal.returns-then-pattern-text-clause-value
returns-then-pattern-text-clause-value c =
    let at : c.loop-i.i ≡ length c.args.pattern.now = omega arith in
    run_of-same_length c.args.pattern.now c.args.text.now
    (subst (λ (k : ℕ). RunsFrom c.args.pattern.now c.args.text.now k) at c.loop-i.invariant) (omega arith)

pub returns-else-pattern-text-clause-value : goal.returns-else-pattern-text-clause-value
returns-else-pattern-text-clause-value c =
    let at : c.loop-i.i ≡ length c.args.pattern.now = omega arith in
    run_of-other_length c.args.pattern.now c.args.text.now
    (subst (λ (k : ℕ). RunsFrom c.args.pattern.now c.args.text.now k) at c.loop-i.invariant) c.if-pattern-text.false
