use Rattle.std.proofs.Common.{◌≡◌, ℕ, ◌+◌, ◌-◌, ◌++◌, List, take, drop, ap, ◌∙◌, sym, subst, arith, take-add}
use Rattle.wx_json.specs.Check.{Stands}
use Rattle.wx_json_bench.proofs.check_in_pieces.Goals as goal

-- what was given before, and the next piece
further : (bytes : List ℕ) (at n : ℕ) → take at bytes ++ take (at + n - at) (drop at bytes) ≡ take (at + n) bytes
further bytes at n = let length : at + n - at ≡ n = omega arith in ap (λ n. take at bytes ++ take n (drop at bytes)) length ∙ sym (take-add at n bytes)

pub loop-at-preserved : goal.loop-at-preserved
loop-at-preserved c =
    let P : List ℕ → Type 0 = Stands c.step.new.self in (
      subst P (further c.args.bytes.now c.loop-at.at c.min.result) (c.step.ensures.stands _ c.loop-at.invariant.0),
      omega (arith, c.step.ensures.count, c.loop-at.invariant.1, c.min.ensures),
      omega (arith, c.min.ensures),
    )
