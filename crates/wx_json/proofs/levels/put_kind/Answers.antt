use Rattle.std.proofs.Common.{◌%◌, ◌<◌, ap, arith, true, false, w64}
use Rattle.std.specs.Prelude.{◌==◌}
use Rattle.std.proofs.lemmas.Nat.Bits.{bit_at_set_same, bit_at_set_other, bit_at_clear_same, bit_at_clear_other}
use Rattle.wx_json.proofs.Stack.{kinds_put}
use Rattle.wx_json.proofs.levels.put_kind.Goals as goal
use Rattle.wx_json.proofs.levels.put_kind.Goals.{then-object, else-object}

pub returns : goal.returns
returns c = let k : c.args.at % 64 < 64 = omega arith in
    elim c.if-object.branch [
      | then-object w ↦ rw (w.kinds-is, w.if-object.true) (kinds_put _ _ _ c.requires (λ i h n. bit_at_set_other w64 _ _ k i n) true (ap (λ b. b == 1) (bit_at_set_same w64 _ _ k)))
      | else-object w ↦ rw (w.kinds-is, w.if-object.false) (kinds_put _ _ _ c.requires (λ i h n. bit_at_clear_other w64 _ _ k i h n) false (ap (λ b. b == 1) (bit_at_clear_same w64 _ _ k)))
    ]
