use Rattle.std.proofs.Common.{◌≡◌, not, take, length, w8, arith, length-take}
use Rattle.std.proofs.lemmas.Simd.{zip2_splat, chunk-fits}
use lib.Bits.{bit_or}
use Rattle.wx_json.specs.Plain.{is_plain}
use Rattle.wx_json.proofs.Lanes.{hit, below, at_most, lanewise, masked, from_splat, as_is}
use Rattle.wx_json.proofs.runs.PlainRun.stops.Goals as goal

pub returns : goal.returns
returns c =
    let v = take 32 c.args.block.now in
    let full : length v ≡ 32 = omega (arith, length-take 32 c.args.block.now, c.requires) in
    masked _ (λ x. not (is_plain x)) v _ (omega arith) (chunk-fits w8 0 32 c.args.block.now c.type_inv.block)
    (lanewise bit_or _ _ v (lanewise bit_or _ _ v (lanewise bit_or _ _ v (zip2_splat hit v 32 34 full) (zip2_splat hit v 32 92 full)) (zip2_splat below v 32 32 full)) (from_splat at_most (λ x. x) 128 32 v full (as_is v))) tt
