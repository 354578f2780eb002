use Rattle.std.proofs.Common.{◌≡◌, not, take, length, w8, arith, length-take}
use Rattle.std.proofs.lemmas.Simd.{zip2_splat, chunk-fits}
use lib.Bits.{bit_and}
use Rattle.wx_json.specs.Json.{is_white}
use Rattle.wx_json.proofs.Lanes.{miss, lanewise, masked}
use Rattle.wx_json.proofs.runs.WhiteRun.stops.Goals as goal

pub returns : goal.returns
returns c =
    let v = take 16 c.args.block.now in
    let full : length v ≡ 16 = omega (arith, length-take 16 c.args.block.now, c.requires) in
    masked _ (λ x. not (is_white x)) v _ (omega arith) (chunk-fits w8 0 16 c.args.block.now c.type_inv.block)
    (lanewise bit_and _ _ v (lanewise bit_and _ _ v (lanewise bit_and _ _ v (zip2_splat miss v 16 32 full) (zip2_splat miss v 16 9 full)) (zip2_splat miss v 16 10 full)) (zip2_splat miss v 16 13 full)) tt
