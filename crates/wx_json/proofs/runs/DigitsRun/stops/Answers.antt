use Rattle.std.proofs.Common.{◌≡◌, ◌+◌, ◌-◌, ◌%◌, not, take, length, w8, arith, length-take}
use Rattle.std.proofs.lemmas.Simd.{zip2_splat, chunk-fits}
use Rattle.wx_json.specs.Json.{is_digit}
use Rattle.wx_json.proofs.Lanes.{at_most, masked, from_splat}
use Rattle.wx_json.proofs.runs.DigitsRun.stops.Goals as goal

pub returns : goal.returns
returns c =
    let v = take 16 c.args.block.now in
    let full : length v ≡ 16 = omega (arith, length-take 16 c.args.block.now, c.requires) in
    masked _ (λ x. not (is_digit x)) v _ (omega arith) (chunk-fits w8 0 16 c.args.block.now c.type_inv.block)
    (from_splat at_most _ 10 16 v full (zip2_splat (λ a b. (a + (256 - b)) % 256) v 16 48 full)) tt
