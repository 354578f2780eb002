use Rattle.std.proofs.Common.{◌-◌, ◌≤◌, take, length}
use Rattle.wx_json.specs.Check.{Stands, taken}
use Rattle.wx_json_bench.proofs.check_in_pieces.Given as goal

abbrev pub invariant-loop-at : goal.invariant-loop-at
invariant-loop-at l = Stands l.check (take l.at l.bytes) × (taken l.check ≤ l.at) × (l.at ≤ length l.bytes)

abbrev pub decreases-loop-at : goal.decreases-loop-at
decreases-loop-at l = length l.bytes - l.at
