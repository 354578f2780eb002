use Rattle.std.proofs.Common.{◌≡◌, ◌+◌, ◌-◌, ◌≤◌, take, length}
use Rattle.wx_json.specs.Check.{advances, taken}
use Rattle.wx_json.proofs.json_check.JsonCheck.run.Given as goal

abbrev pub invariant-loop-at : goal.invariant-loop-at
invariant-loop-at l = (l.self ≡ advances l.fn.self (take l.at l.piece)) × (taken l.self ≤ taken l.fn.self + l.at) × (l.at ≤ length l.piece)

abbrev pub decreases-loop-at : goal.decreases-loop-at
decreases-loop-at l = length l.piece - l.at
