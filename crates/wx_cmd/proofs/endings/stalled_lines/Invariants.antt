use Rattle.std.proofs.Common.{◌≡◌, take}
use Rattle.std.specs.Prelude.{reverse}
use Rattle.wx_cmd.specs.Endings.{stalled_from}
use Rattle.wx_cmd.proofs.endings.stalled_lines.Given as goal

-- the lines of the endpoints so far
abbrev pub invariant-loop-n : goal.invariant-loop-n
invariant-loop-n l = l.lines.items ≡ stalled_from (reverse l.entries) 0 (take l.n l.endpoints)
