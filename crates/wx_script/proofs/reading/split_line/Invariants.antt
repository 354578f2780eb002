use Rattle.std.proofs.Common.{◌≡◌, ◌++◌, take, drop}
use Rattle.wx_script.specs.Reading.{first_line, behind_line}
use Rattle.wx_script.proofs.reading.split_line.Given as goal

-- no line feed came so far
abbrev pub invariant-loop-i : goal.invariant-loop-i
invariant-loop-i l = record {
  line_so_far : take l.i l.text ++ first_line (drop l.i l.text) ≡ first_line l.text;
  rest_so_far : behind_line (drop l.i l.text) ≡ behind_line l.text;
}
