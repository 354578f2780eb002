use Rattle.std.proofs.Common.{◌≡◌, ◌+◌, ◌<◌, ◌^◌, length}
use Rattle.wx_script.specs.Adding.{so_far, IsIndexed}
use Rattle.wx_script.specs.Scene.{lines_of, lines_added}
use Rattle.wx_script.proofs.reading.add_lines.Given as goal

-- the lines that are left, from this number on, make of the draft what all make of the first
abbrev pub invariant-loop-left : goal.invariant-loop-left
invariant-loop-left l = record {
  reads : lines_added l.number (so_far l.draft) (lines_of l.left) ≡ lines_added 2 (so_far l.fn.draft) (lines_of l.fn.text);
  indexed : IsIndexed l.draft;
  numbers : l.number + length l.left < 2 ^ 63 + 2;
}

abbrev pub decreases-loop-left : goal.decreases-loop-left
decreases-loop-left l = length l.left
