use Rattle.std.proofs.Common.{◌≡◌, ◌++◌, take, drop}
use Rattle.wx_journal_read.specs.Reading.{digits_of, after_digits}
use Rattle.wx_journal_read.proofs.field.split_digits.Given as goal

-- no other byte came so far
abbrev pub invariant-loop-i : goal.invariant-loop-i
invariant-loop-i l = record {
  digits_so_far : take l.i l.bytes ++ digits_of (drop l.i l.bytes) ≡ digits_of l.bytes;
  rest_so_far : after_digits (drop l.i l.bytes) ≡ after_digits l.bytes;
}
