use Rattle.std.proofs.Common.{◌≡◌, ◌++◌, take}
use Rattle.std.specs.Prelude.{codes, flat_map}
use Rattle.wx_journal_text.specs.Text.{entry_text}
use Rattle.wx_journal_text.proofs.printing.print.Given as goal

-- the lines of the entries so far
abbrev pub invariant-loop-e : goal.invariant-loop-e
invariant-loop-e l = l.out.items ≡ codes "wx journal 1 chrome\n" ++ flat_map entry_text (take l.e-index l.entries)
