use Rattle.std.proofs.Common.{◌≡◌, ◌++◌, map, take}
use Rattle.std.specs.Prelude.{string_bytes}
use Rattle.wx_who.specs.Table as spec
use Rattle.wx_who.specs.Table.{lines_of, lines_text}
use Rattle.wx_who.proofs.lines.put_tabs.Given as goal

-- the lines about those before are written
abbrev pub invariant-loop-tab : goal.invariant-loop-tab
invariant-loop-tab l =
    string_bytes l.out ≡ string_bytes l.initial.out ++ lines_text (lines_of l.caller (map spec.tab (take l.tab-index l.tabs)))
