use Rattle.std.proofs.Common.{◌≡◌, ◌++◌, take}
use Rattle.wx_html.specs.Escape.{escaped}
use Rattle.wx_html.proofs.escape.Given as goal

-- the bytes before stand in the page
abbrev pub invariant-loop-byte : goal.invariant-loop-byte
invariant-loop-byte l = l.page.items ≡ l.initial.page.items ++ escaped (take l.byte-index l.text)
