use Rattle.std.proofs.Common.{◌≡◌, [], take, fold}
use Rattle.wx_who.specs.Tabs.{with_tab_of}
use Rattle.wx_who.proofs.tabs.tabs_of.Given as goal

-- the tabs of the endpoints before
abbrev pub invariant-loop-endpoint : goal.invariant-loop-endpoint
invariant-loop-endpoint l = l.tabs.items ≡ fold with_tab_of [] (take l.endpoint-index l.endpoints)
