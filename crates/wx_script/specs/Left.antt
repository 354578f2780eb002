-- An endpoint has ended exactly where its context has left.
use Rattle.std.specs.Prelude.{◌≡◌, List, slice_get, Some}
use Rattle.wx_id.specs.declared.numbers.ContextNo.{ContextNo}
use Rattle.wx_external.specs.World.{WorldLists}
use Rattle.wx_machine.specs.declared.entries.Entry.{Entry}
use Rattle.wx_machine.specs.Words.{has_left, FollowsMachine, EachAfter}
use Rattle.wx_script.specs.declared.script.Command.{Command}
use Rattle.wx_script.specs.Carries.{FollowsScript}
use Rattle.wx_script.specs.Ends.{script_has_ended}

-- after legal entries that follow the scripts
abbrev pub EndsByLeaving : Type 0
EndsByLeaving =
    (world : WorldLists) (scripts : List (List Command)) (script : List Command) (c : ContextNo) (past : List Entry)
    → EachAfter (FollowsMachine world) past → EachAfter (FollowsScript scripts) past
    → slice_get scripts c.0 ≡ Some script
    → script_has_ended script c past ≡ has_left past c
