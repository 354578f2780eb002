-- What a check's fields stand for.
use Rattle.std.specs.Prelude.{◌-◌, ◌≤◌, ◌≡◌, true, length, Option, Some, None}
use Rattle.wx_json.specs.Check.{Progress, running, failed}
use Rattle.wx_json.specs.Levels.{kinds_of}
use Rattle.wx_json.specs.States.{is_state, mode_of, coding_of}
use Rattle.wx_json.specs.declared.JsonFault.{JsonFault}
use Rattle.wx_json.specs.declared.json_check.JsonCheck.TheInside.{Inside}

abbrev pub unless_failed : Option JsonFault → Progress → Progress
unless_failed None p = p
unless_failed (Some f) p = failed f

-- Room is counted down from 1,024 levels.
abbrev pub progress_of : Inside → Progress
progress_of a = unless_failed a.fault (running a.taken (coding_of a.state) (mode_of a.state) (1024 - a.depth)
    (kinds_of a.kinds a.depth))

pub record IsSound (a : Inside) : Type 0 where
  pub state : is_state a.state ≡ true
  pub depth : a.depth ≤ 1024
  pub kinds : length a.kinds ≡ 16
