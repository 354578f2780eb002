use Rattle.std.proofs.Common.{◌-◌}
use Rattle.wx_json.specs.Levels.{kinds_of}
use Rattle.wx_json.specs.States.{mode_of, coding_of, closed_empty}
use Rattle.wx_json.specs.Check.{running}
use Rattle.wx_json.proofs.Fields.{stepped}
use Rattle.wx_json.proofs.Closing.{closed_empty-fields}
use Rattle.wx_json.proofs.json_check.JsonCheck.close_empty.Goals as goal

pub returns-else-self-eq0 : goal.returns-else-self-eq0
returns-else-self-eq0 c =
    let x = c.self.inside in
    stepped x.fault closed_empty (running x.taken (coding_of x.state) (mode_of x.state) (1024 - x.depth) (kinds_of x.kinds x.depth)) _ _ c.self.view_is c.requires.running
    (closed_empty-fields x.kinds x.depth x.taken (coding_of x.state) (mode_of x.state) c.if-self-eq0.false c.self.invariant.depth)
