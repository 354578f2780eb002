use Rattle.std.proofs.Common.{◌-◌, ◌∙◌, sym}
use Rattle.wx_json.specs.Levels.{kinds_of}
use Rattle.wx_json.specs.States.{mode_of, coding_of, went, separated}
use Rattle.wx_json.specs.Check.{running}
use Rattle.wx_json.proofs.Fields.{agreed}
use Rattle.wx_json.proofs.Closing.{separated-name, separated-value}
use Rattle.wx_json.proofs.json_check.JsonCheck.separate.Goals as goal

pub returns-then-kind_at : goal.returns-then-kind_at
returns-then-kind_at c =
    let x = c.self.inside in
    c.enter.ensures
    ∙ agreed x.fault (went 0x4E) separated (running x.taken (coding_of x.state) (mode_of x.state) (1024 - x.depth) (kinds_of x.kinds x.depth)) _ c.self.view_is c.requires.running
    (sym (separated-name x.kinds x.depth x.taken (1024 - x.depth) (coding_of x.state) (mode_of x.state) c.if-self-eq0.false (sym c.kind_at.ensures ∙ c.if-kind_at.true)))

pub returns-else-kind_at : goal.returns-else-kind_at
returns-else-kind_at c =
    let x = c.self.inside in
    c.enter-else-kind_at.ensures
    ∙ agreed x.fault (went 0x57) separated (running x.taken (coding_of x.state) (mode_of x.state) (1024 - x.depth) (kinds_of x.kinds x.depth)) _ c.self.view_is c.requires.running
    (sym (separated-value x.kinds x.depth x.taken (1024 - x.depth) (coding_of x.state) (mode_of x.state) c.if-self-eq0.false (sym c.kind_at.ensures ∙ c.if-kind_at.false)))
