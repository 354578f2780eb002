use Rattle.std.proofs.Common.{◌-◌, take, drop}
use Rattle.wx_json.specs.Levels.{kinds_of}
use Rattle.wx_json.specs.States.{mode_of, coding_of}
use Rattle.wx_json.specs.Check.{running, advances}
use Rattle.wx_json.proofs.Fields.{stepped}
use Rattle.wx_json.proofs.json_check.JsonCheck.glide.Goals as goal

pub returns-clause-value : goal.returns-clause-value
returns-clause-value c =
    let x = c.self.inside in
    let stop = c.travel-stop in
    let bytes = take (stop.result.at - c.args.from) (drop c.args.from c.args.piece.now) in
    stepped x.fault (λ p. advances p bytes) (running x.taken (coding_of x.state) (mode_of x.state) (1024 - x.depth) (kinds_of x.kinds x.depth)) _ _ c.self.view_is c.requires.running
    (stop.ensures.value (kinds_of x.kinds x.depth) c.after_comma-after_comma.ensures.leads x.taken (1024 - x.depth))
