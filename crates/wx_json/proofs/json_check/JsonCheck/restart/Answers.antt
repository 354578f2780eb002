use Rattle.wx_json.specs.States.{mode_of, coding_of}
use Rattle.wx_json.proofs.Laws.{Stands-beginning}
use Rattle.wx_json.proofs.json_check.JsonCheck.restart.Goals as goal

pub returns-clause-stands : goal.returns-clause-stands
unfolding mode_of coding_of
returns-clause-stands c = Stands-beginning
