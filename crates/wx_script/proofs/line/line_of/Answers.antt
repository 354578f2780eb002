use Rattle.wx_script.specs.View.{line_view}
use Rattle.wx_script.proofs.Spelled.{spelled, no_spelling}
use Rattle.wx_script.proofs.line.line_of.Goals as goal

pub returns-clause-found : goal.returns-clause-found
returns-clause-found c = spelled line_view c.read_line.result c.args.text.now c.read_line.ensures

pub returns-clause-none : goal.returns-clause-none
returns-clause-none c = no_spelling line_view c.read_line.result c.args.text.now c.read_line.ensures
