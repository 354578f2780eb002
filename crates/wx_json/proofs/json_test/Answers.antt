use Rattle.wx_json.proofs.TestLaws.{is_json_text-exact}
use Rattle.wx_json.proofs.json_test.Goals as goal

pub returns : goal.returns
returns c = is_json_text-exact
