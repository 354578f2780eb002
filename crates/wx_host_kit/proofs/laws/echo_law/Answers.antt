use Rattle.wx_host_kit.proofs.ServeLemmas.{echoed}
use Rattle.wx_host_kit.proofs.laws.echo_law.Goals as goal

pub returns : goal.returns
returns c = echoed
