use Rattle.wx_pipe_laws.proofs.Echo.{echo_is_good}
use Rattle.wx_pipe_laws.proofs.laws.echo_is_good.Goals as goal

pub returns : goal.returns
returns c = echo_is_good
