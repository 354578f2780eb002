use Rattle.wx_shared.proofs.WorkLemmas.{leaves_taken}
use Rattle.wx_shared.proofs.taking.TakingReadyWorkShared.act.Goals as goal

pub returns : goal.returns
returns c = λ h stands. leaves_taken c.args.state.now.broker c.take_in-taken.new.broker c.args.state.now.turns h c.args.self.now.context c.take_in-taken.result stands c.journal-legal.ensures.legal c.take_in-taken.ensures
