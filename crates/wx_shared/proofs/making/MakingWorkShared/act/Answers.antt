use Rattle.wx_shared.proofs.WorkLemmas.{leaves_made}
use Rattle.wx_shared.proofs.making.MakingWorkShared.act.Goals as goal

pub returns : goal.returns
returns c = λ h stands.
    rw c.make_in-answer.ensures.turns (leaves_made c.args.state.now.broker c.make_in-answer.new.state.broker c.args.state.now.turns h c.args.self.now.who c.args.self.now.call c.make_in-answer.new.work.call c.make_in-answer.result
    stands c.journal-legal.ensures.legal c.make_in-answer.ensures.made)
