use Rattle.std.proofs.Common.{◌≡◌, refl, None, arith, false}
use Rattle.wx_shared.specs.Works.{past_in, host_is_over}
use Rattle.wx_shared.proofs.WorkLemmas.{leaves_none, none_over}
use Rattle.wx_shared.proofs.telling.AskingWorkShared.act.Goals as goal

pub returns : goal.returns
returns c = λ h stands.
    leaves_none c.args.state.now.broker c.args.state.now.broker c.args.state.now.turns h
    (λ mark. (mark ≡ None) × (c.is_told_to_stop.result ≡ false → host_is_over (past_in h) c.args.self.now.host ≡ false))
    stands c.journal-legal.ensures.legal (record { same_entries = refl; same_world = refl; same_room = (omega arith) })
    (refl, λ on. none_over c.args.state.now.stop _ _ (rw stands.0 c.is_told_to_stop.ensures) on)
