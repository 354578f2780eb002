use Rattle.std.proofs.Common.{◌≡◌, refl, None, IfOk, arith}
use Rattle.wx_machine.specs.Words.{text_of}
use Rattle.wx_shared.specs.Works.{past_in}
use Rattle.wx_shared.proofs.WorkLemmas.{leaves_none}
use Rattle.wx_shared.proofs.telling.CopyingWorkShared.act.Goals as goal

pub returns : goal.returns
returns c = λ h stands.
    leaves_none c.args.state.now.broker c.args.state.now.broker c.args.state.now.turns h
    (λ mark. (mark ≡ None) × IfOk c.copy_in.result (λ text. text ≡ text_of (past_in h) c.args.self.now.entry))
    stands c.copy_in.ensures.legal (record { same_entries = refl; same_world = refl; same_room = (omega arith) }) (refl, rw stands.0 c.copy_in.ensures.copied)
