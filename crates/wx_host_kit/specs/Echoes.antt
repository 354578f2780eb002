-- What the echo writes: what it reads.
use Rattle.std.specs.Prelude.{◌≡◌, ℕ, List, [], ◌++◌, Some}
use Rattle.wx_native_frame.specs.Splits.{frames, AllFit}
use Rattle.wx_outside.specs.Sink.{added}
use Rattle.wx_host_launch.specs.Pipes.{InState, OutState, Gives}
use Rattle.wx_host_kit.specs.declared.KitEnd.{KitEnd}
use Rattle.wx_host_kit.specs.declared.KitEnd.TheVariants.{WriteFailed}
use Rattle.wx_host_kit.specs.Kit.{longest_read, IsServed}

-- What was read is the frames of some texts and a rest, and what was written is the frames of the same texts; a part of
-- another frame stands behind them only after a failed write. All that was written is a front of what was read.
pub record IsEchoed (old new : OutState) (before now : InState) (end : KitEnd) : Type 0 where
  pub bytes : List ℕ
  pub given : Gives old.stream new.stream bytes
  pub texts : List (List ℕ)
  pub rest : List ℕ
  pub read : bytes ≡ frames texts ++ rest
  pub fit : AllFit longest_read texts
  pub part : List ℕ
  pub sent : now.sent ≡ added before.sent (frames texts ++ part)
  pub whole : (end ≡ WriteFailed → ⊥) → part ≡ []
  pub behind : List ℕ
  pub front : bytes ≡ (frames texts ++ part) ++ behind

-- so does every kit that serves by the echo
abbrev pub EchoLaw : Type 0
EchoLaw = (old new : OutState) (before now : InState) (end : KitEnd)
    → IsServed (λ text. Some text) old new before now end → IsEchoed old new before now end
