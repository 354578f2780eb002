use Rattle.std.proofs.Common.{refl}
use Rattle.std.specs.Fmt.{digits}
use Rattle.wx_journal_text.proofs.laws.tabs_and_frames_text.Goals as goal

pub returns : goal.returns
unfolding digits
returns c = λ world. refl
