-- The numbers of the program's answers.
use Rattle.std.specs.Prelude.{ℕ}
use Rattle.wx_status.specs.declared.status.Status.{Status}
use Rattle.wx_status.specs.declared.status.Status.TheVariants.{Done, Stalled, No, Usage, ReadFault, SceneRefused, InputRefused, ManifestRefused, WriteFault, NoMemory, Spent}

-- the number with which the program ends
abbrev pub status_number : Status → ℕ
status_number Done = 0
status_number Stalled = 1
status_number No = 1
status_number Usage = 2
status_number ReadFault = 3
status_number (SceneRefused line kind) = 4
status_number (InputRefused kind) = 4
status_number (ManifestRefused file kind) = 5
status_number WriteFault = 6
status_number NoMemory = 7
status_number (Spent who) = 8
