-- What a call answers before it writes.
use Rattle.std.specs.Prelude.{ℕ, List}
use Rattle.wx_status.specs.declared.status.InputKind.{InputKind}
use Rattle.wx_plain.specs.Output.{Output}

pub data Verdict : Type 0 where
  -- the words ask for no command
  usage : Verdict
  -- the file of this name could not be read
  read_fault : List ℕ → Verdict
  -- the command's input is refused for this
  refused : InputKind → Verdict
  -- memory was refused
  no_memory : Verdict
  -- the command answers this
  answered : Output → Verdict
