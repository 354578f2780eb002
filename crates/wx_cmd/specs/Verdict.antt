-- What a call for a run answers before it writes.
use Rattle.std.specs.Prelude.{ℕ, List}
use Rattle.wx_script.specs.declared.scene.SceneFault.{SceneFault}
use Rattle.wx_run.specs.declared.outcome.RunEnd.{RunEnd}
use Rattle.wx_world.specs.declared.faults.FileRefusal.{FileRefusal}

pub data Verdict : Type 0 where
  -- the file of this name could not be read
  read_fault : List ℕ → Verdict
  -- the scene is refused for this
  refused : SceneFault → Verdict
  -- a manifest of the scene is refused so, and this is the name of its file
  manifest_refused : FileRefusal → List ℕ → Verdict
  -- memory was refused
  no_memory : Verdict
  -- the scene was run to this end, these bytes are the text of its journal, and these the lines that tell of its end
  ran : RunEnd → List ℕ → List ℕ → Verdict
