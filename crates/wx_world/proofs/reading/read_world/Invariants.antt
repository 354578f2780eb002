use Rattle.std.proofs.Common.{◌≡◌, ◌≤◌, ℕ, Option}
use Rattle.std.specs.Prelude.{Ok}
use Rattle.wx_outside.specs.Shelf.{Files}
use Rattle.wx_script.specs.SceneValue.{SceneValue}
use Rattle.wx_external.specs.World.{WorldLists}
use Rattle.wx_world.specs.Reading.{ComesOf}
use Rattle.wx_world.proofs.reading.read_world.Given as goal

-- the files before the n-th were read, and make this world
pub record Invariant (told now : Option Files) (before faults : ℕ) (scene : SceneValue) (n : ℕ) (world : WorldLists) : Type 0 where
  pub unchanged : now ≡ told
  pub later : before ≤ faults
  pub so_far : ComesOf told scene n (Ok world)

abbrev pub invariant-loop-n : goal.invariant-loop-n
invariant-loop-n g l =
    let old = g.F.Shelf.state l.fn.shelf in
    let now = g.F.Shelf.state l.shelf in
    Invariant old.files now.files old.faults now.faults l.scene l.n l.world
