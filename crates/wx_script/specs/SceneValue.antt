-- What a scene is.
use Rattle.std.specs.Prelude.{ℕ, List, map}
use Rattle.wx_script.specs.declared.script.Command.{Command}
use Rattle.wx_script.specs.declared.scene.SceneExtension.{SceneExtension}
use Rattle.wx_script.specs.declared.scene.SceneFile.{SceneFile}
use Rattle.wx_script.specs.declared.scene.SceneEndpoint.{SceneEndpoint}

pub record SceneValue : Type 0 where
  pub extensions : List SceneExtension
  -- the files of the host manifests
  pub hosts : List (List ℕ)
  -- the files that lines name, in the order of the lines
  pub files : List SceneFile
  pub endpoints : List SceneEndpoint

-- the scripts of its endpoints; endpoint i is context i
abbrev pub scripts_of : SceneValue → List (List Command)
scripts_of scene = map (λ (e : SceneEndpoint). e.script) scene.endpoints
