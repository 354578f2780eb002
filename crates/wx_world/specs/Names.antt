-- The names of a scene's files.
use Rattle.std.specs.Prelude.{ℕ, List, [], Option, unwrap_or, slice_get}
use Rattle.std.specs.Option.{option_map_or}
use Rattle.wx_script.specs.declared.scene.SceneExtension.{SceneExtension}
use Rattle.wx_script.specs.declared.scene.SceneFile.{SceneFile}
use Rattle.wx_script.specs.declared.scene.SceneFile.TheVariants.{Extension, Host}
use Rattle.wx_script.specs.SceneValue.{SceneValue}

abbrev pub text_or_empty : Option (List ℕ) → List ℕ
text_or_empty text = unwrap_or text []

-- the file that an extension's line names; empty where it names none
abbrev pub extension_file : Option SceneExtension → List ℕ
extension_file extension = option_map_or (λ (e : SceneExtension). text_or_empty e.file) extension []

-- The name under which a file stands, as the scene writes it. A scene that was read has each extension and host that
-- its files name.
abbrev pub name_of : SceneValue → SceneFile → List ℕ
name_of scene (Extension place) = extension_file (slice_get scene.extensions place)
name_of scene (Host place) = text_or_empty (slice_get scene.hosts place)

-- the same of the file at a place among those that the scene names
abbrev pub name_at : SceneValue → ℕ → List ℕ
name_at scene place = option_map_or (name_of scene) (slice_get scene.files place) []
