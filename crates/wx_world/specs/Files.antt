-- What the files hold that a scene names, file after file.
use Rattle.std.specs.Prelude.{ℕ, ◌+◌, List, [], ◌∷◌, ◌++◌, map, Option, Some, None, slice_get, Result, Ok, Err, if◌then◌else◌}
use Rattle.wx_id.specs.Results.{◌>>=◌, told_as}
use Rattle.wx_outside.specs.Shelf.{Files, Content, present, absent, too_large, content_at}
use Rattle.wx_script.specs.declared.scene.SceneExtension.{SceneExtension}
use Rattle.wx_script.specs.declared.scene.SceneFile.{SceneFile}
use Rattle.wx_script.specs.declared.scene.SceneFile.TheVariants.{Extension, Host}
use Rattle.wx_script.specs.SceneValue.{SceneValue}
use Rattle.wx_script.specs.Words.{file_name}
use Rattle.wx_manifest.specs.ExtensionManifests.{Manifest, extension_of}
use Rattle.wx_host_manifest.specs.HostManifests as hosts
use Rattle.wx_external.specs.World.{WorldLists, empty_world, holds_id, holds_name}
use Rattle.wx_world.specs.declared.faults.FileKind.{FileKind}
use Rattle.wx_world.specs.declared.faults.FileKind.TheVariants as kind
use Rattle.wx_world.specs.declared.faults.FileRefusal.{FileRefusal}
use Rattle.wx_world.specs.Names.{name_of}

-- the bytes that stand there, or why the file is refused
abbrev pub bytes_in : Content → Result (List ℕ) FileKind
bytes_in absent = Err kind.Missing
bytes_in too_large = Err kind.Large
bytes_in (present bytes) = Ok bytes

-- the extension's manifest that stands there, or why it is refused
abbrev pub extension_in : Content → Result Manifest FileKind
extension_in content = do
  bytes ← bytes_in content
  told_as kind.Extension (extension_of bytes)

-- the host's manifest that stands under this name, or why it is refused
abbrev pub host_in : List ℕ → Content → Result hosts.Host FileKind
host_in name content = do
  bytes ← bytes_in content
  told_as kind.Host (hosts.host_of (file_name name) bytes)

-- the world with an extension's manifest; one with that id that is there already stays
abbrev pub with_extension : WorldLists → List ℕ → Manifest → WorldLists
with_extension world id manifest =
    if holds_id world id then world
    else record world { extensions = world.extensions ++ record { id = id; manifest = manifest } ∷ [] }

-- the world with a host; one with that name that is there already stays
abbrev pub with_host : WorldLists → hosts.Host → WorldLists
with_host world host =
    if holds_name world host.name then world else record world { hosts = world.hosts ++ host ∷ [] }

-- the world with the manifest of an extension of the scene
abbrev pub with_manifest_of : Option SceneExtension → WorldLists → Manifest → WorldLists
with_manifest_of None world manifest = world
with_manifest_of (Some extension) world manifest = with_extension world extension.id manifest

-- the world with what stands in a file of the scene, or why the file is refused
abbrev pub file_added : SceneValue → SceneFile → Content → WorldLists → Result WorldLists FileKind
file_added scene (Extension place) content world = do
  manifest ← extension_in content
  Ok (with_manifest_of (slice_get scene.extensions place) world manifest)
file_added scene (Host place) content world = do
  host ← host_in (name_of scene (Host place)) content
  Ok (with_host world host)

-- a file of a scene, and what stands in it
pub record FileContent : Type 0 where
  pub file : SceneFile
  pub content : Content

-- what follows, unless the file with this number is refused
abbrev pub unless_refused : ℕ → Result WorldLists FileKind → (WorldLists → Result WorldLists FileRefusal)
    → Result WorldLists FileRefusal
unless_refused n (Ok world) f = f world
unless_refused n (Err kind) f = Err (record { file = n; kind = kind })

-- the world with what stands in these files, of which the first has the number n: one after another, up to the first
-- refusal
abbrev pub files_added : SceneValue → ℕ → WorldLists → List FileContent → Result WorldLists FileRefusal
files_added scene n world [] = Ok world
files_added scene n world (this ∷ others) = unless_refused n (file_added scene this.file this.content world)
    (λ more. files_added scene (n + 1) more others)

-- the same from the world that holds nothing
abbrev pub world_from : SceneValue → List FileContent → Result WorldLists FileRefusal
world_from scene contents = files_added scene 0 empty_world contents

-- a file of a scene with what a shelf has under its name
abbrev pub content_on : Files → SceneValue → SceneFile → FileContent
content_on shelf scene file = record { file = file; content = content_at shelf (name_of scene file) }

-- the scene's files with what a shelf has under their names
abbrev pub contents_on : Files → SceneValue → List FileContent
contents_on shelf scene = map (content_on shelf scene) scene.files

-- the world of the scene's files on that shelf, or the first refusal
abbrev pub world_of : Files → SceneValue → Result WorldLists FileRefusal
world_of shelf scene = world_from scene (contents_on shelf scene)
