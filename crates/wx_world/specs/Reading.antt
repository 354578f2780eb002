-- What comes of reading a scene's files from a shelf, which may tell what it holds.
use Rattle.std.specs.Prelude.{◌≡◌, ◌≢◌, ℕ, ◌+◌, ◌≤◌, ◌<◌, List, length, map, take, All, Option, Result, Ok, Err}
use Rattle.wx_outside.specs.Causes.{Rose}
use Rattle.wx_outside.specs.Shelf.{Files, Content, Tells}
use Rattle.wx_script.specs.declared.scene.SceneFile.{SceneFile}
use Rattle.wx_script.specs.SceneValue.{SceneValue}
use Rattle.wx_external.specs.World.{WorldLists}
use Rattle.wx_manifest.specs.declared.faults.ManifestFault.TheVariants as extension_fault
use Rattle.wx_host_manifest.specs.declared.faults.HostFault.TheVariants as host_fault
use Rattle.wx_world.specs.declared.faults.FileKind.{FileKind}
use Rattle.wx_world.specs.declared.faults.FileKind.TheVariants as kind
use Rattle.wx_world.specs.declared.faults.FileRefusal.{FileRefusal}
use Rattle.wx_world.specs.declared.faults.FileFault.{FileFault}
use Rattle.wx_world.specs.declared.faults.FileFault.TheVariants as file_fault
use Rattle.wx_world.specs.declared.faults.WorldFault.{WorldFault}
use Rattle.wx_world.specs.declared.faults.WorldFault.TheVariants.{Refused, ReadFailed, NoMemory}
use Rattle.wx_world.specs.Names.{name_of}
use Rattle.wx_world.specs.Files.{FileContent, file_added, world_from}

-- this is what stands in the file, as far as the shelf tells
abbrev pub Stands : Option Files → SceneValue → FileContent → Type 0
Stands told scene this = Tells told (name_of scene this.file) this.content

-- The first so many files of the scene were read, one after another, and this comes of them, as far as the shelf tells.
pub record ComesOf (told : Option Files) (scene : SceneValue) (count : ℕ) (result : Result WorldLists FileRefusal)
    : Type 0 where
  pub contents : List FileContent
  pub in_order : map (λ (this : FileContent). this.file) contents ≡ take count scene.files
  pub stand : All (Stands told scene) contents
  pub comes : world_from scene contents ≡ result

-- The files of a scene make this world, as far as the shelf tells.
abbrev pub IsWorldOf : Option Files → SceneValue → WorldLists → Type 0
IsWorldOf told scene world = ComesOf told scene (length scene.files) (Ok world)

-- This file of a scene is refused so, and none before it, as far as the shelf tells.
abbrev pub IsFirstRefusal : Option Files → SceneValue → FileRefusal → Type 0
IsFirstRefusal told scene refusal = ComesOf told scene (refusal.file + 1) (Err refusal)

-- A read of the file at this place failed, and none before it is refused.
pub record HasFailedAt (told : Option Files) (scene : SceneValue) (before now : ℕ) (place : ℕ) : Type 0 where
  pub named : place < length scene.files
  pub world : WorldLists
  pub so_far : ComesOf told scene place (Ok world)
  pub failed : Rose before now

-- the cause of each fault, of which want of memory has none
abbrev pub HasCause : Option Files → SceneValue → ℕ → ℕ → WorldFault → Type 0
HasCause told scene before now (Refused refusal) = IsFirstRefusal told scene refusal
HasCause told scene before now (ReadFailed place) = HasFailedAt told scene before now place
HasCause told scene before now NoMemory = Unit {0}

-- no manifest is refused for want of memory
abbrev pub IsOfTheFile : FileKind → Type 0
IsOfTheFile kind.Missing = Unit {0}
IsOfTheFile kind.Large = Unit {0}
IsOfTheFile (kind.Extension fault) = fault ≢ extension_fault.NoMemory
IsOfTheFile (kind.Host fault) = fault ≢ host_fault.NoMemory

abbrev pub IsOfAFile : WorldFault → Type 0
IsOfAFile (Refused refusal) = IsOfTheFile refusal.kind
IsOfAFile (ReadFailed place) = Unit {0}
IsOfAFile NoMemory = Unit {0}

-- the file is refused for this, unless memory was refused
abbrev pub Refuses : {A : Type 0} → Result A FileKind → FileFault → Type 0
Refuses expected (file_fault.Refused kind) = (expected ≡ Err kind) × IsOfTheFile kind
Refuses expected file_fault.NoMemory = Unit {0}

-- What stands in the file was added to the world, as far as the shelf tells.
pub record IsAdded (told : Option Files) (scene : SceneValue) (file : SceneFile) (old new : WorldLists) : Type 0 where
  pub content : Content
  pub stands : Tells told (name_of scene file) content
  pub added : file_added scene file content old ≡ Ok new

-- The file that has this number is refused so, as far as the shelf tells.
pub record IsRefused (told : Option Files) (scene : SceneValue) (n : ℕ) (file : SceneFile) (world : WorldLists)
    (refusal : FileRefusal) : Type 0 where
  pub content : Content
  pub stands : Tells told (name_of scene file) content
  pub refused : file_added scene file content world ≡ Err refusal.kind
  pub number : refusal.file ≡ n
  pub of_file : IsOfTheFile refusal.kind

-- why the file that has this number adds nothing
abbrev pub AddsNothing : Option Files → SceneValue → ℕ → SceneFile → WorldLists → ℕ → ℕ → WorldFault → Type 0
AddsNothing told scene n file world before now (Refused refusal) = IsRefused told scene n file world refusal
AddsNothing told scene n file world before now (ReadFailed place) = (place ≡ n) × Rose before now
AddsNothing told scene n file world before now NoMemory = Unit {0}
