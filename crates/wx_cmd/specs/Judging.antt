-- What a content comes to, and what its scene.
use Rattle.std.specs.Prelude.{◌≡◌, ◌⊎◌, ℕ, List, Ok, Err}
use Rattle.wx_outside.specs.Shelf.{Content}
use Rattle.wx_external.specs.World.{WorldLists}
use Rattle.wx_script.specs.declared.scene.How.{How}
use Rattle.wx_script.specs.SceneValue.{SceneValue}
use Rattle.wx_world.specs.Names.{name_at}
use Rattle.wx_world.specs.Reading.{IsWorldOf, IsFirstRefusal, HasFailedAt}
use Rattle.wx_status.specs.Changes.{ShelfChange}
use Rattle.wx_cmd.specs.Starters.{StarterChange, IsUnused}
use Rattle.wx_cmd.specs.Scenes.{scene_of_content, IsTextOfRun}
use Rattle.wx_cmd.specs.Verdict.{Verdict, read_fault, refused, manifest_refused, no_memory, ran}

-- a run of the scene in this world comes to its text
abbrev pub IsRunJudged : How → WorldLists → SceneValue → StarterChange → Verdict → Type 0
IsRunJudged how world scene starter (ran end text lines) = IsTextOfRun how world scene starter end text lines
IsRunJudged how world scene starter (read_fault file) = ⊥
IsRunJudged how world scene starter (refused fault) = ⊥
IsRunJudged how world scene starter (manifest_refused refusal file) = ⊥
IsRunJudged how world scene starter no_memory = ⊥

-- its files make a world
abbrev pub HasWorld : ShelfChange → SceneValue → Type 0
HasWorld shelf scene = (world : WorldLists) × IsWorldOf shelf.before.files scene world

-- a scene comes to the text of a run in the world of its files, to its first refused manifest, to a read of a manifest
-- that failed, or to want of memory, and then the starter is unused unless its files make a world
abbrev pub SceneComesTo : How → SceneValue → ShelfChange → StarterChange → Verdict → Type 0
SceneComesTo how scene shelf starter (ran end text lines) =
    (world : WorldLists) × IsWorldOf shelf.before.files scene world × IsTextOfRun how world scene starter end text lines
SceneComesTo how scene shelf starter (manifest_refused refusal file) =
    IsFirstRefusal shelf.before.files scene refusal × (file ≡ name_at scene refusal.file)
SceneComesTo how scene shelf starter (read_fault file) =
    (place : ℕ) × HasFailedAt shelf.before.files scene shelf.before.faults shelf.after.faults place
    × (file ≡ name_at scene place)
SceneComesTo how scene shelf starter no_memory = IsUnused starter ⊎ HasWorld shelf scene
SceneComesTo how scene shelf starter (refused fault) = ⊥

-- the content is a scene with the property
abbrev pub IsScene : Content → (SceneValue → Type 0) → Type 0
IsScene content P = (scene : SceneValue) × (scene_of_content content ≡ Ok scene) × P scene

-- a content comes to what its scene comes to, or to a refusal, or to want of memory
abbrev pub ComesTo : How → Content → ShelfChange → StarterChange → Verdict → Type 0
ComesTo how content shelf starter (refused fault) = scene_of_content content ≡ Err fault
ComesTo how content shelf starter no_memory = IsUnused starter ⊎ IsScene content (HasWorld shelf)
ComesTo how content shelf starter (ran end text lines) =
    IsScene content (λ scene. SceneComesTo how scene shelf starter (ran end text lines))
ComesTo how content shelf starter (manifest_refused refusal file) =
    IsScene content (λ scene. SceneComesTo how scene shelf starter (manifest_refused refusal file))
ComesTo how content shelf starter (read_fault file) =
    IsScene content (λ scene. SceneComesTo how scene shelf starter (read_fault file))

-- this file could not be read, or memory was refused
abbrev pub IsReadFault : List ℕ → Verdict → Type 0
IsReadFault name (read_fault file) = file ≡ name
IsReadFault name no_memory = Unit {0}
IsReadFault name (refused fault) = ⊥
IsReadFault name (manifest_refused refusal file) = ⊥
IsReadFault name (ran end text lines) = ⊥
