-- The headline: what a call of the program answers, and why.
use Rattle.std.specs.Prelude.{◌≡◌, ◌⊎◌, ℕ, List, Option, Some, None, Ok, Err}
use Rattle.wx_outside.specs.Causes.{counted}
use Rattle.wx_outside.specs.Shelf.{Content, Tells}
use Rattle.wx_external.specs.World.{WorldLists}
use Rattle.wx_script.specs.declared.scene.SceneFault.{SceneFault}
use Rattle.wx_script.specs.SceneValue.{SceneValue}
use Rattle.wx_world.specs.declared.faults.FileKind.{FileKind}
use Rattle.wx_world.specs.declared.faults.FileRefusal.{FileRefusal}
use Rattle.wx_world.specs.Names.{name_at}
use Rattle.wx_world.specs.Reading.{IsWorldOf, IsFirstRefusal, HasFailedAt}
use Rattle.wx_run.specs.declared.outcome.RunEnd.{RunEnd}
use Rattle.wx_status.specs.declared.status.Status.{Status}
use Rattle.wx_status.specs.Changes.{ShelfChange, SinkChange, IsUntouched, HasReadFailed}
use Rattle.wx_words.specs.Words.{scene_named, how_asked}
use Rattle.wx_plain.specs.Headline.{PlainHeadline}
use Rattle.wx_cmd.specs.Scenes.{scene_of_content, IsTextOfRun}
use Rattle.wx_cmd.specs.Verdict.{Verdict, read_fault, refused, manifest_refused, no_memory, ran}
use Rattle.wx_cmd.specs.Told.{Told}
use Rattle.wx_cmd.specs.Starters.{StarterChange, IsUnused, IsUnusedUnlessRun}

-- The words name a file, and this stands there, as far as the shelf tells.
pub record Found (words : List (List ℕ)) (shelf : ShelfChange) (content : Content) : Type 0 where
  pub file : List ℕ
  pub named : scene_named words ≡ Some file
  pub stands : Tells shelf.before.files file content

-- What stands there is refused for this.
pub record Refused (words : List (List ℕ)) (shelf : ShelfChange) (fault : SceneFault) : Type 0 where
  pub content : Content
  pub found : Found words shelf content
  pub refusal : scene_of_content content ≡ Err fault

-- What stands there is this scene.
pub record Accepted (words : List (List ℕ)) (shelf : ShelfChange) (scene : SceneValue) : Type 0 where
  pub content : Content
  pub found : Found words shelf content
  pub accepted : scene_of_content content ≡ Ok scene

-- The words name this file, one read was made in the call, and a read failed.
pub record SceneReadFailed (words : List (List ℕ)) (shelf : ShelfChange) (file : List ℕ) : Type 0 where
  pub named : scene_named words ≡ Some file
  pub one : shelf.after.reads ≡ counted shelf.before.reads
  pub failed : HasReadFailed shelf

-- What stands there is a scene that names a manifest of this file, none before it is refused, and a read failed in the
-- call.
pub record ManifestReadFailed (words : List (List ℕ)) (shelf : ShelfChange) (file : List ℕ) : Type 0 where
  pub scene : SceneValue
  pub accepted : Accepted words shelf scene
  pub place : ℕ
  pub failed : HasFailedAt shelf.before.files scene shelf.before.faults shelf.after.faults place
  pub name : file ≡ name_at scene place

-- What stands there is a scene that names a manifest of this file, which is refused so, and none before it.
pub record ManifestRefused (words : List (List ℕ)) (shelf : ShelfChange) (refusal : FileRefusal) (file : List ℕ)
    : Type 0 where
  pub scene : SceneValue
  pub accepted : Accepted words shelf scene
  pub first : IsFirstRefusal shelf.before.files scene refusal
  pub name : file ≡ name_at scene refusal.file

-- What stands there is a scene, its manifests make a world, a run of the scene in that world comes to this end, the
-- text is its journal's, which the records of its hosts meet, and the lines tell of the end.
pub record Ran (words : List (List ℕ)) (shelf : ShelfChange) (starter : StarterChange) (end : RunEnd)
    (text lines : List ℕ) : Type 0 where
  pub scene : SceneValue
  pub accepted : Accepted words shelf scene
  pub world : WorldLists
  pub manifests : IsWorldOf shelf.before.files scene world
  pub run : IsTextOfRun (how_asked words) world scene starter end text lines

-- What stands there is a scene, and its manifests make a world: so a run may have begun.
pub record MayHaveRun (words : List (List ℕ)) (shelf : ShelfChange) : Type 0 where
  pub scene : SceneValue
  pub accepted : Accepted words shelf scene
  pub world : WorldLists
  pub manifests : IsWorldOf shelf.before.files scene world

-- the cause of each verdict, of which want of memory alone has none; there the starter is unused, unless a run may
-- have begun
abbrev pub Judged : List (List ℕ) → ShelfChange → StarterChange → Verdict → Type 0
Judged words shelf starter (read_fault file) = SceneReadFailed words shelf file ⊎ ManifestReadFailed words shelf file
Judged words shelf starter (refused fault) = Refused words shelf fault
Judged words shelf starter (manifest_refused refusal file) = ManifestRefused words shelf refusal file
Judged words shelf starter no_memory = IsUnused starter ⊎ MayHaveRun words shelf
Judged words shelf starter (ran end text lines) = Ran words shelf starter end text lines

-- A call for a run has a verdict, which has its cause, and tells it; only a run uses the starter.
pub record RunHeadline (words : List (List ℕ)) (shelf : ShelfChange) (starter : StarterChange) (out err : SinkChange)
    (result : Status) : Type 0 where
  pub verdict : Verdict
  pub judged : Judged words shelf starter verdict
  pub told : Told verdict out err result
  pub unused : IsUnusedUnlessRun verdict starter

-- by the scene that the words name
abbrev pub HeadlineOf : Option (List ℕ) → List (List ℕ) → ShelfChange → StarterChange → SinkChange → SinkChange → Status
    → Type 0
HeadlineOf (Some name) words shelf starter out err result = RunHeadline words shelf starter out err result
HeadlineOf None words shelf starter out err result = PlainHeadline words shelf out err result

-- The words of a run have its headline, and all others that of the commands which make no run.
abbrev pub Headline : List (List ℕ) → ShelfChange → StarterChange → SinkChange → SinkChange → Status → Type 0
Headline words shelf starter out err result = HeadlineOf (scene_named words) words shelf starter out err result

-- A manifest is refused only where it is the first of the scene that is, and then nothing is written on `out`.
pub record RefusesManifest (words : List (List ℕ)) (shelf : ShelfChange) (out : SinkChange) (file : ℕ) (kind : FileKind)
    : Type 0 where
  pub scene : SceneValue
  pub accepted : Accepted words shelf scene
  pub first : IsFirstRefusal shelf.before.files scene (record { file = file; kind = kind })
  pub untouched : IsUntouched out
