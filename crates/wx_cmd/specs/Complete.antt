-- Where nothing is wrong, the program does what it is asked.
use Rattle.std.specs.Prelude.{◌≡◌, ◌⊎◌, ℕ, List, Some, Ok, Err}
use Rattle.wx_outside.specs.Shelf.{Files, content_at}
use Rattle.wx_external.specs.World.{WorldLists}
use Rattle.wx_script.specs.declared.scene.How.{How}
use Rattle.wx_script.specs.SceneValue.{SceneValue}
use Rattle.wx_status.specs.declared.status.Status.{Status}
use Rattle.wx_status.specs.declared.status.Status.TheVariants.{ManifestRefused, NoMemory}
use Rattle.wx_world.specs.declared.faults.FileRefusal.{FileRefusal}
use Rattle.wx_world.specs.Files.{world_of}
use Rattle.wx_words.specs.Words.{scene_named, how_asked}
use Rattle.wx_run.specs.declared.outcome.RunEnd.{RunEnd}
use Rattle.wx_cmd.specs.Scenes.{scene_of_content, IsTextOfRun}
use Rattle.wx_cmd.specs.Endings.{answer_by}
use Rattle.wx_cmd.specs.Starters.{StarterChange}
use Rattle.wx_status.specs.Changes.{ShelfChange, SinkChange, HasFailed, HasReadFailed}

-- The words name a file, the shelf tells that a scene stands there, and nothing failed in the call.
pub record NothingFailed (words : List (List ℕ)) (shelf : ShelfChange) (out err : SinkChange) : Type 0 where
  pub file : List ℕ
  pub named : scene_named words ≡ Some file
  pub files : Files
  pub tells : shelf.before.files ≡ Some files
  pub scene : SceneValue
  pub accepted : scene_of_content (content_at files file) ≡ Ok scene
  pub shelf_sound : HasReadFailed shelf → ⊥
  pub out_sound : HasFailed out → ⊥
  pub err_sound : HasFailed err → ⊥

-- And every manifest that the scene names is good: they make this world.
pub record NothingIsWrong (words : List (List ℕ)) (shelf : ShelfChange) (out err : SinkChange) : Type 0 where
  pub sound : NothingFailed words shelf out err
  pub world : WorldLists
  pub good : world_of sound.files sound.scene ≡ Ok world

-- But a manifest that the scene names is refused so, and none before it.
pub record ManifestIsWrong (words : List (List ℕ)) (shelf : ShelfChange) (out err : SinkChange) : Type 0 where
  pub sound : NothingFailed words shelf out err
  pub refusal : FileRefusal
  pub first : world_of sound.files sound.scene ≡ Err refusal

-- The answer is that of some run of the scene in this world; that this run's text was written, the headline says.
pub record AnswersRun (how : How) (world : WorldLists) (scene : SceneValue) (starter : StarterChange) (result : Status)
    : Type 0 where
  pub end : RunEnd
  pub text : List ℕ
  pub lines : List ℕ
  pub run : IsTextOfRun how world scene starter end text lines
  pub answered : result ≡ answer_by end

-- Where nothing is wrong, the answer is that of a run of the scene in the world of its manifests, unless memory was
-- refused.
abbrev pub IsComplete : List (List ℕ) → ShelfChange → StarterChange → SinkChange → SinkChange → Status → Type 0
IsComplete words shelf starter out err result =
    (fine : NothingIsWrong words shelf out err)
    → AnswersRun (how_asked words) fine.world fine.sound.scene starter result ⊎ (result ≡ NoMemory)

-- Where a manifest is wrong, the answer is that the first such is refused, unless memory was refused.
abbrev pub TellsManifest : List (List ℕ) → ShelfChange → SinkChange → SinkChange → Status → Type 0
TellsManifest words shelf out err result =
    (wrong : ManifestIsWrong words shelf out err)
    → (result ≡ ManifestRefused wrong.refusal.file wrong.refusal.kind) ⊎ (result ≡ NoMemory)
