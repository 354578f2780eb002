-- Where nothing failed, the scene's manifests decide the verdict: that of a run, or of the first that is refused.
use Rattle.std.proofs.Common.{◌≡◌, ◌∙◌, ℕ, List, [], ◌∷◌, Option, Some, sym, ap, subst, inl, inr}
use Rattle.std.specs.Prelude.{◌⊎◌, Result, Ok, Err}
use Rattle.wx_outside.specs.Shelf.{Files, Content, Tells, content_at}
use Rattle.wx_external.specs.World.{WorldLists}
use Rattle.wx_script.specs.SceneValue.{SceneValue}
use Rattle.wx_script.specs.declared.scene.SceneFault.{SceneFault}
use Rattle.wx_world.specs.declared.faults.FileRefusal.{FileRefusal}
use Rattle.wx_world.specs.Files.{world_of}
use Rattle.wx_world.specs.Reading.{IsWorldOf, IsFirstRefusal}
use Rattle.wx_status.specs.declared.status.Status.{Status}
use Rattle.wx_status.specs.declared.status.Status.TheVariants as status
use Rattle.wx_status.specs.Changes.{ShelfChange, SinkChange, HasFailed}
use Rattle.wx_status.specs.Told.{LinesTold}
use Rattle.wx_words.specs.Words.{how_asked}
use Rattle.wx_cmd.specs.Scenes.{scene_of_content, IsTextOfRun}
use Rattle.wx_cmd.specs.Endings.{answer_by}
use Rattle.wx_cmd.specs.Starters.{StarterChange}
use Rattle.wx_cmd.specs.Verdict.{Verdict, read_fault, refused, manifest_refused, no_memory, ran}
use Rattle.wx_cmd.specs.Told.{Told}
use Rattle.wx_cmd.specs.Headline.{Found, Accepted, Judged, RunHeadline}
use Rattle.wx_cmd.specs.Complete.{NothingFailed, AnswersRun, IsComplete, TellsManifest}

-- what `one_world` ensures
abbrev pub WorldLaw : Type 0
WorldLaw = (shelf : Files) (scene : SceneValue) (world : WorldLists) → IsWorldOf (Some shelf) scene world → world_of shelf scene ≡ Ok world

abbrev pub RefusalLaw : Type 0
RefusalLaw = (shelf : Files) (scene : SceneValue) (refusal : FileRefusal) → IsFirstRefusal (Some shelf) scene refusal → world_of shelf scene ≡ Err refusal

-- a scene or its fault, and a world or its refusal
abbrev SceneOrFault : Type 0
SceneOrFault = Result SceneValue SceneFault

abbrev WorldOrRefusal : Type 0
WorldOrRefusal = Result WorldLists FileRefusal

abbrev is_scene : SceneValue → SceneOrFault
is_scene scene = Ok scene

abbrev is_fault : SceneFault → SceneOrFault
is_fault fault = Err fault

abbrev is_world : WorldLists → WorldOrRefusal
is_world world = Ok world

abbrev is_refusal : FileRefusal → WorldOrRefusal
is_refusal refusal = Err refusal

ok_scene : (a b : SceneValue) → is_scene a ≡ is_scene b → a ≡ b
ok_scene a b e = cc

ok_world : (a b : WorldLists) → is_world a ≡ is_world b → a ≡ b
ok_world a b e = cc

err_refusal : (a b : FileRefusal) → is_refusal a ≡ is_refusal b → a ≡ b
err_refusal a b e = cc

some_file : (a b : List ℕ) → Some a ≡ Some b → a ≡ b
some_file a b e = cc

-- the lines of an answer were told, and no write failed
told_answer : (answer : Status) (lines : List ℕ) (err : SinkChange) (result : Status) → (HasFailed err → ⊥) → LinesTold answer lines err result → result ≡ answer
told_answer answer [] err result sound told = told.0
told_answer answer (b ∷ lines) err result sound told = elim told [ inl h ↦ h.0 | inr h ↦ absurd (sound h.2) ]

module _ (words : List (List ℕ)) (shelf : ShelfChange) (starter : StarterChange) (out err : SinkChange) (sound : NothingFailed words shelf out err) where
  -- what was found is what the shelf has there
  content_is : (content : Content) → Found words shelf content → content ≡ content_at sound.files sound.file
  content_is content found =
      let same : found.file ≡ sound.file = some_file found.file sound.file (sym found.named ∙ sound.named) in
      let told : Tells (Some sound.files) found.file content = subst (λ (f : Option Files). Tells f found.file content) sound.tells found.stands in
      told ∙ ap (content_at sound.files) same

  scene_is : (scene : SceneValue) → Accepted words shelf scene → scene ≡ sound.scene
  scene_is scene accepted = ok_scene scene sound.scene (sym accepted.accepted ∙ ap scene_of_content (content_is accepted.content accepted.found) ∙ sound.accepted)

  world_is : WorldLaw → (scene : SceneValue) (world : WorldLists) → Accepted words shelf scene → IsWorldOf shelf.before.files scene world → world_of sound.files sound.scene ≡ Ok world
  world_is law scene world accepted is =
      law sound.files sound.scene world (subst (λ (f : Option Files). IsWorldOf f sound.scene world) sound.tells (subst (λ (s : SceneValue). IsWorldOf shelf.before.files s world) (scene_is scene accepted) is))

  refusal_is : RefusalLaw → (scene : SceneValue) (refusal : FileRefusal) → Accepted words shelf scene → IsFirstRefusal shelf.before.files scene refusal → world_of sound.files sound.scene ≡ Err refusal
  refusal_is law scene refusal accepted is =
      law sound.files sound.scene refusal (subst (λ (f : Option Files). IsFirstRefusal f sound.scene refusal) sound.tells (subst (λ (s : SceneValue). IsFirstRefusal shelf.before.files s refusal) (scene_is scene accepted) is))

  -- no read failed, and the scene is not refused
  no_read_fault : (file : List ℕ) → Judged words shelf starter (read_fault file) → ⊥
  no_read_fault file (inl h) = sound.shelf_sound h.failed
  no_read_fault file (inr h) = sound.shelf_sound h.failed.failed

  not_refused : (fault : SceneFault) → Judged words shelf starter (refused fault) → ⊥
  not_refused fault judged =
      let both : is_fault fault ≡ is_scene sound.scene = sym judged.refusal ∙ ap scene_of_content (content_is judged.content judged.found) ∙ sound.accepted in
      cc

  answers_run : WorldLaw → RefusalLaw → (world : WorldLists) → world_of sound.files sound.scene ≡ Ok world → (result : Status) (verdict : Verdict) → Judged words shelf starter verdict → Told verdict out err result
      → AnswersRun (how_asked words) world sound.scene starter result ⊎ (result ≡ status.NoMemory)
  answers_run world_law refusal_law world good result (read_fault file) judged told = absurd (no_read_fault file judged)
  answers_run world_law refusal_law world good result (refused fault) judged told = absurd (not_refused fault judged)
  answers_run world_law refusal_law world good result (manifest_refused refusal file) judged told =
      let both : is_refusal refusal ≡ is_world world = sym (refusal_is refusal_law judged.scene refusal judged.accepted judged.first) ∙ good in
      absurd (cc)
  answers_run world_law refusal_law world good result no_memory judged told = inr told.1.0
  answers_run world_law refusal_law world good result (ran end text lines) judged told =
      let same : judged.world ≡ world = ok_world judged.world world (sym (world_is world_law judged.scene judged.world judged.accepted judged.manifests) ∙ good) in
      let how = how_asked words in
      let run : IsTextOfRun how world sound.scene starter end text lines =
      subst (λ (w : WorldLists). IsTextOfRun how w sound.scene starter end text lines) same (subst (λ (s : SceneValue). IsTextOfRun how judged.world s starter end text lines) (scene_is judged.scene judged.accepted) judged.run) in
      elim told [
        | inl h ↦ inl (record { end = end; text = text; lines = lines; run = run; answered = told_answer (answer_by end) lines err result sound.err_sound h.1 })
        | inr h ↦ absurd (sound.out_sound h.2)
      ]

  answers_refusal : WorldLaw → RefusalLaw → (refusal : FileRefusal) → world_of sound.files sound.scene ≡ Err refusal → (result : Status) (verdict : Verdict) → Judged words shelf starter verdict → Told verdict out err result
      → (result ≡ status.ManifestRefused refusal.file refusal.kind) ⊎ (result ≡ status.NoMemory)
  answers_refusal world_law refusal_law refusal first result (read_fault file) judged told = absurd (no_read_fault file judged)
  answers_refusal world_law refusal_law refusal first result (refused fault) judged told = absurd (not_refused fault judged)
  answers_refusal world_law refusal_law refusal first result (manifest_refused found file) judged told =
      let same : found ≡ refusal = err_refusal found refusal (sym (refusal_is refusal_law judged.scene found judged.accepted judged.first) ∙ first) in
      elim told.1 [
        | inl h ↦ inl (h.0 ∙ ap (λ (r : FileRefusal). status.ManifestRefused r.file r.kind) same)
        | inr h ↦ absurd (sound.err_sound h.2)
      ]
  answers_refusal world_law refusal_law refusal first result no_memory judged told = inr told.1.0
  answers_refusal world_law refusal_law refusal first result (ran end text lines) judged told =
      let both : is_world judged.world ≡ is_refusal refusal = sym (world_is world_law judged.scene judged.world judged.accepted judged.manifests) ∙ first in
      absurd (cc)

pub completes : WorldLaw → RefusalLaw → (words : List (List ℕ)) (shelf : ShelfChange) (starter : StarterChange) (out err : SinkChange) (result : Status) → RunHeadline words shelf starter out err result → IsComplete words shelf starter out err result
completes world_law refusal_law words shelf starter out err result headline fine =
    answers_run words shelf starter out err fine.sound world_law refusal_law fine.world fine.good result headline.verdict headline.judged headline.told

pub tells_manifest : WorldLaw → RefusalLaw → (words : List (List ℕ)) (shelf : ShelfChange) (starter : StarterChange) (out err : SinkChange) (result : Status) → RunHeadline words shelf starter out err result → TellsManifest words shelf out err result
tells_manifest world_law refusal_law words shelf starter out err result headline wrong =
    answers_refusal words shelf starter out err wrong.sound world_law refusal_law wrong.refusal wrong.first result headline.verdict headline.judged headline.told
