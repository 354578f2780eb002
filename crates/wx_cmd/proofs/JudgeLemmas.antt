-- What a scene comes to whose manifests make no world, that the starter is not used for it, and what a verdict makes once it
-- is told.
use Rattle.std.proofs.Common.{◌≡◌, ◌∙◌, ◌≤◌, Option, Some, ap, arith, inl, inr, subst, sym}
use Rattle.std.specs.Prelude.{ℕ, List, ◌⊎◌, Result, Ok, Err, IfOk, OnErr}
use Rattle.wx_id.specs.declared.texts.NoMemory.{NoMemory}
use Rattle.wx_script.specs.declared.scene.How.{How}
use Rattle.wx_script.specs.SceneValue.{SceneValue}
use Rattle.wx_world.specs.declared.faults.WorldFault.{WorldFault}
use Rattle.wx_world.specs.Reading.{HasCause}
use Rattle.wx_status.specs.declared.status.Status.{Status}
use Rattle.wx_outside.specs.Causes.{counted}
use Rattle.wx_outside.specs.Shelf.{Files, ShelfState, Content, Tells}
use Rattle.wx_words.specs.Words.{scene_named, how_asked}
use Rattle.wx_status.specs.Changes.{ShelfChange, SinkChange, HasReadFailed, over}
use Rattle.wx_cmd.specs.declared.tell.Verdict as code
use Rattle.wx_cmd.specs.View.{verdict_view}
use Rattle.wx_cmd.specs.Verdict.{Verdict, read_fault, refused, manifest_refused, no_memory, ran}
use Rattle.wx_cmd.specs.Starters.{StarterChange, IsUnused, IsUnusedUnlessRun}
use Rattle.wx_cmd.specs.Scenes.{scene_of_content, IsTextOfRun}
use Rattle.wx_cmd.specs.Judging.{HasWorld, SceneComesTo, ComesTo, IsReadFault}
use Rattle.wx_cmd.specs.Told.{Told}
use Rattle.wx_cmd.specs.Headline.{Found, Accepted, Judged, RunHeadline}

-- a scene whose manifests make no world comes to what its fault is judged as
pub fault_judged : (r : Result code.Verdict NoMemory) (how : How) (scene : SceneValue) (shelf : ShelfChange) (starter : StarterChange) (fault : WorldFault)
    → IfOk r (λ verdict. (way : How) (change : ShelfChange) (used : StarterChange) → HasCause change.before.files scene change.before.faults change.after.faults fault → SceneComesTo way scene change used (verdict_view verdict))
    → HasCause shelf.before.files scene shelf.before.faults shelf.after.faults fault → IfOk r (λ verdict. SceneComesTo how scene shelf starter (verdict_view verdict))
fault_judged (Ok verdict) how scene shelf starter fault comes cause = comes how shelf starter cause
fault_judged (Err e) how scene shelf starter fault comes cause = tt

-- where memory was refused in judging a fault, the starter is unused
pub fault_unused : (r : Result code.Verdict NoMemory) (how : How) (scene : SceneValue) (shelf : ShelfChange) (starter : StarterChange) → IsUnused starter → OnErr r (SceneComesTo how scene shelf starter no_memory)
fault_unused (Ok verdict) how scene shelf starter same = tt
fault_unused (Err e) how scene shelf starter same = inl same

-- where memory was refused in a run, its scene has a world
pub run_began : (r : Result code.Verdict NoMemory) (how : How) (scene : SceneValue) (shelf : ShelfChange) (starter : StarterChange) → HasWorld shelf scene → OnErr r (SceneComesTo how scene shelf starter no_memory)
run_began (Ok verdict) how scene shelf starter has = tt
run_began (Err e) how scene shelf starter has = inr has

-- an unused starter is unused whatever the verdict
pub unused_by : (verdict : Verdict) (starter : StarterChange) → IsUnused starter → IsUnusedUnlessRun verdict starter
unused_by (read_fault file) starter same = same
unused_by (refused fault) starter same = same
unused_by (manifest_refused refusal file) starter same = same
unused_by no_memory starter same = tt
unused_by (ran end text lines) starter same = tt

-- the same of a call to which memory may be refused
pub unused_in : (r : Result code.Verdict NoMemory) (starter : StarterChange) → IsUnused starter → IfOk r (λ verdict. IsUnusedUnlessRun (verdict_view verdict) starter)
unused_in (Ok verdict) starter same = unused_by (verdict_view verdict) starter same
unused_in (Err e) starter same = tt

-- where there was no memory to tell a verdict, the starter is unused, unless that verdict is of a run
without_memory : (words : List (List ℕ)) (shelf : ShelfChange) (starter : StarterChange) (verdict : Verdict) → Judged words shelf starter verdict → IsUnusedUnlessRun verdict starter → Judged words shelf starter no_memory
without_memory words shelf starter (read_fault file) judged unused = inl unused
without_memory words shelf starter (refused fault) judged unused = inl unused
without_memory words shelf starter (manifest_refused refusal file) judged unused = inl unused
without_memory words shelf starter no_memory judged unused = judged
without_memory words shelf starter (ran end text lines) judged unused =
    inr (record { scene = judged.scene; accepted = judged.accepted; world = judged.world; manifests = judged.manifests })

-- a verdict that has its cause was told, or want of memory in its place
pub told_headline : (words : List (List ℕ)) (shelf : ShelfChange) (starter : StarterChange) (out err : SinkChange) (result : Status) (verdict : Verdict)
    → Judged words shelf starter verdict → IsUnusedUnlessRun verdict starter → Told verdict out err result ⊎ Told no_memory out err result → RunHeadline words shelf starter out err result
told_headline words shelf starter out err result verdict judged unused (inl told) = record { verdict = verdict; judged = judged; told = told; unused = unused }
told_headline words shelf starter out err result verdict judged unused (inr told) =
    record { verdict = no_memory; judged = without_memory words shelf starter verdict judged unused; told = told; unused = tt }

-- what was found under the scene's name comes to a verdict, which has its cause over the whole call
pub found_judged : (words : List (List ℕ)) (name : List ℕ) (how : How) (content : Content) (old mid new : ShelfState) (starter : StarterChange) (verdict : Verdict) → scene_named words ≡ Some name → how_asked words ≡ how
    → Tells old.files name content → mid.files ≡ old.files → old.faults ≤ mid.faults → ComesTo how content (over mid new) starter verdict → Judged words (over old new) starter verdict
found_judged words name how content old mid new starter verdict named asked stands same later comes = by verdict (subst (λ (files : Option Files). ComesTo how content (over (record mid { files = files }) new) starter verdict) same comes)
  where
    found : Found words (over old new) content
    found = record { file = name; named = named; stands = stands }

    accepted : (scene : SceneValue) → scene_of_content content ≡ Ok scene → Accepted words (over old new) scene
    accepted scene is = record { content = content; found = found; accepted = is }

    by : (verdict : Verdict) → ComesTo how content (over (record mid { files = old.files }) new) starter verdict → Judged words (over old new) starter verdict
    by (read_fault file) (scene, is, comes) =
        let failed = comes.1 in
        inr (record {
          scene = scene;
          accepted = accepted scene is;
          place = comes.0;
          failed = record { named = failed.named; world = failed.world; so_far = failed.so_far; failed = (let rose = failed.failed in omega (arith, rose, later)) };
          name = comes.2;
        })
    by (refused fault) comes = record { content = content; found = found; refusal = comes }
    by (manifest_refused refusal file) (scene, is, comes) = record { scene = scene; accepted = accepted scene is; first = comes.0; name = comes.1 }
    by no_memory (inl unused) = inl unused
    by no_memory (inr (scene, is, has)) = inr (record { scene = scene; accepted = accepted scene is; world = has.0; manifests = has.1 })
    by (ran end text lines) (scene, is, comes) = record {
      scene = scene;
      accepted = accepted scene is;
      world = comes.0;
      manifests = comes.1;
      run = subst (λ (way : How). IsTextOfRun way comes.0 scene starter end text lines) (sym asked) comes.2;
    }

-- what its scene comes to, the content comes to
pub scene_judged : (how : How) (content : Content) (scene : SceneValue) (shelf : ShelfChange) (starter : StarterChange) (verdict : Verdict) → scene_of_content content ≡ Ok scene → SceneComesTo how scene shelf starter verdict → ComesTo how content shelf starter verdict
scene_judged how content scene shelf starter (read_fault file) is comes = (scene, is, comes)
scene_judged how content scene shelf starter (refused fault) is comes = absurd comes
scene_judged how content scene shelf starter (manifest_refused refusal file) is comes = (scene, is, comes)
scene_judged how content scene shelf starter no_memory is (inl unused) = inl unused
scene_judged how content scene shelf starter no_memory is (inr has) = inr (scene, is, has)
scene_judged how content scene shelf starter (ran end text lines) is comes = (scene, is, comes)

-- the read of the scene failed, and no other was made
pub unread_judged : (words : List (List ℕ)) (name : List ℕ) (shelf : ShelfChange) (starter : StarterChange) (verdict : Verdict) → scene_named words ≡ Some name → shelf.after.reads ≡ counted shelf.before.reads → HasReadFailed shelf → IsUnused starter
    → IsReadFault name verdict → Judged words shelf starter verdict
unread_judged words name shelf starter (read_fault file) named one failed unused is = inl (record { named = named ∙ ap Some (sym is); one = one; failed = failed })
unread_judged words name shelf starter (refused fault) named one failed unused is = absurd is
unread_judged words name shelf starter (manifest_refused refusal file) named one failed unused is = absurd is
unread_judged words name shelf starter no_memory named one failed unused is = inl unused
unread_judged words name shelf starter (ran end text lines) named one failed unused is = absurd is

-- where memory was refused and the starter is unused
pub without_scene : (how : How) (content : Content) (shelf : ShelfChange) (starter : StarterChange) → IsUnused starter → ComesTo how content shelf starter no_memory
without_scene how content shelf starter unused = inl unused

pub without_verdict : (words : List (List ℕ)) (shelf : ShelfChange) (starter : StarterChange) → IsUnused starter → Judged words shelf starter no_memory
without_verdict words shelf starter unused = inl unused
