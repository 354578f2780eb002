-- What one more file makes of the world, and what comes of files that are told.
use Rattle.std.proofs.Common.{◌≡◌, ℕ, suc, ◌+◌, ◌<◌, ◌≤◌, length, take, drop, map, get_or, List, [], ◌∷◌, ◌++◌, Result, Ok, Err, Option, Some, refl, sym, ap, ◌∙◌, subst, arith, append-nil}
use Rattle.std.specs.Prelude.{slice_get}
use Rattle.std.specs.List.{All}
use Rattle.std.proofs.lemmas.List.{map-append, take_more, take_all, take-append-drop, take-map, length-map, length-take-le}
use Rattle.std.proofs.lemmas.List.Elements.{All-nil, All-push, All-head, All-tail}
use Rattle.std.proofs.lemmas.Option.{slice_get_within, slice_get-get_or, get_or_from_slice_get}
use Rattle.wx_outside.specs.Causes.{Rose}
use Rattle.wx_outside.specs.Shelf.{Files, Content, Tells}
use Rattle.wx_script.specs.declared.scene.SceneFile.{SceneFile}
use Rattle.wx_script.specs.SceneValue.{SceneValue}
use Rattle.wx_external.specs.World.{WorldLists, empty_world}
use Rattle.wx_world.specs.declared.faults.FileKind.{FileKind}
use Rattle.wx_world.specs.declared.faults.FileRefusal.{FileRefusal}
use Rattle.wx_world.specs.declared.faults.WorldFault.{WorldFault}
use Rattle.wx_world.specs.declared.faults.WorldFault.TheVariants.{Refused, ReadFailed, NoMemory}
use Rattle.wx_world.specs.Names.{name_of}
use Rattle.wx_world.specs.Files.{FileContent, file_added, unless_refused, files_added, world_from, content_on, contents_on, world_of}
use Rattle.wx_world.specs.Reading.{Stands, ComesOf, IsWorldOf, IsFirstRefusal, HasFailedAt, HasCause, IsAdded, IsRefused, AddsNothing}

-- ---- file after file

abbrev made : WorldLists → Result WorldLists FileRefusal
made world = Ok world

ok_same : (a b : WorldLists) → made a ≡ made b → a ≡ b
ok_same a b e = cc

-- the first of these files, and what comes of the others
abbrev first_of : SceneValue → ℕ → List FileContent → Result WorldLists FileKind → Result WorldLists FileRefusal
first_of scene n rest first = unless_refused n first (λ more. files_added scene (n + 1) more rest)

-- behind files that made a world come the others
added_behind : (scene : SceneValue) (n : ℕ) (world mid : WorldLists) (contents others : List FileContent) → files_added scene n world contents ≡ Ok mid
    → files_added scene n world (contents ++ others) ≡ files_added scene (n + length contents) mid others
added_behind scene n world mid [] others h =
    let here : n ≡ n + 0 = omega arith in
    ap (λ w. files_added scene n w others) (ok_same world mid h) ∙ ap (λ k. files_added scene k mid others) here
added_behind scene n world mid (this ∷ rest) others h =
    by_first (file_added scene this.file this.content world) refl (λ more later. added_behind scene (n + 1) more mid rest others later)
  where
    by_first : (first : Result WorldLists FileKind) → file_added scene this.file this.content world ≡ first
        → ((more : WorldLists) → files_added scene (n + 1) more rest ≡ Ok mid → files_added scene (n + 1) more (rest ++ others) ≡ files_added scene (n + 1 + length rest) mid others)
        → files_added scene n world (this ∷ (rest ++ others)) ≡ files_added scene (n + suc (length rest)) mid others
    by_first (Ok more) is behind =
        let number : n + 1 + length rest ≡ n + suc (length rest) = omega arith in
        ap (first_of scene n (rest ++ others)) is ∙ behind more (sym (ap (first_of scene n rest) is) ∙ h) ∙ ap (λ k. files_added scene k mid others) number
    by_first (Err kind) is behind =
        let refused : Err (record { file = n; kind = kind }) ≡ made mid = sym (ap (first_of scene n rest) is) ∙ h in
        absurd (cc)

-- the first refusal stays, whatever files come behind
refused_before : (scene : SceneValue) (n : ℕ) (world : WorldLists) (refusal : FileRefusal) (contents others : List FileContent) → files_added scene n world contents ≡ Err refusal
    → files_added scene n world (contents ++ others) ≡ Err refusal
refused_before scene n world refusal [] others h = absurd (cc)
refused_before scene n world refusal (this ∷ rest) others h =
    by_first (file_added scene this.file this.content world) refl (λ more later. refused_before scene (n + 1) more refusal rest others later)
  where
    by_first : (first : Result WorldLists FileKind) → file_added scene this.file this.content world ≡ first
        → ((more : WorldLists) → files_added scene (n + 1) more rest ≡ Err refusal → files_added scene (n + 1) more (rest ++ others) ≡ Err refusal)
        → files_added scene n world (this ∷ (rest ++ others)) ≡ Err refusal
    by_first (Ok more) is before = ap (first_of scene n (rest ++ others)) is ∙ before more (sym (ap (first_of scene n rest) is) ∙ h)
    by_first (Err kind) is before = ap (first_of scene n (rest ++ others)) is ∙ sym (ap (first_of scene n rest) is) ∙ h

-- ---- one more file is read

pub none_read : (told : Option Files) (scene : SceneValue) → ComesOf told scene 0 (Ok empty_world)
none_read told scene = record { contents = []; in_order = refl; stand = All-nil (Stands told scene); comes = refl }

module _ (told : Option Files) (scene : SceneValue) (i : ℕ) (file : SceneFile) (here : slice_get scene.files i ≡ Some file) (old : WorldLists) (so_far : ComesOf told scene i (Ok old)) where
  comes_more : (content : Content) (result : Result WorldLists FileRefusal) → Tells told (name_of scene file) content
      → unless_refused i (file_added scene file content old) (λ new. Ok new) ≡ result → ComesOf told scene (i + 1) result
  comes_more content result stands comes =
      let within = slice_get_within scene.files i file here in
      let this : FileContent = record { file = file; content = content } in
      let count : length so_far.contents ≡ i =
      sym (length-map so_far.contents (λ (c : FileContent). c.file)) ∙ ap length so_far.in_order ∙ length-take-le i scene.files (omega (arith, within)) in
      let number : 0 + length so_far.contents ≡ i = omega (arith, count) in
      record {
        contents = so_far.contents ++ this ∷ [];
        in_order =
            map-append (λ (c : FileContent). c.file) so_far.contents (this ∷ [])
            ∙ ap (λ files. files ++ file ∷ []) so_far.in_order
            ∙ ap (λ f. take i scene.files ++ f ∷ []) (sym (get_or_from_slice_get scene.files i file file here))
            ∙ sym (take_more scene.files i file within);
        stand = All-push (Stands told scene) so_far.contents this so_far.stand stands;
        comes =
            added_behind scene 0 empty_world old so_far.contents (this ∷ []) so_far.comes
            ∙ ap (λ k. files_added scene k old (this ∷ [])) number
            ∙ comes;
      }

  pub one_more : (new : WorldLists) → IsAdded told scene file old new → ComesOf told scene (i + 1) (Ok new)
  one_more new is = comes_more is.content (Ok new) is.stands (ap (λ r. unless_refused i r (λ w. Ok w)) is.added)

  pub first_refusal : (refusal : FileRefusal) → IsRefused told scene i file old refusal → IsFirstRefusal told scene refusal
  first_refusal refusal is =
      let refused : Err (record { file = i; kind = refusal.kind }) ≡ Err refusal = ap (λ k. Err (record { file = k; kind = refusal.kind })) (sym is.number) in
      subst (λ k. ComesOf told scene (k + 1) (Err refusal)) (sym is.number) (comes_more is.content (Err refusal) is.stands (ap (λ r. unless_refused i r (λ w. Ok w)) is.refused ∙ refused))

-- ---- a shelf that tells its files

module _ (shelf : Files) (scene : SceneValue) where
  -- what stands in a file is what the shelf has under its name
  contents_told : (contents : List FileContent) → All (Stands (Some shelf) scene) contents → contents ≡ map (content_on shelf scene) (map (λ (c : FileContent). c.file) contents)
  contents_told [] stand = refl
  contents_told (this ∷ others) stand =
      let here : this.content ≡ (content_on shelf scene this.file).content = All-head (Stands (Some shelf) scene) this others stand in
      ap (λ (c : Content). record { file = this.file; content = c } ∷ others) here
      ∙ ap (λ cs. content_on shelf scene this.file ∷ cs) (contents_told others (All-tail (Stands (Some shelf) scene) this others stand))

  front_told : (count : ℕ) (result : Result WorldLists FileRefusal) → ComesOf (Some shelf) scene count result → world_from scene (take count (contents_on shelf scene)) ≡ result
  front_told count result of_front =
      ap (λ cs. world_from scene cs) (take-map (content_on shelf scene) count scene.files ∙ ap (map (content_on shelf scene)) (sym of_front.in_order) ∙ sym (contents_told of_front.contents of_front.stand))
      ∙ of_front.comes

  pub world_told : (world : WorldLists) → IsWorldOf (Some shelf) scene world → world_of shelf scene ≡ Ok world
  world_told world is =
      let all = take_all (length scene.files) (contents_on shelf scene) (omega (arith, length-map scene.files (content_on shelf scene))) in
      ap (λ cs. world_from scene cs) (sym all) ∙ front_told (length scene.files) (Ok world) is

  pub refusal_told : (refusal : FileRefusal) → IsFirstRefusal (Some shelf) scene refusal → world_of shelf scene ≡ Err refusal
  refusal_told refusal is =
      let contents = contents_on shelf scene in
      let count = refusal.file + 1 in
      ap (λ cs. world_from scene cs) (sym (take-append-drop count contents))
      ∙ refused_before scene 0 empty_world refusal (take count contents) (drop count contents) (front_told count (Err refusal) is)

-- ---- why the files make no world

-- a count that rose in the last part of a call rose in the call
pub rose_earlier : (before between after : ℕ) → before ≤ between → Rose between after → Rose before after
rose_earlier before between after later rose = grind (arith, later, rose)

module _ (told : Option Files) (scene : SceneValue) (i : ℕ) (file : SceneFile) (here : slice_get scene.files i ≡ Some file) (old : WorldLists) (so_far : ComesOf told scene i (Ok old)) where
  pub has_cause : (before between after : ℕ) (fault : WorldFault) → before ≤ between → AddsNothing told scene i file old between after fault → HasCause told scene before after fault
  has_cause before between after (Refused refusal) later h = first_refusal told scene i file here old so_far refusal h
  has_cause before between after (ReadFailed place) later h =
      let at_i : HasFailedAt told scene before after i = record {
        named = slice_get_within scene.files i file here;
        world = old;
        so_far = so_far;
        failed = rose_earlier before between after later h.1;
      } in
      subst (λ (p : ℕ). HasFailedAt told scene before after p) (sym h.0) at_i
  has_cause before between after NoMemory later h = tt

-- ---- the step of the loop over the files

module _ (told now : Option Files) (scene : SceneValue) (files : List SceneFile) (i : ℕ) (default : SceneFile) (old : WorldLists) (same : files ≡ scene.files) (within : i < length files) (unchanged : now ≡ told) (so_far : ComesOf told scene i (Ok old)) where
  here : slice_get scene.files i ≡ Some (get_or files i default)
  here = subst (λ (fs : List SceneFile). slice_get fs i ≡ Some (get_or files i default)) same (slice_get-get_or files i default within)

  pub goes_on : (new : WorldLists) → IsAdded now scene (get_or files i default) old new → ComesOf told scene (i + 1) (Ok new)
  goes_on new added = one_more told scene i _ here old so_far new (subst (λ (t : Option Files). IsAdded t scene (get_or files i default) old new) unchanged added)

  pub stops : (before between after : ℕ) (fault : WorldFault) → before ≤ between → AddsNothing now scene i (get_or files i default) old between after fault → HasCause told scene before after fault
  stops before between after fault later nothing =
      has_cause told scene i _ here old so_far before between after fault later
      (subst (λ (t : Option Files). AddsNothing t scene i (get_or files i default) old between after fault) unchanged nothing)
