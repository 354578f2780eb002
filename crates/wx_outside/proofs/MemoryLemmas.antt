-- The map of the files in memory has under each name what a search from the front finds.
use Rattle.std.proofs.Common.{◌≡◌, ℕ, List, [], ◌∷◌, map, Some, cond, refl, ap, ◌∙◌}
use Rattle.std.specs.Prelude.{string_bytes}
use Rattle.std.specs.Ordering.{nat_cmp}
use Rattle.std.specs.Cmp.Lexicographic.{slice_cmp, nat_list_cmp_total}
use Rattle.std.specs.FinMap.{get, get-from_entries, find}
use Rattle.std.specs.Str.{bytes_eq}
use Rattle.std.proofs.lemmas.Map.Text.{is_eq-slice_cmp}
use Rattle.wx_outside.specs.declared.memory.MemoryFile.{MemoryFile}
use Rattle.wx_outside.specs.Memory.{bytes_at, named, files_of}

find-map_named : (files : List MemoryFile) (name : List ℕ) → find (slice_cmp nat_cmp) name (map named files) ≡ bytes_at files name
find-map_named [] name = refl
find-map_named (f ∷ fs) name =
    ap (λ b. cond b (Some f.bytes.items) (find (slice_cmp nat_cmp) name (map named fs))) (is_eq-slice_cmp name (string_bytes f.name))
    ∙ ap (cond (bytes_eq name (string_bytes f.name)) (Some f.bytes.items)) (find-map_named fs name)

pub get-files_of : (files : List MemoryFile) (name : List ℕ) → get (files_of files) name ≡ bytes_at files name
get-files_of files name = get-from_entries nat_list_cmp_total (map named files) name ∙ find-map_named files name

pub ruleset finds = (get-files_of)
