-- Names, and what the lines above declare.
use Rattle.std.specs.Prelude.{ℕ, Bool, ◌||◌, List, [], ◌∷◌, ◌++◌, map, Option, is_some, position, slice_get, if◌then◌else◌}
use Rattle.std.specs.Option.{option_and_then}
use Rattle.std.specs.Str.{bytes_eq}
use Rattle.wx_script.specs.Words.{file_name}
use Rattle.wx_script.specs.declared.scene.SceneExtension.{SceneExtension}
use Rattle.wx_script.specs.declared.scene.SceneEndpoint.{SceneEndpoint}

-- the place of a name among others, from 0
abbrev pub place_in : List ℕ → List (List ℕ) → Option ℕ
place_in name names = position (bytes_eq name) names

abbrev pub is_among : List ℕ → List (List ℕ) → Bool
is_among name names = is_some (place_in name names)

-- the names, with one that is put after them where it is not among them
abbrev pub binding : List ℕ → List (List ℕ) → List (List ℕ)
binding name names = if is_among name names then names else names ++ name ∷ []

abbrev pub names_of : List SceneExtension → List (List ℕ)
names_of extensions = map (λ (e : SceneExtension). e.name) extensions

abbrev pub ids_of : List SceneExtension → List (List ℕ)
ids_of extensions = map (λ (e : SceneExtension). e.id) extensions

-- the own names of the files of host manifests
abbrev pub file_names_of : List (List ℕ) → List (List ℕ)
file_names_of files = map file_name files

abbrev pub endpoint_names_of : List SceneEndpoint → List (List ℕ)
endpoint_names_of endpoints = map (λ (e : SceneEndpoint). e.name) endpoints

-- an extension with this name or this id stands above
abbrev pub has_extension : List ℕ → List ℕ → List SceneExtension → Bool
has_extension name id extensions = is_among name (names_of extensions) || is_among id (ids_of extensions)

-- a host's file with this file's own name stands above
abbrev pub has_host : List ℕ → List (List ℕ) → Bool
has_host file hosts = is_among (file_name file) (file_names_of hosts)

-- an endpoint with this name stands above
abbrev pub has_endpoint : List ℕ → List SceneEndpoint → Bool
has_endpoint name endpoints = is_among name (endpoint_names_of endpoints)

-- the id of the extension with this name
abbrev pub id_under : List ℕ → List SceneExtension → Option (List ℕ)
id_under name extensions = option_and_then (slice_get (ids_of extensions)) (place_in name (names_of extensions))
