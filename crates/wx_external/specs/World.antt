-- What the broker knows of extensions and native hosts.
use Rattle.std.specs.Prelude.{ℕ, Bool, true, not, ◌&&◌, List, [], ◌∷◌, Option, find, position, option_map, bytes_eq}
use Rattle.std.specs.List.{list_any}
use Rattle.wx_manifest.specs.ExtensionManifests.{Manifest}
use Rattle.wx_host_manifest.specs.HostManifests.{Host}
use Rattle.wx_external.specs.declared.world.Installed.{Installed}

-- the extensions that have a manifest, and the hosts, each in the order of adding
pub record WorldLists : Type 0 where
  pub extensions : List Installed
  pub hosts : List Host

-- the world that holds nothing
abbrev pub empty_world : WorldLists
empty_world = record { extensions = []; hosts = [] }

-- no two have one key
abbrev pub are_apart : {X : Type 0} → (X → List ℕ) → List X → Bool
are_apart key [] = true
are_apart key (x ∷ xs) = not (list_any (λ y. bytes_eq (key y) (key x)) xs) && are_apart key xs

-- no two extensions have one id
abbrev pub ids_are_apart : List Installed → Bool
ids_are_apart extensions = are_apart (λ (extension : Installed). extension.id) extensions

-- no two hosts have one name
abbrev pub names_are_apart : List Host → Bool
names_are_apart hosts = are_apart (λ (host : Host). host.name) hosts

-- the extension has this id
abbrev pub has_id : List ℕ → Installed → Bool
has_id id extension = bytes_eq extension.id id

-- the host has this name
abbrev pub has_name : List ℕ → Host → Bool
has_name name host = bytes_eq host.name name

-- an extension with this id is there
abbrev pub holds_id : WorldLists → List ℕ → Bool
holds_id world id = list_any (has_id id) world.extensions

-- a host with this name is there
abbrev pub holds_name : WorldLists → List ℕ → Bool
holds_name world name = list_any (has_name name) world.hosts

-- what the manifest of the extension with this id holds; none where the world does not hold the id
abbrev pub manifest_of : WorldLists → List ℕ → Option Manifest
manifest_of world id = option_map (λ (extension : Installed). extension.manifest) (find (has_id id) world.extensions)

-- the place of the host with this name among the hosts
abbrev pub host_place : WorldLists → List ℕ → Option ℕ
host_place world name = position (has_name name) world.hosts
