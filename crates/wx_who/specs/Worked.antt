-- Worked tables, computed.
use Rattle.std.specs.Prelude.{◌≡◌, ℕ, List, [], ◌∷◌, ◌++◌, codes, None, true}
use Rattle.wx_context.specs.declared.contexts.Context.{Context}
use Rattle.wx_context.specs.declared.contexts.Context.TheVariants.{Page, Web}
use Rattle.wx_external.specs.World.{WorldLists, empty_world}
use Rattle.wx_external.specs.Worked.{id_a, id_b, manifest_with}
use Rattle.wx_host_manifest.specs.Origins.{origin_of}
use Rattle.wx_script.specs.declared.scene.SceneEndpoint.{SceneEndpoint}
use Rattle.wx_script.specs.declared.scene.SceneExtension.{SceneExtension}
use Rattle.wx_script.specs.SceneValue.{SceneValue}
use Rattle.wx_who.specs.Table.{reach_of}

abbrev pub endpoint : List ℕ → Context → SceneEndpoint
endpoint name context = record { name = name; context = context; script = [] }

abbrev pub extension : List ℕ → List ℕ → SceneExtension
extension name id = record { name = name; id = id; file = None }

-- extensions x and y, a page of each, and a web page in tab 7
abbrev pub from_outside : SceneValue
from_outside = record {
  extensions = extension (codes "x") id_a ∷ extension (codes "y") id_b ∷ [];
  hosts = [];
  files = [];
  endpoints = endpoint (codes "p") (Page id_a (codes "/p"))
      ∷ endpoint (codes "q") (Page id_b (codes "/q"))
      ∷ endpoint (codes "w") (Web (record { 0 = 7 }) (record { 0 = 0 }) (codes "https://a.b/")) ∷ [];
}

-- an extension with a page
abbrev pub one_page : SceneValue
one_page = record {
  extensions = extension (codes "x") id_a ∷ [];
  hosts = codes "e.json" ∷ [];
  files = [];
  endpoints = endpoint (codes "p") (Page id_a (codes "/p")) ∷ [];
}

-- that extension has the permission, and the host `e` lets it in
abbrev pub with_host : WorldLists
with_host = record {
  extensions = record { id = id_a; manifest = manifest_with true None } ∷ [];
  hosts = record { name = codes "e"; path = codes "/bin/echo"; origins = origin_of id_a ∷ [] } ∷ [];
}

-- nobody has a manifest: each extension admits each other, and none admits a web page
abbrev pub FromOutsideTable : Type 0
FromOutsideTable =
    reach_of from_outside empty_world
    ≡ codes "p own open internal to -\n" ++ (codes "p ext x open internal to -\n"
    ++ (codes "p ext y open external to q\n" ++ (codes "p tab 7 open internal to -\n"
    ++ (codes "q own open internal to -\n" ++ (codes "q ext x open external to p\n"
    ++ (codes "q ext y open internal to -\n" ++ (codes "q tab 7 open internal to -\n"
    ++ (codes "w own bad_target\n" ++ (codes "w ext x forbidden url\n"
    ++ (codes "w ext y forbidden url\n" ++ codes "w tab 7 bad_target\n"))))))))))

abbrev pub NativeTable : Type 0
NativeTable =
    reach_of one_page with_host
    ≡ codes "p own open internal to -\n" ++ (codes "p ext x open internal to -\n" ++ codes "p host e open\n")
