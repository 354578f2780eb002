-- Worked examples of the gates, computed.
use Rattle.std.specs.Prelude.{◌≡◌, ℕ, Bool, true, false, List, [], ◌∷◌, codes, Option, Some, None}
use Rattle.wx_id.specs.declared.numbers.FrameId.{FrameId}
use Rattle.wx_id.specs.declared.numbers.TabId.{TabId}
use Rattle.wx_match_pattern.specs.declared.parts.SchemePart.TheVariants.{Any}
use Rattle.wx_match_pattern.specs.Pattern.{below, PatternParts, parts}
use Rattle.wx_manifest.specs.ExtensionManifests.{Connectable, Manifest}
use Rattle.wx_host_manifest.specs.Origins.{origin_of}
use Rattle.wx_context.specs.declared.contexts.Context.{Context}
use Rattle.wx_context.specs.declared.contexts.Context.TheVariants.{Page, Content, Web}
use Rattle.wx_context.specs.declared.contexts.Target.TheVariants.{Own, Other, Tab}
use Rattle.wx_external.specs.declared.gates.Verdict.{Verdict}
use Rattle.wx_external.specs.declared.gates.Verdict.TheVariants.{Open, BadTarget, Forbidden}
use Rattle.wx_external.specs.declared.gates.Rule.TheVariants.{Id, Url}
use Rattle.wx_external.specs.declared.native.NativeVerdict.{NativeVerdict}
use Rattle.wx_external.specs.declared.native.NativeVerdict.TheVariants as native
use Rattle.wx_external.specs.World.{WorldLists}
use Rattle.wx_external.specs.Gate.{gate_of, native_gate_of}

abbrev pub id_a : List ℕ
id_a = codes "aaaaaaaaaaaaaaaaaaaaaaaaaaaaaaaa"

abbrev pub id_b : List ℕ
id_b = codes "bbbbbbbbbbbbbbbbbbbbbbbbbbbbbbbb"

abbrev pub page_of : List ℕ → Context
page_of ext = Page ext (codes "/p")

abbrev pub web_page : List ℕ → Context
web_page url = Web (record { 0 = 7 }) (record { 0 = 0 }) url

abbrev pub script_of : List ℕ → Context
script_of ext = Content ext (record { 0 = 7 }) (record { 0 = 0 }) (codes "https://a.b/")

abbrev pub manifest_with : Bool → Option Connectable → Manifest
manifest_with native external = record {
  manifest_version = 3;
  name = codes "x";
  version = codes "1";
  native = native;
  external = external;
}

-- extension A with this `externally_connectable`, and no host
abbrev pub world_with : Option Connectable → WorldLists
world_with external = record {
  extensions = record { id = id_a; manifest = manifest_with false external }
      ∷ [];
  hosts = [];
}

abbrev pub connectable : List (List ℕ) → List PatternParts → Option Connectable
connectable ids patterns = Some (record { ids = ids; patterns = patterns })

-- the pattern `*://*.a.b/*`
abbrev pub below_a_b : PatternParts
below_a_b = parts Any (below (codes "a.b")) (codes "/*")

-- what a page of B, a page of A, the web page https://a.b/x and the web page https://c.d/x get for calling A by its id
abbrev pub verdicts : Option Connectable → List Verdict
verdicts external =
    gate_of (world_with external) (page_of id_b) (Other id_a)
    ∷ gate_of (world_with external) (page_of id_a) (Other id_a)
    ∷ gate_of (world_with external) (web_page (codes "https://a.b/x")) (Other id_a)
    ∷ gate_of (world_with external) (web_page (codes "https://c.d/x")) (Other id_a)
    ∷ []

-- the four by `externally_connectable`: absent, empty, with all ids, with the pattern alone
abbrev pub VerdictsByManifest : Type 0
VerdictsByManifest =
    (verdicts None ≡ Open true ∷ Open false ∷ Forbidden Url ∷ Forbidden Url ∷ [])
    × (verdicts (connectable [] []) ≡ Forbidden Id ∷ Open false ∷ Forbidden Url ∷ Forbidden Url ∷ [])
    × (verdicts (connectable (codes "*" ∷ []) []) ≡ Open true ∷ Open false ∷ Forbidden Url ∷ Forbidden Url ∷ [])
    × (verdicts (connectable [] (below_a_b ∷ [])) ≡ Forbidden Id ∷ Open false ∷ Open true ∷ Forbidden Url ∷ [])

-- what each sort of caller gets whatever the world holds: from a page, from a content script, from a web page
abbrev pub VerdictsOfAnyWorld : Type 0
VerdictsOfAnyWorld = (world : WorldLists) (tab : TabId) (frame : Option FrameId) →
    (gate_of world (page_of id_a) Own ∷ gate_of world (page_of id_a) (Tab tab frame) ∷ []
    ≡ Open false ∷ Open false ∷ [])
    × (gate_of world (script_of id_a) Own ∷ gate_of world (script_of id_a) (Other id_a)
    ∷ gate_of world (script_of id_a) (Other id_b)
    ∷ gate_of world (script_of id_a) (Tab tab frame) ∷ [] ≡ Open false ∷ Open false ∷ BadTarget ∷ BadTarget ∷ [])
    × (gate_of world (web_page (codes "https://a.b/x")) Own ∷ gate_of world (web_page (codes "https://a.b/x")) (Tab tab frame) ∷ []
    ≡ BadTarget ∷ BadTarget ∷ [])

-- A with the permission and B without; the host `e` lets A in, and `f` lets nobody in
abbrev pub world_of_hosts : WorldLists
world_of_hosts = record {
  extensions = record { id = id_b; manifest = manifest_with false None }
      ∷ record { id = id_a; manifest = manifest_with true None } ∷ [];
  hosts = record { name = codes "f"; path = codes "/f"; origins = [] }
      ∷ record { name = codes "e"; path = codes "/e"; origins = origin_of id_a ∷ [] } ∷ [];
}

abbrev pub native_verdict : Context → List ℕ → NativeVerdict
native_verdict caller name = native_gate_of world_of_hosts caller name

-- each test of the native gate, where those before it hold
abbrev pub NativeVerdictsInOrder : Type 0
NativeVerdictsInOrder =
    (native_verdict (script_of id_a) (codes "E") ≡ native.BadTarget)
    × (native_verdict (page_of id_b) (codes "E") ≡ native.NoPermission)
    × (native_verdict (page_of id_a) (codes "E") ≡ native.BadHostName)
    × (native_verdict (page_of id_a) (codes "g") ≡ native.HostNotFound)
    × (native_verdict (page_of id_a) (codes "f") ≡ native.HostForbidden)
    × (native_verdict (page_of id_a) (codes "e") ≡ native.Open 1)
