-- The table of reach of a scene in a world: who may reach whom, and by which rule, whoever listens.
use Rattle.std.specs.Prelude.{ℕ, List, [], ◌∷◌, ◌++◌, None, map, flat_map, decimal, codes}
use Rattle.wx_id.specs.declared.numbers.TabId.{TabId}
use Rattle.wx_context.specs.declared.contexts.Target.TheVariants.{Own, Other, Tab}
use Rattle.wx_host_manifest.specs.HostManifests.{Host}
use Rattle.wx_external.specs.World.{WorldLists}
use Rattle.wx_script.specs.declared.scene.SceneExtension.{SceneExtension}
use Rattle.wx_script.specs.declared.scene.SceneEndpoint.{SceneEndpoint}
use Rattle.wx_script.specs.SceneValue.{SceneValue}
use Rattle.wx_who.specs.Reach.{Caller, reach_text, native_reach_text}
use Rattle.wx_who.specs.Tabs.{tabs_of}

-- whom a line asks about: the pages of the caller's own extension, those of an extension of the scene, the caller's
-- content scripts in a tab, or a native host of the world
pub data Asked : Type 0 where
  own : Asked
  extension : SceneExtension → Asked
  tab : TabId → Asked
  host : Host → Asked

-- one line: a caller, and whom it asks about
pub record Line : Type 0 where
  pub caller : Caller
  pub asked : Asked

-- whom the line asks about and what comes of it, behind the caller's name
abbrev pub asked_text : Caller → Asked → List ℕ
asked_text caller own = codes " own " ++ reach_text caller Own
asked_text caller (extension x) = codes " ext " ++ (x.name ++ (codes " " ++ reach_text caller (Other x.id)))
asked_text caller (tab t) = codes " tab " ++ (decimal t.0 ++ (codes " " ++ reach_text caller (Tab t None)))
asked_text caller (host h) = codes " host " ++ (h.name ++ (codes " " ++ native_reach_text caller h.name))

abbrev pub line_text : Line → List ℕ
line_text line = line.caller.endpoint.name ++ (asked_text line.caller line.asked ++ codes "\n")

-- all that each caller asks about, in the order of its lines
abbrev pub all_asked : List SceneExtension → List TabId → List Host → List Asked
all_asked extensions tabs hosts = own ∷ (map extension extensions ++ (map tab tabs ++ map host hosts))

abbrev pub lines_of : Caller → List Asked → List Line
lines_of caller all = map (λ (asked : Asked). record { caller = caller; asked = asked }) all

-- the lines of these endpoints, which stand behind those of the same scene
abbrev pub lines_behind : WorldLists → List Asked → List SceneEndpoint → List SceneEndpoint → List Line
lines_behind world all before [] = []
lines_behind world all before (endpoint ∷ behind) =
    lines_of (record { world = world; endpoint = endpoint; others = before ++ behind }) all
    ++ lines_behind world all (before ++ endpoint ∷ []) behind

-- the lines of each endpoint, in scene order
abbrev pub table_of : SceneValue → WorldLists → List Line
table_of scene world =
    lines_behind world (all_asked scene.extensions (tabs_of scene.endpoints) world.hosts) [] scene.endpoints

abbrev pub lines_text : List Line → List ℕ
lines_text lines = flat_map line_text lines

-- the text of the table
abbrev pub reach_of : SceneValue → WorldLists → List ℕ
reach_of scene world = lines_text (table_of scene world)
