-- The tabs of a scene: those in which one of its endpoints stands.
use Rattle.std.specs.Prelude.{ℕ, List, [], ◌∷◌, fold, Option, Some, None, Bool, true, false, ◌&&◌, ◌==◌, nat_lt, if◌then◌else◌}
use Rattle.std.specs.List.{list_all, list_any, prefix_len}
use Rattle.wx_id.specs.declared.numbers.TabId.{TabId}
use Rattle.wx_context.specs.declared.contexts.Context.{Context}
use Rattle.wx_context.specs.declared.contexts.Context.TheVariants.{Page, Content, Web}
use Rattle.wx_script.specs.declared.scene.SceneEndpoint.{SceneEndpoint}

-- the tab in which a context stands; a page of an extension stands in none
abbrev pub tab_of : Context → Option TabId
tab_of (Page ext path) = None
tab_of (Content ext tab frame url) = Some tab
tab_of (Web tab frame url) = Some tab

-- rising tabs with one more, at its place, where it is not among them
abbrev pub with_tab : TabId → List TabId → List TabId
with_tab tab [] = tab ∷ []
with_tab tab (t ∷ tabs) =
    if nat_lt t.0 tab.0 then t ∷ with_tab tab tabs
    else if t.0 == tab.0 then t ∷ tabs
    else tab ∷ t ∷ tabs

abbrev pub with_tab_if : List TabId → Option TabId → List TabId
with_tab_if tabs None = tabs
with_tab_if tabs (Some tab) = with_tab tab tabs

abbrev pub with_tab_of : List TabId → SceneEndpoint → List TabId
with_tab_of tabs endpoint = with_tab_if tabs (tab_of endpoint.context)

-- the tabs in which these endpoints stand, rising and each once
abbrev pub tabs_of : List SceneEndpoint → List TabId
tabs_of endpoints = fold with_tab_of [] endpoints

-- a tab is there, and it is this one
abbrev pub is_tab : TabId → Option TabId → Bool
is_tab tab None = false
is_tab tab (Some t) = t.0 == tab.0

-- the endpoint stands in the tab
abbrev pub stands_in : TabId → SceneEndpoint → Bool
stands_in tab endpoint = is_tab tab (tab_of endpoint.context)

-- the tab is one of these
abbrev pub is_among : TabId → List TabId → Bool
is_among tab tabs = list_any (λ (t : TabId). t.0 == tab.0) tabs

-- each tab has a lower number than every later one
abbrev pub is_rising : List TabId → Bool
is_rising [] = true
is_rising (tab ∷ tabs) = list_all (λ (t : TabId). nat_lt tab.0 t.0) tabs && is_rising tabs

-- how many tabs in front have a lower number
abbrev pub below : TabId → List TabId → ℕ
below tab tabs = prefix_len (λ (t : TabId). nat_lt t.0 tab.0) tabs
