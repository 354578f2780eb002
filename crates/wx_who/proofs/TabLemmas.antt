-- A tab put at its place among rising ones.
use Rattle.std.proofs.Common.{◌≡◌, ◌≤◌, ℕ, List, [], ◌∷◌, refl, length, arith, Bool, true, cond}
use Rattle.std.specs.List.{insert, list_any, list_all, fold}
use Rattle.std.specs.Prelude.{nat_lt, ◌==◌, ◌||◌, slice_get, Option, Some, None}
use Rattle.std.proofs.lemmas.Bool.Decides.{nat_tests}
use Rattle.std.proofs.lemmas.List.Sums.{prefix_len-le-length}
use Rattle.wx_id.specs.declared.numbers.TabId.{TabId}
use Rattle.wx_script.specs.declared.scene.SceneEndpoint.{SceneEndpoint}
use Rattle.wx_who.specs.Tabs.{below, is_among, is_rising, is_tab, stands_in, tabs_of, tab_of, with_tab, with_tab_if, with_tab_of}

pub below_le : (tab : TabId) (tabs : List TabId) → below tab tabs ≤ length tabs
below_le tab tabs = prefix_len-le-length _ tabs

-- where the tab stands next, nothing is put; else it is put there
pub with_tab_is : (tab : TabId) (tabs : List TabId) →
    with_tab tab tabs ≡ cond (is_tab tab (slice_get tabs (below tab tabs))) tabs (insert tabs (below tab tabs) tab)
with_tab_is tab [] = refl
with_tab_is tab (t ∷ tabs) = grind (arith, nat_tests, with_tab_is tab tabs)

-- a tab is among those with one more where it is that one or among them
among_more : (tab new : TabId) (tabs : List TabId) → is_among tab (with_tab new tabs) ≡ (new.0 == tab.0 || is_among tab tabs)
among_more tab new [] = refl
among_more tab new (t ∷ tabs) = grind (arith, nat_tests, among_more tab new tabs)

among_if : (tab : TabId) (tabs : List TabId) (new : Option TabId) → is_among tab (with_tab_if tabs new) ≡ (is_tab tab new || is_among tab tabs)
among_if tab tabs None = refl
among_if tab tabs (Some new) = among_more tab new tabs

among_fold : (tab : TabId) (tabs : List TabId) (es : List SceneEndpoint) → is_among tab (fold with_tab_of tabs es) ≡ (is_among tab tabs || list_any (stands_in tab) es)
among_fold tab tabs [] = grind (arith, nat_tests)
among_fold tab tabs (e ∷ es) = grind (arith, among_fold tab (with_tab_of tabs e) es, among_if tab tabs (tab_of e.context), nat_tests)

pub tabs_of_each : (es : List SceneEndpoint) (tab : TabId) → is_among tab (tabs_of es) ≡ list_any (stands_in tab) es
tabs_of_each es tab = among_fold tab [] es

-- all of them are above a
abbrev are_above : ℕ → List TabId → Bool
are_above a tabs = list_all (λ (t : TabId). nat_lt a t.0) tabs

above_more : (a : ℕ) (new : TabId) (tabs : List TabId) → nat_lt a new.0 ≡ true → are_above a tabs ≡ true → are_above a (with_tab new tabs) ≡ true
above_more a new [] h k = grind (arith, nat_tests)
above_more a new (t ∷ tabs) h k = grind (arith, nat_tests, above_more a new tabs h)

above_lower : (a b : ℕ) (tabs : List TabId) → a ≤ b → are_above b tabs ≡ true → are_above a tabs ≡ true
above_lower a b [] h k = refl
above_lower a b (t ∷ tabs) h k = grind (arith, nat_tests, above_lower a b tabs h)

rising_more : (new : TabId) (tabs : List TabId) → is_rising tabs ≡ true → is_rising (with_tab new tabs) ≡ true
rising_more new [] h = refl
rising_more new (t ∷ tabs) h = grind (arith, nat_tests, rising_more new tabs, above_more t.0 new tabs, above_lower new.0 t.0 tabs)

rising_if : (tabs : List TabId) (new : Option TabId) → is_rising tabs ≡ true → is_rising (with_tab_if tabs new) ≡ true
rising_if tabs None h = h
rising_if tabs (Some new) h = rising_more new tabs h

rising_fold : (tabs : List TabId) (es : List SceneEndpoint) → is_rising tabs ≡ true → is_rising (fold with_tab_of tabs es) ≡ true
rising_fold tabs [] h = h
rising_fold tabs (e ∷ es) h = rising_fold (with_tab_of tabs e) es (rising_if tabs (tab_of e.context) h)

pub tabs_of_rise : (es : List SceneEndpoint) → is_rising (tabs_of es) ≡ true
tabs_of_rise es = rising_fold [] es refl
