-- The text of a caller's lines, piece by piece.
use Rattle.std.proofs.Common.{◌≡◌, ◌<◌, ℕ, ◌+◌, List, ◌++◌, refl, map, take, drop, get_or, length}
use Rattle.std.specs.Prelude.{cond, ◌||◌, codes}
use Rattle.std.proofs.lemmas.List.{append-nil, drop_more, map-append, take_more}
use Rattle.std.proofs.lemmas.List.Concat.{flat_map-append}
use Rattle.std.proofs.lemmas.List.Elements.{filter-append}
use Rattle.std.proofs.lemmas.List.Folds.{list_any-append}
use Rattle.std.specs.List.{list_any}
use Rattle.wx_context.specs.declared.contexts.Context.{Context}
use Rattle.wx_context.specs.declared.contexts.Target.{Target}
use Rattle.wx_external.specs.World.{WorldLists}
use Rattle.wx_host_manifest.specs.HostManifests.{Host}
use Rattle.wx_id.specs.declared.numbers.TabId.{TabId}
use Rattle.wx_script.specs.declared.scene.SceneEndpoint.{SceneEndpoint}
use Rattle.wx_script.specs.declared.scene.SceneExtension.{SceneExtension}
use Rattle.wx_who.specs.Reach.{Caller, is_for, names_text, receivers, receivers_text}
use Rattle.wx_who.specs.Table.{Asked, own, extension, tab, host, all_asked, line_text, lines_behind, lines_of, lines_text}

-- the lines about those of a sort, and about one more
pub lines_more : {X : Type 0} (caller : Caller) (f : X → Asked) (xs : List X) (i : ℕ) (x : X) → i < length xs → get_or xs i x ≡ x →
    lines_text (lines_of caller (map f (take (i + 1) xs)))
    ≡ lines_text (lines_of caller (map f (take i xs))) ++ line_text (record { caller = caller; asked = f x })
lines_more caller f xs i x h e = rw (take_more xs i x h, e) (simp (map-append, flat_map-append, append-nil))

-- the lines about all that a caller asks about
pub all_lines : (caller : Caller) (xs : List SceneExtension) (ts : List TabId) (hs : List Host) →
    lines_text (lines_of caller (all_asked xs ts hs))
    ≡ line_text (record { caller = caller; asked = own }) ++ (lines_text (lines_of caller (map extension xs))
    ++ (lines_text (lines_of caller (map tab ts)) ++ lines_text (lines_of caller (map host hs))))
all_lines caller xs ts hs = simp (map-append, flat_map-append)

-- the lines of the endpoints from place i on
pub lines_from : (world : WorldLists) (all : List Asked) (es : List SceneEndpoint) (i : ℕ) (e : SceneEndpoint) → i < length es → get_or es i e ≡ e →
    lines_text (lines_behind world all (take i es) (drop i es))
    ≡ lines_text (lines_of (record { world = world; endpoint = e; others = take i es ++ drop (i + 1) es }) all)
    ++ lines_text (lines_behind world all (take (i + 1) es) (drop (i + 1) es))
lines_from world all es i e h same = rw (drop_more es i e h, take_more es i e h, same) (flat_map-append line_text _ _)

-- the names of those before and of those behind
pub names_append : (x : Context) (target : Target) (before behind : List SceneEndpoint) →
    names_text (receivers x target (before ++ behind))
    ≡ names_text (receivers x target before) ++ names_text (receivers x target behind)
names_append x target before behind = simp (filter-append, flat_map-append)

-- the receivers among those before and those behind
pub receivers_parts : (x : Context) (target : Target) (before behind : List SceneEndpoint) →
    receivers_text x target (before ++ behind)
    ≡ cond (list_any (is_for x target) before || list_any (is_for x target) behind)
    (names_text (receivers x target before) ++ names_text (receivers x target behind)) (codes " -")
receivers_parts x target before behind = rw (list_any-append (is_for x target) before behind, names_append x target before behind) refl
