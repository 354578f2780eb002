-- Places: what targets name together, and which contexts came to each.
use Rattle.std.specs.Prelude.{◌≡◌, ℕ, List, [], ◌∷◌, ◌++◌, filter, Bool, true, false, not, ◌&&◌, ◌==◌, cond, Option, Some, None, bytes_eq, slice_get}
use Rattle.std.specs.Option.{option_eq, unwrap_or}
use Rattle.std.specs.Map.{lookup}
use Rattle.wx_id.specs.Contexts.{same_context}
use Rattle.wx_id.specs.declared.numbers.ContextNo.{ContextNo}
use Rattle.wx_id.specs.declared.numbers.TabId.{TabId}
use Rattle.wx_context.specs.declared.contexts.Context.{Context}
use Rattle.wx_context.specs.declared.contexts.Context.TheVariants.{Page, Content, Web}
use Rattle.wx_context.specs.declared.contexts.Target.{Target}
use Rattle.wx_context.specs.declared.contexts.Target.TheVariants.{Own, Other, Tab}
use Rattle.wx_machine.specs.declared.sorts.Sort.{Sort}
use Rattle.wx_machine.specs.Contexts.{hears, is_external, is_frame}
use Rattle.wx_roster.specs.declared.places.Place.{Place}
use Rattle.wx_roster.specs.declared.roster.Member.{Member}
use Rattle.wx_roster.specs.Members.{numbers_in}

abbrev pub same_tab : TabId → TabId → Bool
same_tab t u = t.0 == u.0

abbrev pub same_place : Place → Place → Bool
same_place p q = bytes_eq p.ext q.ext && option_eq same_tab p.tab q.tab

-- the pages of an extension
abbrev pub pages_of : List ℕ → Place
pages_of ext = record { ext = ext; tab = None }

-- its content scripts in a tab
abbrev pub scripts_of : List ℕ → TabId → Place
scripts_of ext tab = record { ext = ext; tab = Some tab }

-- the place that a context comes to; a web page comes to none
abbrev pub place_of : Context → Option Place
place_of (Page ext path) = Some (pages_of ext)
place_of (Content ext tab frame url) = Some (scripts_of ext tab)
place_of (Web tab frame url) = None

-- the place that a target of a caller from that extension names
abbrev pub place_in : Option (List ℕ) → Target → Option Place
place_in own (Other id) = Some (pages_of id)
place_in (Some ext) Own = Some (pages_of ext)
place_in (Some ext) (Tab t f) = Some (scripts_of ext t)
place_in None _ = None

-- whether one who comes to a place, if to any, comes to p
abbrev pub comes_to : Place → Option Place → Bool
comes_to p None = false
comes_to p (Some q) = same_place p q

-- those in the list of a place, in the order of their coming
abbrev pub comers_at : List (Place × List ContextNo) → Place → List ContextNo
comers_at lists p = unwrap_or (lookup (same_place p) lists) []

-- those at p, after context c came to a place, if to any
abbrev pub with_comer : List ContextNo → Option Place → ContextNo → Place → List ContextNo
with_comer before came c p = before ++ cond (comes_to p came) (c ∷ []) []

-- a context lives, or did not come in yet
abbrev pub did_not_leave : Option Member → Bool
did_not_leave None = true
did_not_leave (Some member) = member.is_live

abbrev pub stays_in : List Member → ContextNo → Bool
stays_in members d = did_not_leave (slice_get members d.0)

-- those at a place that did not leave
abbrev pub staying_at : List Member → List (Place × List ContextNo) → Place → List ContextNo
staying_at members lists p = filter (stays_in members) (comers_at lists p)

-- a context lives, and came to the place
abbrev pub lives_at : Place → Option Member → Bool
lives_at p None = false
lives_at p (Some member) = member.is_live && comes_to p (place_of member.context)

abbrev pub lives_in : List Member → Place → ContextNo → Bool
lives_in members p d = lives_at p (slice_get members d.0)

-- at each place stand those who live and came to it, rising, and maybe some who left
pub record AreInPlace (members : List Member) (lists : List (Place × List ContextNo)) : Type 0 where
  pub each : (p : Place) → staying_at members lists p ≡ filter (lives_in members p) (numbers_in members)

-- where a target names a frame, a content script stands in it
abbrev pub in_frame : Target → Context → Bool
in_frame (Tab t f) (Content ext tab frame url) = is_frame f frame
in_frame _ y = true

-- whether one who came to the place that a target names hears what is sent to it
abbrev pub attends : Target → Sort → Option Member → Bool
attends target sort None = false
attends target sort (Some member) =
    member.is_live && in_frame target member.context && hears sort (is_external target) member.listens

-- the same of context d, but for the caller c
abbrev pub is_wanted : List Member → ContextNo → Target → Sort → ContextNo → Bool
is_wanted members c target sort d = not (same_context d c) && attends target sort (slice_get members d.0)
