-- Those who attend at the place that a target names are the receivers.
use Rattle.std.proofs.Common.{◌≡◌, ℕ, List, [], refl, ap, sym, ◌∙◌, Bool, true, false, not}
use Rattle.std.specs.Prelude.{filter, ◌&&◌, Option, Some, None, slice_get, bytes_eq}
use Rattle.wx_id.specs.Contexts.{same_context}
use Rattle.wx_id.specs.declared.numbers.ContextNo.{ContextNo}
use Rattle.wx_context.specs.declared.contexts.Context.{Context}
use Rattle.wx_context.specs.declared.contexts.Context.TheVariants.{Page, Content, Web}
use Rattle.wx_context.specs.declared.contexts.Target.{Target}
use Rattle.wx_context.specs.declared.contexts.Target.TheVariants.{Own, Other, Tab}
use Rattle.wx_external.specs.Gate.{meant}
use Rattle.wx_machine.specs.declared.sorts.Sort.{Sort}
use Rattle.wx_machine.specs.Contexts.{extension_of, names, hears, is_external}
use Rattle.wx_roster.specs.declared.places.Place.{Place}
use Rattle.wx_roster.specs.declared.roster.Member.{Member}
use Rattle.wx_roster.specs.Members.{context_in, hears_from, is_receiver_in, receivers_in, numbers_in}
use Rattle.wx_roster.specs.Places.{place_of, place_in, comes_to, comers_at, stays_in, lives_at, lives_in, did_not_leave, in_frame, attends, is_wanted, AreInPlace}
use Rattle.wx_roster.proofs.Filters.{filter_twice, filter_same, filter_narrow, filter_none}

-- the same as `names`, told by the place that the target names
abbrev named : Option Place → Target → Context → Bool
named None target y = false
named (Some p) target y = comes_to p (place_of y) && in_frame target y

-- a target names those who came to its place, in its frame
names_named : (own : Option (List ℕ)) (target : Target) (y : Context) → names own target y ≡ named (place_in own target) target y
names_named own target y = by own target y
  where
    here : (b : Bool) → b ≡ ((b && true) && true)
    here true = refl
    here false = refl

    apart : (b : Bool) → false ≡ ((b && false) && true)
    apart true = refl
    apart false = refl

    by : (own : Option (List ℕ)) (target : Target) (y : Context) → names own target y ≡ named (place_in own target) target y
    by None Own (Page ext path) = refl
    by None Own (Content ext tab frame url) = refl
    by None Own (Web tab frame url) = refl
    by (Some id) Own (Page ext path) = here (bytes_eq id ext)
    by (Some id) Own (Content ext tab frame url) = apart (bytes_eq id ext)
    by (Some id) Own (Web tab frame url) = refl
    by None (Other id) (Page ext path) = here (bytes_eq id ext)
    by None (Other id) (Content ext tab frame url) = apart (bytes_eq id ext)
    by None (Other id) (Web tab frame url) = refl
    by (Some own) (Other id) (Page ext path) = here (bytes_eq id ext)
    by (Some own) (Other id) (Content ext tab frame url) = apart (bytes_eq id ext)
    by (Some own) (Other id) (Web tab frame url) = refl
    by None (Tab t f) (Page ext path) = refl
    by None (Tab t f) (Content ext tab frame url) = refl
    by None (Tab t f) (Web tab frame url) = refl
    by (Some id) (Tab t f) (Page ext path) = apart (bytes_eq id ext)
    by (Some id) (Tab t f) (Content ext tab frame url) = refl
    by (Some id) (Tab t f) (Web tab frame url) = refl

-- those who attend at the place that a target names are the receivers
pub reached : (members : List Member) (lists : List (Place × List ContextNo)) (c : ContextNo) (x : Context) (target : Target) (sort : Sort) (p : Place) → AreInPlace members lists → context_in members c ≡ Some x → place_in (extension_of x) (meant x target) ≡ Some p → filter (is_wanted members c (meant x target) sort) (comers_at lists p) ≡ receivers_in members c target sort
reached members lists c x target sort p placed caller place =
    filter_narrow wanted (stays_in members) stays (comers_at lists p)
    ∙ ap (filter wanted) (placed.each p)
    ∙ filter_twice wanted (lives_in members p) (numbers_in members)
    ∙ filter_same (λ d. lives_in members p d && wanted d) (is_receiver_in members c target sort) receives (numbers_in members)
  where
    wanted : ContextNo → Bool
    wanted = is_wanted members c (meant x target) sort

    stays : (d : ContextNo) → wanted d ≡ (stays_in members d && wanted d)
    stays d = by (not (same_context d c)) (slice_get members d.0)
      where
        known : (a l f h : Bool) → (a && ((l && f) && h)) ≡ (l && (a && ((l && f) && h)))
        known a true f h = refl
        known true false f h = refl
        known false false f h = refl

        by : (a : Bool) (o : Option Member) → (a && attends (meant x target) sort o) ≡ (did_not_leave o && (a && attends (meant x target) sort o))
        by a None = refl
        by a (Some m) = known a m.is_live (in_frame (meant x target) m.context) (hears sort (is_external (meant x target)) m.listens)

    receives : (d : ContextNo) → (lives_in members p d && wanted d) ≡ is_receiver_in members c target sort d
    receives d = by (not (same_context d c)) (slice_get members d.0) ∙ ap (λ o. not (same_context d c) && hears_from o target sort (slice_get members d.0)) (sym caller)
      where
        parts : (a l k f h : Bool) → ((l && k) && (a && ((l && f) && h))) ≡ (a && (l && ((k && f) && h)))
        parts a true true f h = refl
        parts true true false f h = refl
        parts false true false f h = refl
        parts true false k f h = refl
        parts false false k f h = refl

        by : (a : Bool) (o : Option Member) → (lives_at p o && (a && attends (meant x target) sort o)) ≡ (a && hears_from (Some x) target sort o)
        by true None = refl
        by false None = refl
        by a (Some m) =
            parts a m.is_live (comes_to p (place_of m.context)) (in_frame (meant x target) m.context) (hears sort (is_external (meant x target)) m.listens)
            ∙ ap (λ n. a && (m.is_live && (n && hears sort (is_external (meant x target)) m.listens)))
            (sym (names_named (extension_of x) (meant x target) m.context ∙ ap (λ o. named o (meant x target) m.context) place))

none_of : (a b : Bool) → (a && (b && false)) ≡ false
none_of true true = refl
none_of true false = refl
none_of false b = refl

-- where the target has no place nobody is reached
pub reached_nowhere : (members : List Member) (c : ContextNo) (x : Context) (target : Target) (sort : Sort) → context_in members c ≡ Some x → place_in (extension_of x) (meant x target) ≡ None → receivers_in members c target sort ≡ []
reached_nowhere members c x target sort caller place = filter_none (is_receiver_in members c target sort) (λ d. ap (λ o. not (same_context d c) && hears_from o target sort (slice_get members d.0)) caller ∙ by (not (same_context d c)) (slice_get members d.0)) (numbers_in members)
  where
    by : (a : Bool) (o : Option Member) → (a && hears_from (Some x) target sort o) ≡ false
    by true None = refl
    by false None = refl
    by a (Some m) =
        ap (λ n. a && (m.is_live && (n && hears sort (is_external (meant x target)) m.listens)))
        (names_named (extension_of x) (meant x target) m.context ∙ ap (λ o. named o (meant x target) m.context) place)
        ∙ none_of a m.is_live

-- a caller that never came in reaches nobody
pub unknown_reaches_none : (members : List Member) (c : ContextNo) (target : Target) (sort : Sort) → context_in members c ≡ None → receivers_in members c target sort ≡ []
unknown_reaches_none members c target sort caller = filter_none (is_receiver_in members c target sort) (λ d. ap (λ o. not (same_context d c) && hears_from o target sort (slice_get members d.0)) caller ∙ by (not (same_context d c)) (slice_get members d.0)) (numbers_in members)
  where
    by : (a : Bool) (o : Option Member) → (a && hears_from None target sort o) ≡ false
    by true None = refl
    by false None = refl
    by a (Some m) = none_of a m.is_live
