-- A host that the world holds is found.
use Rattle.std.proofs.Common.{◌≡◌, ◌≢◌, ℕ, ◌+◌, List, [], ◌∷◌, ◌∙◌, refl, sym, Bool, true, false, cond}
use Rattle.std.specs.Prelude.{Option, Some, None, IsTrue, not, ◌||◌, slice_get}
use Rattle.std.specs.List.{list_any, position_from}
use Rattle.std.proofs.lemmas.Iterator.Adapters.{position_from-zero}
use Rattle.wx_id.specs.HostNames.{is_host_name}
use Rattle.wx_context.specs.declared.contexts.Context.{Context}
use Rattle.wx_context.specs.declared.contexts.Context.TheVariants.{Page, Content, Web}
use Rattle.wx_external.specs.World.{WorldLists, has_name, holds_name, host_place, manifest_of}
use Rattle.wx_external.specs.Gate.{admits_caller, has_permission, native_gate_of, verdict_at}
use Rattle.wx_external.specs.declared.native.NativeVerdict.{NativeVerdict}
use Rattle.wx_external.specs.declared.native.NativeVerdict.TheVariants as native

position_there : {X : Type 0} (p : X → Bool) (xs : List X) (i : ℕ) → list_any p xs ≡ true → position_from p i xs ≢ None
position_there p [] i h = absurd (cc)
position_there p (x ∷ xs) i h = step (p x) (λ k. position_there p xs (i + 1) k) h
  where
    step : (b : Bool) → (list_any p xs ≡ true → position_from p (i + 1) xs ≢ None) → (b || list_any p xs) ≡ true
        → cond b (Some i) (position_from p (i + 1) xs) ≢ None
    step true later h = λ e. cc
    step false later h = later h

place_there : (world : WorldLists) (name : List ℕ) → IsTrue (holds_name world name) → host_place world name ≢ None
place_there world name h e = position_there (has_name name) world.hosts 0 h (sym (position_from-zero (has_name name) world.hosts) ∙ e)

-- neither of the two verdicts
abbrev IsFound : NativeVerdict → Type 0
IsFound verdict = (verdict ≢ native.BadHostName) × (verdict ≢ native.HostNotFound)

at_place : (world : WorldLists) (ext : List ℕ) (place : Option ℕ) → place ≢ None → IsFound (verdict_at world ext place)
at_place world ext None there = absurd (there refl)
at_place world ext (Some place) there = step (admits_caller (slice_get world.hosts place) ext)
  where
    step : (b : Bool) → IsFound (cond b (native.Open place) native.HostForbidden)
    step true = (λ e. cc, λ e. cc)
    step false = (λ e. cc, λ e. cc)

of_page : (permitted named : Bool) (verdict : NativeVerdict) → named ≡ true → IsFound verdict
    → IsFound (cond (not permitted) native.NoPermission (cond (not named) native.BadHostName verdict))
of_page true true verdict h v = v
of_page false true verdict h v = (λ e. cc, λ e. cc)
of_page permitted false verdict h v = absurd (cc)

pub found : (world : WorldLists) (caller : Context) (name : List ℕ) → IsTrue (holds_name world name) → IsTrue (is_host_name name)
    → (native_gate_of world caller name ≢ native.BadHostName) × (native_gate_of world caller name ≢ native.HostNotFound)
unfolding native_gate_of
found world (Page ext path) name h k =
    of_page (has_permission (manifest_of world ext)) (is_host_name name) (verdict_at world ext (host_place world name)) k
    (at_place world ext (host_place world name) (place_there world name h))
found world (Content ext tab frame url) name h k = (λ e. cc, λ e. cc)
found world (Web tab frame url) name h k = (λ e. cc, λ e. cc)
