-- The journal in which all listen.
use Rattle.std.proofs.Common.{◌≡◌, ◌<◌, ◌≤◌, ℕ, zero, suc, List, length, refl, arith, Bool, true, false}
use Rattle.std.specs.Prelude.{Option, Some, None, slice_get, not, ◌&&◌, ◌==◌}
use Rattle.std.proofs.lemmas.Bool.Decides.{nat_tests}
use Rattle.std.proofs.lemmas.Option.{slice_get_cases}
use Rattle.wx_context.specs.declared.contexts.Context.{Context}
use Rattle.wx_context.specs.declared.contexts.Target.{Target}
use Rattle.wx_external.specs.Gate.{meant}
use Rattle.wx_machine.specs.declared.sorts.Sort.{Sort}
use Rattle.wx_machine.specs.declared.sorts.Sort.TheVariants.{Connection, Message}
use Rattle.wx_machine.specs.declared.entries.Entry.{Entry}
use Rattle.wx_machine.specs.Contexts.{context_of, extension_of, has_left, hears, is_external, is_receiver, listens_of, names, reaches_from}
use Rattle.wx_script.specs.declared.scene.SceneEndpoint.{SceneEndpoint}
use Rattle.wx_script.specs.Ends.{numbered}
use Rattle.wx_who.specs.Heard.{everything, listeners, with_listener}
use Rattle.wx_who.specs.Reach.{is_for}

-- one more that comes in is no earlier context, and says nothing for one
context_step : (n d : ℕ) (e : Option SceneEndpoint) (past : List Entry) → n < d → context_of (with_listener n e past) (numbered d) ≡ context_of past (numbered d)
context_step n d None past h = refl
context_step n d (Some e) past h = grind (arith, nat_tests)

context_later : (es : List SceneEndpoint) (n d : ℕ) → n ≤ d → context_of (listeners es n) (numbered d) ≡ None
context_later es zero d h = refl
context_later es (suc n) d h = grind (arith, context_step n d (slice_get es n) (listeners es n), context_later es n d)

context_kept : (n d : ℕ) (e : Option SceneEndpoint) (past : List Entry) (x : SceneEndpoint) → context_of past (numbered d) ≡ Some x.context → context_of (with_listener n e past) (numbered d) ≡ Some x.context
context_kept n d None past x h = h
context_kept n d (Some e) past x h = grind (arith)

context_come : (n : ℕ) (x : SceneEndpoint) (past : List Entry) → context_of past (numbered n) ≡ None → context_of (with_listener n (Some x) past) (numbered n) ≡ Some x.context
context_come n x past h = grind (arith, nat_tests)

pub context_there : (es : List SceneEndpoint) (n d : ℕ) (x : SceneEndpoint) → d < n → slice_get es d ≡ Some x → context_of (listeners es n) (numbered d) ≡ Some x.context
context_there es zero d x h e = absurd (omega arith)
context_there es (suc n) d x h e =
    grind (arith, context_kept n d (slice_get es n) (listeners es n) x, context_there es n d x, context_come n x (listeners es n), context_later es n n)

left_step : (n d : ℕ) (e : Option SceneEndpoint) (past : List Entry) → has_left past (numbered d) ≡ false → has_left (with_listener n e past) (numbered d) ≡ false
left_step n d None past h = h
left_step n d (Some e) past h = grind (arith, nat_tests)

pub nobody_left : (es : List SceneEndpoint) (n d : ℕ) → has_left (listeners es n) (numbered d) ≡ false
nobody_left es zero d = refl
nobody_left es (suc n) d = left_step n d (slice_get es n) (listeners es n) (nobody_left es n d)

listens_kept : (n d : ℕ) (e : Option SceneEndpoint) (past : List Entry) → listens_of past (numbered d) ≡ everything → listens_of (with_listener n e past) (numbered d) ≡ everything
listens_kept n d None past h = h
listens_kept n d (Some e) past h = grind (arith, nat_tests)

listens_come : (n : ℕ) (x : SceneEndpoint) (past : List Entry) → listens_of (with_listener n (Some x) past) (numbered n) ≡ everything
listens_come n x past = grind (arith, nat_tests)

pub all_listen : (es : List SceneEndpoint) (n d : ℕ) (x : SceneEndpoint) → d < n → slice_get es d ≡ Some x → listens_of (listeners es n) (numbered d) ≡ everything
all_listen es zero d x h e = absurd (omega arith)
all_listen es (suc n) d x h e =
    grind (arith, listens_kept n d (slice_get es n) (listeners es n), all_listen es n d x, listens_come n x (listeners es n))

pub below_length : {X : Type 0} (es : List X) (d : ℕ) (x : X) → slice_get es d ≡ Some x → d < length es
below_length es d x h = grind (arith, (slice_get_cases es d).1)

-- one who listens to everything hears each sort, from everywhere
hears_everything : (sort : Sort) (external : Bool) → hears sort external everything ≡ true
hears_everything Connection true = refl
hears_everything Connection false = refl
hears_everything Message true = refl
hears_everything Message false = refl

reached : (x y : Context) (target : Target) (sort : Sort) →
    reaches_from (Some x) target sort (Some y) everything ≡ names (extension_of x) (meant x target) y
reached x y target sort = grind (arith, nat_tests, hears_everything sort (is_external (meant x target)))

pub receives : (es : List SceneEndpoint) (c d : ℕ) (x y : SceneEndpoint) (target : Target) (sort : Sort)
    → slice_get es c ≡ Some x → slice_get es d ≡ Some y
    → is_receiver (listeners es (length es)) (numbered c) target sort (numbered d) ≡ (not (d == c) && is_for x.context target y)
receives es c d x y target sort at_c at_d =
    let c_below = below_length es c x at_c in let d_below = below_length es d y at_d in
    rw (context_there es (length es) c x c_below at_c, context_there es (length es) d y d_below at_d, nobody_left es (length es) d, all_listen es (length es) d y d_below at_d, reached x.context y.context target sort) (grind (arith, nat_tests))
