-- Lists that grow by what an entry may bring, and what comes of an entry or of those before it.
use Rattle.std.proofs.Common.{◌≡◌, ℕ, suc, zero, List, [], ◌∷◌, ◌++◌, length, cond, refl, sym}
use Rattle.std.specs.Prelude.{Bool, true, false, ◌==◌, ◌||◌, Option, Some, None, slice_get, option_to_list}
use Rattle.std.specs.Option.{option_or}
use Rattle.std.proofs.Math.Dec.{eqb-suc-suc, eqb-zero-suc}
use Rattle.wx_context.specs.declared.contexts.Context.{Context}
use Rattle.wx_machine.specs.Contexts.{is_there}

same_none : {X : Type 0} (b : Bool) → cond {A = Option X} b None None ≡ None
same_none true = refl
same_none false = refl

-- the element at a place, once the list has one more or not
pub get_options : {X : Type 0} (xs : List X) (o : Option X) (k : ℕ) → slice_get (xs ++ option_to_list o) k ≡ option_or (slice_get xs k) (cond (length xs == k) o None)
get_options [] None zero = refl
get_options [] None (suc k) = sym (same_none (0 == suc k))
get_options [] (Some x) zero = refl
get_options [] (Some x) (suc k) = rw (eqb-zero-suc k) refl
get_options (y ∷ xs) o zero = refl
get_options (y ∷ xs) o (suc k) = rw (eqb-suc-suc (length xs) k) (get_options xs o k)

-- one of two brings a context
pub there_or : (o p : Option Context) → is_there (option_or o p) ≡ (is_there o || is_there p)
there_or None p = refl
there_or (Some x) p = refl
