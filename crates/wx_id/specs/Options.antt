-- Steps of which the first that gives nothing ends all.
use Rattle.std.specs.Prelude.{Bool, Option, Some, None, if◌then◌else◌}

infixl 10 ◌>>=◌
abbrev pub ◌>>=◌ : {A B : Type 0} → Option A → (A → Option B) → Option B
None >>= f = None
(Some x) >>= f = f x

-- the value, where the test holds
abbrev pub where_so : {A : Type 0} → Bool → A → Option A
where_so b x = if b then Some x else None
