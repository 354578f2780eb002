-- The elements of a list: the first, and each with what stood before it.
use Rattle.std.specs.Prelude.{List, [], ◌∷◌, Option, Some, None}

-- each element has the property, given the elements before it
abbrev pub EachAfter : {A : Type 0} → (List A → A → Type 0) → List A → Type 0
EachAfter P [] = Unit {0}
EachAfter P (x ∷ past) = EachAfter P past × P past x

-- the first element
abbrev pub first : {A : Type 0} → List A → Option A
first [] = None
first (x ∷ xs) = Some x
