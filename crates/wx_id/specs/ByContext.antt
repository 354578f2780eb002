-- Lists that have an element for each context, at the place of its number.
use Rattle.std.specs.Prelude.{◌≡◌, List, slice_get, true, cond}
use Rattle.std.specs.Option.{option_map, IsSomeAnd}
use Rattle.wx_id.specs.declared.numbers.ContextNo.{ContextNo}
use Rattle.wx_id.specs.Contexts.{is_among}

-- of each of these contexts the element is there, and has that
abbrev pub EachHas : {A : Type 0} → (A → Type 0) → List ContextNo → List A → Type 0
EachHas P to xs = (d : ContextNo) → is_among to d ≡ true → IsSomeAnd (slice_get xs d.0) P

-- the elements of just these contexts are changed
abbrev pub Changed : {A : Type 0} → (A → A) → List ContextNo → List A → List A → Type 0
Changed change to old new =
    (d : ContextNo) → slice_get new d.0 ≡ option_map (λ x. cond (is_among to d) (change x) x) (slice_get old d.0)
