-- A tree read from bytes, and arrays of strings by place.
use Rattle.std.proofs.Common.{◌≡◌, ℕ, zero, suc, ◌<◌, ◌∷◌, List, [], length, get_or, refl, true, false, Option, Some, None, arith, ap, sym, ◌∙◌, inl, inr}
use Rattle.std.specs.Prelude.{IsSome, is_some, slice_get, option_and_then, option_map, unwrap_or, IsUtf8}
use Rattle.std.specs.Str.{is_utf8}
use Rattle.std.proofs.lemmas.Bool.{cases_Bool, cond-true, cond-false}
use Rattle.std.proofs.lemmas.Option.{slice_get-get_or}
use Rattle.std.proofs.lemmas.Str.{IsUtf8-from_is_utf8, is_utf8-from_IsUtf8}
use Rattle.serde_json.specs.Data.{Data}
use Rattle.serde_json.specs.Read.{read}
use Rattle.serde_json.specs.Find.{as_object, as_str}
use Rattle.serde_json.specs.View.{view, items_view}
use Rattle.serde_json.specs.declared.value.Value.{Value}
use Rattle.wx_manifest_tree.specs.Tree.{object_of, only_object, texts_of}

pub object_of-read : (bytes : List ℕ) (d : Data) → IsUtf8 bytes → read bytes ≡ Some d → object_of bytes ≡ only_object d
unfolding object_of
object_of-read bytes d utf8 is = rw (is_utf8-from_IsUtf8 bytes utf8, is) refl

pub object_of-not_read : (bytes : List ℕ) → (IsUtf8 bytes → read bytes ≡ None) → object_of bytes ≡ None
unfolding object_of
object_of-not_read bytes none =
    elim (cases_Bool (is_utf8 bytes)) [
      | inl is ↦ rw (is, none (IsUtf8-from_is_utf8 bytes is)) refl
      | inr is ↦ rw is refl
    ]

pub object_of-object : (bytes : List ℕ) (d : Data) → IsUtf8 bytes → read bytes ≡ Some d → true ≡ is_some (as_object d) → object_of bytes ≡ Some d
object_of-object bytes d utf8 is object = object_of-read bytes d utf8 is ∙ cond-true (is_some (as_object d)) (Some d) None (sym object)

pub object_of-no_object : (bytes : List ℕ) (d : Data) → IsUtf8 bytes → read bytes ≡ Some d → false ≡ is_some (as_object d) → object_of bytes ≡ None
object_of-no_object bytes d utf8 is object = object_of-read bytes d utf8 is ∙ cond-false (is_some (as_object d)) (Some d) None (sym object)

text_first : (a : Option (List ℕ)) (b : Option (List (List ℕ))) (texts : List (List ℕ))
    → option_and_then (λ text. option_map (λ rest. text ∷ rest) b) a ≡ Some texts
    → (text : List ℕ) × (rest : List (List ℕ)) × (a ≡ Some text) × (b ≡ Some rest) × (texts ≡ text ∷ rest)
text_first (Some text) (Some rest) texts h = (text, rest, refl, refl, grind arith)
text_first (Some text) None texts h = absurd (grind arith)
text_first None b texts h = absurd (grind arith)

pub length-texts_of : (vs : List Value) (texts : List (List ℕ)) → texts_of (items_view vs) ≡ Some texts → length texts ≡ length vs
length-texts_of [] texts h = let e : texts ≡ [] = grind arith in rw e refl
length-texts_of (v ∷ vs) texts h =
    let parts = text_first (as_str (view v)) (texts_of (items_view vs)) texts h in
    rw (parts.4, length-texts_of vs parts.1 parts.3) refl

-- the text at a place is that of the member at that place
get_within : (vs : List Value) (texts : List (List ℕ)) → texts_of (items_view vs) ≡ Some texts
    → (i : ℕ) (d : Value) → i < length vs → slice_get texts i ≡ as_str (view (get_or vs i d))
get_within [] texts h i d le = absurd (omega arith)
get_within (x ∷ vs) texts h zero d le =
    let parts = text_first (as_str (view x)) (texts_of (items_view vs)) texts h in
    ap (λ ts. slice_get ts 0) parts.4 ∙ sym parts.2
get_within (x ∷ vs) texts h (suc i) d le =
    let parts = text_first (as_str (view x)) (texts_of (items_view vs)) texts h in
    ap (λ ts. slice_get ts (suc i)) parts.4 ∙ get_within vs parts.1 parts.3 i d (omega arith)

is_its_texts : (o : Option (List (List ℕ))) → IsSome o → o ≡ Some (unwrap_or o [])
is_its_texts (Some texts) h = refl
is_its_texts None h = absurd (grind arith)

pub length-texts : (vs : List Value) → IsSome (texts_of (items_view vs)) → length vs ≡ length (unwrap_or (texts_of (items_view vs)) [])
length-texts vs h = sym (length-texts_of vs _ (is_its_texts (texts_of (items_view vs)) h))

pub slice_get-texts : (vs : List Value) → IsSome (texts_of (items_view vs)) → (i : ℕ) (d : Value) → i < length vs
    → slice_get (unwrap_or (texts_of (items_view vs)) []) i ≡ as_str (view (get_or vs i d))
slice_get-texts vs h = get_within vs _ (is_its_texts (texts_of (items_view vs)) h)

pub within_members : (vs : List Value) (texts : List (List ℕ)) → unwrap_or (texts_of (items_view vs)) [] ≡ texts → IsSome (texts_of (items_view vs))
    → (i : ℕ) → i < length texts → i < length vs
within_members vs texts is h i le = let e = length-texts vs h in let f = ap length is in omega arith

pub as_str-at : (vs : List Value) (texts : List (List ℕ)) → unwrap_or (texts_of (items_view vs)) [] ≡ texts → IsSome (texts_of (items_view vs))
    → (i : ℕ) (v : Value) → i < length texts → v ≡ get_or vs i v → slice_get texts i ≡ as_str (view v)
as_str-at vs texts is h i v le here =
    (rw (← is) (slice_get-texts vs h i v (within_members vs texts is h i le))) ∙ ap (λ w. as_str (view w)) (sym here)

pub slice_get-within : (texts : List (List ℕ)) (i : ℕ) → i < length texts → slice_get texts i ≡ None → ⊥
slice_get-within texts i le none = let some = slice_get-get_or texts i [] le in cc
