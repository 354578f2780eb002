-- The lists of places, one comer later.
use Rattle.std.proofs.Common.{◌≡◌, ◌∷◌, [], ◌++◌, List, refl, ap, sym, ◌∙◌, Bool, true, false, cond, append-nil}
use Rattle.std.specs.Prelude.{Option, Some, Result, Ok, Err, OnErr, IsSome, filter, ◌&&◌, bytes_eq}
use Rattle.std.specs.Option.{option_eq, unwrap_or}
use Rattle.std.specs.Map.{lookup}
use Rattle.std.specs.Cmp.{IsEquivalence}
use Rattle.std.specs.Cmp.Lexicographic.{options_equiv}
use Rattle.std.proofs.Math.Path.{fun_ext}
use Rattle.std.proofs.lemmas.Cmp.{nat_eq_equiv, nat_list_eq_equiv}
use Rattle.std.proofs.lemmas.Bool.{and_parts}
use Rattle.wx_id.specs.declared.numbers.ContextNo.{ContextNo}
use Rattle.wx_roster.specs.declared.places.Place.{Place}
use Rattle.wx_roster.specs.Places.{same_tab, same_place, comers_at, with_comer}

tabs_equiv : IsEquivalence same_tab
tabs_equiv = record {
  refl = λ t. nat_eq_equiv.refl t.0;
  symm = λ t u. nat_eq_equiv.symm t.0 u.0;
  congr = λ t u v. nat_eq_equiv.congr t.0 u.0 v.0;
}

-- places that are one have the same lists
found_there : (lists : List (Place × List ContextNo)) (p q : Place) → same_place p q ≡ true → lookup (same_place p) lists ≡ lookup (same_place q) lists
found_there lists p q same =
    let parts : (bytes_eq p.ext q.ext ≡ true) × (option_eq same_tab p.tab q.tab ≡ true) = and_parts _ _ same in
    let alike : same_place p ≡ same_place q =
    fun_ext (λ r. ap (λ b. b && option_eq same_tab p.tab r.tab) (nat_list_eq_equiv.congr p.ext q.ext r.ext parts.0) ∙ ap (λ b. bytes_eq q.ext r.ext && b) ((options_equiv tabs_equiv).congr p.tab q.tab r.tab parts.1)) in
    ap (λ test. lookup test lists) alike

places_symm : (p q : Place) → same_place p q ≡ same_place q p
places_symm p q = ap (λ b. b && option_eq same_tab p.tab q.tab) (nat_list_eq_equiv.symm p.ext q.ext) ∙ ap (λ b. bytes_eq q.ext p.ext && b) ((options_equiv tabs_equiv).symm p.tab q.tab)

module _ (kept : ContextNo → Bool) where
  -- one more came to a place; of the list there what is kept is the same
  pub came_there : (lists lists' : List (Place × List ContextNo)) (place p : Place) (c : ContextNo) (before after : List ContextNo) → comers_at lists place ≡ before → filter kept after ≡ filter kept (before ++ c ∷ []) → lookup (same_place p) lists' ≡ cond (same_place place p) (Some after) (lookup (same_place p) lists) → filter kept (comers_at lists' p) ≡ filter kept (with_comer (comers_at lists p) (Some place) c p)
  came_there lists lists' place p c before after was alike now =
      ap (λ o. filter kept (unwrap_or o [])) (now ∙ ap (λ b. cond b (Some after) (lookup (same_place p) lists)) (places_symm place p))
      ∙ by (same_place p place) refl
    where
      by : (s : Bool) → same_place p place ≡ s → filter kept (unwrap_or (cond s (Some after) (lookup (same_place p) lists)) []) ≡ filter kept (comers_at lists p ++ cond s (c ∷ []) [])
      by true same = alike ∙ ap (λ l. filter kept (l ++ c ∷ [])) (sym (ap (λ o. unwrap_or o []) (found_there lists p place same) ∙ was))
      by false same = ap (filter kept) (sym (append-nil (comers_at lists p)))

  -- nobody came, and of the list there what is kept is the same
  pub none_came : (lists lists' : List (Place × List ContextNo)) (place p : Place) (before after : List ContextNo) → comers_at lists place ≡ before → filter kept after ≡ filter kept before → lookup (same_place p) lists' ≡ cond (same_place place p) (Some after) (lookup (same_place p) lists) → filter kept (comers_at lists' p) ≡ filter kept (comers_at lists p)
  none_came lists lists' place p before after was alike now =
      ap (λ o. filter kept (unwrap_or o [])) (now ∙ ap (λ b. cond b (Some after) (lookup (same_place p) lists)) (places_symm place p))
      ∙ by (same_place p place) refl
    where
      by : (s : Bool) → same_place p place ≡ s → filter kept (unwrap_or (cond s (Some after) (lookup (same_place p) lists)) []) ≡ filter kept (comers_at lists p)
      by true same = alike ∙ ap (filter kept) (sym (ap (λ o. unwrap_or o []) (found_there lists p place same) ∙ was))
      by false same = refl

-- what holds anyway holds on an error
pub on_any_err : {A E P : Type 0} (r : Result A E) → P → OnErr r P
on_any_err (Ok a) h = tt
on_any_err (Err e) h = h

-- what is found is there
pub is_found : {A : Type 0} {o : Option A} (x : A) → o ≡ Some x → IsSome o
is_found x h = rw h refl
