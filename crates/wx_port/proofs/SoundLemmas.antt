-- A channel stays sound when a receiver drops it.
use Rattle.std.proofs.Common.{◌≡◌, List, [], ◌∷◌, length, filter, Bool, true, false, not, refl, sym, ◌∙◌, arith}
use Rattle.std.specs.Prelude.{◌==◌}
use Rattle.std.proofs.lemmas.Bool.{and_parts, not-true, false≢true, false_from_ne_true}
use Rattle.std.proofs.lemmas.Bool.Decides.{nat_tests}
use Rattle.wx_id.specs.declared.numbers.ContextNo.{ContextNo}
use Rattle.wx_id.specs.Contexts.{same_context, is_among, is_other, are_distinct}
use Rattle.wx_port.specs.Port.{Port, IsSound}

-- one of those that are left was one before
pub among_others : (c d : ContextNo) (xs : List ContextNo) → is_among (filter (is_other c) xs) d ≡ true → is_among xs d ≡ true
among_others c d [] h = h
among_others c d (x ∷ xs) h = by (among_others c d xs) (is_other c x) refl (same_context x d) refl
  where
    by : (is_among (filter (is_other c) xs) d ≡ true → is_among xs d ≡ true) → (b : Bool) → is_other c x ≡ b → (s : Bool) → same_context x d ≡ s → is_among (x ∷ xs) d ≡ true
    by rest b e true t = rw t refl
    by rest false e false t = rw t (rest (rw e at h))
    by rest true e false t = rw t (rest (rw (e, t) at h))

-- those that are left stand once each
pub others_distinct : (c : ContextNo) (xs : List ContextNo) → are_distinct xs ≡ true → are_distinct (filter (is_other c) xs) ≡ true
others_distinct c [] h = h
others_distinct c (x ∷ xs) h =
    let parts : (not (is_among xs x) ≡ true) × (are_distinct xs ≡ true) = and_parts _ _ h in
    by (false_from_ne_true _ (λ is. false≢true (sym (not-true _ parts.0) ∙ among_others c x xs is))) (others_distinct c xs parts.1) (is_other c x) refl
  where
    by : is_among (filter (is_other c) xs) x ≡ false → are_distinct (filter (is_other c) xs) ≡ true → (b : Bool) → is_other c x ≡ b → are_distinct (filter (is_other c) (x ∷ xs)) ≡ true
    by absent rest false e = rw e rest
    by absent rest true e = rw (e, absent) rest

none_left : (xs : List ContextNo) (is_empty : Bool) → is_empty ≡ (length xs == 0) → not is_empty ≡ false → xs ≡ []
none_left [] is_empty is gone = refl
none_left (x ∷ xs) is_empty is gone = grind (arith, nat_tests)

pub sound_without : (old new : Port) (c : ContextNo) (is_empty : Bool) → IsSound old → new.opener ≡ old.opener → new.receivers ≡ old.receivers → new.live ≡ filter (is_other c) old.live → is_empty ≡ (length new.live == 0) → new.is_open ≡ not is_empty → IsSound new
sound_without old new c is_empty sound same_opener same_receivers fewer empty made = record {
  opener = rw (same_opener, same_receivers) sound.opener;
  receivers = rw same_receivers sound.receivers;
  live = rw fewer (others_distinct c old.live sound.live);
  within = λ d h. rw same_receivers (sound.within d (among_others c d old.live (rw fewer at h)));
  closed = λ gone. none_left new.live is_empty empty (sym made ∙ gone);
}
