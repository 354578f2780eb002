-- Those who stand at each place, after one more came in, one listens, or one left.
use Rattle.std.proofs.Common.{◌≡◌, ℕ, zero, suc, ◌<◌, List, [], ◌∷◌, ◌++◌, length, map, set, get_or, refl, ap, sym, ◌∙◌, Bool, true, false, cond, arith, zero-add, ◌+◌}
use Rattle.std.specs.Prelude.{filter, ◌&&◌, Option, Some, None, slice_get, ◌==◌}
use Rattle.std.specs.Option.{option_map}
use Rattle.std.specs.List.{range_with_len}
use Rattle.std.proofs.lemmas.Bool.{eqb-true}
use Rattle.std.proofs.lemmas.List.{length-append}
use Rattle.std.proofs.lemmas.List.Elements.{filter-append}
use Rattle.std.proofs.lemmas.List.FromFn.{filter_of_map_range_with_len_more}
use Rattle.std.proofs.lemmas.Option.{slice_get_past, slice_get_read}
use Rattle.std.proofs.lemmas.Iterator.Adapters.{option_map_id}
use Rattle.wx_id.proofs.ByContextLemmas.{other_is}
use Rattle.wx_id.proofs.ListLemmas.{set_here, set_there}
use Rattle.wx_id.specs.Contexts.{same_context}
use Rattle.wx_id.specs.declared.numbers.ContextNo.{ContextNo}
use Rattle.wx_context.specs.declared.contexts.Context.{Context}
use Rattle.wx_context.specs.declared.contexts.Listens.{Listens}
use Rattle.wx_roster.specs.declared.places.Place.{Place}
use Rattle.wx_roster.specs.declared.roster.Member.{Member}
use Rattle.wx_roster.specs.Members.{newcomer, listening, gone, numbered, numbers_in}
use Rattle.wx_roster.specs.Places.{place_of, staying_at, comes_to, comers_at, with_comer, did_not_leave, stays_in, lives_at, lives_in, AreInPlace}
use Rattle.wx_roster.proofs.Filters.{filter_twice, filter_same, filter_narrow, filter_below, read_before, read_last}

-- the same members with context c changed
abbrev pub ChangedAt : (Member → Member) → ContextNo → List Member → List Member → Type 0
ChangedAt change c old new = (d : ContextNo) → slice_get new d.0 ≡ option_map (λ m. cond (same_context c d) (change m) m) (slice_get old d.0)

-- a write at the number of a context changes it alone
pub changed_at : (change : Member → Member) (members : List Member) (c : ContextNo) (m : Member) → c.0 < length members → m ≡ get_or members c.0 m → ChangedAt change c members (set members c.0 (change m))
changed_at change members c m within is d = by (c.0 == d.0) refl
  where
    at : slice_get members c.0 ≡ Some m
    at = slice_get_read members (length members) c.0 m refl within is

    by : (s : Bool) → (c.0 == d.0) ≡ s → slice_get (set members c.0 (change m)) d.0 ≡ option_map (λ x. cond s (change x) x) (slice_get members d.0)
    by true same = let e : c.0 ≡ d.0 = eqb-true c.0 d.0 same in rw (← e) (set_here members c.0 (change m) m at ∙ sym (ap (option_map change) at))
    by false apart = set_there members c.0 d.0 (change m) (other_is c.0 d.0 apart) ∙ sym (option_map_id (slice_get members d.0))

same_numbers : (members members' : List Member) → length members' ≡ length members → numbers_in members' ≡ numbers_in members
same_numbers members members' e = ap (λ n. map numbered (range_with_len 0 n)) e

-- one listens otherwise
pub listens_in_place : (l : Listens) (c : ContextNo) (members members' : List Member) (lists : List (Place × List ContextNo)) → ChangedAt (listening l) c members members' → length members' ≡ length members → AreInPlace members lists → AreInPlace members' lists
listens_in_place l c members members' lists changed count before = record {
  each = λ p.
      filter_same (stays_in members') (stays_in members) (λ d. ap did_not_leave (changed d) ∙ stays (same_context c d) (slice_get members d.0)) (comers_at lists p)
      ∙ before.each p
      ∙ sym (filter_same (lives_in members' p) (lives_in members p) (λ d. ap (lives_at p) (changed d) ∙ lives p (same_context c d) (slice_get members d.0)) (numbers_in members))
      ∙ ap (filter (lives_in members' p)) (sym (same_numbers members members' count));
}
  where
    stays : (s : Bool) (o : Option Member) → did_not_leave (option_map (λ m. cond s (listening l m) m) o) ≡ did_not_leave o
    stays s None = refl
    stays true (Some m) = refl
    stays false (Some m) = refl

    lives : (p : Place) (s : Bool) (o : Option Member) → lives_at p (option_map (λ m. cond s (listening l m) m) o) ≡ lives_at p o
    lives p s None = refl
    lives p true (Some m) = refl
    lives p false (Some m) = refl

-- one left
pub left_in_place : (c : ContextNo) (members members' : List Member) (lists : List (Place × List ContextNo)) → ChangedAt gone c members members' → length members' ≡ length members → AreInPlace members lists → AreInPlace members' lists
left_in_place c members members' lists changed count before = record {
  each = λ p.
      filter_narrow (stays_in members') (stays_in members) (λ d. rw (changed d) (stays (same_context c d) (slice_get members d.0))) (comers_at lists p)
      ∙ ap (filter (stays_in members')) (before.each p)
      ∙ filter_twice (stays_in members') (lives_in members p) (numbers_in members)
      ∙ sym (filter_same (lives_in members' p) (λ d. lives_in members p d && stays_in members' d) (λ d. rw (changed d) (lives p (same_context c d) (slice_get members d.0))) (numbers_in members))
      ∙ ap (filter (lives_in members' p)) (sym (same_numbers members members' count));
}
  where
    live : (b : Bool) → b ≡ (b && b)
    live true = refl
    live false = refl

    stays : (s : Bool) (o : Option Member) → did_not_leave (option_map (λ m. cond s (gone m) m) o) ≡ (did_not_leave o && did_not_leave (option_map (λ m. cond s (gone m) m) o))
    stays s None = refl
    stays true (Some m) = none m.is_live
      where
        none : (b : Bool) → false ≡ (b && false)
        none true = refl
        none false = refl
    stays false (Some m) = live m.is_live

    lives : (p : Place) (s : Bool) (o : Option Member) → lives_at p (option_map (λ m. cond s (gone m) m) o) ≡ (lives_at p o && did_not_leave (option_map (λ m. cond s (gone m) m) o))
    lives p s None = refl
    lives p true (Some m) = none (m.is_live && comes_to p (place_of m.context))
      where
        none : (b : Bool) → false ≡ (b && false)
        none true = refl
        none false = refl
    lives p false (Some m) = both m.is_live (comes_to p (place_of m.context))
      where
        both : (b a : Bool) → (b && a) ≡ ((b && a) && b)
        both true true = refl
        both true false = refl
        both false a = refl

-- one more came in
pub entered_in_place : (x : Context) (c : ContextNo) (members : List Member) (lists lists' : List (Place × List ContextNo)) → c.0 ≡ length members → ((p : Place) → staying_at members lists' p ≡ filter (stays_in members) (with_comer (comers_at lists p) (place_of x) c p)) → AreInPlace members lists → AreInPlace (members ++ newcomer x ∷ []) lists'
entered_in_place x c members lists lists' number come before = record { each = each }
  where
    all : List Member
    all = members ++ newcomer x ∷ []

    n : ℕ
    n = length members

    -- one who had not come in yet is not said to have left
    as_before : (xs : List Member) (j : ℕ) → did_not_leave (slice_get (xs ++ newcomer x ∷ []) j) ≡ did_not_leave (slice_get xs j)
    as_before [] zero = refl
    as_before [] (suc j) = refl
    as_before (y ∷ ys) zero = refl
    as_before (y ∷ ys) (suc j) = as_before ys j

    new_stays : stays_in members c ≡ true
    new_stays = ap did_not_leave (slice_get_past members c.0 (omega (arith, number)))

    last : (b : Bool) → filter (stays_in members) (cond b (c ∷ []) []) ≡ cond b (c ∷ []) []
    last true = rw new_stays refl
    last false = refl

    here : c ≡ numbered n
    here = ap numbered number

    count : length all ≡ n + 1
    count = length-append members (newcomer x ∷ [])

    each : (p : Place) → filter (stays_in all) (comers_at lists' p) ≡ filter (lives_in all p) (numbers_in all)
    each p =
        let came : Bool = comes_to p (place_of x) in
        filter_same (stays_in all) (stays_in members) (λ d. as_before members d.0) (comers_at lists' p)
        ∙ come p
        ∙ filter-append (stays_in members) (comers_at lists p) (cond came (c ∷ []) [])
        ∙ ap (λ l. l ++ filter (stays_in members) (cond came (c ∷ []) [])) (before.each p)
        ∙ ap (λ l. filter (lives_in members p) (numbers_in members) ++ l) (last came)
        ∙ ap (λ l. l ++ cond came (c ∷ []) []) (filter_below (lives_in members p) (lives_in all p) numbered n (λ i h. ap (lives_at p) (sym (read_before members (newcomer x) i h))))
        ∙ ap (λ d. filter (lives_in all p) (numbers_in members) ++ cond came (d ∷ []) []) here
        ∙ ap (λ b. filter (lives_in all p) (numbers_in members) ++ cond b (numbered n ∷ []) []) (sym (ap (lives_at p) (read_last members (newcomer x))))
        ∙ sym (filter_of_map_range_with_len_more (lives_in all p) numbered 0 n n (zero-add n))
        ∙ ap (λ k. filter (lives_in all p) (map numbered (range_with_len 0 k))) (sym count)
