-- Searches by halves in numbers that rise, and numbers that are pushed.
use Rattle.std.proofs.Common.{◌≡◌, ◌≢◌, ◌⊎◌, ⊎_elim, ℕ, suc, zero, ◌+◌, ◌-◌, ◌<◌, ◌≤◌, List, [], ◌∷◌, ◌++◌, length, get_or, refl, ap, sym, ◌∙◌, Bool, true, false, arith, is_ok}
use Rattle.std.specs.Prelude.{Result, Ok, Err, MatchResult, ◌||◌, ◌&&◌, ◌==◌}
use Rattle.std.specs.List.Sorted.{IsNonDecreasing}
use Rattle.std.proofs.lemmas.Bool.{cases_lt, false≢true, eqb-true, eq-eqb, false_from_ne_true}
use Rattle.std.proofs.lemmas.List.Folds.{list_any-append, list_any_at}
use Rattle.std.proofs.lemmas.List.Sorted.{IsNonDecreasingBy-push}
use Rattle.wx_port.specs.Numbers.{NumbersState, has_number, MayFollow}

-- a number that is read is one of them
pub has_read : (ns : List ℕ) (i d : ℕ) → i < length ns → has_number ns (get_or ns i d) ≡ true
has_read ns i d h = list_any_at (λ n. n == get_or ns i d) ns i d h (eq-eqb (get_or ns i d) (get_or ns i d) refl)

-- one of them stands somewhere
pub place_in : (ns : List ℕ) (k : ℕ) → has_number ns k ≡ true → (i : ℕ) × (i < length ns) × (get_or ns i 0 ≡ k)
place_in [] k h = absurd (false≢true h)
place_in (n ∷ ns) k h = by (n == k) refl (place_in ns k)
  where
    by : (b : Bool) → (n == k) ≡ b → (has_number ns k ≡ true → (i : ℕ) × (i < length ns) × (get_or ns i 0 ≡ k)) → (i : ℕ) × (i < length (n ∷ ns)) × (get_or (n ∷ ns) i 0 ≡ k)
    by true same further = (0, omega arith, eqb-true n k same)
    by false other further =
        let rest = further (rw other at h) in
        let within : rest.0 < length ns = rest.1 in
        (suc rest.0, omega (arith, within), rest.2)

-- what stands nowhere is none of them
pub has_not : (ns : List ℕ) (k : ℕ) → ((i : ℕ) → i < length ns → get_or ns i 0 ≢ k) → has_number ns k ≡ false
has_not ns k apart = false_from_ne_true _ (λ h. let at = place_in ns k h in apart at.0 at.1 at.2)

-- what a search by halves answers
pub has_from_search : (ns : List ℕ) (k : ℕ) (r : Result ℕ ℕ) → MatchResult r (λ i. (i < length ns) × (get_or ns i 0 ≡ k)) (λ i. (i ≤ length ns) × ((j : ℕ) → j < i → get_or ns j 0 < k) × ((j : ℕ) → i ≤ j → j < length ns → k < get_or ns j 0)) → is_ok r ≡ has_number ns k
has_from_search ns k (Ok i) found = sym (rw (← found.1) (has_read ns i 0 found.0))
has_from_search ns k (Err i) found = sym (has_not ns k apart)
  where
    apart : (j : ℕ) → j < length ns → get_or ns j 0 ≢ k
    apart j within same = ⊎_elim
        (λ (before : j < i). let h : get_or ns j 0 < k = found.1 j before in omega (arith, h, same))
        (λ (after : i ≤ j). let h : k < get_or ns j 0 = found.2 j after within in omega (arith, h, same))
        (cases_lt j i)

-- one more number
pub has_more : (ns : List ℕ) (n k : ℕ) → has_number (ns ++ n ∷ []) k ≡ (has_number ns k || (n == k))
has_more ns n k = list_any-append (λ m. m == k) ns (n ∷ []) ∙ ap (λ b. has_number ns k || b) (left (n == k))
  where
    left : (b : Bool) → (b || false) ≡ b
    left true = refl
    left false = refl

-- a number that may follow comes last
pub rising_more : (s : NumbersState) (k : ℕ) → IsNonDecreasing s.list → MayFollow k s → IsNonDecreasing (s.list ++ k ∷ [])
rising_more s k rising may = IsNonDecreasingBy-push (λ n. n) s.list k rising (λ d some. may.above _ (has_read s.list (length s.list - 1) d (omega (arith, some))))
