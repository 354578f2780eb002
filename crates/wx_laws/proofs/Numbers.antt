-- What a walk over numbers tells of one number.
use Rattle.std.proofs.Common.{◌≡◌, ℕ, suc, zero, ◌<◌, List, [], ◌++◌, refl, ap, ◌∙◌, Bool, true, false, arith, ◌+◌, ◌≤◌, sym}
use Rattle.std.specs.Prelude.{◌&&◌, filter, ◌==◌, flat_map}
use Rattle.std.specs.List.{range_with_len}
use Rattle.std.proofs.lemmas.Bool.{eqb-true, eqb-false}
use Rattle.std.proofs.lemmas.Bool.Decides.{nat_tests}
use Rattle.std.proofs.lemmas.List.Elements.{filter-append}
use Rattle.wx_id.specs.declared.events.EventKind.{EventKind}
use Rattle.wx_machine.specs.Words.{on}

pub eqb_refl : (n : ℕ) → (n == n) ≡ true
eqb_refl n = grind (arith, nat_tests)

pub eqb_below : (m n : ℕ) → m < n → (m == n) ≡ false
eqb_below m n h = grind (arith, nat_tests)

pub eqb_above : (m n : ℕ) → n < m → (m == n) ≡ false
eqb_above m n h = grind (arith, nat_tests)

pub filter_on : (p : EventKind → Bool) (b : Bool) (kind : EventKind) → filter p (on b kind) ≡ on (b && p kind) kind
filter_on p true kind = refl
filter_on p false kind = refl

pub on_false : (b : Bool) (kind : EventKind) → b ≡ false → on b kind ≡ []
on_false b kind is = rw is refl

-- a kind of number j, of which a test takes that of number r
module _ (p : EventKind → Bool) (f : ℕ → EventKind) (r : ℕ) (takes : (j : ℕ) → p (f j) ≡ (j == r)) where
  pub at_number : (test : ℕ → Bool) (j : ℕ) → filter p (on (test j) (f j)) ≡ on ((j == r) && test r) (f r)
  at_number test j = filter_on p (test j) (f j) ∙ ap (λ b. on (test j && b) (f j)) (takes j) ∙ same (j == r) refl
    where
      same : (b : Bool) → (j == r) ≡ b → on (test j && (j == r)) (f j) ≡ on ((j == r) && test r) (f r)
      same true is = let e : j ≡ r = eqb-true j r is in rw (is, e) (both (test r))
        where
          both : (b : Bool) → on (b && true) (f r) ≡ on b (f r)
          both true = refl
          both false = refl
      same false is = rw is (none (test j))
        where
          none : (b : Bool) → on (b && false) (f j) ≡ []
          none true = refl
          none false = refl

  outside : (test : ℕ → Bool) (a n : ℕ) → r < a → filter p (flat_map (λ j. on (test j) (f j)) (range_with_len a n)) ≡ []
  outside test a zero h = refl
  outside test a (suc n) h =
      filter-append p (on (test a) (f a)) (flat_map (λ j. on (test j) (f j)) (range_with_len (a + 1) n))
      ∙ rw (at_number test a, eqb_above a r h, outside test (a + 1) n (omega arith)) refl

  from : (test : ℕ → Bool) (a n : ℕ) → a ≤ r → (test r ≡ true → r < a + n) → filter p (flat_map (λ j. on (test j) (f j)) (range_with_len a n)) ≡ on (test r) (f r)
  from test a zero low h = sym (on_false (test r) (f r) (never (test r) refl))
    where
      never : (b : Bool) → test r ≡ b → b ≡ false
      never true is = let q : r < a + 0 = h is in absurd (omega arith)
      never false is = refl
  from test a (suc n) low h =
      filter-append p (on (test a) (f a)) (flat_map (λ j. on (test j) (f j)) (range_with_len (a + 1) n))
      ∙ rw (at_number test a) (parts (a == r) refl (from test (a + 1) n))
    where
      parts : (b : Bool) → (a == r) ≡ b
          → (a + 1 ≤ r → (test r ≡ true → r < a + 1 + n) → filter p (flat_map (λ j. on (test j) (f j)) (range_with_len (a + 1) n)) ≡ on (test r) (f r))
          → on ((a == r) && test r) (f r) ++ filter p (flat_map (λ j. on (test j) (f j)) (range_with_len (a + 1) n)) ≡ on (test r) (f r)
      parts true is later = let e : a ≡ r = eqb-true a r is in rw (is, outside test (a + 1) n (omega arith)) (alone (test r))
        where
          alone : (b : Bool) → on b (f r) ++ [] ≡ on b (f r)
          alone true = refl
          alone false = refl
      parts false is later = rw is (later (more (eqb-false a r is)) (λ t. let q : r < a + suc n = h t in omega arith))
        where
          more : (a ≡ r → ⊥) → a + 1 ≤ r
          more ne = grind arith

  -- of the numbers below n that pass a test, only r is taken
  pub of_number : (test : ℕ → Bool) (n : ℕ) → (test r ≡ true → r < n) → filter p (flat_map (λ j. on (test j) (f j)) (range_with_len 0 n)) ≡ on (test r) (f r)
  of_number test n h = from test 0 n (omega arith) (λ t. let q : r < n = h t in omega arith)

-- a kind that the test never takes
pub none_on : (p : EventKind → Bool) (b : Bool) (kind : EventKind) → p kind ≡ false → filter p (on b kind) ≡ []
none_on p true kind is = rw is refl
none_on p false kind is = refl

pub none_of : (p : EventKind → Bool) (f : ℕ → EventKind) (never : (j : ℕ) → p (f j) ≡ false) (test : ℕ → Bool) (a n : ℕ) → filter p (flat_map (λ j. on (test j) (f j)) (range_with_len a n)) ≡ []
none_of p f never test a zero = refl
none_of p f never test a (suc n) =
    filter-append p (on (test a) (f a)) (flat_map (λ j. on (test j) (f j)) (range_with_len (a + 1) n))
    ∙ rw (none_on p (test a) (f a) (never a)) (none_of p f never test (a + 1) n)

-- what a test takes of six lists, where four have nothing for it
pub of_last_two : (p : EventKind → Bool) (a b d q m u more most : List EventKind)
    → filter p a ≡ [] → filter p b ≡ [] → filter p d ≡ [] → filter p q ≡ [] → filter p m ≡ more → filter p u ≡ most
    → filter p ((a ++ b ++ d) ++ (q ++ m ++ u)) ≡ more ++ most
of_last_two p a b d q m u more most ea eb ed eq em eu =
    simp filter-append (rw (ea, eb, ed, eq, em, eu) refl)

-- what a test takes of six lists
pub of_six : (p : EventKind → Bool) (a b d q m u a' b' d' q' m' u' : List EventKind)
    → filter p a ≡ a' → filter p b ≡ b' → filter p d ≡ d' → filter p q ≡ q' → filter p m ≡ m' → filter p u ≡ u'
    → filter p ((a ++ b ++ d) ++ (q ++ m ++ u)) ≡ (a' ++ b' ++ d') ++ (q' ++ m' ++ u')
of_six p a b d q m u a' b' d' q' m' u' ea eb ed eq em eu =
    simp filter-append (rw (ea, eb, ed, eq, em, eu) refl)
