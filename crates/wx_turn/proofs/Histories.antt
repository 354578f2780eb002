-- Histories, numbers and counts.
use Rattle.std.proofs.Common.{◌≡◌, ◌≢◌, ℕ, zero, suc, ◌+◌, ◌*◌, ◌<◌, ◌≤◌, ◌==◌, cond, true, false, List, [], ◌∷◌, ◌++◌, map, length, refl, ap, sym, ◌∙◌, subst, arith, lt_of_not-le, append_assoc, eq-eqb, ne_eqb, Option}
use mathlib.Core.List.{IsPrefix}
use mathlib.Core.Logic.{dite}
use native.Mathlib.Decide.{ℕ_discrete}
use Rattle.wx_turn.specs.declared.view.Element.{Element}
use Rattle.wx_turn.specs.History.{marks, own, element}
use Rattle.wx_turn.specs.Rule.{sum_below}
use Rattle.std.specs.List.{AllByRecursion}
use Rattle.wx_turn.specs.Turns.{AreDistinct}

abbrev pick : {P : Type 0} → Dec P → ℕ → ℕ → ℕ
pick (yes _) a b = a
pick (no _) a b = b

-- f with the value c at i
pub put : (ℕ → ℕ) → ℕ → ℕ → ℕ → ℕ
put f i c j = pick (ℕ_discrete j i) c (f j)

pub put_here : (f : ℕ → ℕ) (i c : ℕ) → put f i c i ≡ c
unfolding put
put_here f i c = go (ℕ_discrete i i)
  where
    go : (d : Dec (i ≡ i)) → pick d c (f i) ≡ c
    go (yes _) = refl
    go (no n) = absurd (n refl)

pub put_else : (f : ℕ → ℕ) (i c j : ℕ) → j ≢ i → put f i c j ≡ f j
unfolding put
put_else f i c j other = go (ℕ_discrete j i)
  where
    go : (d : Dec (j ≡ i)) → pick d c (f j) ≡ f j
    go (yes e) = absurd (other e)
    go (no _) = refl

pub total_below : (f : ℕ → ℕ) (n c k : ℕ) → k ≤ n → sum_below (put f n c) k ≡ sum_below f k
total_below f n c zero h = refl
total_below f n c (suc k) h = let e = total_below f n c k (omega arith) in let other : k ≢ n = (λ q. omega arith) in let p = put_else f n c k other in omega arith

-- one number draws one ticket more
pub total_more : (f : ℕ → ℕ) (n k : ℕ) → n < k → sum_below (put f n (f n + 1)) k ≡ sum_below f k + 1
total_more f n zero h = absurd (omega arith)
total_more f n (suc k) h = dite (ℕ_discrete k n)
    (λ e. let below = total_below f n (f n + 1) k (omega arith) in let here : put f n (f n + 1) k ≡ f k + 1 = subst (λ (j : ℕ). put f n (f n + 1) j ≡ f j + 1) (sym e) (put_here f n (f n + 1)) in omega arith)
    (λ other. let more = total_more f n k (omega arith) in let p = put_else f n (f n + 1) k other in omega arith)

pub total_few : (f : ℕ → ℕ) (c k : ℕ) → ((n : ℕ) → f n ≤ c) → sum_below f k ≤ c * k
total_few f c zero h = omega arith
total_few f c (suc k) h = let e = total_few f c k h in let m = h k in omega arith

module _ {A : Type 0} where
  pub prefix_self : (xs : List A) → IsPrefix xs xs
  prefix_self [] = ([], refl)
  prefix_self (x ∷ xs) = (let r = prefix_self xs in r.0, ap (λ ys. x ∷ ys) (prefix_self xs).1)

  pub prefix_trans : (xs ys zs : List A) → IsPrefix xs ys → IsPrefix ys zs → IsPrefix xs zs
  prefix_trans xs ys zs p q = (p.0 ++ q.0, sym (append_assoc xs p.0 q.0) ∙ (ap (λ w. w ++ q.0) p.1 ∙ q.1))

  pub prefix_more : (xs ys zs : List A) → IsPrefix xs ys → IsPrefix xs (ys ++ zs)
  prefix_more xs ys zs p = prefix_trans xs ys (ys ++ zs) p (zs, refl)

pub each_map : {X : Type 0} (P Q : X → Type 0) (xs : List X) → ((x : X) → P x → Q x) → AllByRecursion P xs → AllByRecursion Q xs
each_map P Q [] f h = tt
each_map P Q (x ∷ xs) f h = (f x h.0, each_map P Q xs f h.1)

pub each_both : {X : Type 0} (P Q R : X → Type 0) (xs : List X) → ((x : X) → P x → Q x → R x) → AllByRecursion P xs → AllByRecursion Q xs → AllByRecursion R xs
each_both P Q R [] f h k = tt
each_both P Q R (x ∷ xs) f h k = (f x h.0 k.0, each_both P Q R xs f h.1 k.1)

pub each_append : {X : Type 0} (P : X → Type 0) (xs ys : List X) → AllByRecursion P xs → AllByRecursion P ys → AllByRecursion P (xs ++ ys)
each_append P [] ys h k = k
each_append P (x ∷ xs) ys h k = (h.0, each_append P xs ys h.1 k)

-- what holds of each name holds at each pair
pub each_names : {A : Type 0} (P : ℕ → Type 0) (ps : List (ℕ × A)) → AllByRecursion P (map (λ p. p.0) ps) → AllByRecursion (λ p. P p.0) ps
each_names P [] h = tt
each_names P (p ∷ ps) h = (h.0, each_names P ps h.1)

pub names_each : {A : Type 0} (P : ℕ → Type 0) (ps : List (ℕ × A)) → AllByRecursion (λ p. P p.0) ps → AllByRecursion P (map (λ p. p.0) ps)
names_each P [] h = tt
names_each P (p ∷ ps) h = (h.0, names_each P ps h.1)

module _ {E : Type 0} where
  pub own_here : (n : ℕ) (log : List (Element E)) (e : Option E) → own n (log ++ element n e ∷ []) ≡ own n log ++ e ∷ []
  own_here n [] e = let t : (n == n) ≡ true = eq-eqb n n refl in rw t refl
  own_here n (x ∷ xs) e = let rest = own_here n xs e in
      elim (x.by == n) as (λ b. cond b (x.entry ∷ own n (xs ++ element n e ∷ [])) (own n (xs ++ element n e ∷ [])) ≡ cond b (x.entry ∷ own n xs) (own n xs) ++ e ∷ [])
      [ true ↦ ap (λ ys. x.entry ∷ ys) rest | false ↦ rest ]

  pub own_else : (n m : ℕ) (log : List (Element E)) (e : Option E) → m ≢ n → own m (log ++ element n e ∷ []) ≡ own m log
  own_else n m [] e other = let t : (n == m) ≡ false = ne_eqb n m (λ q. other (sym q)) in rw t refl
  own_else n m (x ∷ xs) e other = let rest = own_else n m xs e other in
      elim (x.by == m) as (λ b. cond b (x.entry ∷ own m (xs ++ element n e ∷ [])) (own m (xs ++ element n e ∷ [])) ≡ cond b (x.entry ∷ own m xs) (own m xs))
      [ true ↦ ap (λ ys. x.entry ∷ ys) rest | false ↦ rest ]

  pub marks_more : (log : List (Element E)) (x : Element E) → marks (log ++ x ∷ []) ≡ marks log ++ x.entry ∷ []
  marks_more [] x = refl
  marks_more (y ∷ ys) x = ap (λ zs. y.entry ∷ zs) (marks_more ys x)

  pub marks_length : (log : List (Element E)) → length (marks log) ≡ length log
  marks_length [] = refl
  marks_length (y ∷ ys) = ap suc (marks_length ys)

  pub own_append : (n : ℕ) (xs ys : List (Element E)) → own n (xs ++ ys) ≡ own n xs ++ own n ys
  own_append n [] ys = refl
  own_append n (x ∷ xs) ys = let rest = own_append n xs ys in
      elim (x.by == n) as (λ b. cond b (x.entry ∷ own n (xs ++ ys)) (own n (xs ++ ys)) ≡ cond b (x.entry ∷ own n xs) (own n xs) ++ own n ys)
      [ true ↦ ap (λ zs. x.entry ∷ zs) rest | false ↦ rest ]

  -- a number with no element has none in a beginning
  pub own_none : (n : ℕ) (xs log : List (Element E)) → IsPrefix xs log → own n log ≡ [] → own n xs ≡ []
  own_none n xs log p none_there = front (own n xs) (own n p.0) (sym (own_append n xs p.0) ∙ (ap (own n) p.1 ∙ none_there))
    where
      front : {A : Type 0} (us vs : List A) → us ++ vs ≡ [] → us ≡ []
      front [] vs e = refl
      front (u ∷ us) vs e = absurd cc

  -- where no number from k on has an element, each element has a number below k
  pub made_below : (k : ℕ) (log : List (Element E)) → ((n : ℕ) → k ≤ n → own n log ≡ []) → AllByRecursion (λ e. e.by < k) log
  made_below k [] none_there = tt
  made_below k (x ∷ xs) none_there = (small, made_below k xs (λ n le. rest n (none_there n le)))
    where
      rest : (n : ℕ) → own n (x ∷ xs) ≡ [] → own n xs ≡ []
      rest n = elim (x.by == n) as (λ b. cond b (x.entry ∷ own n xs) (own n xs) ≡ [] → own n xs ≡ []) [ true ↦ (λ e. absurd cc) | false ↦ (λ e. e) ]

      here : (n : ℕ) → x.by ≡ n → own n (x ∷ xs) ≡ [] → ⊥
      here n is e = let t : (x.by == n) ≡ true = eq-eqb x.by n is in let f : x.entry ∷ own n xs ≡ [] = rw t at e in cc

      small : x.by < k
      small = lt_of_not-le (λ le. here x.by refl (none_there x.by le))

-- the numbers of the seat `from` go to the seat `to`
pub moved : (ℕ → ℕ) → ℕ → ℕ → ℕ → ℕ
moved f from to n = pick (ℕ_discrete (f n) from) to (f n)

pub moved_hit : (f : ℕ → ℕ) (from to n : ℕ) → f n ≡ from → moved f from to n ≡ to
unfolding moved
moved_hit f from to n is = go (ℕ_discrete (f n) from)
  where
    go : (d : Dec (f n ≡ from)) → pick d to (f n) ≡ to
    go (yes _) = refl
    go (no other) = absurd (other is)

pub moved_miss : (f : ℕ → ℕ) (from to n : ℕ) → f n ≢ from → moved f from to n ≡ f n
unfolding moved
moved_miss f from to n other = go (ℕ_discrete (f n) from)
  where
    go : (d : Dec (f n ≡ from)) → pick d to (f n) ≡ f n
    go (yes is) = absurd (other is)
    go (no _) = refl

pub distinct_append : (xs ys : List ℕ) → AreDistinct xs → AreDistinct ys → AllByRecursion (λ x. AllByRecursion (λ y. y ≢ x) ys) xs → AreDistinct (xs ++ ys)
distinct_append [] ys d e apart = e
distinct_append (x ∷ xs) ys d e apart = (each_append (λ m. m ≢ x) xs ys d.0 apart.0, distinct_append xs ys d.1 e apart.1)

-- the numbers of two seats are not the same
pub each_apart : (f : ℕ → ℕ) (a b : ℕ) (xs ys : List ℕ) → a ≢ b → AllByRecursion (λ n. f n ≡ a) xs → AllByRecursion (λ n. f n ≡ b) ys → AllByRecursion (λ x. AllByRecursion (λ y. y ≢ x) ys) xs
each_apart f a b [] ys other h k = tt
each_apart f a b (x ∷ xs) ys other h k = (each_map (λ n. f n ≡ b) (λ y. y ≢ x) ys (λ y is e. other (sym h.0 ∙ (ap f (sym e) ∙ is))) k, each_apart f a b xs ys other h.1 k)
