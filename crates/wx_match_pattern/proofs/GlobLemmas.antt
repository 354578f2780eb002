use Rattle.std.proofs.Common.{◌≡◌, ◌≢◌, ◌↔◌, refl, sym, ap, subst, ◌∙◌, ℕ, suc, ◌+◌, ◌<◌, ◌≤◌, ◌-◌, Bool, true, false, List, [], ◌∷◌, ◌++◌, length, take, drop, get_or, take-append-drop, drop-cons, arith, eqb, eqb-true, eq-eqb, ne_eqb, add_comm, add-one, cond, length-drop}
use Rattle.std.proofs.lemmas.Bool.{cond_both, eqb-false}
use Rattle.std.proofs.lemmas.List.{drop-drop}
use Rattle.std.proofs.lemmas.List.Prefix.{front_rest}
use Rattle.wx_match_pattern.specs.declared.glob.Run.{Run}
use Rattle.wx_match_pattern.specs.declared.glob.Run.TheVariants.{Whole, Star, Differs}
use Rattle.wx_match_pattern.specs.Globs.{Globs, star, ends, run, same}
use Rattle.wx_match_pattern.specs.Run.{run_of, one_more}

-- ---- `*`

behind_star : {p x : List ℕ} → Globs (star ∷ p) x → (front : List ℕ) × (suffix : List ℕ) × (x ≡ front ++ suffix) × Globs p suffix
behind_star (run front suffix e g) = (front, suffix, e, g)
behind_star (same c n g) = absurd (n refl)

pub star_none : {p x : List ℕ} → Globs p x → Globs (star ∷ p) x
star_none {p} {x} g = run [] x refl g

star_more : {p x : List ℕ} (d : ℕ) → Globs (star ∷ p) x → Globs (star ∷ p) (d ∷ x)
star_more d g =
    let b = behind_star g in
    run (d ∷ b.0) b.1 (ap (λ t. d ∷ t) b.2) b.3

absorb : {p x : List ℕ} (front : List ℕ) → Globs (star ∷ p) x → Globs (star ∷ p) (front ++ x)
absorb [] g = g
absorb (d ∷ front) g = star_more d (absorb front g)

-- what is matched after some bytes is matched from the front
shorter : {p : List ℕ} (m : ℕ) (x : List ℕ) → Globs (star ∷ p) (drop m x) → Globs (star ∷ p) x
shorter {p} m x g = subst (λ (t : List ℕ). Globs (star ∷ p) t) (take-append-drop m x) (absorb (take m x) g)

tail_eq : {d f : ℕ} {x y : List ℕ} → d ∷ x ≡ f ∷ y → x ≡ y
tail_eq e = cc

-- where the whole text is not matched, its first character belongs to the run of `*`
skips : {p : List ℕ} {d : ℕ} {x : List ℕ} → ¬ Globs p (d ∷ x) → Globs (star ∷ p) (d ∷ x) → Globs (star ∷ p) x
skips {p} {d} {x} never g = by (behind_star g)
  where
    by : (front : List ℕ) × (suffix : List ℕ) × (d ∷ x ≡ front ++ suffix) × Globs p suffix → Globs (star ∷ p) x
    by ([], suffix, e, h) = absurd (never (subst (λ (t : List ℕ). Globs p t) (sym e) h))
    by (f ∷ front, suffix, e, h) = run front suffix (tail_eq e) h

pub star-differs : {p : List ℕ} (x : List ℕ) → 0 < length x → ¬ Globs p x → Globs (star ∷ p) x ↔ Globs (star ∷ p) (drop 1 x)
star-differs [] h never = absurd (omega arith)
star-differs (d ∷ x) h never = (skips never, star_more d)

pub star-at_end : {p : List ℕ} → ¬ Globs p [] → ¬ Globs (star ∷ p) []
star-at_end {p} never g = by (behind_star g)
  where
    by : (front : List ℕ) × (suffix : List ℕ) × ([] ≡ front ++ suffix) × Globs p suffix → ⊥
    by ([], suffix, e, h) = never (subst (λ (t : List ℕ). Globs p t) (sym e) h)
    by (f ∷ front, suffix, e, h) = cc

-- ---- a run of plain characters

-- the first characters agree and are plain, and `*` stands after them
data StarAt : ℕ → List ℕ → List ℕ → Type 0 where
  here : {p x : List ℕ} → StarAt 0 (star ∷ p) x
  later : {k : ℕ} {p x : List ℕ} (c : ℕ) → c ≢ star → StarAt k p x → StarAt (suc k) (c ∷ p) (c ∷ x)

pub Says : Run → List ℕ → List ℕ → Type 0
Says Whole p x = Globs p x
Says (Star k) p x = StarAt k p x
Says Differs p x = ¬ Globs p x

-- a plain character matches itself alone
plain : {c : ℕ} {p y : List ℕ} → c ≢ star → Globs (c ∷ p) y → (x : List ℕ) × (y ≡ c ∷ x) × Globs p x
plain n (run front suffix e g) = absurd (n refl)
plain n (same {x = x} c m g) = (x, refl, g)

one_more_says : (r : Run) (c : ℕ) (p x : List ℕ) → c ≢ star → Says r p x → Says (one_more r) (c ∷ p) (c ∷ x)
unfolding Says
one_more_says Whole c p x n g = same c n g
one_more_says (Star k) c p x n s = later c n s
one_more_says Differs c p x n never = λ g. let e = plain n g in never (subst (λ (t : List ℕ). Globs p t) (sym (tail_eq e.1)) e.2)

apart : {c d : ℕ} {p x : List ℕ} → c ≢ star → c ≢ d → ¬ Globs (c ∷ p) (d ∷ x)
apart n m g = let e = plain n g in m (cc (e.1))

lone : {c : ℕ} {p : List ℕ} → c ≢ star → ¬ Globs (c ∷ p) []
lone n g = let e = plain n g in cc (e.1)

star_here : {c : ℕ} {p x : List ℕ} → c ≡ star → StarAt 0 (c ∷ p) x
star_here {c} {p} {x} e = subst (λ (v : ℕ). StarAt 0 (v ∷ p) x) (sym e) here

too_long : {d : ℕ} {x : List ℕ} → ¬ Globs [] (d ∷ x)
too_long g = elim g [ ]

pub run_says : (p x : List ℕ) → Says (run_of p x) p x
unfolding Says run_of
run_says [] [] = ends
run_says [] (d ∷ x) = too_long
run_says (c ∷ p) [] =
    cond_both (eqb c star) (Star 0) Differs (λ r. Says r (c ∷ p) []) (λ e. star_here (eqb-true c star e))
    (λ e. lone (eqb-false c star e))
run_says (c ∷ p) (d ∷ x) =
    let rest = run_says p x in
    cond_both (eqb c star) (Star 0) (cond (eqb c d) (one_more (run_of p x)) Differs) (λ r. Says r (c ∷ p) (d ∷ x))
    (λ e. star_here (eqb-true c star e))
    (λ n. cond_both (eqb c d) (one_more (run_of p x)) Differs (λ r. Says r (c ∷ p) (d ∷ x))
    (λ e. subst (λ (v : ℕ). Says (one_more (run_of p x)) (c ∷ p) (v ∷ x)) (eqb-true c d e) (one_more_says (run_of p x) c p x (eqb-false c star n) rest))
    (λ m. apart (eqb-false c star n) (eqb-false c d m)))

forth : {k : ℕ} {p x : List ℕ} → StarAt k p x → (y : List ℕ) → Globs p y → Globs (star ∷ drop (suc k) p) (drop k y)
forth here y g = g
forth (later {k = k} {p = p} c n s) y g =
    let e = plain n g in
    subst (λ (t : List ℕ). Globs (star ∷ drop (suc k) p) (drop (suc k) t)) (sym e.1) (forth s e.0 e.2)

back : {k : ℕ} {p x : List ℕ} → StarAt k p x → Globs (star ∷ drop (suc k) p) (drop k x) → Globs p x
back here g = g
back (later c n s) g = same c n (back s g)

within_pattern : {k : ℕ} {p x : List ℕ} → StarAt k p x → k < length p
within_pattern here = omega arith
within_pattern (later c n s) = let l = within_pattern s in omega arith

within_text : {k : ℕ} {p x : List ℕ} → StarAt k p x → k ≤ length x
within_text here = omega arith
within_text (later c n s) = let l = within_text s in omega arith

-- the first place of a run after `*` may be kept
keeps : {k : ℕ} {p x : List ℕ} → StarAt k p x → Globs (star ∷ p) x → Globs (star ∷ drop (suc k) p) (drop k x)
keeps {k} {p} {x} s g =
    let b = behind_star g in
    let at : drop (length b.0) x ≡ b.1 = front_rest x b.0 b.1 b.2 in
    let h : Globs (star ∷ drop (suc k) p) (drop k (drop (length b.0) x)) =
    forth s (drop (length b.0) x) (subst (λ (t : List ℕ). Globs p t) (sym at) b.3) in
    let e : drop k (drop (length b.0) x) ≡ drop (length b.0) (drop k x) =
    drop-drop k (length b.0) x ∙ ap (λ (n : ℕ). drop n x) (add_comm (length b.0) k) ∙ sym (drop-drop (length b.0) k x) in
    shorter (length b.0) (drop k x) (subst (λ (t : List ℕ). Globs (star ∷ drop (suc k) p) t) e h)

pub star-keeps : (k : ℕ) (p x : List ℕ) → run_of p x ≡ Star k → Globs (star ∷ p) x ↔ Globs (star ∷ drop (k + 1) p) (drop k x)
unfolding Says
star-keeps k p x e =
    let s : StarAt k p x = subst (λ (r : Run). Says r p x) e (run_says p x) in
    rw add-one (keeps s, λ g. star_none (back s g))

pub globs-star : (k : ℕ) (p x : List ℕ) → run_of p x ≡ Star k → Globs p x ↔ Globs (star ∷ drop (k + 1) p) (drop k x)
unfolding Says
globs-star k p x e =
    let s : StarAt k p x = subst (λ (r : Run). Says r p x) e (run_says p x) in
    rw add-one (forth s x, back s)

pub run_of-within : (k : ℕ) (p x : List ℕ) → run_of p x ≡ Star k → (k < length p) × (k ≤ length x)
unfolding Says
run_of-within k p x e =
    let s : StarAt k p x = subst (λ (r : Run). Says r p x) e (run_says p x) in
    (within_pattern s, within_text s)

pub globs-whole : (p x : List ℕ) → run_of p x ≡ Whole → Globs p x
unfolding Says
globs-whole p x e = subst (λ (r : Run). Says r p x) e (run_says p x)

pub globs-differs : (p x : List ℕ) → run_of p x ≡ Differs → ¬ Globs p x
unfolding Says
globs-differs p x e = subst (λ (r : Run). Says r p x) e (run_says p x)

-- ---- the search after `*`, where the whole is P

pub behind-whole : {P : Type 0} (p x : List ℕ) → P ↔ Globs (star ∷ p) x → Whole ≡ run_of p x → P
behind-whole p x same_as e = same_as.1 (star_none (globs-whole p x (sym e)))

pub behind-star : {P : Type 0} (k : ℕ) (p x q y : List ℕ) → P ↔ Globs (star ∷ p) x → Star k ≡ run_of p x → q ≡ drop (k + 1) p → y ≡ drop k x → P ↔ Globs (star ∷ q) y
behind-star k p x q y same_as e at_q at_y =
    let kept = star-keeps k p x (sym e) in
    rw (at_q, at_y) (λ h. kept.0 (same_as.0 h), λ g. same_as.1 (kept.1 g))

pub behind-differs : {P : Type 0} (p x y : List ℕ) → P ↔ Globs (star ∷ p) x → Differs ≡ run_of p x → length x ≢ 0 → y ≡ drop 1 x → P ↔ Globs (star ∷ p) y
behind-differs p x y same_as e long at_y =
    let l : 0 < length x = omega arith in
    let kept = star-differs x l (globs-differs p x (sym e)) in
    rw at_y (λ h. kept.0 (same_as.0 h), λ g. same_as.1 (kept.1 g))

pub behind-end : {P : Type 0} (p x : List ℕ) → P ↔ Globs (star ∷ p) x → Differs ≡ run_of p x → length x ≡ 0 → ¬ P
behind-end p [] same_as e l = λ h. star-at_end (globs-differs p [] (sym e)) (same_as.0 h)
behind-end p (d ∷ x) same_as e l = absurd (omega arith)

pub from-star : {R : Type 0} (k : ℕ) (p x q y : List ℕ) → Star k ≡ run_of p x → q ≡ drop (k + 1) p → y ≡ drop k x → R ↔ Globs (star ∷ q) y → R ↔ Globs p x
from-star {R} k p x q y e at_q at_y found =
    let both = globs-star k p x (sym e) in
    let f : R ↔ Globs (star ∷ drop (k + 1) p) (drop k x) = rw (← at_q, ← at_y) found in
    (λ r. both.1 (f.0 r), λ g. f.1 (both.0 g))

-- ---- the loop over the run

-- with so many more characters before
pub later_by : ℕ → Run → Run
later_by i Whole = Whole
later_by i (Star at) = Star (i + at)
later_by i Differs = Differs

pub later_by-zero : (r : Run) → later_by 0 r ≡ r
unfolding later_by
later_by-zero Whole = refl
later_by-zero (Star at) = ap (λ (n : ℕ). Star n) (omega arith)
later_by-zero Differs = refl

pub later_by-one_more : (i : ℕ) (r : Run) → later_by i (one_more r) ≡ later_by (i + 1) r
unfolding later_by
later_by-one_more i Whole = refl
later_by-one_more i (Star at) = ap (λ (n : ℕ). Star n) (omega arith)
later_by-one_more i Differs = refl

run_of-star : (c : ℕ) (p x : List ℕ) → c ≡ star → run_of (c ∷ p) x ≡ Star 0
unfolding run_of
run_of-star c p [] e = rw (eq-eqb c star e) refl
run_of-star c p (d ∷ x) e = rw (eq-eqb c star e) refl

run_of-short : (c : ℕ) (p x : List ℕ) → c ≢ star → length x ≡ 0 → run_of (c ∷ p) x ≡ Differs
unfolding run_of
run_of-short c p [] n l = rw (ne_eqb c star n) refl
run_of-short c p (d ∷ x) n l = absurd (omega arith)

run_of-apart : (c d : ℕ) (p x : List ℕ) → c ≢ star → c ≢ d → run_of (c ∷ p) (d ∷ x) ≡ Differs
unfolding run_of
run_of-apart c d p x n m = rw (ne_eqb c star n, ne_eqb c d m) refl

run_of-same : (c d : ℕ) (p x : List ℕ) → c ≢ star → c ≡ d → run_of (c ∷ p) (d ∷ x) ≡ one_more (run_of p x)
unfolding run_of
run_of-same c d p x n e = rw (ne_eqb c star n, eq-eqb c d e) refl

run_of-end : (x : List ℕ) → run_of [] x ≡ cond (eqb 0 (length x)) Whole Differs
unfolding run_of
run_of-end [] = refl
run_of-end (d ∷ x) = rw (ne_eqb 0 (length (d ∷ x)) (omega arith)) refl

-- the run is known from place i on
pub record RunsFrom (p x : List ℕ) (i : ℕ) : Type 0 where
  pub rest : run_of p x ≡ later_by i (run_of (drop i p) (drop i x))
  pub within : i ≤ length x

pub RunsFrom-zero : (p x : List ℕ) → RunsFrom p x 0
RunsFrom-zero p x = record { rest = sym (later_by-zero (run_of p x)); within = omega arith }

pub run_of-at_star : (p x : List ℕ) (i : ℕ) → RunsFrom p x i → i < length p → get_or p i 0 ≡ star → Star i ≡ run_of p x
unfolding later_by
run_of-at_star p x i runs l e =
    let now : run_of (drop i p) (drop i x) ≡ Star 0 =
    rw (drop-cons p i 0 l) (run_of-star (get_or p i 0) (drop (suc i) p) (drop i x) e) in
    ap (λ (n : ℕ). Star n) (omega arith) ∙ sym (runs.rest ∙ ap (later_by i) now)

differs : (p x : List ℕ) (i : ℕ) → RunsFrom p x i → run_of (drop i p) (drop i x) ≡ Differs → Differs ≡ run_of p x
unfolding later_by
differs p x i runs now = sym (runs.rest ∙ ap (later_by i) now)

pub run_of-at_end : (p x : List ℕ) (i : ℕ) → RunsFrom p x i → i < length p → get_or p i 0 ≢ star → length x ≤ i → Differs ≡ run_of p x
run_of-at_end p x i runs l n m =
    differs p x i runs
    (rw (drop-cons p i 0 l)
    (run_of-short (get_or p i 0) (drop (suc i) p) (drop i x) n (omega (arith, length-drop i x))))

pub run_of-at_other : (p x : List ℕ) (i : ℕ) → RunsFrom p x i → i < length p → i < length x → get_or p i 0 ≢ star → get_or p i 0 ≢ get_or x i 0 → Differs ≡ run_of p x
run_of-at_other p x i runs l m n a =
    differs p x i runs
    (rw (drop-cons p i 0 l, drop-cons x i 0 m)
    (run_of-apart (get_or p i 0) (get_or x i 0) (drop (suc i) p) (drop (suc i) x) n a))

pub RunsFrom-suc : (p x : List ℕ) (i : ℕ) → RunsFrom p x i → i < length p → i < length x → get_or p i 0 ≢ star → get_or p i 0 ≡ get_or x i 0 → RunsFrom p x (i + 1)
RunsFrom-suc p x i runs l m n e =
    let now : run_of (drop i p) (drop i x) ≡ one_more (run_of (drop (suc i) p) (drop (suc i) x)) =
    rw (drop-cons p i 0 l, drop-cons x i 0 m)
    (run_of-same (get_or p i 0) (get_or x i 0) (drop (suc i) p) (drop (suc i) x) n e) in
    let step : run_of p x ≡ later_by (i + 1) (run_of (drop (suc i) p) (drop (suc i) x)) =
    runs.rest ∙ ap (later_by i) now ∙ later_by-one_more i (run_of (drop (suc i) p) (drop (suc i) x)) in
    record {
      rest = subst (λ (k : ℕ). run_of p x ≡ later_by (i + 1) (run_of (drop k p) (drop k x))) (sym (add-one i)) step;
      within = omega arith;
    }

drop-length : (l : List ℕ) → drop (length l) l ≡ []
drop-length [] = refl
drop-length (c ∷ l) = drop-length l

at_length : (p x : List ℕ) → RunsFrom p x (length p) → run_of p x ≡ later_by (length p) (cond (eqb 0 (length x - length p)) Whole Differs)
at_length p x runs =
    let e : run_of (drop (length p) p) (drop (length p) x) ≡ cond (eqb 0 (length x - length p)) Whole Differs =
    rw (drop-length p, ← length-drop (length p) x) (run_of-end (drop (length p) x)) in
    runs.rest ∙ ap (later_by (length p)) e

pub run_of-same_length : (p x : List ℕ) → RunsFrom p x (length p) → length p ≡ length x → Whole ≡ run_of p x
unfolding later_by
run_of-same_length p x runs l =
    let e : eqb 0 (length x - length p) ≡ true = eq-eqb 0 (length x - length p) (omega arith) in
    sym (at_length p x runs ∙ ap (λ (b : Bool). later_by (length p) (cond b Whole Differs)) e)

pub run_of-other_length : (p x : List ℕ) → RunsFrom p x (length p) → length p ≢ length x → Differs ≡ run_of p x
unfolding later_by
run_of-other_length p x runs l =
    let w : length p ≤ length x = runs.within in
    let e : eqb 0 (length x - length p) ≡ false = ne_eqb 0 (length x - length p) (λ z. l (omega arith)) in
    sym (at_length p x runs ∙ ap (λ (b : Bool). later_by (length p) (cond b Whole Differs)) e)
