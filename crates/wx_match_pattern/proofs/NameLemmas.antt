use Rattle.std.proofs.Common.{◌≡◌, ◌↔◌, refl, sym, ap, subst, ◌∙◌, ℕ, suc, ◌+◌, ◌<◌, ◌≤◌, Bool, true, false, ◌&&◌, List, [], ◌∷◌, ◌++◌, length, take, drop, get_or, drop-cons, arith, eqb, cond, add-one, append_assoc, length-append, eqb-true, ne_eqb, not, true≢false, rules}
use Rattle.std.proofs.Math.ListN.{drop_of_length-le}
use Rattle.std.proofs.lemmas.Bool.{cond_both, and_parts, and_from, or_right}
use Rattle.std.specs.List.{list_all, list_any}
use Rattle.std.specs.Prelude.{IsTrue}
use Rattle.url.specs.Ascii.{dot, slash}
use Rattle.wx_match_pattern.specs.Pattern.{is_label_byte, IsLabel, IsName, label, dotted}
use Rattle.wx_match_pattern.specs.Reading.{name_len, name_whole}

-- ---- the two at each kind of byte

pub name_len-label : (inside : Bool) (b : ℕ) (bytes : List ℕ) → is_label_byte b ≡ true → name_len inside (b ∷ bytes) ≡ suc (name_len true bytes)
unfolding name_len
name_len-label inside b bytes e = rw e refl

pub name_whole-label : (inside : Bool) (b : ℕ) (bytes : List ℕ) → is_label_byte b ≡ true → name_whole inside (b ∷ bytes) ≡ name_whole true bytes
unfolding name_whole
name_whole-label inside b bytes e = rw e refl

pub name_len-dot : (bytes : List ℕ) → name_len true (dot ∷ bytes) ≡ suc (name_len false bytes)
unfolding name_len
name_len-dot bytes = refl

pub name_whole-dot : (bytes : List ℕ) → name_whole true (dot ∷ bytes) ≡ name_whole false bytes
unfolding name_whole
name_whole-dot bytes = refl

pub name_len-other : (inside : Bool) (b : ℕ) (bytes : List ℕ) → is_label_byte b ≡ false → (inside && eqb b dot) ≡ false → name_len inside (b ∷ bytes) ≡ 0
unfolding name_len
name_len-other inside b bytes e n = rw (e, n) refl

pub name_whole-other : (inside : Bool) (b : ℕ) (bytes : List ℕ) → is_label_byte b ≡ false → (inside && eqb b dot) ≡ false → name_whole inside (b ∷ bytes) ≡ inside
unfolding name_whole
name_whole-other inside b bytes e n = rw (e, n) refl

-- ---- a name, from its first byte on

cons_label : {b : ℕ} {l : List ℕ} → is_label_byte b ≡ true → list_all is_label_byte l ≡ true → IsLabel (b ∷ l)
cons_label {b} {l} e all = record { nonempty = omega arith; each = and_from (is_label_byte b) (list_all is_label_byte l) e all }

cons_name : {b : ℕ} {n : List ℕ} → is_label_byte b ≡ true → IsName n → IsName (b ∷ n)
cons_name e (label l) = label (cons_label e l.each)
cons_name e (dotted l n) = dotted (cons_label e l.each) n

-- what can stand after a byte of a label, or where a label has to begin
Rest : Bool → List ℕ → Type 0
Rest true bytes = (b : ℕ) → is_label_byte b ≡ true → IsName (b ∷ bytes)
Rest false bytes = IsName bytes

-- what makes a name of the bytes that begin one
unfoldable pub completion : Bool → List ℕ
completion true = []
completion false = 97 ∷ []

letter : IsName (97 ∷ [])
letter = label (record { nonempty = omega arith; each = refl })

stops : (inside : Bool) → Rest inside (completion inside)
unfolding Rest completion
stops true = λ b e. label (cons_label e refl)
stops false = letter

at_label : (inside : Bool) (b : ℕ) (bytes : List ℕ) → is_label_byte b ≡ true → Rest true bytes → Rest inside (b ∷ bytes)
unfolding Rest
at_label true b bytes e rest = λ a l. cons_name l (rest b e)
at_label false b bytes e rest = rest b e

at_dot : (bytes : List ℕ) → Rest false bytes → Rest true (dot ∷ bytes)
unfolding Rest
at_dot bytes rest = λ b e. dotted (cons_label {l = []} e refl) rest

-- the bytes that begin a name, made a name
begun : Bool → List ℕ → List ℕ
begun inside bytes = take (name_len inside bytes) bytes ++ completion (name_whole inside bytes)

Rest-begun : (inside : Bool) (bytes : List ℕ) → Rest inside (begun inside bytes)
unfolding begun name_len name_whole
Rest-begun inside [] = stops inside
Rest-begun inside (b ∷ bytes) =
    let P : ℕ → Bool → Type 0 = λ n w. Rest inside (take n (b ∷ bytes) ++ completion w) in
    both_cond (is_label_byte b) (suc (name_len true bytes)) (cond (inside && eqb b dot) (suc (name_len false bytes)) 0)
    (name_whole true bytes) (cond (inside && eqb b dot) (name_whole false bytes) inside) P
    (λ e. at_label inside b (begun true bytes) e (Rest-begun true bytes))
    (λ e. both_cond (inside && eqb b dot) (suc (name_len false bytes)) 0 (name_whole false bytes) inside P
    (λ d. dotted_on inside b bytes d (Rest-begun false bytes)) (λ d. stops inside))
  where
    both_cond : {A B : Type 0} (t : Bool) (a1 a2 : A) (b1 b2 : B) (P : A → B → Type 0) → (t ≡ true → P a1 b1) → (t ≡ false → P a2 b2) → P (cond t a1 a2) (cond t b1 b2)
    both_cond true a1 a2 b1 b2 P yes_it no_it = yes_it refl
    both_cond false a1 a2 b1 b2 P yes_it no_it = no_it refl

    dotted_on : (inside : Bool) (b : ℕ) (bytes : List ℕ) → (inside && eqb b dot) ≡ true → Rest false (begun false bytes) → Rest inside (b ∷ begun false bytes)
    dotted_on true b bytes d rest = subst (λ (v : ℕ). Rest true (v ∷ begun false bytes)) (sym (eqb-true b dot d)) (at_dot (begun false bytes) rest)
    dotted_on false b bytes d rest = cc

pub IsName-begun : (bytes : List ℕ) → IsName (take (name_len false bytes) bytes ++ completion (name_whole false bytes))
unfolding begun Rest
IsName-begun bytes = Rest-begun false bytes

-- ---- what the two give on a name

label_run-len : (l r : List ℕ) → list_all is_label_byte l ≡ true → name_len true (l ++ r) ≡ length l + name_len true r
label_run-len [] r all = omega arith
label_run-len (b ∷ l) r all =
    let both = and_parts (is_label_byte b) (list_all is_label_byte l) all in
    let rest = label_run-len l r both.1 in
    let first = name_len-label true b (l ++ r) both.0 in
    omega arith

label_run-whole : (l r : List ℕ) → list_all is_label_byte l ≡ true → name_whole true (l ++ r) ≡ name_whole true r
label_run-whole [] r all = refl
label_run-whole (b ∷ l) r all =
    let both = and_parts (is_label_byte b) (list_all is_label_byte l) all in
    name_whole-label true b (l ++ r) both.0 ∙ label_run-whole l r both.1

label-len : (inside : Bool) (l r : List ℕ) → IsLabel l → name_len inside (l ++ r) ≡ length l + name_len true r
label-len inside [] r is = absurd (omega (arith, is.nonempty))
label-len inside (b ∷ l) r is =
    let both = and_parts (is_label_byte b) (list_all is_label_byte l) is.each in
    let rest = label_run-len l r both.1 in
    let first = name_len-label inside b (l ++ r) both.0 in
    omega arith

label-whole : (inside : Bool) (l r : List ℕ) → IsLabel l → name_whole inside (l ++ r) ≡ name_whole true r
label-whole inside [] r is = absurd (omega (arith, is.nonempty))
label-whole inside (b ∷ l) r is =
    let both = and_parts (is_label_byte b) (list_all is_label_byte l) is.each in
    name_whole-label inside b (l ++ r) both.0 ∙ label_run-whole l r both.1

name-len : (r : List ℕ) {n : List ℕ} → IsName n → name_len false (n ++ r) ≡ length n + name_len true r
name-len r (label {l = l} is) = label-len false l r is
name-len r (dotted {l = l} {n = n} is name) =
    let first = label-len false l (dot ∷ n ++ r) is in
    let second = name_len-dot (n ++ r) in
    let rest = name-len r name in
    let size = length-append l (dot ∷ n) in
    ap (name_len false) (append_assoc l (dot ∷ n) r) ∙ omega arith

name-whole : (r : List ℕ) {n : List ℕ} → IsName n → name_whole false (n ++ r) ≡ name_whole true r
name-whole r (label {l = l} is) = label-whole false l r is
name-whole r (dotted {l = l} {n = n} is name) =
    ap (name_whole false) (append_assoc l (dot ∷ n) r) ∙ label-whole false l (dot ∷ n ++ r) is
    ∙ name_whole-dot (n ++ r) ∙ name-whole r name

-- the text ends after a host, or a path follows
pub data Follows : List ℕ → Type 0 where
  nothing : Follows []
  path : {r : List ℕ} → Follows (slash ∷ r)

follows-len : {r : List ℕ} → Follows r → name_len true r ≡ 0
unfolding name_len
follows-len nothing = refl
follows-len (path {r = r}) = name_len-other true slash r refl refl

follows-whole : {r : List ℕ} → Follows r → name_whole true r ≡ true
unfolding name_whole
follows-whole nothing = refl
follows-whole (path {r = r}) = name_whole-other true slash r refl refl

pub name_len-name : (n r : List ℕ) → IsName n → Follows r → name_len false (n ++ r) ≡ length n
name_len-name n r is follows =
    let all = name-len r is in
    let none = follows-len follows in
    omega arith

pub name_whole-name : (n r : List ℕ) → IsName n → Follows r → name_whole false (n ++ r) ≡ true
name_whole-name n r is follows = name-whole r is ∙ follows-whole follows

pub first_of_name : {n : List ℕ} → IsName n → (b : ℕ) × (rest : List ℕ) × (n ≡ b ∷ rest) × (is_label_byte b ≡ true)
first_of_name (label {l = l} is) = of_label l is
  where
    of_label : (l : List ℕ) → IsLabel l → (b : ℕ) × (rest : List ℕ) × (l ≡ b ∷ rest) × (is_label_byte b ≡ true)
    of_label [] is = absurd (omega (arith, is.nonempty))
    of_label (b ∷ l) is = (b, l, refl, (and_parts (is_label_byte b) (list_all is_label_byte l) is.each).0)
first_of_name (dotted {l = l} {n = n} is name) = of_label l is
  where
    of_label : (l : List ℕ) → IsLabel l → (b : ℕ) × (rest : List ℕ) × (l ++ dot ∷ n ≡ b ∷ rest) × (is_label_byte b ≡ true)
    of_label [] is = absurd (omega (arith, is.nonempty))
    of_label (b ∷ l) is = (b, l ++ dot ∷ n, refl, (and_parts (is_label_byte b) (list_all is_label_byte l) is.each).0)

-- ---- the two depend on the bytes up to the place alone

pub name_len-within : (inside : Bool) (bytes : List ℕ) → name_len inside bytes ≤ length bytes
unfolding name_len
name_len-within inside [] = omega arith
name_len-within inside (b ∷ bytes) =
    let one = name_len-within true bytes in
    let two = name_len-within false bytes in
    cond_both (is_label_byte b) (suc (name_len true bytes)) (cond (inside && eqb b dot) (suc (name_len false bytes)) 0)
    (λ n. n ≤ suc (length bytes)) (λ e. omega arith)
    (λ e. cond_both (inside && eqb b dot) (suc (name_len false bytes)) 0 (λ n. n ≤ suc (length bytes)) (λ d. omega arith) (λ d. omega arith))

-- what the two are, for bytes of this length and with more after the place
Settled : Bool → List ℕ → List ℕ → ℕ → Bool → Type 0
Settled inside bytes more n w =
    n < length bytes → (name_len inside (take (suc n) bytes ++ more) ≡ n) × (name_whole inside (take (suc n) bytes ++ more) ≡ w)

settled_label : (inside : Bool) (b : ℕ) (bytes more : List ℕ) (n : ℕ) (w : Bool) → is_label_byte b ≡ true → Settled true bytes more n w → Settled inside (b ∷ bytes) more (suc n) w
unfolding Settled
settled_label inside b bytes more n w e h = λ l.
    let r = h (omega arith) in (
      name_len-label inside b (take (suc n) bytes ++ more) e ∙ ap suc r.0,
      name_whole-label inside b (take (suc n) bytes ++ more) e ∙ r.1,
    )

settled_dot : (bytes more : List ℕ) (n : ℕ) (w : Bool) → Settled false bytes more n w → Settled true (dot ∷ bytes) more (suc n) w
unfolding Settled
settled_dot bytes more n w h = λ l.
    let r = h (omega arith) in
    (name_len-dot (take (suc n) bytes ++ more) ∙ ap suc r.0, name_whole-dot (take (suc n) bytes ++ more) ∙ r.1)

settled_other : (inside : Bool) (b : ℕ) (bytes more : List ℕ) → is_label_byte b ≡ false → (inside && eqb b dot) ≡ false → Settled inside (b ∷ bytes) more 0 inside
unfolding Settled
settled_other inside b bytes more e f = λ l. (name_len-other inside b more e f, name_whole-other inside b more e f)

settled_end : (inside : Bool) (more : List ℕ) (n : ℕ) (w : Bool) → Settled inside [] more n w
unfolding Settled
settled_end inside more n w = λ l. absurd (omega arith)

-- the first place that is no part of a name, and what stands before it, are settled by the bytes up to there
settled : (inside : Bool) (bytes more : List ℕ) → Settled inside bytes more (name_len inside bytes) (name_whole inside bytes)
settled inside [] more = settled_end inside more (name_len inside []) (name_whole inside [])
settled inside (b ∷ bytes) more = by (is_label_byte b) refl (settled true bytes more) (settled false bytes more)
  where
    to : (n m : ℕ) (w v : Bool) → n ≡ m → w ≡ v → Settled inside (b ∷ bytes) more m v → Settled inside (b ∷ bytes) more n w
    to n m w v e f h = rw (e, f) h

    at_dot_byte : (inside : Bool) → (inside && eqb b dot) ≡ true → Settled false bytes more (name_len false bytes) (name_whole false bytes) → Settled inside (b ∷ bytes) more (name_len inside (b ∷ bytes)) (name_whole inside (b ∷ bytes))
    at_dot_byte true d h = rw (eqb-true b dot d, name_len-dot bytes, name_whole-dot bytes) (settled_dot bytes more (name_len false bytes) (name_whole false bytes) h)
    at_dot_byte false d h = cc

    not_label : (d : Bool) → (inside && eqb b dot) ≡ d → is_label_byte b ≡ false → Settled false bytes more (name_len false bytes) (name_whole false bytes) → Settled inside (b ∷ bytes) more (name_len inside (b ∷ bytes)) (name_whole inside (b ∷ bytes))
    not_label true d e h = at_dot_byte inside d h
    not_label false d e h = to _ 0 _ inside (name_len-other inside b bytes e d) (name_whole-other inside b bytes e d) (settled_other inside b bytes more e d)

    by : (t : Bool) → is_label_byte b ≡ t → Settled true bytes more (name_len true bytes) (name_whole true bytes) → Settled false bytes more (name_len false bytes) (name_whole false bytes) → Settled inside (b ∷ bytes) more (name_len inside (b ∷ bytes)) (name_whole inside (b ∷ bytes))
    by true e h k = to _ (suc (name_len true bytes)) _ (name_whole true bytes) (name_len-label inside b bytes e) (name_whole-label inside b bytes e) (settled_label inside b bytes more (name_len true bytes) (name_whole true bytes) e h)
    by false e h k = not_label (inside && eqb b dot) refl e k

pub name_len-settled : (bytes more : List ℕ) → name_len false bytes < length bytes → name_len false (take (suc (name_len false bytes)) bytes ++ more) ≡ name_len false bytes
unfolding Settled
name_len-settled bytes more l = (settled false bytes more l).0

pub name_whole-settled : (bytes more : List ℕ) → name_len false bytes < length bytes → name_whole false (take (suc (name_len false bytes)) bytes ++ more) ≡ name_whole false bytes
unfolding Settled
name_whole-settled bytes more l = (settled false bytes more l).1

-- ---- a name of one label

-- the bytes hold a dot
has_dot : List ℕ → Bool
has_dot bytes = list_any (λ b. eqb b dot) bytes

label-dot : (b : ℕ) → is_label_byte b ≡ true → eqb b dot ≡ false
label-dot b e = ne_eqb b dot (λ d. true≢false (sym e ∙ ap is_label_byte d))

no_dot : (l : List ℕ) → list_all is_label_byte l ≡ true → has_dot l ≡ false
unfolding has_dot
no_dot [] all = refl
no_dot (b ∷ l) all =
    let both = and_parts (is_label_byte b) (list_all is_label_byte l) all in
    rw (label-dot b both.0) (no_dot l both.1)

dot_inside : (l n : List ℕ) → has_dot (l ++ dot ∷ n) ≡ true
unfolding has_dot
dot_inside [] n = refl
dot_inside (b ∷ l) n = or_right (eqb b dot) (list_any (λ b. eqb b dot) (l ++ dot ∷ n)) (dot_inside l n)

IsLabel-name : {n : List ℕ} → IsName n → has_dot n ≡ false → IsLabel n
IsLabel-name (label is) none = is
IsLabel-name (dotted {l = l} {n = n} is name) none = absurd (true≢false (sym (dot_inside l n) ∙ none))

pub lone_label : (n : List ℕ) (has : Bool) → IsName n → has ≡ list_any (λ b. eqb b dot) n → IsTrue (not has) ↔ IsLabel n
unfolding has_dot
lone_label n true is e = (λ t. absurd (cc t), λ l. absurd (true≢false (e ∙ no_dot n l.each)))
lone_label n false is e = (λ t. IsLabel-name is (sym e), λ l. search rules)

-- ---- the loop over the bytes of a name

-- so far the bytes begin a name, and the rest is read from here on
pub record Reads (bytes : List ℕ) (i : ℕ) (inside : Bool) : Type 0 where
  pub len : name_len false bytes ≡ i + name_len inside (drop i bytes)
  pub whole : name_whole false bytes ≡ name_whole inside (drop i bytes)

pub Reads-zero : (bytes : List ℕ) → Reads bytes 0 false
Reads-zero bytes = record { len = omega arith; whole = refl }

pub Reads-label : (bytes : List ℕ) (i : ℕ) (inside : Bool) → Reads bytes i inside → i < length bytes → is_label_byte (get_or bytes i 0) ≡ true → Reads bytes (i + 1) true
Reads-label bytes i inside reads l e =
    let cut = drop-cons bytes i 0 l in
    let len = ap (name_len inside) cut ∙ name_len-label inside (get_or bytes i 0) (drop (suc i) bytes) e in
    let whole = ap (name_whole inside) cut ∙ name_whole-label inside (get_or bytes i 0) (drop (suc i) bytes) e in
    let next : name_len false bytes ≡ (i + 1) + name_len true (drop (suc i) bytes) = let given = reads.len in omega arith in
    record {
      len = rw (add-one i) (rw (add-one i) at next);
      whole = rw (add-one i) (reads.whole ∙ whole);
    }

pub Reads-dot : (bytes : List ℕ) (i : ℕ) → Reads bytes i true → i < length bytes → get_or bytes i 0 ≡ dot → Reads bytes (i + 1) false
Reads-dot bytes i reads l e =
    let cut : drop i bytes ≡ dot ∷ drop (suc i) bytes = drop-cons bytes i 0 l ∙ ap (λ (b : ℕ). b ∷ drop (suc i) bytes) e in
    let len = ap (name_len true) cut ∙ name_len-dot (drop (suc i) bytes) in
    let whole = ap (name_whole true) cut ∙ name_whole-dot (drop (suc i) bytes) in
    let next : name_len false bytes ≡ (i + 1) + name_len false (drop (suc i) bytes) = let given = reads.len in omega arith in
    record {
      len = rw (add-one i) (rw (add-one i) at next);
      whole = rw (add-one i) (reads.whole ∙ whole);
    }

other_front : (bytes : List ℕ) (i : ℕ) (inside : Bool) → Reads bytes i inside → name_len inside (drop i bytes) ≡ 0 → name_whole inside (drop i bytes) ≡ inside → (i ≡ name_len false bytes) × (inside ≡ name_whole false bytes)
other_front bytes i inside reads len whole = let given = reads.len in (omega arith, sym (reads.whole ∙ whole))

pub Reads-other : (bytes : List ℕ) (i : ℕ) (inside : Bool) → Reads bytes i inside → i < length bytes → is_label_byte (get_or bytes i 0) ≡ false → (inside && eqb (get_or bytes i 0) dot) ≡ false → (i ≡ name_len false bytes) × (inside ≡ name_whole false bytes)
Reads-other bytes i inside reads l e d =
    let cut = drop-cons bytes i 0 l in
    other_front bytes i inside reads (ap (name_len inside) cut ∙ name_len-other inside (get_or bytes i 0) (drop (suc i) bytes) e d)
    (ap (name_whole inside) cut ∙ name_whole-other inside (get_or bytes i 0) (drop (suc i) bytes) e d)

pub Reads-end : (bytes : List ℕ) (i : ℕ) (inside : Bool) → Reads bytes i inside → length bytes ≤ i → (i ≡ name_len false bytes) × (inside ≡ name_whole false bytes)
unfolding name_len name_whole
Reads-end bytes i inside reads l =
    let none : drop i bytes ≡ [] = drop_of_length-le bytes l in
    other_front bytes i inside reads (ap (name_len inside) none) (ap (name_whole inside) none)
