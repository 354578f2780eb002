use Rattle.std.proofs.Common.{◌≡◌, ◌≢◌, refl, sym, ap, subst, ◌∙◌, ℕ, suc, ◌+◌, ◌<◌, ◌≤◌, true, false, List, [], ◌∷◌, ◌++◌, length, take, drop, get_or, drop-cons, arith, eq-eqb, ne_eqb, add-one, ⊎_elim, zero, ap₂, true≢false}
use Rattle.std.proofs.lemmas.Bool.{cases_eq}
use Rattle.std.proofs.Math.ListN.{drop_of_length-le}
use Rattle.wx_match_pattern.specs.Reading.{agreement, scheme_of}
use Rattle.std.specs.Prelude.{Option, Some, None, nat_eq}
use Rattle.std.specs.List.{starts_with}
use Rattle.std.proofs.lemmas.Slice.Eq.{starts_is}
use Rattle.std.proofs.lemmas.Bool.{cond_both}
use Rattle.std.proofs.lemmas.Bool.Decides.{Decides-eqb}
use Rattle.wx_match_pattern.specs.declared.parts.SchemePart.{SchemePart}
use Rattle.wx_match_pattern.specs.declared.parts.SchemePart.TheVariants.{Any, Http, Https, File}
use Rattle.wx_match_pattern.specs.Pattern.{scheme_head}

-- ---- one byte

agreement-same : (b h : ℕ) (text head : List ℕ) → b ≡ h → agreement (b ∷ text) (h ∷ head) ≡ suc (agreement text head)
unfolding agreement
agreement-same b h text head e = rw (eq-eqb b h e) refl

agreement-other : (b h : ℕ) (text head : List ℕ) → b ≢ h → agreement (b ∷ text) (h ∷ head) ≡ 0
unfolding agreement
agreement-other b h text head n = rw (ne_eqb b h n) refl

agreement-end : (text : List ℕ) → agreement text [] ≡ 0
unfolding agreement
agreement-end [] = refl
agreement-end (b ∷ text) = refl

agreement-start : (head : List ℕ) → agreement [] head ≡ 0
unfolding agreement
agreement-start head = refl

-- ---- the loop over the text

-- the first bytes agree, and the rest is compared from here on
pub record Agrees (text head : List ℕ) (i : ℕ) : Type 0 where
  pub rest : agreement text head ≡ i + agreement (drop i text) (drop i head)

pub Agrees-zero : (text head : List ℕ) → Agrees text head 0
Agrees-zero text head = record { rest = omega arith }

pub Agrees-suc : (text head : List ℕ) (i : ℕ) → Agrees text head i → i < length text → i < length head → get_or text i 0 ≡ get_or head i 0 → Agrees text head (i + 1)
Agrees-suc text head i agrees l m e =
    let step : agreement (drop i text) (drop i head) ≡ suc (agreement (drop (suc i) text) (drop (suc i) head)) =
    rw (drop-cons text i 0 l, drop-cons head i 0 m)
    (agreement-same (get_or text i 0) (get_or head i 0) (drop (suc i) text) (drop (suc i) head) e) in
    let given = agrees.rest in
    let next : agreement text head ≡ (i + 1) + agreement (drop (suc i) text) (drop (suc i) head) = omega arith in
    record { rest = subst (λ (k : ℕ). agreement text head ≡ (i + 1) + agreement (drop k text) (drop k head)) (sym (add-one i)) next }

pub agreement-at_end : (text head : List ℕ) (i : ℕ) → Agrees text head i → length head ≤ i → i ≡ agreement text head
agreement-at_end text head i agrees l =
    let none : agreement (drop i text) (drop i head) ≡ 0 =
    ap (agreement (drop i text)) (drop_of_length-le head l) ∙ agreement-end (drop i text) in
    let given = agrees.rest in
    omega arith

pub agreement-at_other : (text head : List ℕ) (i : ℕ) → Agrees text head i → i < length text → i < length head → get_or text i 0 ≢ get_or head i 0 → i ≡ agreement text head
agreement-at_other text head i agrees l m n =
    let none : agreement (drop i text) (drop i head) ≡ 0 =
    rw (drop-cons text i 0 l, drop-cons head i 0 m)
    (agreement-other (get_or text i 0) (get_or head i 0) (drop (suc i) text) (drop (suc i) head) n) in
    let given = agrees.rest in
    omega arith

pub agreement-at_length : (text head : List ℕ) (i : ℕ) → Agrees text head i → length text ≤ i → i ≡ agreement text head
agreement-at_length text head i agrees l =
    let none : agreement (drop i text) (drop i head) ≡ 0 =
    ap (λ (t : List ℕ). agreement t (drop i head)) (drop_of_length-le text l) ∙ agreement-start (drop i head) in
    let given = agrees.rest in
    omega arith

-- ---- a head at the front

pub agreement-head : (head rest : List ℕ) → agreement (head ++ rest) head ≡ length head
agreement-head [] rest = agreement-end rest
agreement-head (h ∷ head) rest = agreement-same h h (head ++ rest) head refl ∙ ap suc (agreement-head head rest)

pub agreement-within_text : (text head : List ℕ) → agreement text head ≤ length text
agreement-within_text [] head = omega (arith, agreement-start head)
agreement-within_text (b ∷ text) [] = omega (arith, agreement-end (b ∷ text))
agreement-within_text (b ∷ text) (h ∷ head) =
    let rest = agreement-within_text text head in
    ⊎_elim (λ e. let s = agreement-same b h text head e in omega arith)
    (λ n. let z = agreement-other b h text head n in omega arith) (cases_eq b h)

pub agreement-within_head : (text head : List ℕ) → agreement text head ≤ length head
agreement-within_head [] head = omega (arith, agreement-start head)
agreement-within_head (b ∷ text) [] = omega (arith, agreement-end (b ∷ text))
agreement-within_head (b ∷ text) (h ∷ head) =
    let rest = agreement-within_head text head in
    ⊎_elim (λ e. let s = agreement-same b h text head e in omega arith)
    (λ n. let z = agreement-other b h text head n in omega arith) (cases_eq b h)

-- the bytes that agree, and then the rest of the head, are the head
pub take-agreement : (text head : List ℕ) → take (agreement text head) text ++ drop (agreement text head) head ≡ head
take-agreement [] head = rw (agreement-start head) refl
take-agreement (b ∷ text) [] = rw (agreement-end (b ∷ text)) refl
take-agreement (b ∷ text) (h ∷ head) =
    ⊎_elim
    (λ e. rw (agreement-same b h text head e) (ap₂ (λ (x : ℕ) (t : List ℕ). x ∷ t) e (take-agreement text head)))
    (λ n. rw (agreement-other b h text head n) refl) (cases_eq b h)

-- a text that agrees with the whole head begins with it
pub whole-agreement : (text head : List ℕ) → agreement text head ≡ length head → text ≡ head ++ drop (length head) text
whole-agreement [] [] e = refl
whole-agreement [] (h ∷ head) e = let z = agreement-start (h ∷ head) in absurd (omega arith)
whole-agreement (b ∷ text) [] e = refl
whole-agreement (b ∷ text) (h ∷ head) e =
    ⊎_elim
    (λ same_byte.
    let s = agreement-same b h text head same_byte in
    ap₂ (λ (x : ℕ) (t : List ℕ). x ∷ t) same_byte (whole-agreement text head (omega arith)))
    (λ n. let z = agreement-other b h text head n in absurd (omega arith)) (cases_eq b h)

-- with more after the first place that does not agree, the agreement stays
pub agreement-settled : (text head more : List ℕ) (k : ℕ) → agreement text head ≤ k → k < length text → agreement (take (suc k) text ++ more) head ≡ agreement text head
agreement-settled [] head more k l m = absurd (omega arith)
agreement-settled (b ∷ text) [] more k l m = agreement-end (b ∷ (take k text ++ more)) ∙ sym (agreement-end (b ∷ text))
agreement-settled (b ∷ text) (h ∷ head) more zero l m =
    ⊎_elim (λ e. let s = agreement-same b h text head e in absurd (omega arith))
    (λ n. agreement-other b h more head n ∙ sym (agreement-other b h text head n)) (cases_eq b h)
agreement-settled (b ∷ text) (h ∷ head) more (suc k) l m =
    ⊎_elim
    (λ e.
    let s = agreement-same b h text head e in
    agreement-same b h (take (suc k) text ++ more) head e
    ∙ ap suc (agreement-settled text head more k (omega arith) (omega arith)) ∙ sym s)
    (λ n. agreement-other b h (take (suc k) text ++ more) head n ∙ sym (agreement-other b h text head n)) (cases_eq b h)

-- ---- the scheme

-- the scheme whose head stands at the front, or none whose head does
unfoldable pub SchemeSays : Option SchemePart → List ℕ → Type 0
SchemeSays (Some scheme) text = text ≡ scheme_head scheme ++ drop (length (scheme_head scheme)) text
SchemeSays None text = (scheme : SchemePart) → agreement text (scheme_head scheme) ≢ length (scheme_head scheme)

starts-says : (text head : List ℕ) → (starts_with nat_eq text head ≡ true → text ≡ head ++ drop (length head) text) × (starts_with nat_eq text head ≡ false → agreement text head ≢ length head)
starts-says text head =
    let is = starts_is Decides-eqb text head (starts_with nat_eq text head) refl in
    (is.0, λ f e. true≢false (sym (is.1 (drop (length head) text) (whole-agreement text head e)) ∙ f))

pub scheme_of-says : (text : List ℕ) → SchemeSays (scheme_of text) text
unfolding SchemeSays
scheme_of-says text =
    let any = starts-says text (scheme_head Any) in
    let http = starts-says text (scheme_head Http) in
    let https = starts-says text (scheme_head Https) in
    let file = starts-says text (scheme_head File) in
    let P : Option SchemePart → Type 0 = λ s. SchemeSays s text in
    cond_both (starts_with nat_eq text (scheme_head Any)) (Some Any) _ P any.0 (λ not_any.
    cond_both (starts_with nat_eq text (scheme_head Http)) (Some Http) _ P http.0 (λ not_http.
    cond_both (starts_with nat_eq text (scheme_head Https)) (Some Https) _ P https.0 (λ not_https.
    cond_both (starts_with nat_eq text (scheme_head File)) (Some File) None P file.0 (λ not_file.
    by_scheme (any.1 not_any) (http.1 not_http) (https.1 not_https) (file.1 not_file)))))
  where
    Lacks : SchemePart → Type 0
    Lacks scheme = agreement text (scheme_head scheme) ≢ length (scheme_head scheme)

    by_scheme : Lacks Any → Lacks Http → Lacks Https → Lacks File → (scheme : SchemePart) → Lacks scheme
    by_scheme a b c d Any = a
    by_scheme a b c d Http = b
    by_scheme a b c d Https = c
    by_scheme a b c d File = d
