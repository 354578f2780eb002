-- What is read is spelled so, and what is spelled so is read.
use Rattle.std.proofs.Common.{◌≡◌, ℕ, zero, suc, ◌^◌, ◌<◌, ◌≤◌, Bool, true, false, not, ◌&&◌, cond, eqb, List, [], ◌∷◌, ◌++◌, length, get_or, take, drop, Option, Some, None, refl, sym, ap, subst, ◌∙◌, append_assoc, arith, length-append}
use Rattle.std.specs.Prelude.{IsTrue, codes, decimal, nat_lt, nat_le}
use Rattle.std.specs.Char.{is_ascii_digit}
use Rattle.std.specs.Str.{all_ascii_digits}
use Rattle.std.specs.Str.Parse.{digits_value}
use Rattle.std.proofs.lemmas.Bool.{and_parts, eqb-true, ltb-true, lt-ltb, leb-true, le-leb}
use Rattle.std.proofs.lemmas.Bool.Decides.{nat_tests}
use Rattle.std.proofs.lemmas.List.{take_at, drop_at, take-append-drop, length-take}
use Rattle.std.proofs.lemmas.Option.{cond_some}
use Rattle.std.proofs.lemmas.Str.Parse.{IsNumeralModel, numerals_by_value, tells_all_ascii_digits}
use Rattle.std.proofs.lemmas.Fmt.{digits_decimal, digits_value-decimal, decimal-digits_value, decimal_digit, decimal_nonempty, first_decimal}
use Rattle.wx_id.proofs.OptionLemmas.{bind_some}
use Rattle.wx_journal_text.specs.Text.{sized}
use Rattle.wx_id.specs.Options.{◌>>=◌}
use Rattle.wx_journal_read.specs.Reading.{Reader, behind, digits_of, after_digits, is_plain, number_at, text_at, sized_at}

-- what follows a number: anything that begins with no digit
abbrev pub ends_number : List ℕ → Bool
ends_number [] = true
ends_number (b ∷ bs) = not (is_ascii_digit b)

pub record Reads {A : Type 0} (text : A → List ℕ) (Fits : A → Type 0) (read : Reader A) : Type 0 where
  pub takes : (bytes : List ℕ) (y : A × List ℕ) → read bytes ≡ Some y → Fits y.0 × (bytes ≡ text y.0 ++ y.1)
  pub again : (x : A) (rest : List ℕ) → Fits x → length (text x ++ rest) < 2 ^ 64 → IsTrue (ends_number rest) → read (text x ++ rest) ≡ Some (x, rest)

-- ---- words

pub behind_takes : (word bytes rest : List ℕ) → behind word bytes ≡ Some rest → bytes ≡ word ++ rest
unfolding behind
behind_takes [] bytes rest e = cc
behind_takes (w ∷ ws) [] rest e = absurd cc
behind_takes (w ∷ ws) (b ∷ bs) rest e =
    let t = at_true (eqb w b) (behind ws bs) rest e in
    let same : w ≡ b = eqb-true w b t.0 in
    let more : bs ≡ ws ++ rest = behind_takes ws bs rest t.1 in
    cc
  where
    at_true : (b : Bool) (r : Option (List ℕ)) (rest : List ℕ) → cond b r None ≡ Some rest → (b ≡ true) × (r ≡ Some rest)
    at_true true r rest e = (refl, e)
    at_true false r rest e = absurd cc

-- ---- numbers

digits_of-append : (ds rest : List ℕ) → all_ascii_digits ds ≡ true → IsTrue (ends_number rest) → (digits_of (ds ++ rest) ≡ ds) × (after_digits (ds ++ rest) ≡ rest)
unfolding digits_of after_digits
digits_of-append [] [] d h = (refl, refl)
digits_of-append [] (b ∷ bs) d h =
    elim (is_ascii_digit b) as (λ t. IsTrue (not t) → (cond t (b ∷ digits_of bs) [] ≡ []) × (cond t (after_digits bs) (b ∷ bs) ≡ b ∷ bs)) [
      | true ↦ λ h. absurd cc
      | false ↦ λ h. (refl, refl)
    ] h
digits_of-append (c ∷ ds) rest d h =
    elim (is_ascii_digit c) as (λ t. (t && all_ascii_digits ds) ≡ true → (cond t (c ∷ digits_of (ds ++ rest)) [] ≡ c ∷ ds) × (cond t (after_digits (ds ++ rest)) (c ∷ ds ++ rest) ≡ rest)) [
      | true ↦ λ d. let r = digits_of-append ds rest d h in (ap (λ x. c ∷ x) r.0, r.1)
      | false ↦ λ d. absurd cc
    ] d

pub two_parts : (bytes : List ℕ) → (bytes ≡ digits_of bytes ++ after_digits bytes) × (all_ascii_digits (digits_of bytes) ≡ true)
unfolding digits_of after_digits
two_parts [] = (refl, refl)
two_parts (b ∷ bs) =
    elim (is_ascii_digit b) as (λ t. is_ascii_digit b ≡ t → (b ∷ bs ≡ cond t (b ∷ digits_of bs) [] ++ cond t (after_digits bs) (b ∷ bs)) × (all_ascii_digits (cond t (b ∷ digits_of bs) []) ≡ true)) [
      | true ↦ λ is. (ap (λ x. b ∷ x) (two_parts bs).0, rw is (two_parts bs).1)
      | false ↦ λ is. (refl, refl)
    ] refl

pub own : IsNumeralModel (λ ds. all_ascii_digits ds ≡ true) (digits_value 10)
own = numerals_by_value _ tells_all_ascii_digits

pub plain_parts : (ds : List ℕ) → is_plain ds ≡ true → (0 < length ds) × (get_or ds 0 0 ≡ 48 → length ds ≡ 1)
plain_parts [] e = absurd cc
plain_parts (b ∷ bs) e = grind (arith, nat_tests)

plain_from : (ds : List ℕ) → 0 < length ds → 48 < get_or ds 0 0 → is_plain ds ≡ true
plain_from [] some big = absurd (omega arith)
plain_from (b ∷ bs) some big = grind (arith, nat_tests)

plain_decimal : (n : ℕ) → n < 2 ^ 64 → is_plain (decimal n) ≡ true
plain_decimal zero h = rw (decimal_digit 0 (omega arith)) refl
plain_decimal (suc n) h = plain_from _ (decimal_nonempty (suc n) h) (first_decimal (suc n) (omega arith) h)

pub number_reads : (limit : ℕ) → limit ≤ 2 ^ 64 → Reads decimal (λ n. n < limit) (number_at limit)
unfolding number_at
number_reads limit small = record {
  takes = λ bytes y e.
      let q = cond_some _ _ _ e in
      let a = and_parts _ _ q.0 in
      let below : digits_value 10 (digits_of bytes) < limit = ltb-true _ _ a.1 in
      let p = plain_parts _ a.0 in
      let spelled : decimal (digits_value 10 (digits_of bytes)) ≡ digits_of bytes = decimal-digits_value own _ (two_parts bytes).1 p.0 p.1 (omega arith) in
      subst (λ (y : ℕ × List ℕ). (y.0 < limit) × (bytes ≡ decimal y.0 ++ y.1)) q.1 (below, rw spelled (two_parts bytes).0);
  again = λ n rest fits short ends.
      let big : n < 2 ^ 64 = omega arith in
      let d = digits_of-append (decimal n) rest (digits_decimal own n big) ends in
      let v : digits_value 10 (decimal n) ≡ n = digits_value-decimal own n big in
      let less : nat_lt n limit ≡ true = lt-ltb _ _ fits in
      rw (d.0, d.1, plain_decimal n big, v, less) refl;
}

-- ---- texts after their length

abbrev AnyText : List ℕ → Type 0
AnyText t = Unit {0}

text_reads : Reads sized AnyText text_at
unfolding text_at behind
text_reads = record {
  takes = λ bytes y e.
      let a = bind_some (number_at (2 ^ 64) bytes) _ y e in
      let n = (number_reads (2 ^ 64) (omega arith)).takes bytes a.0 a.1 in
      let b = bind_some (behind (codes ":") a.0.1) _ y a.2 in
      let colon = behind_takes (codes ":") a.0.1 b.0 b.1 in
      let q = cond_some _ _ _ b.2 in
      let long : a.0.0 ≤ length b.0 = leb-true _ _ q.0 in
      let len : length (take a.0.0 b.0) ≡ a.0.0 = omega (arith, length-take a.0.0 b.0) in
      let whole : bytes ≡ ((decimal a.0.0 ++ (codes ":" ++ take a.0.0 b.0)) ++ drop a.0.0 b.0) = n.1 ∙ ap (λ (r : List ℕ). decimal a.0.0 ++ r) (colon ∙ ap (λ (r : List ℕ). codes ":" ++ r) (sym (take-append-drop a.0.0 b.0))) ∙ simp append_assoc in
      let spelled : bytes ≡ sized (take a.0.0 b.0) ++ drop a.0.0 b.0 = subst (λ (k : ℕ). bytes ≡ ((decimal k ++ (codes ":" ++ take a.0.0 b.0)) ++ drop a.0.0 b.0)) (sym len) whole in
      subst (λ (y : List ℕ × List ℕ). AnyText y.0 × (bytes ≡ sized y.0 ++ y.1)) q.1 (tt, spelled);
  again = λ t rest fits short ends.
      let regrouped : sized t ++ rest ≡ decimal (length t) ++ (codes ":" ++ (t ++ rest)) = simp append_assoc in
      let here : length (decimal (length t) ++ (codes ":" ++ (t ++ rest))) < 2 ^ 64 = rw regrouped at short in
      let size : length t < 2 ^ 64 = omega (arith, length-append (decimal (length t)) (codes ":" ++ (t ++ rest)), length-append t rest) in
      let n = (number_reads (2 ^ 64) (omega arith)).again (length t) (codes ":" ++ (t ++ rest)) size here refl in
      let long : nat_le (length t) (length (t ++ rest)) ≡ true = le-leb _ _ (omega (arith, length-append t rest)) in
      ap text_at regrouped ∙ rw (n, long, take_at t rest (length t) refl, drop_at t rest (length t) refl) refl;
}

pub sized_reads : (good : List ℕ → Bool) → Reads sized (λ t. IsTrue (good t)) (sized_at good)
unfolding sized_at
sized_reads good = record {
  takes = λ bytes y e.
      let a = bind_some (text_at bytes) _ y e in
      let l = text_reads.takes bytes a.0 a.1 in
      let q = cond_some _ _ _ a.2 in
      subst (λ (y : List ℕ × List ℕ). IsTrue (good y.0) × (bytes ≡ sized y.0 ++ y.1)) q.1 (q.0, l.1);
  again = λ t rest fits short ends. rw (text_reads.again t rest tt short ends, fits) refl;
}
