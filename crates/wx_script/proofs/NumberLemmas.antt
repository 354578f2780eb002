-- Numbers and the digits that spell them.
use Rattle.std.proofs.Common.{◌≡◌, ℕ, zero, suc, ◌^◌, ◌<◌, ◌≤◌, true, false, not, ◌&&◌, ◌||◌, List, [], ◌∷◌, length, get_or, Some, None, refl, sym, ap, subst, ◌∙◌, arith}
use Rattle.std.specs.Prelude.{IsTrue, decimal, nat_lt, nat_le, ◌==◌, Result, Ok, Err}
use Rattle.std.specs.List.{list_all}
use Rattle.std.specs.Result.{result_ok}
use Rattle.std.specs.Str.{IsUtf8}
use Rattle.std.specs.Str.Parse.{digits_value, ParsesUnsigned}
use Rattle.std.proofs.lemmas.Bool.{and_parts, ltb-true, lt-ltb, leb-true, le-leb}
use Rattle.std.proofs.lemmas.Bool.Decides.{nat_tests}
use Rattle.std.proofs.lemmas.Option.{cond_some}
use Rattle.std.proofs.lemmas.Str.Parse.{IsNumeralModel, IsDigitsTest, numerals_by_value, parse_digits}
use Rattle.std.proofs.lemmas.Fmt.{digits_decimal, digits_value-decimal, decimal-digits_value, decimal_digit, decimal_nonempty, first_decimal}
use Rattle.wx_script.specs.Words.{is_digit, is_number, is_given, is_small, is_count}
use Rattle.wx_id.specs.declared.numbers.TabId.{TabId}
use Rattle.wx_id.specs.declared.numbers.FrameId.{FrameId}
use Rattle.wx_id.specs.Options.{where_so}
use Rattle.wx_script.specs.Line.{number_at, count_at, tab_id, tab_id_at, frame_id, frame_id_at}
use Rattle.std.specs.Result.{OkIff}
use Rattle.wx_id.proofs.OptionLemmas.{bind_some}
use Rattle.wx_context.proofs.PathLemmas.{IsUtf8-from_list_all}
use Rattle.wx_script.proofs.WordLemmas.{is_no_space, no_space}

are_digits : IsDigitsTest (λ ds. list_all is_digit ds ≡ true)
are_digits = record {
  empty = refl;
  parts = λ c cs e. let d = and_parts (is_digit c) (list_all is_digit cs) e in let within = and_parts (nat_le 48 c) (nat_le c 57) d.0 in ((leb-true 48 c within.0, leb-true c 57 within.1), d.1);
  more = λ c cs k e. rw (le-leb 48 c k.0, le-leb c 57 k.1) e;
}

digits : IsNumeralModel (λ ds. list_all is_digit ds ≡ true) (digits_value 10)
digits = numerals_by_value _ are_digits

record HasDigits (ds : List ℕ) : Type 0 where
  all_digits : list_all is_digit ds ≡ true
  given : 0 < length ds
  no_zero : get_or ds 0 0 ≡ 48 → length ds ≡ 1

number_parts : (ds : List ℕ) → is_number ds ≡ true → HasDigits ds
number_parts [] e = absurd cc
number_parts (b ∷ bs) e =
    record {
      all_digits = (and_parts (list_all is_digit (b ∷ bs)) (not (b == 48) || not (is_given bs)) e).0;
      given = omega arith;
      no_zero = λ zero. alone b bs zero (and_parts (list_all is_digit (b ∷ bs)) (not (b == 48) || not (is_given bs)) e).1;
    }
  where
    alone : (b : ℕ) (bs : List ℕ) → b ≡ 48 → (not (b == 48) || not (is_given bs)) ≡ true → length (b ∷ bs) ≡ 1
    alone b [] is h = refl
    alone b (c ∷ bs) is h = let wrong : false ≡ true = subst (λ b. (not (b == 48) || false) ≡ true) is h in absurd cc

number_from : (ds : List ℕ) → list_all is_digit ds ≡ true → 0 < length ds → 48 < get_or ds 0 0 → is_number ds ≡ true
number_from [] all some big = absurd (omega (arith, some))
number_from (b ∷ bs) all some big =
    let not_zero : (b == 48) ≡ false = grind (arith, nat_tests) in
    rw (all, not_zero) refl

pub is_number-decimal : (n : ℕ) → n < 2 ^ 64 → is_number (decimal n) ≡ true
is_number-decimal zero h = rw (decimal_digit 0 (omega arith)) refl
is_number-decimal (suc n) h = number_from _ (digits_decimal digits (suc n) h) (decimal_nonempty (suc n) h) (first_decimal (suc n) (omega arith) h)

number_spelled : (text : List ℕ) → is_number text ≡ true → nat_lt (digits_value 10 text) 4294967296 ≡ true → text ≡ decimal (digits_value 10 text)
number_spelled text is small =
    let d = number_parts text is in
    let less : digits_value 10 text < 4294967296 = ltb-true _ _ small in
    sym (decimal-digits_value digits text d.all_digits d.given d.no_zero (omega arith))

pub record IsSpelledNumber (n : ℕ) (text : List ℕ) : Type 0 where
  pub is_small : IsTrue (is_small n)
  pub spelled : text ≡ decimal n

-- what is read as a number is its decimal digits
number_read : (text : List ℕ) (n : ℕ) → number_at text ≡ Some n → IsSpelledNumber n text
unfolding number_at
number_read text n e =
    let q = cond_some _ _ _ e in
    let small : IsTrue (is_small (digits_value 10 text)) = (and_parts (is_number text) _ q.0).1 in
    record {
      is_small = subst (λ n. IsTrue (is_small n)) q.1 small;
      spelled = number_spelled text (and_parts (is_number text) _ q.0).0 small ∙ ap decimal q.1;
    }

number_again : (n : ℕ) → IsTrue (is_small n) → number_at (decimal n) ≡ Some n
unfolding number_at
number_again n h =
    let small : n < 4294967296 = ltb-true n 4294967296 h in
    let big : n < 2 ^ 64 = omega arith in
    let is : digits_value 10 (decimal n) ≡ n = digits_value-decimal digits n big in
    rw (is_number-decimal n big, is, h) refl

pub tab_id_read : (text : List ℕ) (t : TabId) → tab_id_at text ≡ Some t → IsSpelledNumber t.0 text
unfolding tab_id_at
tab_id_read text t e =
    let p = bind_some (number_at text) _ t e in
    let t_is : tab_id p.0 ≡ t = cc in
    subst (λ (t : TabId). IsSpelledNumber t.0 text) t_is (number_read text p.0 p.1)

pub tab_id_again : (t : TabId) → IsTrue (is_small t.0) → tab_id_at (decimal t.0) ≡ Some t
unfolding tab_id_at
tab_id_again t h = rw (number_again t.0 h) refl

pub frame_id_read : (text : List ℕ) (f : FrameId) → frame_id_at text ≡ Some f → IsSpelledNumber f.0 text
unfolding frame_id_at
frame_id_read text f e =
    let p = bind_some (number_at text) _ f e in
    let f_is : frame_id p.0 ≡ f = cc in
    subst (λ (f : FrameId). IsSpelledNumber f.0 text) f_is (number_read text p.0 p.1)

pub frame_id_again : (f : FrameId) → IsTrue (is_small f.0) → frame_id_at (decimal f.0) ≡ Some f
unfolding frame_id_at
frame_id_again f h = rw (number_again f.0 h) refl

pub record IsSpelledCount (n : ℕ) (text : List ℕ) : Type 0 where
  pub is_count : IsTrue (is_count n)
  pub spelled : text ≡ decimal n

pub count_read : (text : List ℕ) (n : ℕ) → count_at text ≡ Some n → IsSpelledCount n text
unfolding count_at
count_read text n e =
    let p = bind_some (number_at text) _ n e in
    let q = cond_some _ _ _ p.2 in
    record {
      is_count = subst (λ n. IsTrue (is_count n)) q.1 q.0;
      spelled = (number_read text p.0 p.1).spelled ∙ ap decimal q.1;
    }

count_small : (n : ℕ) → IsTrue (is_count n) → IsTrue (is_small n)
count_small n h = let most : n ≤ 1000000 = leb-true n 1000000 (and_parts (nat_le 1 n) (nat_le n 1000000) h).1 in lt-ltb n 4294967296 (omega (arith, most))

pub count_again : (n : ℕ) → IsTrue (is_count n) → count_at (decimal n) ≡ Some n
unfolding count_at
count_again n h = rw (number_again n (count_small n h), h) refl

-- ---- digits are no spaces, and are UTF-8

digit_is_no_space : (b : ℕ) → is_digit b ≡ true → is_no_space b ≡ true
digit_is_no_space b h = grind (arith, nat_tests)

pub number_no_space : (n : ℕ) → IsTrue (is_small n) → list_all is_no_space (decimal n) ≡ true
number_no_space n h = let small : n < 4294967296 = ltb-true n 4294967296 h in no_space is_digit digit_is_no_space (decimal n) (digits_decimal digits n (omega arith))

pub count_no_space : (n : ℕ) → IsTrue (is_count n) → list_all is_no_space (decimal n) ≡ true
count_no_space n h = number_no_space n (count_small n h)

digit_is_ascii : (b : ℕ) → is_digit b ≡ true → b < 128
digit_is_ascii b h = grind (arith, nat_tests)

pub numbers_are_utf8 : (w : List ℕ) → is_number w ≡ true → IsUtf8 w
numbers_are_utf8 w h = IsUtf8-from_list_all is_digit w digit_is_ascii (number_parts w h).all_digits

-- what `parse` answers at a number
pub parsed : {E : Type 0} (w : List ℕ) (r : Result ℕ E) → is_number w ≡ true → ParsesUnsigned 32 10 w r → result_ok r ≡ number_at w
unfolding number_at
parsed w r is h =
    at r (parse_digits digits 32 w r h (number_parts w is).all_digits)
  where
    at : {E : Type 0} (r : Result ℕ E) → OkIff r ((0 < length w) × (digits_value 10 w < 2 ^ 32)) (digits_value 10 w) → result_ok r ≡ where_so (is_number w && nat_lt (digits_value 10 w) 4294967296) (digits_value 10 w)
    at (Ok x) h = ap Some h.1 ∙ rw (is, lt-ltb (digits_value 10 w) 4294967296 h.0.1) refl
    at (Err e) h =
        elim (nat_lt (digits_value 10 w) 4294967296) as (λ t. nat_lt (digits_value 10 w) 4294967296 ≡ t → None ≡ where_so (is_number w && t) (digits_value 10 w)) [
          | true ↦ λ less. absurd (h ((number_parts w is).given, ltb-true _ 4294967296 less))
          | false ↦ λ less. rw is refl
        ] refl

pub ruleset numbers = (numbers_are_utf8, parsed)
