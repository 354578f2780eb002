-- What `parse` and the narrower types give.
use Rattle.std.proofs.Common.{◌≡◌, ℕ, ◌^◌, Bool, true, false, ◌&&◌, List, None, Result, Ok, Err, refl, arith}
use Rattle.std.specs.Prelude.{nat_lt}
use Rattle.std.specs.Result.{result_ok}
use Rattle.std.specs.Str.{all_ascii_digits, IsUtf8}
use Rattle.std.specs.Str.Parse.{digits_value, ParsesUnsigned}
use Rattle.std.proofs.lemmas.Bool.{lt-ltb, ltb-true, ltb-false, le-ltb}
use Rattle.std.proofs.lemmas.Str.{IsUtf8-from_ascii}
use Rattle.std.proofs.lemmas.Str.Parse.{parse_digits}
use Rattle.std.proofs.lemmas.Fmt.{IsAscii-from_digits}
use Rattle.wx_id.specs.Options.{◌>>=◌, where_so}
use Rattle.wx_journal_read.specs.Reading.{is_plain, digits_of, after_digits, number_at}
use Rattle.wx_journal_read.proofs.Fields.{own, plain_parts, two_parts}

pub utf8_digits : (ds : List ℕ) → all_ascii_digits ds ≡ true → IsUtf8 ds
utf8_digits ds h = IsUtf8-from_ascii ds (IsAscii-from_digits ds (own.to ds h))

pub parsed : {E : Type 0} (ds : List ℕ) (r : Result ℕ E) → all_ascii_digits ds ≡ true → is_plain ds ≡ true → ParsesUnsigned 64 10 ds r
    → result_ok r ≡ where_so (nat_lt (digits_value 10 ds) (2 ^ 64)) (digits_value 10 ds)
parsed {E} ds (Ok x) digits plain h =
    let p = parse_digits own {E = E} 64 ds (Ok x) h digits in
    let small : nat_lt (digits_value 10 ds) (2 ^ 64) ≡ true = lt-ltb _ _ p.0.1 in
    rw (p.1, small) refl
parsed {E} ds (Err e) digits plain h =
    let p = parse_digits own {E = E} 64 ds (Err e) h digits in
    elim (nat_lt (digits_value 10 ds) (2 ^ 64)) as (λ t. nat_lt (digits_value 10 ds) (2 ^ 64) ≡ t → None ≡ where_so t (digits_value 10 ds)) [
      | true ↦ λ is. absurd (p ((plain_parts ds plain).0, ltb-true _ _ is))
      | false ↦ λ is. refl
    ] refl

-- a number of 32 bits is one of 64 that is below 2 ^ 32
narrow_by : (p : Bool) (x : ℕ × List ℕ) → where_so (p && nat_lt x.0 (2 ^ 32)) x ≡ where_so (p && nat_lt x.0 (2 ^ 64)) x >>= (λ n. where_so (nat_lt n.0 (2 ^ 32)) n)
narrow_by false x = refl
narrow_by true x =
    elim (nat_lt x.0 (2 ^ 64)) as (λ t. nat_lt x.0 (2 ^ 64) ≡ t → where_so (nat_lt x.0 (2 ^ 32)) x ≡ where_so t x >>= (λ n. where_so (nat_lt n.0 (2 ^ 32)) n)) [
      | true ↦ λ is. refl
      | false ↦ λ is. let big : nat_lt x.0 (2 ^ 32) ≡ false = le-ltb _ _ (omega (arith, ltb-false _ _ is)) in rw big refl
    ] refl

pub narrow : (bytes : List ℕ) → number_at (2 ^ 32) bytes ≡ number_at (2 ^ 64) bytes >>= (λ n. where_so (nat_lt n.0 (2 ^ 32)) n)
unfolding number_at
narrow bytes = narrow_by (is_plain (digits_of bytes)) (digits_value 10 (digits_of bytes), after_digits bytes)

pub digits_all : (bytes : List ℕ) → all_ascii_digits (digits_of bytes) ≡ true
digits_all bytes = (two_parts bytes).1
