-- How far the letters of an id reach.
use Rattle.std.proofs.Common.{◌≡◌, ℕ, suc, ◌+◌, ◌<◌, ◌≤◌, get_or, ◌∷◌, List, [], length, refl, Bool, true, false, cond, arith, sym, ◌∙◌}
use Rattle.std.specs.Prelude.{◌&&◌, ◌==◌}
use Rattle.std.specs.List.{list_all, prefix_len, AllPass}
use Rattle.std.specs.Str.{IsUtf8}
use Rattle.std.proofs.lemmas.Str.{IsUtf8-from_ascii}
use Rattle.std.proofs.lemmas.Bool.Decides.{nat_tests}
use Rattle.std.proofs.lemmas.List.Sums.{prefix_len-le-length, AllPass-from_list_all}
use Rattle.std.proofs.lemmas.Str.Ascii.{IsAscii-from_all}
use Rattle.wx_id.specs.Ids.{is_id_letter, is_extension_id}

suc_is : (m k : ℕ) → (1 + m == suc k) ≡ (m == k)
suc_is m k = grind (arith, nat_tests)

never_suc : (k : ℕ) → (0 == suc k) ≡ false
never_suc k = grind (arith, nat_tests)

-- all pass where those in front are all
pub list_all-prefix_len : (p : ℕ → Bool) (xs : List ℕ) → list_all p xs ≡ (prefix_len p xs == length xs)
list_all-prefix_len p [] = refl
list_all-prefix_len p (x ∷ xs) =
    elim (p x) as (λ b. (b && list_all p xs) ≡ (cond b (1 + prefix_len p xs) 0 == suc (length xs))) [
      | true ↦ list_all-prefix_len p xs ∙ sym (suc_is (prefix_len p xs) (length xs))
      | false ↦ sym (never_suc (length xs))
    ]

letter_is_ascii : (b : ℕ) → is_id_letter b ≡ true → b < 128
letter_is_ascii b h = grind (arith, nat_tests)

-- 32 letters in front of 32 bytes are an id, and of no other text
pub is_extension_id_from_letters : (xs : List ℕ) → 32 ≤ prefix_len is_id_letter xs → length xs ≡ 32 → is_extension_id xs ≡ true
is_extension_id_from_letters xs all is =
    let within = prefix_len-le-length is_id_letter xs in
    let e : prefix_len is_id_letter xs ≡ 32 = omega arith in
    rw (list_all-prefix_len is_id_letter xs, e, is) refl

pub letters_from_is_extension_id : (xs : List ℕ) → is_extension_id xs ≡ true → (32 ≤ prefix_len is_id_letter xs) × (length xs ≡ 32)
letters_from_is_extension_id xs h =
    let e = list_all-prefix_len is_id_letter xs in
    grind (arith, nat_tests)

pub ids_are_utf8 : (xs : List ℕ) → is_extension_id xs ≡ true → IsUtf8 xs
ids_are_utf8 xs h =
    let all : list_all is_id_letter xs ≡ true = grind (arith, nat_tests) in
    let pass : AllPass is_id_letter xs = AllPass-from_list_all is_id_letter xs all in
    IsUtf8-from_ascii xs (IsAscii-from_all xs (λ k d within. letter_is_ascii (get_or xs k d) (pass k d within)))
