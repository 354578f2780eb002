-- Texts of printable bytes are texts of UTF-8.
use Rattle.std.proofs.Common.{◌≡◌, ℕ, ◌<◌, Bool, true, List, [], ◌∷◌, get_or, ap, arith}
use Rattle.std.specs.Prelude.{◌&&◌, nat_le}
use Rattle.std.specs.List.{list_all, AllPass}
use Rattle.std.specs.Str.{IsUtf8}
use Rattle.std.proofs.lemmas.Bool.{and_parts, eqb-true}
use Rattle.std.proofs.lemmas.Bool.Decides.{nat_tests}
use Rattle.std.proofs.lemmas.List.Sums.{AllPass-from_list_all}
use Rattle.std.proofs.lemmas.Str.{IsUtf8-from_ascii}
use Rattle.std.proofs.lemmas.Str.Ascii.{IsAscii-from_all}
use Rattle.wx_context.specs.Paths.{is_printable_byte, is_printable, is_page_path}

-- a text whose bytes all pass a test that only ASCII passes is UTF-8
pub IsUtf8-from_list_all : (p : ℕ → Bool) (xs : List ℕ) → ((b : ℕ) → p b ≡ true → b < 128) → list_all p xs ≡ true → IsUtf8 xs
IsUtf8-from_list_all p xs ascii h =
    let pass : AllPass p xs = AllPass-from_list_all p xs h in
    IsUtf8-from_ascii xs (IsAscii-from_all xs (λ k d within. ascii (get_or xs k d) (pass k d within)))

printable_byte_is_ascii : (b : ℕ) → is_printable_byte b ≡ true → b < 128
printable_byte_is_ascii b h = grind (arith, nat_tests)

pub printable_is_utf8 : (xs : List ℕ) → is_printable xs ≡ true → IsUtf8 xs
printable_is_utf8 xs h = IsUtf8-from_list_all is_printable_byte xs printable_byte_is_ascii h

path_bytes : (xs : List ℕ) → is_page_path xs ≡ true → is_printable xs ≡ true
path_bytes [] h = absurd cc
path_bytes (b ∷ bs) h =
    let p = and_parts _ _ h in
    let slash : b ≡ 47 = eqb-true _ _ p.0 in
    rw slash p.1

-- a path is a text of UTF-8
pub paths_are_utf8 : (xs : List ℕ) → is_page_path xs ≡ true → IsUtf8 xs
paths_are_utf8 xs h = printable_is_utf8 xs (path_bytes xs h)
