-- Texts of a sort, and of none.
use Rattle.std.proofs.Common.{◌≡◌, ℕ, ◌<◌, Bool, true, false, List, [], ◌∷◌, get_or, Some, None, refl, ap, arith}
use Rattle.std.specs.Prelude.{◌&&◌, nat_le, bytes_eq}
use Rattle.std.specs.List.{list_all, AllPass}
use Rattle.std.specs.Str.{IsUtf8, is_utf8}
use Rattle.std.proofs.lemmas.Bool.{and_parts, eqb-true}
use Rattle.std.proofs.lemmas.Bool.Decides.{nat_tests}
use Rattle.std.proofs.lemmas.List.Sums.{AllPass-from_list_all}
use Rattle.std.proofs.lemmas.Str.{IsUtf8-from_ascii, is_utf8-from_IsUtf8, IsUtf8-from_is_utf8}
use Rattle.std.proofs.lemmas.Slice.Eq.{bytes_eq-Decides}
use Rattle.std.proofs.lemmas.Str.Ascii.{IsAscii-from_all}
use Rattle.wx_context.proofs.PathLemmas.{paths_are_utf8}
use Rattle.wx_context.specs.Paths.{is_page_path}
use Rattle.wx_context.specs.WebUrls.{web_url_of, is_web_url}
use Rattle.wx_journal_read.specs.Fits.{is_url}
use Rattle.wx_id.specs.Options.{where_so}

-- ---- what the test of a sort gives

pub no_path : (bytes : List ℕ) → (IsUtf8 bytes → ⊥) → where_so (is_page_path bytes) bytes ≡ None
no_path bytes h =
    elim (is_page_path bytes) as (λ t. is_page_path bytes ≡ t → where_so t bytes ≡ None) [
      | true ↦ λ is. absurd (h (paths_are_utf8 bytes is))
      | false ↦ λ is. refl
    ] refl

pub is_text : (bytes : List ℕ) → IsUtf8 bytes → where_so (is_utf8 bytes) bytes ≡ Some bytes
is_text bytes h = let t = is_utf8-from_IsUtf8 bytes h in rw t refl

pub no_text : (bytes : List ℕ) → (IsUtf8 bytes → ⊥) → is_utf8 bytes ≡ false
no_text bytes h =
    elim (is_utf8 bytes) as (λ t. is_utf8 bytes ≡ t → t ≡ false) [
      | true ↦ λ is. absurd (h (IsUtf8-from_is_utf8 bytes is))
      | false ↦ λ is. refl
    ] refl

pub own_is : (text own : List ℕ) → web_url_of text ≡ Some own → bytes_eq text own ≡ true → where_so (is_web_url text) text ≡ Some own
unfolding is_web_url
own_is text own read same =
    let e : text ≡ own = (bytes_eq-Decides text own).0 same in
    rw (read, same) (ap Some e)

pub own_differs : (text own : List ℕ) → web_url_of text ≡ Some own → bytes_eq text own ≡ false → where_so (is_web_url text) text ≡ None
unfolding is_web_url
own_differs text own read differs = rw (read, differs) refl

pub no_url : (text : List ℕ) → web_url_of text ≡ None → where_so (is_web_url text) text ≡ None
unfolding is_web_url
no_url text none = rw none refl

pub url_test : (bytes : List ℕ) → IsUtf8 bytes → where_so (is_web_url bytes) bytes ≡ where_so (is_url bytes) bytes
url_test bytes h = let utf8 = is_utf8-from_IsUtf8 bytes h in rw utf8 refl
