-- The own text of a web URL is read as that URL again.
use Rattle.std.proofs.Common.{◌≡◌, ℕ, List, length, true, None, Ok, refl, sym, ap, ◌∙◌, inl, inr}
use Rattle.std.specs.Prelude.{◌||◌, nat_le, codes, bytes_eq}
use Rattle.std.proofs.lemmas.Bool.{cases_Bool, and_parts}
use Rattle.std.proofs.lemmas.Slice.Eq.{bytes_eq-Decides}
use Rattle.url.specs.declared.scheme.SchemeType.TheVariants.{SpecialNotFile}
use Rattle.url.specs.Parts.{Parts, serialize, IsValid}
use Rattle.url.specs.Parser.{parse_url}
use Rattle.url.specs.Scheme.{scheme_type, default_port}
use Rattle.url.proofs.Theorems.{parse_url-serialize_special}
use Rattle.wx_context.specs.WebUrls.{url_limit, is_web_scheme, is_web, web_url_of, is_web_url}

special : (scheme : List ℕ) → is_web_scheme scheme ≡ true → scheme_type scheme ≡ SpecialNotFile
unfolding scheme_type default_port
special scheme web =
    elim (cases_Bool (bytes_eq scheme (codes "http"))) [
      | inl http ↦ let e = (bytes_eq-Decides scheme (codes "http")).0 http in rw e refl
      | inr other ↦
          let https : bytes_eq scheme (codes "https") ≡ true = sym (ap (λ b. b || bytes_eq scheme (codes "https")) other) ∙ web in
          let e = (bytes_eq-Decides scheme (codes "https")).0 https in rw e refl
    ]

pub parse_url-own_text : (url : Parts) → IsValid url → is_web url ≡ true → parse_url None (serialize url) ≡ Ok url
unfolding is_web
parse_url-own_text url valid web =
    parse_url-serialize_special url None valid (special url.scheme (and_parts _ _ web).0)

own_text_again : (url : Parts) (text : List ℕ) → serialize url ≡ text → parse_url None text ≡ Ok url → is_web url ≡ true → nat_le (length text) url_limit ≡ true → is_web_url text ≡ true
unfolding web_url_of is_web_url
own_text_again url text own parsed web short =
    rw (short, parsed, web, own) ((bytes_eq-Decides text text).1 refl)

pub is_web_url-own_text : (url : Parts) → IsValid url → is_web url ≡ true → is_web_url (serialize url) ≡ true
unfolding is_web
is_web_url-own_text url valid web =
    own_text_again url (serialize url) refl (parse_url-own_text url valid web) web (and_parts _ _ web).1
