-- A text cut at the scheme and the last slash against the origin of an extension.
use Rattle.std.proofs.Common.{◌≡◌, ◌≢◌, ℕ, ◌++◌, List, length, take, drop, eqb, Bor, ◌+◌, ◌-◌, true, false, Some, None, arith, ap, sym, ◌∙◌, inl, inr}
use Rattle.std.specs.Prelude.{codes}
use Rattle.std.specs.Str.{bytes_eq}
use Rattle.std.specs.Cmp.Lexicographic.{pointwise}
use Rattle.std.proofs.lemmas.Bool.{cases_Bool, cond-true, cond-false, and_parts, and_from}
use Rattle.std.proofs.lemmas.Bool.Decides.{nat_tests, Decides-eqb}
use Rattle.std.proofs.lemmas.List.{append_cancel_left, append_cancel_right, take_at}
use Rattle.std.proofs.lemmas.Slice.Eq.{bytes_eq-Decides, strip_prefix_is, strip_suffix_is}
use Rattle.wx_id.specs.Ids.{is_extension_id}
use Rattle.wx_host_manifest.specs.Origins.{origin_of, id_in, is_origin, caller_of}

pub origin_is : (s : List ℕ) → is_origin s ≡ true → (is_extension_id (id_in s) ≡ true) × (s ≡ origin_of (id_in s))
unfolding is_origin
origin_is s h =
    let parts = and_parts (is_extension_id (id_in s)) (bytes_eq s (origin_of (id_in s))) h in
    (parts.0, (bytes_eq-Decides s (origin_of (id_in s))).0 parts.1)

not_origin : (s : List ℕ) → (is_origin s ≡ true → ⊥) → None ≡ caller_of s
not_origin s none =
    elim (cases_Bool (is_origin s)) [
      | inl is ↦ absurd (none is)
      | inr is ↦ sym (cond-false (is_origin s) (Some (id_in s)) None is)
    ]

pub caller_of-no_scheme : (s : List ℕ) → ((rest : List ℕ) → s ≢ codes "chrome-extension://" ++ rest) → None ≡ caller_of s
caller_of-no_scheme s none = not_origin s (λ is. none _ (origin_is s is).1)

pub caller_of-no_slash : (s x : List ℕ) → s ≡ codes "chrome-extension://" ++ x → ((front : List ℕ) → x ≢ front ++ codes "/") → None ≡ caller_of s
caller_of-no_slash s x cut none =
    not_origin s (λ is. none (id_in s) (append_cancel_left (codes "chrome-extension://") x (id_in s ++ codes "/") (sym cut ∙ (origin_is s is).1)))

pub caller_of-no_id : (s x id : List ℕ) → s ≡ codes "chrome-extension://" ++ x → x ≡ id ++ codes "/" → (is_extension_id id ≡ true → ⊥) → None ≡ caller_of s
caller_of-no_id s x id cut end none =
    not_origin s (λ is.
    let origin = origin_is s is in
    let tail = append_cancel_left (codes "chrome-extension://") x (id_in s ++ codes "/") (sym cut ∙ origin.1) in
    let same = append_cancel_right id (id_in s) (codes "/") (sym end ∙ tail) in
    none (ap is_extension_id same ∙ origin.0))

id_length : (id : List ℕ) → is_extension_id id ≡ true → length id ≡ 32
id_length id h = grind (arith, nat_tests)

id_in-origin_of : (id : List ℕ) → is_extension_id id ≡ true → id_in (origin_of id) ≡ id
id_in-origin_of id h = take_at id (codes "/") 32 (id_length id h)

pub is_origin-origin_of : (id : List ℕ) → is_extension_id id ≡ true → is_origin (origin_of id) ≡ true
unfolding is_origin
is_origin-origin_of id h =
    let e = id_in-origin_of id h in
    and_from (is_extension_id (id_in (origin_of id))) (bytes_eq (origin_of id) (origin_of (id_in (origin_of id))))
    (ap is_extension_id e ∙ h) ((bytes_eq-Decides (origin_of id) (origin_of (id_in (origin_of id)))).1 (ap origin_of (sym e)))

pub caller_of-origin : (s x id : List ℕ) → s ≡ codes "chrome-extension://" ++ x → x ≡ id ++ codes "/" → is_extension_id id ≡ true → Some id ≡ caller_of s
caller_of-origin s x id cut end is =
    let e : s ≡ origin_of id = cut ∙ ap (λ y. codes "chrome-extension://" ++ y) end in
    sym (ap caller_of e ∙ cond-true (is_origin (origin_of id)) (Some (id_in (origin_of id))) None (is_origin-origin_of id is) ∙ ap Some (id_in-origin_of id is))

module _ (text s p : List ℕ) (bytes : s ≡ text) (scheme : p ≡ codes "chrome-extension://") where
  pub after_no_scheme : pointwise eqb (take (length p) s) p ≡ false → None ≡ caller_of text
  after_no_scheme h =
      caller_of-no_scheme text (λ rest is. strip_prefix_is Decides-eqb s p None h rest (bytes ∙ is ∙ ap (λ q. q ++ rest) (sym scheme)))

  pub cut_scheme : (x : Bor (List ℕ)) → (pointwise eqb (take (length p) s) p ≡ true) × (x.now ≡ drop (length p) s) × (length x.now + length p ≡ length s)
      → text ≡ codes "chrome-extension://" ++ x.now
  cut_scheme x h = sym bytes ∙ strip_prefix_is Decides-eqb s p (Some x) h ∙ ap (λ q. q ++ x.now) scheme

module _ (x : List ℕ) where
  pub no_slash : pointwise eqb (drop (length x - 1) x) (codes "/") ≡ false → (front : List ℕ) → x ≢ front ++ codes "/"
  no_slash h = strip_suffix_is Decides-eqb x (codes "/") None h

  pub cut_slash : (id : Bor (List ℕ)) → (pointwise eqb (drop (length x - 1) x) (codes "/") ≡ true) × (id.now ≡ take (length x - 1) x) × (length id.now + 1 ≡ length x)
      → x ≡ id.now ++ codes "/"
  cut_slash id h = strip_suffix_is Decides-eqb x (codes "/") (Some id) h
