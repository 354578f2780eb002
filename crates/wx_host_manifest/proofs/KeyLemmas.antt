-- What stands under a key, file names and lists of origins.
use Rattle.std.proofs.Common.{◌≡◌, ℕ, zero, suc, ◌+◌, ◌-◌, ◌∷◌, ◌++◌, List, [], length, drop, take, map, Bor, eqb, refl, Bool, true, false, Option, Some, None, Result, ap, sym, ◌∙◌, inl, inr}
use Rattle.std.specs.Prelude.{codes, is_some, not, ◌||◌, slice_get}
use Rattle.std.specs.List.{position_from, list_all, list_any}
use Rattle.std.specs.Cmp.Lexicographic.{pointwise}
use Rattle.std.specs.Str.{bytes_eq}
use Rattle.std.proofs.lemmas.Bool.{cases_Bool, cond-true, cond-false, and_parts, and_from, false_from_ne_true, not_from_true, not_from_false, false≢true}
use Rattle.std.proofs.lemmas.Bool.Decides.{same_from_decides, Decides-like, Decides-eqb}
use Rattle.std.proofs.lemmas.List.{append_cancel_right, map-append, take_more}
use Rattle.std.proofs.lemmas.Option.{slice_get_within, get_or_from_slice_get}
use Rattle.std.proofs.lemmas.Slice.Eq.{bytes_eq-Decides, strip_suffix_is}
use Rattle.serde_json.specs.Data.{Data}
use Rattle.serde_json.specs.Find.{get, as_str}
use Rattle.wx_id.specs.HostNames.{is_host_name, host_name_fault}
use Rattle.wx_id.proofs.HostNameLemmas.{no_fault_from_host_name}
use Rattle.wx_manifest_tree.proofs.Places.{position_here, position_later}
use Rattle.wx_manifest_tree.specs.Tree.{required}
use Rattle.wx_manifest_tree.specs.declared.KeyFault.{KeyFault}
use Rattle.wx_host_manifest.specs.Origins.{origin_of, id_in, is_origin, caller_of}
use Rattle.wx_host_manifest.proofs.OriginLemmas.{origin_is}
use Rattle.wx_host_manifest.specs.HostManifests.{under, key_name, text_of}
use Rattle.wx_host_manifest.specs.declared.faults.HostKey.{HostKey}

pub text_of-under : (r : Result (List ℕ) KeyFault) (key : HostKey) (k : List ℕ) (d : Data) → k ≡ key_name key
    → r ≡ required as_str (get k d) → under key r ≡ text_of key d
unfolding text_of
text_of-under r key k d is found = ap (under key) (found ∙ ap (λ n. required as_str (get n d)) is)

pub bytes_eq-append : (a b c : List ℕ) → bytes_eq a b ≡ bytes_eq (a ++ c) (b ++ c)
bytes_eq-append a b c =
    same_from_decides _ _ (bytes_eq-Decides a b)
    (Decides-like (bytes_eq (a ++ c) (b ++ c)) (append_cancel_right a b c) (λ e. ap (λ x. x ++ c) e) (bytes_eq-Decides (a ++ c) (b ++ c)))

module _ (file s : List ℕ) (bytes : s ≡ file) where
  pub file_with_stem : (stem : Bor (List ℕ))
      → (pointwise eqb (drop (length s - 5) s) (codes ".json") ≡ true) × (stem.now ≡ take (length s - 5) s) × (length stem.now + 5 ≡ length s)
      → (name n : List ℕ) → n ≡ name → bytes_eq stem.now n ≡ bytes_eq file (name ++ codes ".json")
  file_with_stem stem h name n is =
      let cut = sym bytes ∙ strip_suffix_is Decides-eqb s (codes ".json") (Some stem) h in
      ap (bytes_eq stem.now) is ∙ bytes_eq-append stem.now name (codes ".json") ∙ ap (λ f. bytes_eq f (name ++ codes ".json")) (sym cut)

  pub file_without_stem : pointwise eqb (drop (length s - 5) s) (codes ".json") ≡ false → (name : List ℕ) → false ≡ bytes_eq file (name ++ codes ".json")
  file_without_stem h name =
      let none = strip_suffix_is Decides-eqb s (codes ".json") None h name in
      let said = bytes_eq-Decides file (name ++ codes ".json") in
      sym (false_from_ne_true (bytes_eq file (name ++ codes ".json")) (λ same. none (bytes ∙ said.0 same)))

-- no extension's origin
abbrev is_other : List ℕ → Bool
is_other text = not (is_origin text)

not_origin_from_none : (x : List ℕ) → None ≡ caller_of x → is_origin x ≡ false
not_origin_from_none x h =
    elim (cases_Bool (is_origin x)) [
      | inl is ↦ let some = cond-true (is_origin x) (Some (id_in x)) None is in absurd (cc)
      | inr is ↦ is
    ]

pub origin_from_some : (x id : List ℕ) → Some id ≡ caller_of x → (is_origin x ≡ true) × (origin_of id ≡ x)
origin_from_some x id h =
    elim (cases_Bool (is_origin x)) [
      | inl is ↦
          let some = h ∙ cond-true (is_origin x) (Some (id_in x)) None is in
          let same : id ≡ id_in x = cc in
          (is, ap origin_of same ∙ sym (origin_is x is).1)
      | inr is ↦ let none = cond-false (is_origin x) (Some (id_in x)) None is in absurd (cc)
    ]

pub bad_here : (xs : List (List ℕ)) (i : ℕ) (x : List ℕ) → slice_get xs i ≡ Some x → None ≡ caller_of x
    → position_from (λ text. not (is_origin text)) i (drop i xs) ≡ Some i
bad_here xs i x here none =
    position_here is_other xs i x here (not_from_false (is_origin x) (not_origin_from_none x none))

bad_later : (xs : List (List ℕ)) (i : ℕ) (x id : List ℕ) → slice_get xs i ≡ Some x → Some id ≡ caller_of x
    → position_from (λ text. not (is_origin text)) i (drop i xs) ≡ position_from (λ text. not (is_origin text)) (i + 1) (drop (i + 1) xs)
bad_later xs i x id here some =
    position_later is_other xs i x here (not_from_true (is_origin x) (origin_from_some x id some).0)

pub all_origins : (xs : List (List ℕ)) (n : ℕ) → position_from (λ text. not (is_origin text)) n xs ≡ None → list_all is_origin xs ≡ true
all_origins [] n h = refl
all_origins (x ∷ xs) n h =
    elim (cases_Bool (is_origin x)) [
      | inl is ↦ and_from (is_origin x) (list_all is_origin xs) is
          (all_origins xs (n + 1) (sym (cond-false (is_other x) _ _ (not_from_true (is_origin x) is)) ∙ h))
      | inr is ↦ let some = sym (cond-true (is_other x) (Some n) (position_from is_other (n + 1) xs) (not_from_false (is_origin x) is)) ∙ h in absurd (cc)
    ]

origin_at : (xs : List (List ℕ)) (i : ℕ) (x : List ℕ) → list_all is_origin xs ≡ true → slice_get xs i ≡ Some x → is_origin x ≡ true
origin_at [] i x all here = absurd (cc)
origin_at (y ∷ ys) zero x all here =
    let same : y ≡ x = cc in
    ap is_origin (sym same) ∙ (and_parts (is_origin y) (list_all is_origin ys) all).0
origin_at (y ∷ ys) (suc i) x all here = origin_at ys i x (and_parts (is_origin y) (list_all is_origin ys) all).1 here

pub never_other : (xs : List (List ℕ)) (i : ℕ) (x : List ℕ) → list_all is_origin xs ≡ true → slice_get xs i ≡ Some x → None ≡ caller_of x → ⊥
never_other xs i x all here none = false≢true (sym (not_origin_from_none x none) ∙ origin_at xs i x all here)

pub callers_more : (ids xs : List (List ℕ)) (i : ℕ) (x id : List ℕ) → map origin_of ids ≡ take i xs → slice_get xs i ≡ Some x → Some id ≡ caller_of x
    → map origin_of (ids ++ id ∷ []) ≡ take (i + 1) xs
callers_more ids xs i x id front here some =
    map-append origin_of ids (id ∷ [])
    ∙ ap (λ ys. ys ++ origin_of id ∷ []) front
    ∙ ap (λ y. take i xs ++ y ∷ []) ((origin_from_some x id some).1 ∙ sym (get_or_from_slice_get xs i x x here))
    ∙ sym (take_more xs i x (slice_get_within xs i x here))

pub list_any-origins : (ids : List (List ℕ)) (id : List ℕ) → list_any (λ y. bytes_eq y id) ids ≡ list_any (λ origin. bytes_eq origin (origin_of id)) (map origin_of ids)
list_any-origins [] id = refl
list_any-origins (y ∷ ys) id =
    ap (λ b. b || list_any (λ z. bytes_eq z id) ys) (bytes_eq-append y id (codes "/"))
    ∙ ap (λ b. bytes_eq (y ++ codes "/") (id ++ codes "/") || b) (list_any-origins ys id)

pub bad_next : (xs : List (List ℕ)) (i : ℕ) (x : List ℕ) (o : Option (List ℕ)) → slice_get xs i ≡ Some x → o ≡ caller_of x → is_some o ≡ true
    → position_from (λ text. not (is_origin text)) i (drop i xs) ≡ position_from (λ text. not (is_origin text)) (i + 1) (drop (i + 1) xs)
bad_next xs i x (Some id) here is some = bad_later xs i x id here is
bad_next xs i x None here is some = absurd (cc)

pub never_faulty : (bytes name : List ℕ) (place : ℕ) → bytes ≡ name → is_host_name name ≡ true → host_name_fault bytes ≡ Some place → ⊥
never_faulty bytes name place is good fault =
    let none = no_fault_from_host_name name good in
    let same = ap host_name_fault is in
    absurd (cc)
