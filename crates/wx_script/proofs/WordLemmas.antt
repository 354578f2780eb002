-- A word and what stands after it.
use Rattle.std.proofs.Common.{◌≡◌, ◌≢◌, ℕ, suc, ◌+◌, Bool, true, false, not, ◌&&◌, cond, List, [], ◌∷◌, ◌++◌, length, refl, subst, ap, ◌∙◌, arith, Option, None, Some}
use Rattle.std.specs.Prelude.{◌==◌, IsTrue, nat_le, nat_lt}
use Rattle.std.specs.List.{list_all}
use Rattle.std.proofs.lemmas.Bool.{and_parts, eqb-true, ne_eqb}
use Rattle.std.specs.Str.{IsUtf8, bytes_eq}
use Rattle.std.specs.Prelude.{codes, get_or, ◌<◌}
use Rattle.std.proofs.lemmas.Str.{IsUtf8-drop, IsCharBoundary-after_ascii}
use Rattle.std.proofs.lemmas.List.{length-append}
use Rattle.std.proofs.Math.Seq.{get_or-append_seam, drop-append-add}
use Rattle.std.proofs.lemmas.Bool.Decides.{nat_tests}
use Rattle.wx_context.specs.Paths.{is_printable_byte, is_printable}
use Rattle.wx_context.proofs.PathLemmas.{IsUtf8-from_list_all, printable_is_utf8}
use Rattle.wx_id.specs.HostNames.{is_word_byte}
use Rattle.std.specs.Option.{option_or, unwrap_or}
use Rattle.wx_script.specs.Words.{behind_slash, file_name, word, rest, behind, is_name, is_word, is_identifier, is_letter}

abbrev pub is_no_space : ℕ → Bool
is_no_space b = not (b == 32)

pub word-behind : (w : List ℕ) (more : Option (List ℕ)) → list_all is_no_space w ≡ true → word (w ++ behind more) ≡ w
word-behind [] None h = refl
word-behind [] (Some text) h = refl
word-behind (b ∷ w) more h =
    elim (b == 32) as (λ t. (not t && list_all is_no_space w) ≡ true → cond t [] (b ∷ word (w ++ behind more)) ≡ b ∷ w) [
      | true ↦ λ h. absurd cc
      | false ↦ λ h. ap (λ v. b ∷ v) (word-behind w more h)
    ] h

pub rest-behind : (w : List ℕ) (more : Option (List ℕ)) → list_all is_no_space w ≡ true → rest (w ++ behind more) ≡ more
rest-behind [] None h = refl
rest-behind [] (Some text) h = refl
rest-behind (b ∷ w) more h =
    elim (b == 32) as (λ t. (not t && list_all is_no_space w) ≡ true → cond t (Some (w ++ behind more)) (rest (w ++ behind more)) ≡ more) [
      | true ↦ λ h. absurd cc
      | false ↦ λ h. rest-behind w more h
    ] h

-- a text is its first word and what stands after it
pub parts : (text : List ℕ) → text ≡ word text ++ behind (rest text)
parts [] = refl
parts (b ∷ bs) =
    elim (b == 32) as (λ t. (b == 32) ≡ t → b ∷ bs ≡ cond t [] (b ∷ word bs) ++ behind (cond t (Some bs) (rest bs))) [
      | true ↦ λ is. ap (λ n. n ∷ bs) (eqb-true b 32 is)
      | false ↦ λ is. ap (λ v. b ∷ v) (parts bs)
    ] refl

pub two_parts : (text more : List ℕ) → rest text ≡ Some more → text ≡ word text ++ 32 ∷ more
two_parts text more e = parts text ∙ ap (λ r. word text ++ behind r) e

-- bytes that all pass a test that a space does not pass
pub no_space : (p : ℕ → Bool) → ((b : ℕ) → p b ≡ true → is_no_space b ≡ true) → (w : List ℕ) → list_all p w ≡ true → list_all is_no_space w ≡ true
no_space p none [] h = refl
no_space p none (b ∷ w) h = rw (none b (and_parts (p b) (list_all p w) h).0) (no_space p none w (and_parts (p b) (list_all p w) h).1)

is_no_space-name_byte : (b : ℕ) → is_word_byte b ≡ true → is_no_space b ≡ true
is_no_space-name_byte b h =
    elim (b == 32) as (λ t. (b == 32) ≡ t → not t ≡ true) [
      | true ↦ λ is. let b_is : b ≡ 32 = eqb-true b 32 is in let wrong : is_word_byte 32 ≡ true = rw b_is at h in absurd cc
      | false ↦ λ is. refl
    ] refl

-- the bytes of an identifier are bytes of names
identifier_bytes : (w : List ℕ) → is_identifier w ≡ true → list_all is_word_byte w ≡ true
identifier_bytes [] h = absurd cc
identifier_bytes (b ∷ w) h =
    elim (is_letter b) as (λ t. is_letter b ≡ t → (t && list_all is_word_byte w && nat_lt (length w) 32) ≡ true → list_all is_word_byte (b ∷ w) ≡ true) [
      | true ↦ λ first h.
          elim (list_all is_word_byte w) as (λ t. list_all is_word_byte w ≡ t → (t && nat_lt (length w) 32) ≡ true → list_all is_word_byte (b ∷ w) ≡ true) [
            | true ↦ λ others h. rw (first, others) refl
            | false ↦ λ others h. absurd cc
          ] refl h
      | false ↦ λ first h. absurd cc
    ] refl h

name_bytes-is_name : (w : List ℕ) → is_name w ≡ true → list_all is_word_byte w ≡ true
name_bytes-is_name w h = identifier_bytes w (and_parts (is_identifier w) (not (bytes_eq w (codes "same"))) h).0

-- a name has no space
pub name_no_space : (w : List ℕ) → IsTrue (is_name w) → list_all is_no_space w ≡ true
name_no_space w h = no_space is_word_byte is_no_space-name_byte w (name_bytes-is_name w h)

-- a name is not `same`
pub name_not_same : (w : List ℕ) → IsTrue (is_name w) → bytes_eq w (codes "same") ≡ false
name_not_same w h = is_not (bytes_eq w (codes "same")) (and_parts (is_identifier w) (not (bytes_eq w (codes "same"))) h).1
  where
    is_not : (b : Bool) → not b ≡ true → b ≡ false
    is_not true h = absurd cc
    is_not false h = refl

name_byte_is_ascii : (b : ℕ) → is_word_byte b ≡ true → b < 128
name_byte_is_ascii b h = grind (arith, nat_tests)

pub names_are_utf8 : (w : List ℕ) → is_name w ≡ true → IsUtf8 w
names_are_utf8 w h = IsUtf8-from_list_all is_word_byte w name_byte_is_ascii (name_bytes-is_name w h)

word_bytes : (w : List ℕ) → is_word w ≡ true → is_printable w ≡ true
word_bytes [] h = absurd cc
word_bytes (b ∷ w) h = h

printable_byte_is_no_space : (b : ℕ) → is_printable_byte b ≡ true → is_no_space b ≡ true
printable_byte_is_no_space b h = grind (arith, nat_tests)

-- a word has no space
pub word_no_space : (w : List ℕ) → IsTrue (is_word w) → list_all is_no_space w ≡ true
word_no_space w h = no_space is_printable_byte printable_byte_is_no_space w (word_bytes w h)

pub words_are_utf8 : (w : List ℕ) → is_word w ≡ true → IsUtf8 w
words_are_utf8 w h = printable_is_utf8 w (word_bytes w h)

-- ---- a file's own name

some_or : {A : Type 0} (o : Option A) (x : A) → option_or o (Some x) ≡ Some (unwrap_or o x)
some_or None x = refl
some_or (Some y) x = refl

behind_slash-slash : (front more : List ℕ) → behind_slash (front ++ 47 ∷ more) ≡ Some (file_name more)
behind_slash-slash [] more = some_or (behind_slash more) more
behind_slash-slash (b ∷ front) more = rw (behind_slash-slash front more) refl

pub file_name-slash : (text front more : List ℕ) → text ≡ front ++ 47 ∷ more → file_name text ≡ file_name more
file_name-slash text front more is = rw (is, behind_slash-slash front more) refl

behind_slash-none : (file : List ℕ) → ((k : ℕ) → k < length file → get_or file k 0 ≢ 47) → behind_slash file ≡ None
behind_slash-none [] none = refl
behind_slash-none (b ∷ bs) none =
    let other_byte : (b == 47) ≡ false = ne_eqb b 47 (none 0 (omega arith)) in
    rw (other_byte, behind_slash-none bs (λ k within. none (suc k) (omega (arith, within)))) refl

pub file_name-no_slash : (file : List ℕ) → ((k : ℕ) → k < length file → get_or file k 0 ≢ 47) → file_name file ≡ file
file_name-no_slash file none = rw (behind_slash-none file none) refl

-- what stands after a `/` of a text is a text
pub utf8_behind_slash : (text front more : List ℕ) → text ≡ front ++ 47 ∷ more → IsUtf8 text → IsUtf8 more
utf8_behind_slash text front more is utf8 =
    let whole : IsUtf8 (front ++ 47 ∷ more) = subst IsUtf8 is utf8 in
    let within : length front < length (front ++ 47 ∷ more) = omega (arith, length-append front (47 ∷ more)) in
    let slash : get_or (front ++ 47 ∷ more) (length front) 0 ≡ 47 = get_or-append_seam front 47 more 0 in
    subst IsUtf8 (drop-append-add front (47 ∷ more) 1)
    (IsUtf8-drop (front ++ 47 ∷ more) (length front + 1) whole (IsCharBoundary-after_ascii (front ++ 47 ∷ more) (length front) whole within (omega (arith, slash))))
