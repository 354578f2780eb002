-- What the simple commands read of the words behind a command's name, and which they refuse.
use Rattle.std.proofs.Common.{◌≡◌, ◌∙◌, true, List, [], ◌∷◌, drop, Option, Some, None, refl, sym, subst, ap, ap₂, codes, inl, inr}
use Rattle.std.specs.Prelude.{◌⊎◌, ◌≢◌}
use Rattle.std.specs.List.{list_all}
use Rattle.std.proofs.lemmas.Bool.{and_parts}
use Rattle.clap.specs.Walk.{Held, rows_of, Text, Walk, finished, first_of, walked, walk, nothing_held, reading_by}
use Rattle.clap.specs.Simple.{App, Shape, built, matches_of}
use Rattle.clap.specs.Kinds.{Kinds, HasKind, or_else}
use Rattle.clap.specs.Values.{kind_of}
use Rattle.clap.specs.Faults.{defaults_fault, fault_of, walk_fault}
use Rattle.clap.specs.Matches.{first_value}
use Rattle.clap.specs.declared.parser.matches.Found.{Found}
use Rattle.clap.proofs.WalkLemmas.{first_value-rows}
use Rattle.clap.specs.declared.error.Error.{Error}
use Rattle.clap.specs.declared.error.kind.ErrorKind.{ErrorKind}
use Rattle.clap.specs.declared.error.kind.ErrorKind.TheVariants as kind
use Rattle.clap.specs.declared.parser.matches.ValueSource.TheVariants.{CommandLine}
use Rattle.wx_words.specs.Words.{is_operand, match_in, file_in}
use Rattle.wx_words.specs.Readers.{wanted, both, pattern_id, url_id, file_id, match_reader, file_reader}
use Rattle.wx_words.proofs.Walks.{IsPlain, operand_plain, between, operand_faults, operand_walked, faults_at, found_at, behind_walk}

-- some fault
abbrev pub IsFaulty : Kinds → Type 0
IsFaulty faults = (k : ErrorKind) × (ks : Kinds) × (faults ≡ k ∷ ks)

-- A reader's faults, and what it finds, are right for these words: it finds what is expected, or it has a fault and
-- nothing is expected.
abbrev pub IsRight : {X : Type 0} → Kinds → Option X → Option X → Type 0
IsRight faults found expected = ((faults ≡ []) × (found ≡ expected)) ⊎ (IsFaulty faults × (expected ≡ None))

pub refused_behind : (reader : App) (w : Walk) (faults : Kinds) (k : ErrorKind) (ks : Kinds) → faults ≡ k ∷ ks → IsFaulty (or_else faults (behind_walk reader w))
refused_behind reader w faults k ks is = (k, ks, ap (λ (f : Kinds). or_else f (behind_walk reader w)) is)

-- the first word is an operand, and so are the others
first_operand : (word : Text) (rest : List Text) → list_all is_operand (word ∷ rest) ≡ true → is_operand word ≡ true
first_operand word rest all = (and_parts (is_operand word) (list_all is_operand rest) all).0

other_operands : (word : Text) (rest : List Text) → list_all is_operand (word ∷ rest) ≡ true → list_all is_operand rest ≡ true
other_operands word rest all = (and_parts (is_operand word) (list_all is_operand rest) all).1

-- ---- a file

abbrev file_top : Text → Shape
file_top name = (built (file_reader name)).top

-- what the walk holds behind the file's name
abbrev with_file : Text → Held
with_file file = record { rows = []; pending = Some (codes "file", file ∷ []); skip = 0 }

file_walk : (name file : Text) → IsPlain file → walk (file_top name).rules [] nothing_held (file ∷ []) ≡ between (with_file file) 2
file_walk name file is = operand_walked (file_top name).rules nothing_held 1 file is

file_found : (name file : Text) → IsPlain file → found_at (file_reader name) (codes "file") (file ∷ []) ≡ Some file
file_found name file is = ap (λ (w : Walk). first_of (codes "file") (finished (file_top name).rules w.held)) (file_walk name file is)

file_none : (name : Text) → IsFaulty (faults_at (file_reader name) [])
unfolding walk_fault defaults_fault
file_none name = (kind.MissingRequiredArgument, [], refl)

file_one : (name file : Text) → IsPlain file → faults_at (file_reader name) (file ∷ []) ≡ []
unfolding walk_fault defaults_fault
file_one name file is = ap₂ or_else (operand_faults (file_top name) nothing_held 1 file [] is) (ap (behind_walk (built (file_reader name))) (file_walk name file is))

file_more : (name one two : Text) (rest : List Text) → IsPlain one → IsPlain two → IsFaulty (faults_at (file_reader name) (one ∷ two ∷ rest))
file_more name one two rest one_is two_is =
    refused_behind (built (file_reader name)) (walk (file_top name).rules [] nothing_held (one ∷ two ∷ rest)) _ kind.UnknownArgument []
    (operand_faults (file_top name) nothing_held 1 one (two ∷ rest) one_is ∙ operand_faults (file_top name) (with_file one) 2 two rest two_is)

pub file_right : (name : Text) (words : List Text) → list_all is_operand words ≡ true
    → IsRight (faults_at (file_reader name) words) (found_at (file_reader name) (codes "file") words) (file_in words)
file_right name [] all = inr (file_none name, refl)
file_right name (file ∷ []) all =
    let is = first_operand file [] all in
    inl (file_one name file (operand_plain file is), file_found name file (operand_plain file is) ∙ rw is refl)
file_right name (one ∷ two ∷ rest) all =
    let others = other_operands one (two ∷ rest) all in
    inr (file_more name one two rest (operand_plain one (first_operand one (two ∷ rest) all)) (operand_plain two (first_operand two rest others)), refl)

-- ---- match

abbrev match_top : Shape
match_top = (built match_reader).top

-- what the walk holds behind the pattern, and behind the URL
abbrev with_pattern : Text → Held
with_pattern pattern = record { rows = []; pending = Some (codes "pattern", pattern ∷ []); skip = 0 }

abbrev with_url : Text → Text → Held
with_url pattern url = record {
  rows = record { id = codes "pattern"; values = pattern ∷ []; count = None; source = Some CommandLine; reading = reading_by (wanted (codes "pattern")) } ∷ [];
  pending = Some (codes "url", url ∷ []);
  skip = 0;
}

match_walk : (pattern url : Text) → IsPlain pattern → IsPlain url → walk match_top.rules [] nothing_held (pattern ∷ url ∷ []) ≡ between (with_url pattern url) 3
match_walk pattern url pattern_is url_is =
    ap (λ (w : Walk). walked match_top.rules [] w url) (operand_walked match_top.rules nothing_held 1 pattern pattern_is)
    ∙ operand_walked match_top.rules (with_pattern pattern) 2 url url_is

match_pattern : (pattern url : Text) → IsPlain pattern → IsPlain url → found_at match_reader (codes "pattern") (pattern ∷ url ∷ []) ≡ Some pattern
match_pattern pattern url pattern_is url_is = ap (λ (w : Walk). first_of (codes "pattern") (finished match_top.rules w.held)) (match_walk pattern url pattern_is url_is)

match_url : (pattern url : Text) → IsPlain pattern → IsPlain url → found_at match_reader (codes "url") (pattern ∷ url ∷ []) ≡ Some url
match_url pattern url pattern_is url_is = ap (λ (w : Walk). first_of (codes "url") (finished match_top.rules w.held)) (match_walk pattern url pattern_is url_is)

match_none : IsFaulty (faults_at match_reader [])
unfolding walk_fault defaults_fault
match_none = (kind.MissingRequiredArgument, [], refl)

match_one : (pattern : Text) → IsPlain pattern → IsFaulty (faults_at match_reader (pattern ∷ []))
unfolding walk_fault defaults_fault
match_one pattern is = (kind.MissingRequiredArgument, [], ap₂ or_else (operand_faults match_top nothing_held 1 pattern [] is) (ap (behind_walk (built match_reader)) (operand_walked match_top.rules nothing_held 1 pattern is)))

match_two : (pattern url : Text) → IsPlain pattern → IsPlain url → faults_at match_reader (pattern ∷ url ∷ []) ≡ []
unfolding walk_fault defaults_fault
match_two pattern url pattern_is url_is =
    ap₂ or_else (operand_faults match_top nothing_held 1 pattern (url ∷ []) pattern_is ∙ operand_faults match_top (with_pattern pattern) 2 url [] url_is)
    (ap (behind_walk (built match_reader)) (match_walk pattern url pattern_is url_is))

match_more : (one two three : Text) (rest : List Text) → IsPlain one → IsPlain two → IsPlain three → IsFaulty (faults_at match_reader (one ∷ two ∷ three ∷ rest))
match_more one two three rest one_is two_is three_is =
    refused_behind (built match_reader) (walk match_top.rules [] nothing_held (one ∷ two ∷ three ∷ rest)) _ kind.UnknownArgument []
    (operand_faults match_top nothing_held 1 one (two ∷ three ∷ rest) one_is ∙ operand_faults match_top (with_pattern one) 2 two (three ∷ rest) two_is
    ∙ operand_faults match_top (with_url one two) 3 three rest three_is)

pub match_right : (words : List Text) → list_all is_operand words ≡ true
    → IsRight (faults_at match_reader words) (both (found_at match_reader (codes "pattern") words) (found_at match_reader (codes "url") words)) (match_in words)
match_right [] all = inr (match_none, refl)
match_right (pattern ∷ []) all = inr (match_one pattern (operand_plain pattern (first_operand pattern [] all)), refl)
match_right (pattern ∷ url ∷ []) all =
    let pattern_is = first_operand pattern (url ∷ []) all in
    let url_is = first_operand url [] (other_operands pattern (url ∷ []) all) in
    let p = operand_plain pattern pattern_is in
    let u = operand_plain url url_is in
    inl (match_two pattern url p u, ap₂ both (match_pattern pattern url p u) (match_url pattern url p u) ∙ rw (pattern_is, url_is) refl)
match_right (one ∷ two ∷ three ∷ rest) all =
    let others = other_operands one (two ∷ three ∷ rest) all in
    let last = other_operands two (three ∷ rest) others in
    inr (
      match_more one two three rest (operand_plain one (first_operand one (two ∷ three ∷ rest) all)) (operand_plain two (first_operand two (three ∷ rest) others))
          (operand_plain three (first_operand three rest last)),
      refl,
    )

-- ---- how a reader's answer is taken

fault_and_none : (k : ErrorKind) (ks : Kinds) → k ∷ ks ≡ [] → ⊥
fault_and_none k ks e = cc

-- where a reader answers Ok, what it found is what is expected
pub read_right : {X : Type 0} (faults : Kinds) (found expected : Option X) → IsRight faults found expected → faults ≡ [] → found ≡ expected
read_right faults found expected right none = elim right [
  | inl h ↦ h.1
  | inr h ↦ absurd (fault_and_none h.0.0 h.0.1 (sym h.0.2 ∙ none))
]

-- where it answers Err, and not for want of memory, nothing is expected
pub refused_right : {X : Type 0} (faults : Kinds) (found expected : Option X) (e : Error) → IsRight faults found expected → HasKind faults e → kind_of e ≢ kind.OutOfMemory → None ≡ expected
refused_right faults found expected e right has other = elim right [
  | inl h ↦ elim (subst (λ (f : Kinds). HasKind f e) h.0 has) [ inl m ↦ absurd (other m) | inr n ↦ absurd n ]
  | inr h ↦ sym h.1
]

pub match_read : (words : List Text) (found : Found) → list_all is_operand (drop 1 words) ≡ true → rows_of found ≡ matches_of match_reader words → fault_of match_reader words ≡ []
    → both (first_value found pattern_id) (first_value found url_id) ≡ match_in (drop 1 words)
match_read words found all rows none =
    ap₂ both (first_value-rows found pattern_id ∙ ap (first_of pattern_id) rows) (first_value-rows found url_id ∙ ap (first_of url_id) rows)
    ∙ read_right (faults_at match_reader (drop 1 words)) (both (found_at match_reader pattern_id (drop 1 words)) (found_at match_reader url_id (drop 1 words))) (match_in (drop 1 words)) (match_right (drop 1 words) all) none

pub match_refused : (words : List Text) (e : Error) → list_all is_operand (drop 1 words) ≡ true → HasKind (fault_of match_reader words) e → kind_of e ≢ kind.OutOfMemory → None ≡ match_in (drop 1 words)
match_refused words e all has other =
    refused_right (faults_at match_reader (drop 1 words)) (both (found_at match_reader pattern_id (drop 1 words)) (found_at match_reader url_id (drop 1 words))) (match_in (drop 1 words)) e (match_right (drop 1 words) all) has other

pub file_read : (name : Text) (words : List Text) (found : Found) → list_all is_operand (drop 1 words) ≡ true → rows_of found ≡ matches_of (file_reader name) words → fault_of (file_reader name) words ≡ []
    → first_value found file_id ≡ file_in (drop 1 words)
file_read name words found all rows none =
    first_value-rows found file_id ∙ ap (first_of file_id) rows
    ∙ read_right (faults_at (file_reader name) (drop 1 words)) (found_at (file_reader name) file_id (drop 1 words)) (file_in (drop 1 words)) (file_right name (drop 1 words) all) none

pub file_refused : (name : Text) (words : List Text) (e : Error) → list_all is_operand (drop 1 words) ≡ true → HasKind (fault_of (file_reader name) words) e → kind_of e ≢ kind.OutOfMemory → None ≡ file_in (drop 1 words)
file_refused name words e all has other =
    refused_right (faults_at (file_reader name) (drop 1 words)) (found_at (file_reader name) file_id (drop 1 words)) (file_in (drop 1 words)) e (file_right name (drop 1 words) all) has other
