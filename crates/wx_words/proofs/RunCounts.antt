-- What the simple command of a run reads of the words behind `run`, and which it refuses.
use Rattle.std.proofs.Common.{◌≡◌, ◌∙◌, ◌||◌, ℕ, Bool, true, false, List, [], ◌∷◌, Some, None, refl, sym, subst, ap, ap₂, codes, inl, inr}
use Rattle.std.specs.Prelude.{◌⊎◌, ◌≢◌, drop}
use Rattle.std.specs.List.{list_all}
use Rattle.std.proofs.lemmas.Bool.{and_parts, or_cases}
use Rattle.std.proofs.lemmas.Slice.Eq.{bytes_eq-Decides}
use Rattle.clap.specs.Walk.{Held, Row, Rule, Text, Walk, finished, first_of, nothing_held, rows_of, settled, used, walk, walked}
use Rattle.clap.specs.Simple.{Shape, built, filled, matches_of}
use Rattle.clap.specs.Kinds.{HasKind, or_else}
use Rattle.clap.specs.Faults.{defaults_fault, fault_of, react_fault, walk_fault}
use Rattle.clap.specs.Matches.{first_value}
use Rattle.clap.specs.Values.{kind_of}
use Rattle.clap.specs.declared.error.Error.{Error}
use Rattle.clap.specs.declared.parser.matches.Found.{Found}
use Rattle.clap.proofs.WalkLemmas.{first_value-rows}
use Rattle.clap.specs.declared.error.kind.ErrorKind.{ErrorKind}
use Rattle.clap.specs.declared.error.kind.ErrorKind.TheVariants as kind
use Rattle.wx_words.specs.Words.{is_operand, is_rounds, scene_in}
use Rattle.wx_words.specs.Readers.{rounds_flag, run_reader}
use Rattle.wx_words.proofs.Walks.{IsPlain, operand_plain, operand_no_flag, between, operand_faults, operand_walked, faults_at, found_at, behind_walk}
use Rattle.wx_words.proofs.Counts.{IsFaulty, IsRight, refused_behind, read_right, refused_right}

abbrev run_top : Shape
run_top = (built run_reader).top

-- the flag
abbrev pub rounds : Text
rounds = codes "--rounds"

abbrev flag_rule : Rule
flag_rule = filled rounds_flag

-- what the walk holds behind the flag
abbrev flagged : Held → Held
flagged held = record held { rows = used flag_rule [] (settled run_top.rules held).rows; pending = None }

-- what it holds behind the scene
abbrev with_scene : List Row → Text → Held
with_scene rows scene = record { rows = rows; pending = Some (codes "scene", scene ∷ []); skip = 0 }

flag_walked : (held : Held) (position : ℕ) → walked run_top.rules [] (between held position) rounds ≡ between (flagged held) position
unfolding walked
flag_walked held position = refl

flag_faults : (held : Held) (position : ℕ) (rest : List Text) → walk_fault run_top [] (between held position) (rounds ∷ rest)
    ≡ or_else (or_else (react_fault run_top.rules false flag_rule [] held) []) (walk_fault run_top [] (between (flagged held) position) rest)
unfolding walk_fault walked
flag_faults held position rest = refl

-- ---- the words that are read

scene_walk : (scene : Text) → IsPlain scene → walk run_top.rules [] nothing_held (scene ∷ []) ≡ between (with_scene [] scene) 2
scene_walk scene is = operand_walked run_top.rules nothing_held 1 scene is

scene_flag_walk : (scene : Text) → IsPlain scene → walk run_top.rules [] nothing_held (scene ∷ rounds ∷ []) ≡ between (flagged (with_scene [] scene)) 2
scene_flag_walk scene is = ap (λ (w : Walk). walked run_top.rules [] w rounds) (scene_walk scene is) ∙ flag_walked (with_scene [] scene) 2

flag_scene_walk : (scene : Text) → IsPlain scene → walk run_top.rules [] nothing_held (rounds ∷ scene ∷ []) ≡ between (with_scene (flagged nothing_held).rows scene) 2
flag_scene_walk scene is = ap (λ (w : Walk). walked run_top.rules [] w scene) (flag_walked nothing_held 1) ∙ operand_walked run_top.rules (flagged nothing_held) 1 scene is

scene_found : (scene : Text) → IsPlain scene → found_at run_reader (codes "scene") (scene ∷ []) ≡ Some scene
scene_found scene is = ap (λ (w : Walk). first_of (codes "scene") (finished run_top.rules w.held)) (scene_walk scene is)

scene_flag_found : (scene : Text) → IsPlain scene → found_at run_reader (codes "scene") (scene ∷ rounds ∷ []) ≡ Some scene
scene_flag_found scene is = ap (λ (w : Walk). first_of (codes "scene") (finished run_top.rules w.held)) (scene_flag_walk scene is)

flag_scene_found : (scene : Text) → IsPlain scene → found_at run_reader (codes "scene") (rounds ∷ scene ∷ []) ≡ Some scene
flag_scene_found scene is = ap (λ (w : Walk). first_of (codes "scene") (finished run_top.rules w.held)) (flag_scene_walk scene is)

scene_passes : (scene : Text) → IsPlain scene → faults_at run_reader (scene ∷ []) ≡ []
unfolding walk_fault defaults_fault
scene_passes scene is = ap₂ or_else (operand_faults run_top nothing_held 1 scene [] is) (ap (behind_walk (built run_reader)) (scene_walk scene is))

scene_flag_passes : (scene : Text) → IsPlain scene → faults_at run_reader (scene ∷ rounds ∷ []) ≡ []
unfolding walk_fault defaults_fault
scene_flag_passes scene is =
    ap₂ or_else (operand_faults run_top nothing_held 1 scene (rounds ∷ []) is ∙ flag_faults (with_scene [] scene) 2 []) (ap (behind_walk (built run_reader)) (scene_flag_walk scene is))

flag_scene_passes : (scene : Text) → IsPlain scene → faults_at run_reader (rounds ∷ scene ∷ []) ≡ []
unfolding walk_fault defaults_fault
flag_scene_passes scene is =
    ap₂ or_else (flag_faults nothing_held 1 (scene ∷ []) ∙ operand_faults run_top (flagged nothing_held) 1 scene [] is) (ap (behind_walk (built run_reader)) (flag_scene_walk scene is))

-- ---- the words that are refused

refuses : (words : List Text) (k : ErrorKind) → walk_fault run_top [] (between nothing_held 1) words ≡ k ∷ [] → IsFaulty (faults_at run_reader words)
refuses words k is = refused_behind (built run_reader) (walk run_top.rules [] nothing_held words) _ k [] is

none_refused : IsFaulty (faults_at run_reader [])
unfolding walk_fault defaults_fault
none_refused = (kind.MissingRequiredArgument, [], refl)

flag_refused : IsFaulty (faults_at run_reader (rounds ∷ []))
unfolding walk_fault defaults_fault
flag_refused = (kind.MissingRequiredArgument, [], ap₂ or_else (flag_faults nothing_held 1 []) (ap (behind_walk (built run_reader)) (flag_walked nothing_held 1)))

two_scenes : (one two : Text) (rest : List Text) → IsPlain one → IsPlain two → IsFaulty (faults_at run_reader (one ∷ two ∷ rest))
two_scenes one two rest one_is two_is =
    refuses _ kind.UnknownArgument (operand_faults run_top nothing_held 1 one (two ∷ rest) one_is ∙ operand_faults run_top (with_scene [] one) 2 two rest two_is)

two_flags : (rest : List Text) → IsFaulty (faults_at run_reader (rounds ∷ rounds ∷ rest))
two_flags rest = refuses _ kind.ArgumentConflict (flag_faults nothing_held 1 (rounds ∷ rest) ∙ flag_faults (flagged nothing_held) 1 rest)

scene_flag_scene : (one two : Text) (rest : List Text) → IsPlain one → IsPlain two → IsFaulty (faults_at run_reader (one ∷ rounds ∷ two ∷ rest))
scene_flag_scene one two rest one_is two_is =
    refuses _ kind.UnknownArgument (operand_faults run_top nothing_held 1 one (rounds ∷ two ∷ rest) one_is ∙ flag_faults (with_scene [] one) 2 (two ∷ rest)
    ∙ operand_faults run_top (flagged (with_scene [] one)) 2 two rest two_is)

scene_flag_flag : (one : Text) (rest : List Text) → IsPlain one → IsFaulty (faults_at run_reader (one ∷ rounds ∷ rounds ∷ rest))
scene_flag_flag one rest one_is =
    refuses _ kind.ArgumentConflict (operand_faults run_top nothing_held 1 one (rounds ∷ rounds ∷ rest) one_is ∙ flag_faults (with_scene [] one) 2 (rounds ∷ rest)
    ∙ flag_faults (flagged (with_scene [] one)) 2 rest)

flag_scene_scene : (one two : Text) (rest : List Text) → IsPlain one → IsPlain two → IsFaulty (faults_at run_reader (rounds ∷ one ∷ two ∷ rest))
flag_scene_scene one two rest one_is two_is =
    refuses _ kind.UnknownArgument (flag_faults nothing_held 1 (one ∷ two ∷ rest) ∙ operand_faults run_top (flagged nothing_held) 1 one (two ∷ rest) one_is
    ∙ operand_faults run_top (with_scene (flagged nothing_held).rows one) 2 two rest two_is)

flag_scene_flag : (one : Text) (rest : List Text) → IsPlain one → IsFaulty (faults_at run_reader (rounds ∷ one ∷ rounds ∷ rest))
flag_scene_flag one rest one_is =
    refuses _ kind.ArgumentConflict (flag_faults nothing_held 1 (one ∷ rounds ∷ rest) ∙ operand_faults run_top (flagged nothing_held) 1 one (rounds ∷ rest) one_is
    ∙ flag_faults (with_scene (flagged nothing_held).rows one) 2 rest)

-- ---- all words

-- a word of a run
abbrev pub is_of_run : Text → Bool
is_of_run word = is_operand word || is_rounds word

word_cases : (word : Text) → is_of_run word ≡ true → (is_operand word ≡ true) ⊎ (word ≡ rounds)
word_cases word is = elim (or_cases (is_operand word) (is_rounds word) is) [ inl a ↦ inl a | inr b ↦ inr ((bytes_eq-Decides word rounds).0 b) ]

first_of_run : (word : Text) (rest : List Text) → list_all is_of_run (word ∷ rest) ≡ true → (is_operand word ≡ true) ⊎ (word ≡ rounds)
first_of_run word rest all = word_cases word (and_parts (is_of_run word) (list_all is_of_run rest) all).0

others_of_run : (word : Text) (rest : List Text) → list_all is_of_run (word ∷ rest) ≡ true → list_all is_of_run rest ≡ true
others_of_run word rest all = (and_parts (is_of_run word) (list_all is_of_run rest) all).1

abbrev pub RunRight : List Text → Type 0
RunRight words = IsRight (faults_at run_reader words) (found_at run_reader (codes "scene") words) (scene_in words)

one_word : (one : Text) → (is_operand one ≡ true) ⊎ (one ≡ rounds) → RunRight (one ∷ [])
one_word one (inl a) = inl (scene_passes one (operand_plain one a), scene_found one (operand_plain one a) ∙ rw a refl)
one_word one (inr b) = subst (λ (w : Text). RunRight (w ∷ [])) (sym b) (inr (flag_refused, refl))

two_operands_none : (one two : Text) → is_operand one ≡ true → is_operand two ≡ true → scene_in (one ∷ two ∷ []) ≡ None
two_operands_none one two a b = rw (operand_no_flag one a, operand_no_flag two b) refl

scene_then_flag : (one : Text) → is_operand one ≡ true → Some one ≡ scene_in (one ∷ rounds ∷ [])
scene_then_flag one a = rw (operand_no_flag one a, a) refl

flag_then_scene : (two : Text) → is_operand two ≡ true → Some two ≡ scene_in (rounds ∷ two ∷ [])
flag_then_scene two b = rw b refl

two_words : (one two : Text) → (is_operand one ≡ true) ⊎ (one ≡ rounds) → (is_operand two ≡ true) ⊎ (two ≡ rounds) → RunRight (one ∷ two ∷ [])
two_words one two (inl a) (inl b) = inr (two_scenes one two [] (operand_plain one a) (operand_plain two b), two_operands_none one two a b)
two_words one two (inl a) (inr b) =
    let p = operand_plain one a in
    subst (λ (w : Text). RunRight (one ∷ w ∷ [])) (sym b) (inl (scene_flag_passes one p, scene_flag_found one p ∙ scene_then_flag one a))
two_words one two (inr a) (inl b) =
    let p = operand_plain two b in
    subst (λ (w : Text). RunRight (w ∷ two ∷ [])) (sym a) (inl (flag_scene_passes two p, flag_scene_found two p ∙ flag_then_scene two b))
two_words one two (inr a) (inr b) =
    subst (λ (w : Text). RunRight (w ∷ two ∷ [])) (sym a) (subst (λ (w : Text). RunRight (rounds ∷ w ∷ [])) (sym b) (inr (two_flags [], refl)))

-- three words or more are refused
abbrev Refused : List Text → Type 0
Refused words = IsFaulty (faults_at run_reader words)

three_words : (one two three : Text) (rest : List Text) → (is_operand one ≡ true) ⊎ (one ≡ rounds) → (is_operand two ≡ true) ⊎ (two ≡ rounds) → (is_operand three ≡ true) ⊎ (three ≡ rounds) → Refused (one ∷ two ∷ three ∷ rest)
three_words one two three rest (inl a) (inl b) c = two_scenes one two (three ∷ rest) (operand_plain one a) (operand_plain two b)
three_words one two three rest (inl a) (inr b) (inl c) =
    subst (λ (w : Text). Refused (one ∷ w ∷ three ∷ rest)) (sym b) (scene_flag_scene one three rest (operand_plain one a) (operand_plain three c))
three_words one two three rest (inl a) (inr b) (inr c) =
    subst (λ (w : Text). Refused (one ∷ w ∷ three ∷ rest)) (sym b) (subst (λ (w : Text). Refused (one ∷ rounds ∷ w ∷ rest)) (sym c) (scene_flag_flag one rest (operand_plain one a)))
three_words one two three rest (inr a) (inl b) (inl c) =
    subst (λ (w : Text). Refused (w ∷ two ∷ three ∷ rest)) (sym a) (flag_scene_scene two three rest (operand_plain two b) (operand_plain three c))
three_words one two three rest (inr a) (inl b) (inr c) =
    subst (λ (w : Text). Refused (w ∷ two ∷ three ∷ rest)) (sym a) (subst (λ (w : Text). Refused (rounds ∷ two ∷ w ∷ rest)) (sym c) (flag_scene_flag two rest (operand_plain two b)))
three_words one two three rest (inr a) (inr b) c =
    subst (λ (w : Text). Refused (w ∷ two ∷ three ∷ rest)) (sym a) (subst (λ (w : Text). Refused (rounds ∷ w ∷ three ∷ rest)) (sym b) (two_flags (three ∷ rest)))

pub run_right : (words : List Text) → list_all is_of_run words ≡ true → RunRight words
run_right [] all = inr (none_refused, refl)
run_right (one ∷ []) all = one_word one (first_of_run one [] all)
run_right (one ∷ two ∷ []) all = two_words one two (first_of_run one (two ∷ []) all) (first_of_run two [] (others_of_run one (two ∷ []) all))
run_right (one ∷ two ∷ three ∷ rest) all =
    let others = others_of_run one (two ∷ three ∷ rest) all in
    let last = others_of_run two (three ∷ rest) others in
    inr (three_words one two three rest (first_of_run one (two ∷ three ∷ rest) all) (first_of_run two (three ∷ rest) others) (first_of_run three rest last), refl)

pub scene_read : (words : List Text) (found : Found) → list_all is_of_run (drop 1 words) ≡ true → rows_of found ≡ matches_of run_reader words → fault_of run_reader words ≡ []
    → first_value found (codes "scene") ≡ scene_in (drop 1 words)
scene_read words found all rows none =
    first_value-rows found (codes "scene") ∙ ap (first_of (codes "scene")) rows
    ∙ read_right (faults_at run_reader (drop 1 words)) (found_at run_reader (codes "scene") (drop 1 words)) (scene_in (drop 1 words)) (run_right (drop 1 words) all) none

pub scene_refused : (words : List Text) (e : Error) → list_all is_of_run (drop 1 words) ≡ true → HasKind (fault_of run_reader words) e → kind_of e ≢ kind.OutOfMemory → None ≡ scene_in (drop 1 words)
scene_refused words e all has other =
    refused_right (faults_at run_reader (drop 1 words)) (found_at run_reader (codes "scene") (drop 1 words)) (scene_in (drop 1 words)) e (run_right (drop 1 words) all) has other
