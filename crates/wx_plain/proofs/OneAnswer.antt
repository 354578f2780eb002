-- A command has at most one answer.
use Rattle.std.proofs.Common.{◌≡◌, ◌∙◌, ◌<◌, ◌≤◌, ◌^◌, ℕ, true, false, cond, List, [], ◌++◌, length, nat_lt, Result, Ok, Err, Option, Some, None, refl, sym, ap, ap₂, subst, arith, inl, inr, lit<}
use Rattle.url.specs.Parts.{Parts}
use Rattle.wx_match_pattern.specs.Pattern.{PatternParts}
use Rattle.wx_native_frame.specs.declared.FrameFault.{FrameFault}
use Rattle.wx_native_frame.specs.declared.FrameFault.TheVariants as fault
use Rattle.wx_native_frame.specs.Frames.{IsTrouble}
use Rattle.wx_native_frame.specs.Splits.{IsSplit}
use Rattle.wx_native_frame.proofs.FrameLaws.{short_no_trouble}
use Rattle.std.specs.FinMap as map
use Rattle.std.proofs.lemmas.Bool.Decides.{nat_tests}
use Rattle.wx_outside.specs.Shelf.{Files, Content, present, absent, too_large, limit, Tells, content_at, content_of, IsWithinLimit}
use Rattle.wx_status.specs.declared.status.InputKind.{InputKind}
use Rattle.wx_words.specs.Words.{PlainCommand, matching, framing, reporting, helping, versioning}
use Rattle.wx_plain.specs.declared.frames.FramesEnd.{FramesEnd}
use Rattle.wx_plain.specs.declared.frames.FramesEnd.TheVariants.{Whole, TooLong, BadJson, Cut}
use Rattle.wx_plain.specs.Output.{Output}
use Rattle.wx_plain.specs.Matching.{pattern_in, url_in, MatchAnswers}
use Rattle.wx_plain.specs.Framing.{frame_limit, frame_lines, end_line, is_whole, EndsBy, IsFramesOutput}
use Rattle.wx_plain.specs.Answers.{FramesAnswers, ReportAnswers, FileAnswers, ToldAnswers, Answers}
use Rattle.wx_plain.specs.Complete.{IsToldTo}
use Rattle.wx_plain.proofs.OneReport.{DifferentTextsLaw, one_report}

-- what `one_split` and `one_answer` ensure
abbrev pub OneSplitLaw : Type 0
OneSplitLaw = (limit : ℕ) (stream : List ℕ) (texts others : List (List ℕ)) (rest other : List ℕ) → limit < 2 ^ 32 → IsSplit limit stream texts rest → IsSplit limit stream others other → (texts ≡ others) × (rest ≡ other)

abbrev pub OneTroubleLaw : Type 0
OneTroubleLaw = (bytes : List ℕ) (limit : ℕ) (f g : FrameFault) → IsTrouble bytes limit f → IsTrouble bytes limit g → f ≡ g

-- ---- match

one_match : (pattern : Result PatternParts InputKind) (url : Result Parts InputKind) (a b : Result Output InputKind) → MatchAnswers pattern url a → MatchAnswers pattern url b → a ≡ b
one_match (Err kind) url a b h k = h ∙ sym k
one_match (Ok pattern) (Err kind) a b h k = h ∙ sym k
one_match (Ok pattern) (Ok url) a b (inl h) (inl k) = h.0 ∙ sym k.0
one_match (Ok pattern) (Ok url) a b (inl h) (inr k) = absurd (k.1 h.1)
one_match (Ok pattern) (Ok url) a b (inr h) (inl k) = absurd (h.1 k.1)
one_match (Ok pattern) (Ok url) a b (inr h) (inr k) = h.0 ∙ sym k.0

-- ---- frames

nothing_no_trouble : (rest : List ℕ) (f : FrameFault) → rest ≡ [] → IsTrouble rest frame_limit f → ⊥
nothing_no_trouble rest f none trouble = let size : length rest ≡ 0 = ap length none in short_no_trouble rest frame_limit f (omega arith) trouble

nothing_no_cut : (rest : List ℕ) (have : ℕ) → rest ≡ [] → have ≡ length rest → 0 < have → ⊥
nothing_no_cut rest have none is some = let size : length rest ≡ 0 = ap length none in absurd (omega arith)

one_end : OneTroubleLaw → (rest : List ℕ) (e f : FramesEnd) → EndsBy rest e → EndsBy rest f → e ≡ f
one_end law rest Whole Whole h k = refl
one_end law rest Whole (TooLong len) h k = absurd (nothing_no_trouble rest (fault.TooLong len) h k)
one_end law rest Whole (BadJson found) h k = absurd (nothing_no_trouble rest (fault.BadJson found) h k)
one_end law rest Whole (Cut have) h k = absurd (nothing_no_cut rest have h k.0 k.1)
one_end law rest (TooLong len) Whole h k = absurd (nothing_no_trouble rest (fault.TooLong len) k h)
one_end law rest (TooLong len) (TooLong other) h k = let same = law rest frame_limit (fault.TooLong len) (fault.TooLong other) h k in cc
one_end law rest (TooLong len) (BadJson found) h k = let same = law rest frame_limit (fault.TooLong len) (fault.BadJson found) h k in absurd cc
one_end law rest (TooLong len) (Cut have) h k = absurd (k.2.no_trouble (fault.TooLong len) h)
one_end law rest (BadJson found) Whole h k = absurd (nothing_no_trouble rest (fault.BadJson found) k h)
one_end law rest (BadJson found) (TooLong len) h k = let same = law rest frame_limit (fault.BadJson found) (fault.TooLong len) h k in absurd cc
one_end law rest (BadJson found) (BadJson other) h k = let same = law rest frame_limit (fault.BadJson found) (fault.BadJson other) h k in cc
one_end law rest (BadJson found) (Cut have) h k = absurd (k.2.no_trouble (fault.BadJson found) h)
one_end law rest (Cut have) Whole h k = absurd (nothing_no_cut rest have k h.0 h.1)
one_end law rest (Cut have) (TooLong len) h k = absurd (h.2.no_trouble (fault.TooLong len) k)
one_end law rest (Cut have) (BadJson found) h k = absurd (h.2.no_trouble (fault.BadJson found) k)
one_end law rest (Cut have) (Cut other) h k = ap Cut (h.0 ∙ sym k.0)

-- the output of texts and an end
made : List (List ℕ) → FramesEnd → Output
made texts end = record { yes = is_whole end; text = frame_lines 0 texts ++ end_line end }

one_output : OneSplitLaw → OneTroubleLaw → (bytes : List ℕ) (a b : Output) → IsFramesOutput bytes a → IsFramesOutput bytes b → a ≡ b
unfolding made
one_output split trouble bytes a b h k =
    let both = split frame_limit bytes h.texts k.texts h.rest k.rest (lit< tt) h.split k.split in
    let ends : EndsBy k.rest h.end = subst (λ (r : List ℕ). EndsBy r h.end) both.1 h.ends in
    let end : h.end ≡ k.end = one_end trouble k.rest h.end k.end ends k.ends in
    h.printed ∙ ap₂ made both.0 end ∙ sym k.printed

abbrev answer_with : Output → Result Output InputKind
answer_with output = Ok output

one_frames : OneSplitLaw → OneTroubleLaw → (bytes : List ℕ) (a b : Result Output InputKind) → FramesAnswers bytes a → FramesAnswers bytes b → a ≡ b
one_frames split trouble bytes a b h k = h.1 ∙ ap answer_with (one_output split trouble bytes h.0 k.0 h.2 k.2) ∙ sym k.1

-- ---- what the shelf tells

within_limit : (found : Option (List ℕ)) → IsWithinLimit (content_of found)
within_limit None = tt
within_limit (Some bytes) =
    elim (nat_lt limit (length bytes)) as (λ t. nat_lt limit (length bytes) ≡ t → IsWithinLimit (cond t too_large (present bytes))) [
      | true ↦ λ is. tt
      | false ↦ λ is. grind (arith, nat_tests)
    ] refl

told_content : (files : Option Files) (all : Files) (file : List ℕ) (content : Content) → files ≡ Some all → Tells files file content → content ≡ content_at all file
told_content files all file content is tells = subst (λ (f : Option Files). Tells f file content) is tells

-- bytes within the limit have at most one answer
abbrev HasOne : (List ℕ → Result Output InputKind → Type 0) → Type 0
HasOne OfBytes = (bytes : List ℕ) (a b : Result Output InputKind) → length bytes ≤ limit → OfBytes bytes a → OfBytes bytes b → a ≡ b

one_file : (OfBytes : List ℕ → Result Output InputKind → Type 0) → HasOne OfBytes → (content : Content) (a b : Result Output InputKind) → IsWithinLimit content → FileAnswers OfBytes content a → FileAnswers OfBytes content b → a ≡ b
one_file OfBytes one absent a b within h k = h ∙ sym k
one_file OfBytes one too_large a b within h k = h ∙ sym k
one_file OfBytes one (present bytes) a b within h k = one bytes a b within h k

one_told : (OfBytes : List ℕ → Result Output InputKind → Type 0) → HasOne OfBytes → (files : Option Files) (all : Files) (file : List ℕ) (a b : Result Output InputKind) → files ≡ Some all → ToldAnswers OfBytes files file a → ToldAnswers OfBytes files file b → a ≡ b
one_told OfBytes one files all file a b is h k =
    let of_h = told_content files all file h.0 is h.1 in
    let of_k = told_content files all file k.0 is k.1 in
    one_file OfBytes one (content_at all file) a b (within_limit (map.get all file)) (subst (λ (c : Content). FileAnswers OfBytes c a) of_h h.2) (subst (λ (c : Content). FileAnswers OfBytes c b) of_k k.2)

pub one_answer_of : OneSplitLaw → OneTroubleLaw → DifferentTextsLaw → (files : Option Files) (command : PlainCommand) (a b : Result Output InputKind) → IsToldTo command files → Answers files command a → Answers files command b → a ≡ b
one_answer_of split trouble texts files (matching pattern url) a b told h k = one_match (pattern_in pattern) (url_in url) a b h k
one_answer_of split trouble texts files (framing file) a b told h k = one_told FramesAnswers (λ bytes a b within h k. one_frames split trouble bytes a b h k) files told.0 file a b told.1 h k
one_answer_of split trouble texts files (reporting file) a b told h k = one_told ReportAnswers (one_report texts) files told.0 file a b told.1 h k
one_answer_of split trouble texts files helping a b told h k = h ∙ sym k
one_answer_of split trouble texts files versioning a b told h k = h ∙ sym k
