-- Where nothing is wrong, a told verdict is the output's, or want of memory.
use Rattle.std.proofs.Common.{◌≡◌, ◌∙◌, ℕ, List, Result, Ok, Err, Option, Some, None, sym, ap, subst, inl, inr}
use Rattle.std.specs.Prelude.{◌⊎◌}
use Rattle.wx_outside.specs.Shelf.{Files}
use Rattle.wx_status.specs.declared.status.Status.{Status}
use Rattle.wx_status.specs.declared.status.Status.TheVariants as status
use Rattle.wx_status.specs.declared.status.InputKind.{InputKind}
use Rattle.wx_status.specs.Changes.{ShelfChange, SinkChange}
use Rattle.wx_words.specs.Words.{PlainCommand}
use Rattle.wx_plain.specs.Output.{Output, answer_status}
use Rattle.wx_plain.specs.Answers.{Answers}
use Rattle.wx_plain.specs.Verdict.{Verdict, usage, read_fault, refused, no_memory, answered}
use Rattle.wx_plain.specs.Told.{Told}
use Rattle.wx_plain.specs.Headline.{Judged, Answered, PlainHeadline}
use Rattle.wx_plain.specs.Complete.{IsToldTo, NothingIsWrong, IsPlainComplete}

-- what `one_plain_answer` ensures
abbrev pub OneAnswerLaw : Type 0
OneAnswerLaw = (files : Option Files) (command : PlainCommand) (a b : Result Output InputKind) → IsToldTo command files → Answers files command a → Answers files command b → a ≡ b

some_none : (command : PlainCommand) → Some command ≡ None → ⊥
some_none command e = cc

err_ok : (kind : InputKind) (output : Output) → Err kind ≡ Ok output → ⊥
err_ok kind output e = cc

abbrev answer_with : Output → Result Output InputKind
answer_with output = Ok output

same_output : (a b : Output) → answer_with a ≡ answer_with b → a ≡ b
same_output a b e = cc

-- the answer that was found is the output's
agrees : OneAnswerLaw → (words : List (List ℕ)) (shelf : ShelfChange) (out err : SinkChange) (output : Output) (answer : Result Output InputKind) → NothingIsWrong words shelf out err output → Answered words shelf answer → answer ≡ Ok output
agrees law words shelf out err output answer fine found =
    let same : found.command ≡ fine.command = same_command found.command fine.command (sym found.asked ∙ fine.asked) in
    law shelf.before.files fine.command answer (Ok output) fine.told (subst (λ (c : PlainCommand). Answers shelf.before.files c answer) same found.answers) fine.answers
  where
    same_command : (a b : PlainCommand) → Some a ≡ Some b → a ≡ b
    same_command a b e = cc

pub completes : OneAnswerLaw → (words : List (List ℕ)) (shelf : ShelfChange) (out err : SinkChange) (result : Status) → PlainHeadline words shelf out err result → IsPlainComplete words shelf out err result
completes law words shelf out err result headline output fine = by_verdict headline.verdict headline.judged headline.told
  where
    by_verdict : (verdict : Verdict) → Judged words shelf verdict → Told verdict out err result → (result ≡ answer_status output.yes) ⊎ (result ≡ status.NoMemory)
    by_verdict usage judged told = absurd (some_none fine.command (sym fine.asked ∙ judged))
    by_verdict (read_fault file) judged told = absurd (fine.shelf_sound judged.failed)
    by_verdict (refused kind) judged told = absurd (err_ok kind output (agrees law words shelf out err output (Err kind) fine judged))
    by_verdict no_memory judged told = inr told.1.0
    by_verdict (answered found) judged told = elim told [
      | inl h ↦ inl (h.0 ∙ ap (λ (o : Output). answer_status o.yes) (same_output found output (agrees law words shelf out err output (Ok found) fine judged)))
      | inr h ↦ absurd (fine.out_sound h.3)
    ]

pub completes_told : OneAnswerLaw → (words : List (List ℕ)) (shelf : ShelfChange) (out err : SinkChange) (result : Status) (verdict : Verdict) → Judged words shelf verdict → Told verdict out err result ⊎ Told no_memory out err result
    → IsPlainComplete words shelf out err result
completes_told law words shelf out err result verdict judged (inl told) = completes law words shelf out err result (record { verdict = verdict; judged = judged; told = told })
completes_told law words shelf out err result verdict judged (inr told) = completes law words shelf out err result (record { verdict = no_memory; judged = tt; told = told })
