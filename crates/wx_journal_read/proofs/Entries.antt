-- An entry's line is read as it is spelled, whatever follows it.
use Rattle.std.proofs.Common.{◌≡◌, ℕ, ◌^◌, ◌<◌, List, ◌++◌, length, Some, refl, ap, subst, ◌∙◌, append_assoc}
use Rattle.std.specs.Prelude.{codes}
use Rattle.std.proofs.lemmas.Option.{same_Some}
use Rattle.wx_machine.specs.declared.entries.Who.{Who}
use Rattle.wx_machine.specs.declared.entries.Call.{Call}
use Rattle.wx_machine.specs.declared.entries.Answer.{Answer}
use Rattle.wx_machine.specs.declared.entries.Entry.{Entry}
use Rattle.wx_journal_text.specs.Text.{who_text, call_text, answer_text, entry_text}
use Rattle.wx_journal_read.specs.Reading.{behind, both_at}
use Rattle.wx_journal_read.specs.Fits.{WhoFits, CallFits, AnswerFits, EntryFits}
use Rattle.wx_journal_read.specs.Grammar.{sp, who_at, call_at, answer_at, entry_at}
use Rattle.wx_id.proofs.OptionLemmas.{bind_some}
use Rattle.wx_journal_read.proofs.Fields.{Reads, behind_takes}
use Rattle.wx_journal_read.proofs.Combined.{Both, both_text, both_reads}
use Rattle.wx_journal_read.proofs.Parts.{who_reads}
use Rattle.wx_journal_read.proofs.Calls.{call_reads}
use Rattle.wx_journal_read.proofs.Answers.{answer_reads}

body_reads : Reads (both_text sp who_text (both_text (codes " -> ") call_text answer_text)) (Both WhoFits (Both CallFits AnswerFits)) (both_at sp who_at (both_at (codes " -> ") call_at answer_at))
body_reads = both_reads sp who_reads (both_reads (codes " -> ") call_reads answer_reads (λ b rest h. refl)) (λ b rest h. refl)

abbrev body_text : Who × (Call × Answer) → List ℕ
body_text = both_text sp who_text (both_text (codes " -> ") call_text answer_text)

-- what is read as an entry is spelled so
pub entry_takes : (bytes : List ℕ) (y : Entry × List ℕ) → entry_at bytes ≡ Some y → EntryFits y.0 × (bytes ≡ entry_text y.0 ++ y.1)
unfolding entry_at
entry_takes bytes y e =
    let a = bind_some (both_at sp who_at (both_at (codes " -> ") call_at answer_at) bytes) _ y e in
    let la = body_reads.takes bytes a.0 a.1 in
    let w = bind_some (behind (codes "\n") a.0.1) _ y a.2 in
    let lw = behind_takes (codes "\n") a.0.1 w.0 w.1 in
    let x : Entry = record { who = a.0.0.0; call = a.0.0.1.0; answer = a.0.0.1.1 } in
    let joined : body_text a.0.0 ++ (codes "\n" ++ w.0) ≡ entry_text x ++ w.0 = simp append_assoc in
    subst (λ (y : Entry × List ℕ). EntryFits y.0 × (bytes ≡ entry_text y.0 ++ y.1)) (same_Some _ _ w.2)
    (record { who = la.0.0; call = la.0.1.0; answer = la.0.1.1 }, la.1 ∙ ap (λ (r : List ℕ). body_text a.0.0 ++ r) lw ∙ joined)

-- what is spelled as an entry is read, whatever follows
pub entry_again : (e : Entry) (rest : List ℕ) → EntryFits e → length (entry_text e ++ rest) < 2 ^ 64 → entry_at (entry_text e ++ rest) ≡ Some (e, rest)
unfolding entry_at behind
entry_again e rest fits short =
    let p : Who × (Call × Answer) = (e.who, (e.call, e.answer)) in
    let regrouped : entry_text e ++ rest ≡ body_text p ++ (codes "\n" ++ rest) = simp append_assoc in
    let here : length (body_text p ++ (codes "\n" ++ rest)) < 2 ^ 64 = rw regrouped at short in
    let read = body_reads.again p (codes "\n" ++ rest) (fits.who, (fits.call, fits.answer)) here refl in
    ap entry_at regrouped ∙ rw read refl
