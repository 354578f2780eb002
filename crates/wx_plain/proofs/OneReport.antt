-- Bytes have at most one report: they are the text of one journal, or have one fault.
use Rattle.std.proofs.Common.{◌≡◌, ◌∙◌, ◌<◌, ◌≤◌, ◌+◌, ◌^◌, ℕ, List, [], ◌++◌, length, Result, Ok, Err, sym, ap, arith, append-nil, append_assoc, length-append, lit<}
use Rattle.std.specs.Prelude.{flat_map, reverse, true}
use Rattle.wx_machine.specs.declared.entries.Entry.{Entry}
use Rattle.wx_outside.specs.Shelf.{limit}
use Rattle.wx_journal_text.specs.Text.{entry_text, journal_text}
use Rattle.wx_journal_read.specs.declared.fault.JournalFault.{JournalFault}
use Rattle.wx_journal_read.specs.declared.fault.JournalKind.{JournalKind}
use Rattle.wx_journal_read.specs.declared.fault.JournalKind.TheVariants.{Head, Line}
use Rattle.wx_journal_read.specs.Faults.{head, IsFault, IsFaultOf}
use Rattle.wx_journal_read.specs.Fits.{JournalFits}
use Rattle.wx_status.specs.declared.status.InputKind.{InputKind}
use Rattle.wx_status.specs.declared.status.InputKind.TheVariants as input
use Rattle.wx_plain.specs.Output.{Output}
use Rattle.wx_plain.specs.Reporting.{report_text}
use Rattle.wx_plain.specs.Answers.{ReportAnswers}

-- what `different_texts` ensures
abbrev pub DifferentTextsLaw : Type 0
DifferentTextsLaw = (j k : List Entry) → JournalFits j → JournalFits k → length (journal_text j) < 2 ^ 64 → journal_text j ≡ journal_text k → j ≡ k

-- a journal's text has no fault
no_fault : (bytes : List ℕ) (journal : List Entry) (place : ℕ) (kind : JournalKind) → JournalFits journal → bytes ≡ journal_text journal → IsFaultOf bytes place kind → ⊥
no_fault bytes journal place Head fits whole fault = fault.1 (flat_map entry_text journal) whole
no_fault bytes journal place Line fits whole fault =
    let longest = fault.is_longest in
    let most : length (journal_text journal) ≤ length (journal_text fault.journal) = longest.longest journal [] fits (whole ∙ sym (append-nil (journal_text journal))) in
    let size : length (journal_text journal) ≡ length (journal_text fault.journal) + length fault.rest = ap length (sym whole ∙ longest.whole) ∙ length-append (journal_text fault.journal) fault.rest in
    let some : 0 < length fault.rest = longest.behind_it in
    absurd (omega arith)

abbrev fault_at : JournalKind → ℕ → JournalFault
fault_at kind place = record { place = place; kind = kind }

one_fault : (bytes : List ℕ) (m n : ℕ) (a b : JournalKind) → IsFaultOf bytes m a → IsFaultOf bytes n b → fault_at a m ≡ fault_at b n
one_fault bytes m n Head Head h k = ap (fault_at Head) (h.0 ∙ sym k.0)
one_fault bytes m n Head Line h k = absurd (h.1 (flat_map entry_text k.journal ++ k.rest) (k.is_longest.whole ∙ append_assoc head (flat_map entry_text k.journal) k.rest))
one_fault bytes m n Line Head h k = absurd (k.1 (flat_map entry_text h.journal ++ h.rest) (h.is_longest.whole ∙ append_assoc head (flat_map entry_text h.journal) h.rest))
one_fault bytes m n Line Line h k =
    let more : length (journal_text k.journal) ≤ length (journal_text h.journal) = h.is_longest.longest k.journal k.rest k.is_longest.fits k.is_longest.whole in
    let less : length (journal_text h.journal) ≤ length (journal_text k.journal) = k.is_longest.longest h.journal h.rest h.is_longest.fits h.is_longest.whole in
    ap (fault_at Line) (omega (arith, h.place_is, k.place_is))

-- the answer of a journal, and of a fault
reported : List Entry → Result Output InputKind
reported journal = Ok (record { yes = true; text = report_text (reverse journal) })

abbrev faulty : JournalFault → Result Output InputKind
faulty fault = Err (input.Journal fault)

abbrev answer_with : Output → Result Output InputKind
answer_with output = Ok output

abbrev refusal_of : InputKind → Result Output InputKind
refusal_of kind = Err kind

pub one_report : DifferentTextsLaw → (bytes : List ℕ) (a b : Result Output InputKind) → length bytes ≤ limit → ReportAnswers bytes a → ReportAnswers bytes b → a ≡ b
unfolding reported
one_report law bytes (Ok a) (Ok b) within h k =
    let size : length bytes ≡ length (journal_text h.journal) = ap length h.whole in
    let most : limit < 2 ^ 64 = lit< tt in
    let short : length (journal_text h.journal) < 2 ^ 64 = omega arith in
    let same : h.journal ≡ k.journal = law h.journal k.journal h.fits k.fits short (sym h.whole ∙ k.whole) in
    ap answer_with h.printed ∙ ap reported same ∙ sym (ap answer_with k.printed)
one_report law bytes (Ok a) (Err kind) within h k = absurd (no_fault bytes h.journal k.0.place k.0.kind h.fits h.whole k.2)
one_report law bytes (Err kind) (Ok b) within h k = absurd (no_fault bytes k.journal h.0.place h.0.kind k.fits k.whole h.2)
one_report law bytes (Err one) (Err other) within h k =
    let same : h.0 ≡ k.0 = one_fault bytes h.0.place k.0.place h.0.kind k.0.kind h.2 k.2 in
    ap refusal_of h.1 ∙ ap faulty same ∙ sym (ap refusal_of k.1)
