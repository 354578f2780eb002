-- Journals and their texts.
use Rattle.std.proofs.Common.{◌≡◌, ℕ, zero, suc, ◌+◌, ◌-◌, ◌^◌, ◌<◌, ◌≤◌, true, false, cond, List, [], ◌∷◌, ◌++◌, length, Some, None, Result, Ok, Err, refl, sym, ap, subst, ◌∙◌, append_assoc, arith, length-append}
use Rattle.std.specs.Prelude.{flat_map, ◌==◌}
use Rattle.std.proofs.lemmas.List.{append-nil, nil_from_length}
use Rattle.std.proofs.lemmas.Bool.{eqb-true}
use Rattle.std.proofs.lemmas.Option.{same_Some}
use Rattle.std.proofs.lemmas.List.Concat.{flat_map-append}
use Rattle.wx_machine.specs.declared.entries.Entry.{Entry}
use Rattle.wx_journal_text.specs.Text.{entry_text, journal_text}
use Rattle.wx_journal_read.specs.declared.fault.JournalFault.{JournalFault}
use Rattle.wx_journal_read.specs.declared.fault.JournalKind.TheVariants.{Head, Line}
use Rattle.wx_journal_read.specs.Reading.{behind}
use Rattle.wx_journal_read.specs.Grammar.{entry_at, who_at, entries_at}
use Rattle.wx_journal_read.specs.Fits.{EntryFits, JournalFits}
use Rattle.wx_journal_read.specs.Faults.{head, IsLineFault, IsFault, IsFaultOf}
use Rattle.wx_journal_read.specs.Whole.{ended, headed, journal_at}
use Rattle.wx_journal_read.specs.Gives.{GivesWhole, IfBad}
use Rattle.wx_journal_read.specs.declared.fault.JournalKind.{JournalKind}
use Rattle.wx_journal_read.specs.declared.fault.JournalReadFault.{JournalReadFault}
use Rattle.wx_journal_read.specs.declared.fault.JournalReadFault.TheVariants as reads
use Rattle.std.specs.Prelude.{IfOk}
use Rattle.std.proofs.lemmas.Bool.Decides.{nat_tests}
use Rattle.wx_journal_read.proofs.Fields.{behind_takes}
use Rattle.wx_journal_read.proofs.Combined.{behind_again}
use Rattle.wx_journal_read.proofs.Entries.{entry_again}
use Rattle.wx_journal_read.proofs.Runs.{run_takes, run_again, some_text}

-- no entry's line begins another
pub no_prefix : (e f : Entry) (x y : List ℕ) → EntryFits e → EntryFits f → length (entry_text e ++ x) < 2 ^ 64 → entry_text e ++ x ≡ entry_text f ++ y → (e ≡ f) × (x ≡ y)
no_prefix e f x y fits_e fits_f short same =
    let one = entry_again e x fits_e short in
    let short_f : length (entry_text f ++ y) < 2 ^ 64 = rw same at short in
    let other = entry_again f y fits_f short_f in
    let both : Some (e, x) ≡ Some (f, y) = sym one ∙ ap entry_at same ∙ other in
    let pair = same_Some _ _ both in
    (ap (λ p. p.0) pair, ap (λ p. p.1) pair)

-- an entry takes at least one byte
pub fewer : (journal : List Entry) → length journal ≤ length (flat_map entry_text journal)
fewer [] = omega arith
fewer (e ∷ journal) = omega (arith, some_text e, fewer journal, length-append (entry_text e) (flat_map entry_text journal))

-- what stands after a run of whole entries
pub run_then : (journal : List Entry) (n : ℕ) (rest : List ℕ) → JournalFits journal → length journal ≤ n → length (flat_map entry_text journal ++ rest) < 2 ^ 64
    → entries_at n (flat_map entry_text journal ++ rest) ≡ (journal ++ (entries_at (n - length journal) rest).0, (entries_at (n - length journal) rest).1)
run_then journal n rest fits many short =
    let count : n ≡ length journal + (n - length journal) = omega arith in
    let r = run_again journal (n - length journal) rest fits short in
    subst (λ (k : ℕ). entries_at k (flat_map entry_text journal ++ rest) ≡ (journal ++ (entries_at (n - length journal) rest).0, (entries_at (n - length journal) rest).1)) (sym count) r

no_more : (n : ℕ) → entries_at n [] ≡ ([], [])
unfolding entries_at entry_at who_at behind
no_more zero = refl
no_more (suc n) = refl

-- a journal's text is read as that journal
pub journal_again : (journal : List Entry) → JournalFits journal → length (journal_text journal) < 2 ^ 64 → journal_at (journal_text journal) ≡ Ok journal
unfolding journal_at
journal_again journal fits short =
    let body = flat_map entry_text journal in
    let less : length body < 2 ^ 64 = omega (arith, length-append head body) in
    let plain : body ++ [] ≡ body = append-nil body in
    let less_too : length (body ++ []) < 2 ^ 64 = rw plain less in
    let run = run_then journal (length body) [] fits (fewer journal) less_too in
    let nothing = no_more (length body - length journal) in
    let all : entries_at (length body) body ≡ (journal, []) = ap (entries_at (length body)) (sym plain) ∙ run ∙ rw (nothing, append-nil journal) refl in
    ap (headed (length (head ++ body))) (behind_again head body) ∙ ap (ended (length (head ++ body))) all

ended_takes : (all : ℕ) (run : List Entry × List ℕ) (journal : List Entry) → ended all run ≡ Ok journal → (length run.1 ≡ 0) × (run.0 ≡ journal)
ended_takes all run journal e =
    let fault : JournalFault = record { place = all - length run.1; kind = Line } in
    let wanted : Result (List Entry) JournalFault = Ok journal in
    elim (length run.1 == 0) as (λ t. (length run.1 == 0) ≡ t → cond {A = Result (List Entry) JournalFault} t (Ok run.0) (Err fault) ≡ wanted → (length run.1 ≡ 0) × (run.0 ≡ journal)) [
      | true ↦ λ is e. (eqb-true _ _ is, cc)
      | false ↦ λ is e. absurd cc
    ] refl e

-- what is read as a journal is spelled so
pub journal_takes : (bytes : List ℕ) (journal : List Entry) → journal_at bytes ≡ Ok journal → JournalFits journal × (bytes ≡ journal_text journal)
unfolding journal_at
journal_takes bytes journal e =
    elim (behind head bytes) as (λ o. behind head bytes ≡ o → headed (length bytes) o ≡ Ok journal → JournalFits journal × (bytes ≡ journal_text journal)) [
      | None ↦ λ is e. absurd cc
      | Some rest ↦ λ is e.
          let t = ended_takes (length bytes) (entries_at (length rest) rest) journal e in
          let run = run_takes (length rest) rest (omega arith) in
          let nothing : (entries_at (length rest) rest).1 ≡ [] = nil_from_length _ t.0 in
          let whole : rest ≡ flat_map entry_text (entries_at (length rest) rest).0 = run.whole ∙ ap (λ (r : List ℕ). flat_map entry_text (entries_at (length rest) rest).0 ++ r) nothing ∙ append-nil _ in
          (subst (λ (j : List Entry). JournalFits j) t.1 run.fits, behind_takes head bytes rest is ∙ ap (λ (r : List ℕ). head ++ r) (whole ∙ ap (flat_map entry_text) t.1))
    ] refl e

-- different journals have different texts
pub one_text : (j k : List Entry) → JournalFits j → JournalFits k → length (journal_text j) < 2 ^ 64 → journal_text j ≡ journal_text k → j ≡ k
one_text j k fits_j fits_k short same =
    let short_k : length (journal_text k) < 2 ^ 64 = subst (λ (t : List ℕ). length t < 2 ^ 64) same short in
    let both : Ok j ≡ Ok k = sym (journal_again j fits_j short) ∙ ap journal_at same ∙ journal_again k fits_k short_k in
    cc

-- ---- the fault

longest : (rest : List ℕ) (other : List Entry) (more : List ℕ) → JournalFits other → length rest < 2 ^ 64 → rest ≡ flat_map entry_text other ++ more
    → length (flat_map entry_text other) ≤ length (flat_map entry_text (entries_at (length rest) rest).0)
longest rest other more fits short same =
    let size : length rest ≡ length (flat_map entry_text other) + length more = ap length same ∙ length-append (flat_map entry_text other) more in
    let many : length other ≤ length rest = omega (arith, fewer other) in
    let here : length (flat_map entry_text other ++ more) < 2 ^ 64 = subst (λ (t : List ℕ). length t < 2 ^ 64) same short in
    let k = (entries_at (length rest - length other) more).0 in
    let run : entries_at (length rest) rest ≡ (other ++ k, (entries_at (length rest - length other) more).1) = ap (entries_at (length rest)) same ∙ run_then other (length rest) more fits many here in
    let front : (entries_at (length rest) rest).0 ≡ other ++ k = ap (λ (r : List Entry × List ℕ). r.0) run in
    let parts : flat_map entry_text (entries_at (length rest) rest).0 ≡ flat_map entry_text other ++ flat_map entry_text k = ap (flat_map entry_text) front ∙ flat_map-append entry_text other k in
    omega (arith, ap length parts, length-append (flat_map entry_text other) (flat_map entry_text k))

line_fault : (bytes rest : List ℕ) → length bytes < 2 ^ 64 → bytes ≡ head ++ rest → 0 < length (entries_at (length rest) rest).1 → IsLineFault bytes (length bytes - length (entries_at (length rest) rest).1)
line_fault bytes rest short is some =
    let run = run_takes (length rest) rest (omega arith) in
    let j = (entries_at (length rest) rest).0 in
    let left = (entries_at (length rest) rest).1 in
    let whole : bytes ≡ journal_text j ++ left = is ∙ ap (λ (r : List ℕ). head ++ r) run.whole ∙ sym (append_assoc head (flat_map entry_text j) left) in
    let size : length bytes ≡ length head + length rest = ap length is ∙ length-append head rest in
    record {
      journal = j;
      rest = left;
      is_longest = record {
        fits = run.fits;
        whole = whole;
        behind_it = some;
        longest = λ other more fits same.
            let regrouped : head ++ rest ≡ head ++ (flat_map entry_text other ++ more) = sym is ∙ same ∙ append_assoc head (flat_map entry_text other) more in
            let both : Some rest ≡ Some (flat_map entry_text other ++ more) = sym (behind_again head rest) ∙ ap (behind head) regrouped ∙ behind_again head (flat_map entry_text other ++ more) in
            let l = longest rest other more fits (omega arith) (same_Some _ _ both) in
            omega (arith, l, length-append head (flat_map entry_text other), length-append head (flat_map entry_text j));
      };
      place_is = omega (arith, ap length whole, length-append (journal_text j) left);
    }

ended_fault : (all : ℕ) (run : List Entry × List ℕ) (f : JournalFault) → ended all run ≡ Err f → (0 < length run.1) × (f.place ≡ all - length run.1) × (f.kind ≡ Line)
ended_fault all run f e =
    let fault : JournalFault = record { place = all - length run.1; kind = Line } in
    let wanted : Result (List Entry) JournalFault = Err f in
    elim (length run.1 == 0) as (λ t. (length run.1 == 0) ≡ t → cond {A = Result (List Entry) JournalFault} t (Ok run.0) (Err fault) ≡ wanted → (0 < length run.1) × (f.place ≡ all - length run.1) × (f.kind ≡ Line)) [
      | true ↦ λ is e. absurd cc
      | false ↦ λ is e. let same : fault ≡ f = cc in (grind (arith, nat_tests), ap (λ (f : JournalFault). f.place) (sym same), ap (λ (f : JournalFault). f.kind) (sym same))
    ] refl e

pub fault_is : (bytes : List ℕ) (f : JournalFault) → length bytes < 2 ^ 64 → journal_at bytes ≡ Err f → IsFault bytes f
unfolding journal_at
fault_is bytes f short e =
    elim (behind head bytes) as (λ o. behind head bytes ≡ o → headed (length bytes) o ≡ Err f → IsFault bytes f) [
      | None ↦ λ is e.
          let fault : JournalFault = record { place = 0; kind = Head } in
          let wrong : headed (length bytes) None ≡ Err fault = refl in
          let same : fault ≡ f = cc in
          subst (λ (f : JournalFault). IsFault bytes f) same (refl, λ rest whole. let again : behind head bytes ≡ Some rest = ap (behind head) whole ∙ behind_again head rest in absurd cc)
      | Some rest ↦ λ is e.
          let p = ended_fault (length bytes) (entries_at (length rest) rest) f e in
          let l = line_fault bytes rest short (behind_takes head bytes rest is) p.0 in
          let made : IsFaultOf bytes (length bytes - length (entries_at (length rest) rest).1) Line = l in
          subst (λ (k : JournalKind). IsFaultOf bytes f.place k) (sym p.2) (subst (λ (n : ℕ). IsFaultOf bytes n Line) (sym p.1) made)
    ] refl e

-- ---- what a function's answer says

pub found_is : {X : Type 0} (view : X → List Entry) (bytes : List ℕ) (r : Result X JournalReadFault) → GivesWhole view r (journal_at bytes) → IfOk r (λ j. JournalFits (view j) × (bytes ≡ journal_text (view j)))
found_is view bytes (Ok j) given = journal_takes bytes (view j) given
found_is view bytes (Err f) given = tt

pub bad_is : {X : Type 0} (view : X → List Entry) (bytes : List ℕ) (r : Result X JournalReadFault) → length bytes < 2 ^ 64 → GivesWhole view r (journal_at bytes) → IfBad r (IsFault bytes)
bad_is view bytes (Ok j) short given = tt
bad_is view bytes (Err (reads.Bad f)) short given = fault_is bytes f short given
bad_is view bytes (Err reads.NoMemory) short given = tt

pub only_is : {X : Type 0} (view : X → List Entry) (bytes : List ℕ) (r : Result X JournalReadFault) (j : List Entry) → length bytes < 2 ^ 64 → JournalFits j → bytes ≡ journal_text j → GivesWhole view r (journal_at bytes) → GivesWhole view r (Ok j)
only_is view bytes r j short fits whole given =
    let here : length (journal_text j) < 2 ^ 64 = subst (λ (t : List ℕ). length t < 2 ^ 64) whole short in
    subst (GivesWhole view r) (ap journal_at whole ∙ journal_again j fits here) given

pub left_short : (bytes rest : List ℕ) (journal : List Entry) (left : List ℕ) → behind head bytes ≡ Some rest → Some (entries_at (length rest) rest) ≡ Some (journal, left) → length left ≤ length bytes
left_short bytes rest journal left is read =
    let run = run_takes (length rest) rest (omega arith) in
    let same : (entries_at (length rest) rest).1 ≡ left = ap (λ (r : List Entry × List ℕ). r.1) (same_Some _ _ read) in
    omega (arith, ap length run.whole, length-append (flat_map entry_text (entries_at (length rest) rest).0) (entries_at (length rest) rest).1, ap length same, ap length (behind_takes head bytes rest is), length-append head rest)
