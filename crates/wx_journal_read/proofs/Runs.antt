-- Runs of whole entries.
use Rattle.std.proofs.Common.{◌≡◌, ℕ, zero, suc, ◌+◌, ◌-◌, ◌^◌, ◌<◌, ◌≤◌, List, [], ◌∷◌, ◌++◌, length, Some, None, refl, sym, ap, ◌∙◌, append_assoc, arith, length-append}
use Rattle.std.specs.Prelude.{flat_map}
use Rattle.std.proofs.lemmas.List.Concat.{flat_map-cons}
use Rattle.std.proofs.lemmas.List.{append-nil}
use Rattle.wx_machine.specs.declared.entries.Entry.{Entry}
use Rattle.wx_journal_text.specs.Text.{entry_text}
use Rattle.wx_journal_read.specs.Reading.{behind}
use Rattle.wx_journal_read.specs.Grammar.{who_at, entry_at, entries_with, entries_at}
use Rattle.wx_journal_read.specs.Fits.{JournalFits}
use Rattle.wx_journal_read.proofs.Entries.{entry_takes, entry_again}

-- an entry's line has a byte
pub some_text : (e : Entry) → 0 < length (entry_text e)
some_text e = omega (arith, length-append {A = ℕ})

pub record IsRun (bytes : List ℕ) (journal : List Entry) (rest : List ℕ) : Type 0 where
  pub fits : JournalFits journal
  pub whole : bytes ≡ flat_map entry_text journal ++ rest
  pub stops : entry_at rest ≡ None

pub run_takes : (n : ℕ) (bytes : List ℕ) → length bytes ≤ n → IsRun bytes (entries_at n bytes).0 (entries_at n bytes).1
unfolding entries_at entry_at who_at behind
run_takes zero [] small = record { fits = tt; whole = refl; stops = refl }
run_takes zero (b ∷ bs) small = absurd (omega arith)
run_takes (suc n) bytes small =
    elim (entry_at bytes) as (λ o. entry_at bytes ≡ o → IsRun bytes (entries_with bytes o (entries_at n)).0 (entries_with bytes o (entries_at n)).1) [
      | None ↦ λ is. record { fits = tt; whole = refl; stops = is }
      | Some x ↦ λ is.
          let t = entry_takes bytes x is in
          let fewer : length x.1 ≤ n = omega (arith, some_text x.0, length-append (entry_text x.0) x.1, ap length t.1) in
          let later = run_takes n x.1 fewer in
          record {
            fits = (t.0, later.fits);
            whole = t.1 ∙ ap (λ (r : List ℕ). entry_text x.0 ++ r) later.whole ∙ sym (append_assoc (entry_text x.0) (flat_map entry_text (entries_at n x.1).0) (entries_at n x.1).1) ∙ ap (λ (r : List ℕ). r ++ (entries_at n x.1).1) (sym (flat_map-cons entry_text x.0 (entries_at n x.1).0));
            stops = later.stops;
          }
    ] refl

-- what is spelled as a run is read as that run, and then what is read after it
pub run_again : (journal : List Entry) (n : ℕ) (rest : List ℕ) → JournalFits journal → length (flat_map entry_text journal ++ rest) < 2 ^ 64
    → entries_at (length journal + n) (flat_map entry_text journal ++ rest) ≡ (journal ++ (entries_at n rest).0, (entries_at n rest).1)
unfolding entries_at
run_again [] n rest fits short = let same : 0 + n ≡ n = omega arith in rw same refl
run_again (e ∷ journal) n rest fits short =
    let regrouped : flat_map entry_text (e ∷ journal) ++ rest ≡ entry_text e ++ (flat_map entry_text journal ++ rest) = ap (λ (x : List ℕ). x ++ rest) (flat_map-cons entry_text e journal) ∙ append_assoc (entry_text e) (flat_map entry_text journal) rest in
    let here : length (entry_text e ++ (flat_map entry_text journal ++ rest)) < 2 ^ 64 = rw regrouped at short in
    let later : length (flat_map entry_text journal ++ rest) < 2 ^ 64 = omega (arith, length-append (entry_text e) (flat_map entry_text journal ++ rest)) in
    let count : length (e ∷ journal) + n ≡ suc (length journal + n) = omega arith in
    let first = entry_again e (flat_map entry_text journal ++ rest) fits.0 here in
    ap (entries_at (length (e ∷ journal) + n)) regrouped ∙ rw (count, first, run_again journal n rest fits.1 later) refl

-- ---- as a loop reads them

-- how many entries may be read doesn't matter where it is enough
enough : (n m : ℕ) (bytes : List ℕ) → length bytes ≤ n → length bytes ≤ m → entries_at n bytes ≡ entries_at m bytes
unfolding entries_at entry_at who_at behind
enough zero zero bytes few few_too = refl
enough zero (suc m) [] few few_too = refl
enough zero (suc m) (b ∷ bs) few few_too = absurd (omega arith)
enough (suc n) zero [] few few_too = refl
enough (suc n) zero (b ∷ bs) few few_too = absurd (omega arith)
enough (suc n) (suc m) bytes few few_too =
    elim (entry_at bytes) as (λ o. entry_at bytes ≡ o → entries_with bytes o (entries_at n) ≡ entries_with bytes o (entries_at m)) [
      | None ↦ λ is. refl
      | Some x ↦ λ is.
          let t = entry_takes bytes x is in
          let less : length x.1 + 1 ≤ length bytes = omega (arith, some_text x.0, length-append (entry_text x.0) x.1, ap length t.1) in
          ap (λ (run : List Entry × List ℕ). (x.0 ∷ run.0, run.1)) (enough n m x.1 (omega arith) (omega arith))
    ] refl

abbrev pub joined : List Entry → List Entry × List ℕ → List Entry × List ℕ
joined front run = (front ++ run.0, run.1)

pub shrinks : (rest : List ℕ) (e : Entry) (more : List ℕ) → entry_at rest ≡ Some (e, more) → length more < length rest
shrinks rest e more is = let t = entry_takes rest (e, more) is in omega (arith, some_text e, ap length t.1, length-append (entry_text e) more)

stop_is : (n : ℕ) (rest : List ℕ) → entry_at rest ≡ None → entries_at n rest ≡ ([], rest)
unfolding entries_at
stop_is zero rest is = refl
stop_is (suc n) rest is = rw is refl

step_is : (rest : List ℕ) (e : Entry) (more : List ℕ) → entry_at rest ≡ Some (e, more) → entries_at (length rest) rest ≡ joined (e ∷ []) (entries_at (length more) more)
unfolding entries_at
step_is rest e more is =
    let less : length more < length rest = shrinks rest e more is in
    let k = length rest - 1 in
    let count : length rest ≡ suc k = omega arith in
    let one : entries_with rest (entry_at rest) (entries_at k) ≡ joined (e ∷ []) (entries_at k more) = rw is refl in
    ap (λ (n : ℕ). entries_at n rest) count ∙ one ∙ ap (joined (e ∷ [])) (enough k (length more) more (omega arith) (omega arith))

pub goes_on : (front : List Entry) (rest : List ℕ) (e : Entry) (more : List ℕ) (total : List Entry × List ℕ) → entry_at rest ≡ Some (e, more)
    → joined front (entries_at (length rest) rest) ≡ total → joined (front ++ e ∷ []) (entries_at (length more) more) ≡ total
goes_on front rest e more total is so_far =
    let run = entries_at (length more) more in
    ap (λ (l : List Entry). (l, run.1)) (append_assoc front (e ∷ []) run.0) ∙ sym (ap (joined front) (step_is rest e more is)) ∙ so_far

pub stops_here : (front : List Entry) (rest : List ℕ) (total : List Entry × List ℕ) → entry_at rest ≡ None
    → joined front (entries_at (length rest) rest) ≡ total → (front, rest) ≡ total
stops_here front rest total is so_far = ap (λ (l : List Entry). (l, rest)) (sym (append-nil front)) ∙ sym (ap (joined front) (stop_is (length rest) rest is)) ∙ so_far
