-- The laws of readers that are put together.
use Rattle.std.proofs.Common.{◌≡◌, ℕ, ◌^◌, ◌<◌, Bool, true, List, [], ◌∷◌, ◌++◌, length, Some, None, refl, sym, ap, subst, ◌∙◌, append_assoc, arith, length-append}
use Rattle.std.specs.Prelude.{IsTrue, ◌==◌}
use Rattle.std.proofs.lemmas.Bool.Decides.{nat_tests}
use Rattle.std.proofs.lemmas.Option.{same_Some}
use Rattle.wx_journal_read.specs.Reading.{Reader, behind, both_at, mapped, just, Rows, or_else, choice, choice_or}
use Rattle.wx_id.proofs.OptionLemmas.{bind_some}
use Rattle.wx_journal_read.proofs.Fields.{Reads, ends_number, behind_takes}

pub behind_again : (word rest : List ℕ) → behind word (word ++ rest) ≡ Some rest
unfolding behind
behind_again [] rest = refl
behind_again (w ∷ ws) rest = let same : nat_same w ≡ true = same_true w in rw same (behind_again ws rest)
  where
    nat_same : ℕ → Bool
    nat_same w = w == w

    same_true : (w : ℕ) → nat_same w ≡ true
    same_true w = grind (arith, nat_tests)

abbrev pub Both : {A B : Type 0} → (A → Type 0) → (B → Type 0) → A × B → Type 0
Both Fa Fb p = Fa p.0 × Fb p.1

abbrev pub both_text : {A B : Type 0} → List ℕ → (A → List ℕ) → (B → List ℕ) → A × B → List ℕ
both_text between ta tb p = ta p.0 ++ (between ++ tb p.1)

pub both_reads : {A B : Type 0} {ta : A → List ℕ} {Fa : A → Type 0} {ra : Reader A} {tb : B → List ℕ} {Fb : B → Type 0} {rb : Reader B} (between : List ℕ)
    → Reads ta Fa ra → Reads tb Fb rb → ((b : B) (rest : List ℕ) → Fb b → IsTrue (ends_number (between ++ (tb b ++ rest))))
    → Reads (both_text between ta tb) (Both Fa Fb) (both_at between ra rb)
both_reads {A} {B} {ta} {Fa} {ra} {tb} {Fb} {rb} between one other stops = record {
  takes = λ bytes y e.
      let a = bind_some (ra bytes) _ y e in
      let la = one.takes bytes a.0 a.1 in
      let w = bind_some (behind between a.0.1) _ y a.2 in
      let lw = behind_takes between a.0.1 w.0 w.1 in
      let b = bind_some (rb w.0) _ y w.2 in
      let lb = other.takes w.0 b.0 b.1 in
      let y_is : Some ((a.0.0, b.0.0), b.0.1) ≡ Some y = b.2 in
      let whole : bytes ≡ both_text between ta tb (a.0.0, b.0.0) ++ b.0.1 = la.1 ∙ ap (λ (r : List ℕ). ta a.0.0 ++ r) (lw ∙ ap (λ (r : List ℕ). between ++ r) lb.1) ∙ simp append_assoc in
      subst (λ (y : (A × B) × List ℕ). Both Fa Fb y.0 × (bytes ≡ both_text between ta tb y.0 ++ y.1)) (same_Some _ _ b.2) ((la.0, lb.0), whole);
  again = λ p rest fits short ends.
      let regrouped : both_text between ta tb p ++ rest ≡ ta p.0 ++ (between ++ (tb p.1 ++ rest)) = simp append_assoc in
      let here : length (ta p.0 ++ (between ++ (tb p.1 ++ rest))) < 2 ^ 64 = rw regrouped at short in
      let later : length (tb p.1 ++ rest) < 2 ^ 64 = omega (arith, length-append (ta p.0) (between ++ (tb p.1 ++ rest)), length-append between (tb p.1 ++ rest)) in
      let a = one.again p.0 (between ++ (tb p.1 ++ rest)) fits.0 here (stops p.1 rest fits.1) in
      let b = other.again p.1 rest fits.1 later ends in
      ap (both_at between ra rb) regrouped ∙ rw (a, behind_again between (tb p.1 ++ rest), b) refl;
}

-- ---- a choice by words

pub record RowTakes {A : Type 0} (text : A → List ℕ) (Fits : A → Type 0) (word : List ℕ) (read : Reader A) : Type 0 where
  pub row : (bytes : List ℕ) (y : A × List ℕ) → read bytes ≡ Some y → Fits y.0 × (word ++ bytes ≡ text y.0 ++ y.1)

abbrev pub AllTake : {A : Type 0} → (A → List ℕ) → (A → Type 0) → Rows A → Type 0
AllTake text Fits [] = Unit {0}
AllTake text Fits (row ∷ rows) = RowTakes text Fits row.0 row.1 × AllTake text Fits rows

pub choice_takes : {A : Type 0} (text : A → List ℕ) (Fits : A → Type 0) (rows : Rows A) → AllTake text Fits rows → (bytes : List ℕ) (y : A × List ℕ) → choice rows bytes ≡ Some y → Fits y.0 × (bytes ≡ text y.0 ++ y.1)
choice_takes text Fits [] all bytes y e = absurd cc
choice_takes {A} text Fits (row ∷ rows) all bytes y e =
    elim (behind row.0 bytes) as (λ o. behind row.0 bytes ≡ o → or_else o row.1 (choice rows bytes) ≡ Some y → Fits y.0 × (bytes ≡ text y.0 ++ y.1)) [
      | None ↦ λ is e. choice_takes text Fits rows all.1 bytes y e
      | Some rest ↦ λ is e. let t = all.0.row rest y e in (t.0, behind_takes row.0 bytes rest is ∙ t.1)
    ] refl e

pub just_row : {A : Type 0} {text : A → List ℕ} {Fits : A → Type 0} (word : List ℕ) (x : A) → Fits x → word ≡ text x → RowTakes text Fits word (just x)
just_row {A} {text} {Fits} word x fits same = record {
  row = λ bytes y e. subst (λ (y : A × List ℕ). Fits y.0 × (word ++ bytes ≡ text y.0 ++ y.1)) (same_Some _ _ e) (fits, ap (λ (w : List ℕ). w ++ bytes) same);
}

pub mapped_row : {A P : Type 0} {text : A → List ℕ} {Fits : A → Type 0} {tp : P → List ℕ} {Fp : P → Type 0} {rp : Reader P} (word : List ℕ) (f : P → A)
    → Reads tp Fp rp → ((p : P) → Fp p → Fits (f p)) → ((p : P) → word ++ tp p ≡ text (f p)) → RowTakes text Fits word (mapped f rp)
mapped_row {A} {P} {text} {Fits} {tp} {Fp} {rp} word f law fits same = record {
  row = λ bytes y e.
      let a = bind_some (rp bytes) _ y e in
      let l = law.takes bytes a.0 a.1 in
      subst (λ (y : A × List ℕ). Fits y.0 × (word ++ bytes ≡ text y.0 ++ y.1)) (same_Some _ _ a.2) (fits a.0.0 l.0, ap (λ (r : List ℕ). word ++ r) l.1 ∙ sym (append_assoc word (tp a.0.0) a.0.1) ∙ ap (λ (r : List ℕ). r ++ a.0.1) (same a.0.0));
}

-- what is spelled with this word is read by this row
pub row_again : {A P : Type 0} {tp : P → List ℕ} {Fp : P → Type 0} {rp : Reader P} (text : A → List ℕ) (read : Reader A) (word : List ℕ) (f : P → A) → Reads tp Fp rp
    → ((bytes : List ℕ) → read (word ++ bytes) ≡ mapped f rp bytes) → ((p : P) → word ++ tp p ≡ text (f p))
    → (p : P) (rest : List ℕ) → Fp p → length (text (f p) ++ rest) < 2 ^ 64 → IsTrue (ends_number rest) → read (text (f p) ++ rest) ≡ Some (f p, rest)
row_again {A} {P} {tp} text read word f law picks same p rest fits short ends =
    let regrouped : text (f p) ++ rest ≡ word ++ (tp p ++ rest) = ap (λ (r : List ℕ). r ++ rest) (sym (same p)) ∙ append_assoc word (tp p) rest in
    let here : length (word ++ (tp p ++ rest)) < 2 ^ 64 = rw regrouped at short in
    let later : length (tp p ++ rest) < 2 ^ 64 = omega (arith, length-append word (tp p ++ rest)) in
    ap read regrouped ∙ picks (tp p ++ rest) ∙ rw (law.again p rest fits later ends) refl

abbrev pub Taking : {A : Type 0} → (A → List ℕ) → (A → Type 0) → Reader A → Type 0
Taking {A} text Fits read = (bytes : List ℕ) (y : A × List ℕ) → read bytes ≡ Some y → Fits y.0 × (bytes ≡ text y.0 ++ y.1)

pub choice_or_takes : {A : Type 0} (text : A → List ℕ) (Fits : A → Type 0) (rows : Rows A) (other : Reader A) → AllTake text Fits rows → Taking text Fits other → Taking text Fits (choice_or rows other)
choice_or_takes text Fits [] other all takes bytes y e = takes bytes y e
choice_or_takes {A} text Fits (row ∷ rows) other all takes bytes y e =
    elim (behind row.0 bytes) as (λ o. behind row.0 bytes ≡ o → or_else o row.1 (choice_or rows other bytes) ≡ Some y → Fits y.0 × (bytes ≡ text y.0 ++ y.1)) [
      | None ↦ λ is e. choice_or_takes text Fits rows other all.1 takes bytes y e
      | Some rest ↦ λ is e. let t = all.0.row rest y e in (t.0, behind_takes row.0 bytes rest is ∙ t.1)
    ] refl e
