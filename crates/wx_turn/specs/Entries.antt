-- Entries among marks: what one turn more does to them, for values that are a list of entries and a count of turns.
use Rattle.std.proofs.Common.{◌≡◌, ℕ, ◌+◌, List, [], ◌∷◌, ◌++◌, length, Option, Some, None, refl, sym, ap, ◌∙◌, arith, length-append}
use Rattle.std.proofs.lemmas.List.{append-nil}
use Rattle.wx_turn.specs.Works.{entries, StandsFor}

module _ {E : Type 0} where
  pub entries-append : (xs ys : List (Option E)) → entries (xs ++ ys) ≡ entries xs ++ entries ys
  entries-append [] ys = refl
  entries-append (None ∷ xs) ys = entries-append xs ys
  entries-append (Some x ∷ xs) ys = λ i. x ∷ entries-append xs ys i

  same_tail : (xs : List E) (d e : Option E) → xs ++ entries (d ∷ []) ≡ xs ++ entries (e ∷ []) → d ≡ e
  same_tail [] None None q = refl
  same_tail [] None (Some y) q = absurd cc
  same_tail [] (Some x) None q = absurd cc
  same_tail [] (Some x) (Some y) q = cc q
  same_tail (x ∷ xs) d e q = same_tail xs d e (cc q)

  -- the list and the marks before the last one settle which mark the last is
  pub last_mark : (items : List E) (turns : ℕ) (ms : List (Option E)) (d e : Option E)
      → StandsFor items turns (ms ++ d ∷ []) → StandsFor items turns (ms ++ e ∷ []) → d ≡ e
  last_mark items turns ms d e p q = same_tail (entries ms) d e
      (sym (entries-append ms (d ∷ [])) ∙ (p.0 ∙ (sym q.0 ∙ entries-append ms (e ∷ []))))

  -- a turn with the entry x
  pub one_entry_more : (items after : List E) (turns : ℕ) (ms : List (Option E)) (x : E) → after ≡ items ++ x ∷ []
      → StandsFor items turns ms → StandsFor after (turns + 1) (ms ++ Some x ∷ [])
  one_entry_more items after turns ms x is p = (
    entries-append ms (Some x ∷ []) ∙ (ap (λ l. l ++ x ∷ []) p.0 ∙ sym is),
    (let n = p.1 in omega (arith, length-append ms (Some x ∷ []))),
  )

  -- a turn without an entry
  pub nothing_more : (items after : List E) (turns : ℕ) (ms : List (Option E)) → after ≡ items
      → StandsFor items turns ms → StandsFor after (turns + 1) (ms ++ None ∷ [])
  nothing_more items after turns ms is p = (
    entries-append ms (None ∷ []) ∙ (append-nil (entries ms) ∙ (p.0 ∙ sym is)),
    (let n = p.1 in omega (arith, length-append ms (None ∷ []))),
  )
