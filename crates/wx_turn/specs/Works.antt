-- Values that stand for marks, and what one turn does to them.
use Rattle.std.specs.Prelude.{◌≡◌, ℕ, List, [], ◌∷◌, ◌++◌, length, Option, Some, None}

module _ {S E : Type 0} where
  -- a value and the marks before the last one settle which mark the last is
  abbrev pub SettlesLast : (S → List (Option E) → Type 0) → Type 0
  SettlesLast stands = (s : S) (h : List (Option E)) (d e : Option E)
      → stands s (h ++ d ∷ []) → stands s (h ++ e ∷ []) → d ≡ e

  -- the new value stands for exactly one mark more than the old one, and has the same fixed part
  abbrev pub AddsOne : {F : Type 0} → (S → List (Option E) → Type 0) → (S → F)
      → (F → List (Option E) → Option E → Type 0) → S → S → Type 0
  AddsOne stands fixed_of relates old new = (h : List (Option E)) → stands old h
      → (mark : Option E) × stands new (h ++ mark ∷ []) × (fixed_of new ≡ fixed_of old) × relates (fixed_of old) h mark

module _ {E : Type 0} where
  -- the entries among the marks, in order
  abbrev pub entries : List (Option E) → List E
  entries [] = []
  entries (None ∷ ms) = entries ms
  entries (Some x ∷ ms) = x ∷ entries ms

  -- a list of entries and a count of turns stand for these marks
  abbrev pub StandsFor : List E → ℕ → List (Option E) → Type 0
  StandsFor items turns ms = (entries ms ≡ items) × (length ms ≡ turns)
