-- The end of a container, and a comma, at a check's fields.
use Rattle.std.proofs.Common.{◌≡◌, ℕ, suc, ◌+◌, ◌-◌, ◌≤◌, List, Bool, true, false, refl, arith, add-one}
use Rattle.wx_json.specs.Mode.{Mode}
use Rattle.wx_json.specs.Coding.{Coding}
use Rattle.wx_json.specs.States.{mode_of, coding_of, went, closed_empty, closed, separated}
use Rattle.wx_json.specs.Check.{running}
use Rattle.wx_json.specs.Levels.{kind_of, kinds_of}
use Rattle.wx_json.proofs.Stack.{kinds_top}

module _ (words : List ℕ) (depth k : ℕ) (u : Coding) (m : Mode) (some : depth ≡ 0 → ⊥) (within : depth ≤ 1024) where
  room : 1024 - (depth - 1) ≡ suc (1024 - depth)
  room = omega (arith, some, within)

  pub closed_empty-fields : closed_empty (running k u m (1024 - depth) (kinds_of words depth)) ≡ running (k + 1) (coding_of 0x5A) (mode_of 0x5A) (1024 - (depth - 1)) (kinds_of words (depth - 1))
  unfolding mode_of coding_of
  closed_empty-fields = rw (add-one k, kinds_top words depth some, room) refl

  pub closed-fields : (o : Bool) → kind_of words (depth - 1) ≡ o
      → closed o (running k u m (1024 - depth) (kinds_of words depth)) ≡ running (k + 1) (coding_of 0x5A) (mode_of 0x5A) (1024 - (depth - 1)) (kinds_of words (depth - 1))
  unfolding mode_of coding_of
  closed-fields true kind = rw (add-one k, kinds_top words depth some, kind, room) refl
  closed-fields false kind = rw (add-one k, kinds_top words depth some, kind, room) refl

-- a comma in the innermost container
module _ (words : List ℕ) (depth k n : ℕ) (u : Coding) (m : Mode) (some : depth ≡ 0 → ⊥) where
  pub separated-name : kind_of words (depth - 1) ≡ true → separated (running k u m n (kinds_of words depth)) ≡ went 0x4E (running k u m n (kinds_of words depth))
  unfolding mode_of coding_of
  separated-name kind = rw (kinds_top words depth some, kind) refl

  pub separated-value : kind_of words (depth - 1) ≡ false → separated (running k u m n (kinds_of words depth)) ≡ went 0x57 (running k u m n (kinds_of words depth))
  unfolding mode_of coding_of
  separated-value kind = rw (kinds_top words depth some, kind) refl
