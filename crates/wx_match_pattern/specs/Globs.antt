-- A text and a pattern in which each `*` stands for any run of characters.
use Rattle.std.specs.Prelude.{◌≡◌, ◌≢◌, ℕ, List, [], ◌∷◌, ◌++◌}

-- `b'*'`
abbrev pub star : ℕ
star = 42

-- both are empty; or the pattern begins with `*` and its rest matches some suffix of the text, also the whole and
-- the empty one; or both begin with the same other character and their rests match
pub data Globs : List ℕ → List ℕ → Type 0 where
  ends : Globs [] []
  run : {p x : List ℕ} (front suffix : List ℕ) → x ≡ front ++ suffix → Globs p suffix → Globs (star ∷ p) x
  same : {p x : List ℕ} (c : ℕ) → c ≢ star → Globs p x → Globs (c ∷ p) (c ∷ x)
