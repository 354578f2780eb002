-- How the plain characters at the front of a pattern go along a text.
use Rattle.std.specs.Prelude.{ℕ, suc, ◌<◌, ◌≤◌, ◌==◌, List, [], ◌∷◌, if◌then◌else◌}
use Rattle.wx_match_pattern.specs.declared.glob.Run.{Run}
use Rattle.wx_match_pattern.specs.declared.glob.Run.TheVariants.{Whole, Star, Differs}
use Rattle.wx_match_pattern.specs.Globs.{star}

-- with one more character before
abbrev pub one_more : Run → Run
one_more Whole = Whole
one_more (Star at) = Star (suc at)
one_more Differs = Differs

-- the place of `*` is one of the pattern, and the text goes as far
abbrev pub IsWithin : Run → ℕ → ℕ → Type 0
IsWithin Whole pattern_len text_len = Unit {0}
IsWithin (Star at) pattern_len text_len = (at < pattern_len) × (at ≤ text_len)
IsWithin Differs pattern_len text_len = Unit {0}

-- the run from the front on
unfoldable pub run_of : List ℕ → List ℕ → Run
run_of [] [] = Whole
run_of [] (d ∷ text) = Differs
run_of (c ∷ pattern) [] = if c == star then Star 0 else Differs
run_of (c ∷ pattern) (d ∷ text) =
    if c == star then Star 0
    else (if c == d then one_more (run_of pattern text) else Differs)
