-- Tests over the words behind the first.
use Rattle.std.proofs.Common.{◌≡◌, ℕ, Bool, List, ◌∷◌, map, drop, string_bytes, String, Global, sym}
use Rattle.std.specs.List.{list_all}
use Rattle.std.proofs.lemmas.List.Folds.{list_all-map}

pub behind_first : (test : List ℕ → Bool) (words rest : List (String Global)) (first : String Global) → words ≡ first ∷ rest → list_all (λ word. test (string_bytes word)) rest ≡ list_all test (drop 1 (map string_bytes words))
behind_first test words rest first is = rw is (sym (list_all-map test string_bytes rest))
