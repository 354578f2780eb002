-- Names in a set, and the names of what is declared.
use Rattle.std.proofs.Common.{◌≡◌, ℕ, suc, ◌+◌, cond, Bool, true, false, not, ◌||◌, List, [], ◌∷◌, ◌++◌, length, map, Some, None, refl, ap, ◌∙◌, arith}
use Rattle.std.specs.Prelude.{nat_lt, position, is_some, String, string_bytes}
use Rattle.std.specs.List.{list_any, position_or_len}
use Rattle.std.specs.Str.{bytes_eq}
use Rattle.std.proofs.lemmas.Bool.{lt-ltb}
use Rattle.std.proofs.lemmas.Bool.Decides.{nat_tests}
use Rattle.std.proofs.lemmas.List.{length-map, map-append}
use Rattle.std.proofs.lemmas.Option.{slice_get-map}
use Rattle.indexmap.specs.IndexSet.{insert_key}
use Rattle.wx_script.specs.declared.script.Command.{Command}
use Rattle.wx_script.specs.declared.scene.SceneEndpoint.{SceneEndpoint}
use Rattle.wx_script.specs.Names.{is_among, binding, endpoint_names_of}
use Rattle.wx_script.specs.Draft.{with_command}

module _ {A B : Type 0} (f : A → B) (p : B → Bool) where
  position_or_len-map : (xs : List A) → position_or_len p (map f xs) ≡ position_or_len (λ x. p (f x)) xs
  position_or_len-map [] = refl
  position_or_len-map (x ∷ xs) = ap (λ n. cond (not (p (f x))) (1 + n) 0) (position_or_len-map xs)

  pub position-map : (xs : List A) → position p (map f xs) ≡ position (λ x. p (f x)) xs
  position-map xs = rw (position_or_len-map xs, length-map xs f) refl

is_some-choice : {A : Type 0} (b : Bool) (x : A) → is_some (cond b (Some x) None) ≡ b
is_some-choice true x = refl
is_some-choice false x = refl

nat_lt-suc : (a b : ℕ) → nat_lt (1 + a) (suc b) ≡ nat_lt a b
nat_lt-suc a b =
    elim (nat_lt a b) as (λ t. nat_lt a b ≡ t → nat_lt (1 + a) (suc b) ≡ t) [
      | true ↦ λ is. grind (arith, nat_tests)
      | false ↦ λ is. grind (arith, nat_tests)
    ] refl

position_within : {A : Type 0} (p : A → Bool) (xs : List A) → nat_lt (position_or_len p xs) (length xs) ≡ list_any p xs
position_within p [] = refl
position_within p (x ∷ xs) =
    elim (p x) as (λ t. nat_lt (cond (not t) (1 + position_or_len p xs) 0) (length (x ∷ xs)) ≡ t || list_any p xs) [
      | true ↦ lt-ltb 0 (suc (length xs)) (omega arith)
      | false ↦ nat_lt-suc (position_or_len p xs) (length xs) ∙ position_within p xs
    ]

list_any-position : {A : Type 0} (p : A → Bool) (xs : List A) → is_some (position p xs) ≡ list_any p xs
list_any-position p xs = is_some-choice (nat_lt (position_or_len p xs) (length xs)) (position_or_len p xs) ∙ position_within p xs

is_among-keys : {A : Type 0} (ks : List (String A)) (k : String A) → is_among (string_bytes k) (map string_bytes ks) ≡ list_any (λ b. bytes_eq (string_bytes k) (string_bytes b)) ks
is_among-keys ks k =
    ap is_some (position-map string_bytes (bytes_eq (string_bytes k)) ks) ∙ list_any-position (λ b. bytes_eq (string_bytes k) (string_bytes b)) ks

-- what a set's `insert` makes of the names
pub inserted : {A : Type 0} (ks : List (String A)) (k : String A) → map string_bytes (insert_key (λ a b. bytes_eq (string_bytes a) (string_bytes b)) ks k) ≡ binding (string_bytes k) (map string_bytes ks)
inserted ks k = rw (is_among-keys ks k) (at (list_any (λ b. bytes_eq (string_bytes k) (string_bytes b)) ks))
  where
    at : (t : Bool) → map string_bytes (cond t ks (ks ++ k ∷ [])) ≡ cond t (map string_bytes ks) (map string_bytes ks ++ string_bytes k ∷ [])
    at true = refl
    at false = map-append string_bytes ks (k ∷ [])

pub ruleset names = (position-map)

-- a new name is put after the others
pub added : (name : List ℕ) (names : List (List ℕ)) → is_among name names ≡ false → binding name names ≡ names ++ name ∷ []
added name names new = rw new refl

-- a command changes no endpoint's name
pub endpoint_names_of-with_command : (c : Command) (es : List SceneEndpoint) → endpoint_names_of (with_command c es) ≡ endpoint_names_of es
endpoint_names_of-with_command c [] = refl
endpoint_names_of-with_command c (e ∷ []) = refl
endpoint_names_of-with_command c (e ∷ f ∷ es) = ap (λ t. e.name ∷ t) (endpoint_names_of-with_command c (f ∷ es))

pub ruleset declared = (added, endpoint_names_of-with_command, slice_get-map, map-append)
