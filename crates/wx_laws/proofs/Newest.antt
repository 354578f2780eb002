-- A journal asked from its newest entry.
use Rattle.std.proofs.Common.{◌≡◌, ℕ, ◌+◌, ◌<◌, List, [], ◌∷◌, ◌++◌, length, get_or, take, refl, ap, ◌∙◌}
use Rattle.std.specs.Prelude.{reverse, ◌||◌}
use Rattle.wx_id.specs.declared.numbers.ContextNo.{ContextNo}
use Rattle.wx_machine.specs.declared.entries.Entry.{Entry}
use Rattle.wx_machine.specs.Words.{is_there, if_numbered, enters, context_of}
use Rattle.std.proofs.lemmas.List.{take_more, reverse-append, length-reverse}
use Rattle.wx_machine.proofs.Lists.{there_or}

-- one more entry stands at the head of the past
pub reverse-push : {X : Type 0} (xs : List X) (x : X) → reverse (xs ++ x ∷ []) ≡ x ∷ reverse xs
reverse-push xs x = reverse-append xs (x ∷ [])

-- the past of one more entry of a list
pub past_more : {X : Type 0} (xs : List X) (i : ℕ) (d : X) → i < length xs → reverse (take (i + 1) xs) ≡ get_or xs i d ∷ reverse (take i xs)
past_more xs i d h = ap reverse (take_more xs i d h) ∙ reverse-push (take i xs) (get_or xs i d)

-- the same, with the element first, for `grind` to match
pub past_at_read : {X : Type 0} → (xs : List X) (i : ℕ) (d : X) → i < length xs → (get_or xs i d ≡ get_or xs i d) × (reverse (take (i + 1) xs) ≡ get_or xs i d ∷ reverse (take i xs))
past_at_read xs i d h = (refl, past_more xs i d h)

-- what `came` says of one more entry
pub came_more : (e : Entry) (past : List Entry) (c : ContextNo) → is_there (context_of (e ∷ past) c) ≡ (is_there (context_of past c) || is_there (if_numbered c (enters e)))
came_more e past c = there_or (context_of past c) (if_numbered c (enters e))

-- how long a past is
pub length_past : {X : Type 0} (xs : List X) → length (reverse xs) ≡ length xs
length_past xs = length-reverse xs
