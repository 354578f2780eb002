-- Texts stay in a journal that goes on.
use Rattle.std.proofs.Common.{◌≡◌, ℕ, zero, suc, List, [], ◌∷◌, ◌++◌, Some}
use Rattle.std.specs.Prelude.{reverse, slice_get}
use Rattle.std.proofs.lemmas.List.{reverse-append}
use Rattle.wx_id.specs.declared.numbers.EntryNo.{EntryNo}
use Rattle.wx_machine.specs.declared.entries.Entry.{Entry}
use Rattle.wx_machine.specs.Words.{text_carried, text_of}

text_append : (xs ys : List Entry) (n : ℕ) (text : List ℕ) → text_carried (slice_get xs n) ≡ Some text → text_carried (slice_get (xs ++ ys) n) ≡ Some text
text_append [] ys n text is = absurd cc
text_append (x ∷ xs) ys zero text is = is
text_append (x ∷ xs) ys (suc n) text is = text_append xs ys n text is

-- what an entry carries is not changed by later entries
pub text_stays : (more past : List Entry) (e : EntryNo) (text : List ℕ) → text_of past e ≡ Some text → text_of (more ++ past) e ≡ Some text
text_stays more past e text is = rw reverse-append (text_append (reverse past) (reverse more) e.0 text is)
