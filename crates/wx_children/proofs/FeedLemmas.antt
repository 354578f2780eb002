-- Bytes that are sent piece by piece.
use Rattle.std.proofs.Common.{◌≡◌, ℕ, ◌+◌, ◌-◌, ◌≤◌, List, ◌++◌, length, take, drop, Option, Some, None, refl, ap, sym, ◌∙◌, subst, arith, append_assoc}
use Rattle.std.proofs.lemmas.List.{length-drop, take_rest}
use Rattle.std.proofs.Math.Seq.{take-add}
use Rattle.wx_outside.specs.Sink.{added, AddsFront}
use Rattle.wx_children.specs.Ends.{Feeds}

added_twice : (sent : Option (List ℕ)) (a b : List ℕ) → added (added sent a) b ≡ added sent (a ++ b)
added_twice None a b = refl
added_twice (Some s) a b = ap Some (append_assoc s a b)

-- the first bytes were sent, so many of them
abbrev pub SentSoFar : Option (List ℕ) → Option (List ℕ) → List ℕ → ℕ → Type 0
SentSoFar start now bytes at = (at ≤ length bytes) × (now ≡ added start (take at bytes))

-- the next bytes go behind the first
sends_more : (start old new : Option (List ℕ)) (bytes : List ℕ) (at n : ℕ) → SentSoFar start old bytes at → Feeds old new (drop at bytes) (Some n) → SentSoFar start new bytes (at + n)
sends_more start old new bytes at n (le, so) (within, more) =
    (omega (arith, length-drop at bytes), more ∙ ap (λ s. added s (take n (drop at bytes))) so ∙ added_twice start (take at bytes) (take n (drop at bytes)) ∙ ap (added start) (sym (take-add at n bytes)))

-- so do those that were fed of the rest
pub sends_rest : (start old new : Option (List ℕ)) (bytes : List ℕ) (at n : ℕ) (r : Option ℕ) → SentSoFar start old bytes at → r ≡ Some n → Feeds old new (take (length bytes - at) (drop at bytes)) r → SentSoFar start new bytes (at + n)
sends_rest start old new bytes at n r so is more =
    let Fed : Option ℕ → Type 0 = λ x. Feeds old new (take (length bytes - at) (drop at bytes)) x in
    let Of : List ℕ → Type 0 = λ xs. Feeds old new xs (Some n) in
    sends_more start old new bytes at n so (subst Of (take_rest bytes at) (subst Fed is more))

-- where it stops a front was sent
pub stops : (start old new : Option (List ℕ)) (bytes : List ℕ) (at : ℕ) (r : Option ℕ) → SentSoFar start old bytes at → Feeds old new (drop at bytes) r → AddsFront start new bytes
stops start old new bytes at (Some n) so more = let (le, same) = sends_more start old new bytes at n so more in (at + n, le, same)
stops start old new bytes at None (le, so) same = (at, le, same ∙ so)
