-- What a context is to a channel, and its next channel, by its own numbers.
use Rattle.std.proofs.Common.{◌≡◌, ◌≢◌, ◌⊎◌, ⊎_elim, ℕ, ◌+◌, ◌<◌, ◌≤◌, List, length, get_or, refl, ap, sym, ◌∙◌, Bool, true, false, arith}
use Rattle.std.specs.Prelude.{Option, Some, None, slice_get, IfSome, ◌||◌, ◌&&◌, ◌==◌, if◌then◌else◌}
use Rattle.std.specs.List.Sorted.{IsNonDecreasing}
use Rattle.std.proofs.lemmas.Bool.{cases_lt, false≢true, false_from_ne_true}
use Rattle.wx_id.specs.declared.numbers.ContextNo.{ContextNo}
use Rattle.wx_id.specs.declared.events.End.{End}
use Rattle.wx_id.specs.declared.events.End.TheVariants.{Opener, Receiver, Neither}
use Rattle.wx_id.specs.Contexts.{same_context, is_among}
use Rattle.wx_port.specs.Port.{Port, end_of, is_end, is_live_end}
use Rattle.wx_port.specs.Numbers.{is_end_at, AreOf, AreSound}
use Rattle.wx_port.proofs.SoundLater.{live_end}
use Rattle.wx_port.proofs.NumbersLater.{place_in}

-- one that is no opener is an end where the channel is one of its own
pub end_own : (ports : List Port) (k : ℕ) (c opener : ContextNo) (b : Bool) → k < length ports → IfSome (slice_get ports k) (λ port. opener ≡ port.opener) → same_context opener c ≡ false → b ≡ is_end_at (slice_get ports k) c → end_of (slice_get ports k) c ≡ (if b then Receiver else Neither)
end_own ports k c opener b within is other own = by (slice_get ports k) is own
  where
    by : (o : Option Port) → IfSome o (λ port. opener ≡ port.opener) → b ≡ is_end_at o c → end_of o c ≡ (if b then Receiver else Neither)
    by None is own = rw own refl
    by (Some port) is own = let h : same_context port.opener c ≡ false = rw is at other in rw (own, h) refl

-- the own numbers before place i are no live ends from `from` on
abbrev pub NoneBefore : List Port → ContextNo → List ℕ → ℕ → ℕ → Type 0
NoneBefore ports c own from i = (p : ℕ) → p < i → from ≤ get_or own p 0 → is_live_end (slice_get ports (get_or own p 0)) c ≡ false

-- so there is none whose number would stand before place i
pub none_before : (ports : List Port) (c : ContextNo) (own : List ℕ) (from i j : ℕ) → AreSound ports → AreOf ports c own → NoneBefore ports c own from i → from ≤ j → ((p : ℕ) → p < length own → get_or own p 0 ≡ j → p < i) → is_live_end (slice_get ports j) c ≡ false
none_before ports c own from i j sound of none at_least early = false_from_ne_true _ (λ live.
    let at = place_in own j (of j ∙ live_end ports j c sound live) in
    let here : get_or own at.0 0 ≡ j = at.2 in
    false≢true (sym (none at.0 (early at.0 at.1 here) (rw here at_least)) ∙ ap (λ n. is_live_end (slice_get ports n) c) here ∙ live))

-- a number that is below the one at place i stands before it
pub before_place : (own : List ℕ) (i j p : ℕ) → IsNonDecreasing own → i < length own → j < get_or own i 0 → p < length own → get_or own p 0 ≡ j → p < i
before_place own i j p rising within below inside at = ⊎_elim
    (λ (before : p < i). before)
    (λ (after : i ≤ p). let h : get_or own i 0 ≤ get_or own p 0 = rising i p 0 after inside in absurd (omega (arith, h, below, at)))
    (cases_lt p i)
