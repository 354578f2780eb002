-- For each context the numbers of the channels of which it is an end.
use Rattle.std.specs.Prelude.{◌≡◌, ℕ, ◌-◌, ◌+◌, ◌<◌, ◌≤◌, List, [], ◌∷◌, ◌++◌, Bool, true, false, ◌==◌, Option, Some, None, IfSome, slice_get}
use Rattle.std.specs.List.{list_any}
use Rattle.wx_id.specs.declared.numbers.ContextNo.{ContextNo}
use Rattle.wx_port.specs.Port.{Port, IsSound, is_end}

-- numbers in rising order, and how many more fit with no allocation
pub record NumbersState : Type 0 where
  pub list : List ℕ
  pub room : ℕ

-- k is one of these numbers
abbrev pub has_number : List ℕ → ℕ → Bool
has_number ns k = list_any (λ n. n == k) ns

-- one more number, for which there was room
abbrev pub with_number : ℕ → NumbersState → NumbersState
with_number k s = record { list = s.list ++ k ∷ []; room = s.room - 1 }

-- k may follow: none of the numbers is above it, and there is room
pub record MayFollow (k : ℕ) (s : NumbersState) : Type 0 where
  pub room : 0 < s.room
  pub above : (n : ℕ) → has_number s.list n ≡ true → n ≤ k

-- the numbers of a context; none where it has no list yet
abbrev pub list_in : Option NumbersState → List ℕ
list_in None = []
list_in (Some s) = s.list

-- how many more numbers fit; none where there is no list yet
abbrev pub room_in : Option NumbersState → ℕ
room_in None = 0
room_in (Some s) = s.room

-- each context has the numbers that it had, and no less room
pub record AreStill (old new : List NumbersState) : Type 0 where
  pub numbers : (d : ℕ) → list_in (slice_get new d) ≡ list_in (slice_get old d)
  pub room : (d : ℕ) → room_in (slice_get old d) ≤ room_in (slice_get new d)

-- context c is an end of the channel, live or not; of none that was not opened yet
abbrev pub is_end_at : Option Port → ContextNo → Bool
is_end_at None c = false
is_end_at (Some port) c = is_end port c

-- these numbers are those of the channels of which c is an end
abbrev pub AreOf : List Port → ContextNo → List ℕ → Type 0
AreOf ports c ns = (k : ℕ) → has_number ns k ≡ is_end_at (slice_get ports k) c

-- each context has the numbers of the channels of which it is an end
pub record AreOwn (ports : List Port) (own : List NumbersState) : Type 0 where
  pub each : (c : ContextNo) → AreOf ports c (list_in (slice_get own c.0))

-- each channel is sound
abbrev pub AreSound : List Port → Type 0
AreSound ports = (k : ℕ) → IfSome (slice_get ports k) IsSound

-- the channels are sound, and each context has the numbers of its own
pub record IsKept (ports : List Port) (lists : List NumbersState) : Type 0 where
  pub sound : AreSound ports
  pub own : AreOwn ports lists
