-- What a call does to the shelf and to a sink.
use Rattle.std.specs.Prelude.{◌≡◌, ℕ, ◌⊎◌, List}
use Rattle.wx_outside.specs.Causes.{Rose}
use Rattle.wx_outside.specs.Shelf.{ShelfState}
use Rattle.wx_outside.specs.Sink.{SinkState, added, AddsFront}

-- what is told before and after a call
pub record Change (S : Type 0) : Type 0 where
  pub before : S
  pub after : S

-- over a call, from what was told before it to what is told after it
abbrev pub over : {S : Type 0} → S → S → Change S
over before after = record { before = before; after = after }

-- a shelf over a call
abbrev pub ShelfChange : Type 0
ShelfChange = Change ShelfState

-- a sink over a call
abbrev pub SinkChange : Type 0
SinkChange = Change SinkState

-- nothing was written
abbrev pub IsUntouched : SinkChange → Type 0
IsUntouched sink = sink.after.written ≡ sink.before.written

-- these bytes were written
abbrev pub Gained : SinkChange → List ℕ → Type 0
Gained sink bytes = sink.after.written ≡ added sink.before.written bytes

-- a front of these bytes was written
abbrev pub GainedFront : SinkChange → List ℕ → Type 0
GainedFront sink bytes = AddsFront sink.before.written sink.after.written bytes

-- a write failed in the call
abbrev pub HasFailed : SinkChange → Type 0
HasFailed sink = Rose sink.before.faults sink.after.faults

-- a read failed in the call
abbrev pub HasReadFailed : ShelfChange → Type 0
HasReadFailed shelf = Rose shelf.before.faults shelf.after.faults

-- these bytes were tried: they were written, or a front of them and that write failed
abbrev pub WasTried : SinkChange → List ℕ → Type 0
WasTried sink bytes = Gained sink bytes ⊎ (GainedFront sink bytes × HasFailed sink)
