-- An event that the tables tell is the one that the entry delivers.
use Rattle.std.proofs.Common.{◌≡◌, ℕ, List, [], ◌∷◌, ◌++◌, refl, ap, Bool, true, false, map}
use Rattle.wx_id.specs.declared.numbers.EntryNo.{EntryNo}
use Rattle.wx_id.specs.declared.events.Event.{Event}
use Rattle.wx_id.specs.declared.events.EventKind.{EventKind}
use Rattle.wx_machine.specs.Words.{marked, on}
use Rattle.wx_tables.specs.State.{in_entry}
use Rattle.wx_tables.specs.Ending.{heard}

-- an event of entry m that is heard stands where the entry's events do
pub heard_marked : (n : EntryNo) (m : ℕ) (b : Bool) (kind : EventKind) (queue : List Event) → n.0 ≡ m → heard b (in_entry n kind) queue ≡ queue ++ map (marked m) (on b kind)
heard_marked n m true kind queue at = ap (λ (i : ℕ). queue ++ marked i kind ∷ []) at
heard_marked n m false kind queue at = refl
