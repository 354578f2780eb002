-- What a desk over a seat tells.
use Rattle.std.specs.Prelude.{ℕ, ◌-◌, ◌==◌, Bool, false, List, [], ◌∷◌, Option, Some, None, take, drop, reverse}
use Rattle.wx_id.specs.declared.numbers.ContextNo.{ContextNo}
use Rattle.wx_external.specs.World.{WorldLists}
use Rattle.wx_machine.specs.declared.entries.Who.{Who}
use Rattle.wx_machine.specs.declared.entries.Who.TheVariants.{Context}
use Rattle.wx_machine.specs.declared.entries.Entry.{Entry}
use Rattle.wx_turn.specs.declared.stands.Stands.{Ghosts}
use Rattle.wx_turn.specs.declared.lock.Seat.{Seat}
use Rattle.wx_turn.specs.declared.view.Element.{Element}
use Rattle.wx_turn.specs.declared.view.View.{View}
use Rattle.wx_turn.specs.History.{marks}
use Rattle.wx_turn.specs.Works.{entries}
use Rattle.wx_turn.specs.Seats.{number, view, turns_made, lock_of}
use Rattle.wx_desk.specs.History.{Seen, seen_by}
use Rattle.wx_desk.specs.Desks.{DeskState, ContextDeskState}

-- one more turn, which made an entry or none
abbrev pub put : Bool → Option Entry → List Seen → List Seen
put own None history = history
put own (Some e) history = record { own = own; entry = e } ∷ history

-- a history and the entries of these turns, of which those of seat n are own
abbrev pub grown : ℕ → List Seen → List (Element Entry) → List Seen
grown n history [] = history
grown n history (t ∷ turns) = grown n (put (t.by == n) t.entry history) turns

-- What seat n has seen, which works for this context or host: in the opening, so many turns, whatever that one made is
-- own, and behind it whatever the seat made.
abbrev pub history_of : ℕ → Who → ℕ → List (Element Entry) → List Seen
history_of opening who n turns =
    grown n (seen_by who (reverse (entries (marks (take opening turns))))) (drop opening turns)

abbrev pub world_or_none : Option WorldLists → WorldLists
world_or_none None = record { extensions = []; hosts = [] }
world_or_none (Some world) = world

-- the desk over seat n with this view, behind an opening of so many turns
abbrev pub desk_at : {A : Type 0} (as_who : A → Who) → ℕ → A → ℕ → View Entry WorldLists → DeskState A as_who
desk_at as_who opening who n v = record {
  who = who;
  world = world_or_none v.fixed;
  history = history_of opening (as_who who) n v.history;
  alone = false;
}

module _ {S : Type 0} {g : Ghosts S Entry WorldLists} where
  -- the desk of a context over a seat
  abbrev pub context_desk : ℕ → ContextNo → Seat S Entry WorldLists g → ContextDeskState
  context_desk opening c s = desk_at Context opening c (number s) (view s)

  -- how many turns the seat has left
  abbrev pub steps_left : Seat S Entry WorldLists g → ℕ
  steps_left s = 65536 - turns_made s

  -- which desk it is: the opening, the number of the context or host, the seat's number, and the lock
  abbrev pub key_of : ℕ → ℕ → Seat S Entry WorldLists g → List ℕ
  key_of opening who s =
      let lock = lock_of s in
      opening ∷ who ∷ number s ∷ lock.words ∷ lock.slots ∷ lock.views_name ∷ lock.atom ∷ lock.block ∷ lock.offset ∷
      lock.slot_names
