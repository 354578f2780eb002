-- What a clause reads of a seat and of a lock.
use Rattle.std.specs.Prelude.{◌≡◌, ℕ, List, Option, length}
use Rattle.atomic_table.specs.Seated.{TableId}
use Rattle.wx_turn.specs.declared.stands.Stands.{Ghosts}
use Rattle.wx_turn.specs.declared.lock.Seat.{Seat}
use Rattle.wx_turn.specs.declared.lock.Turn.{Turn}
use Rattle.wx_turn.specs.declared.view.Element.{Element}
use Rattle.wx_turn.specs.declared.view.View.{View}
use Rattle.wx_turn.specs.History.{own}
use Rattle.wx_turn.specs.Turns.{IsTurn, IsJoin}

module _ {S E F : Type 0} {g : Ghosts S E F} where
  -- what the seat knows
  abbrev pub view : Seat S E F g → View E F
  view s = s.place.me.0

  -- the history that the seat has seen
  abbrev pub history : Seat S E F g → List (Element E)
  history s = s.place.me.0.history

  -- the numbers that it has taken over, each with the marks of its elements
  abbrev pub joins : Seat S E F g → List (ℕ × List (Option E))
  joins s = s.place.me.0.joins

  abbrev pub number : Seat S E F g → ℕ
  number s = s.number

  -- how many turns it has made
  abbrev pub turns_made : Seat S E F g → ℕ
  turns_made s = length (own s.number s.place.me.0.history)

  -- the lock that it is of
  abbrev pub lock_of : Seat S E F g → TableId
  lock_of s = s.place.table_id

  -- the same seat of the same lock, at two times
  abbrev pub IsSameSeat : Seat S E F g → Seat S E F g → Type 0
  IsSameSeat s t = (lock_of t ≡ lock_of s) × (number t ≡ number s)

  -- the seat s has made one turn, and is t
  abbrev pub IsTurnOf : Seat S E F g → Seat S E F g → (F → List (Option E) → Option E → Type 0) → Type 0
  IsTurnOf s t relates = IsTurn (number s) (view s) (view t) relates

  -- the seat s has joined the seat r, and is t
  abbrev pub IsJoinOf : Seat S E F g → Seat S E F g → Seat S E F g → Type 0
  IsJoinOf s r t = IsJoin (number s) (number r) (view s) (view r) (view t)

-- which lock it is
abbrev pub id : {S E F : Type 0} → Turn S E F → TableId
id t = t.table.shared.table_id
