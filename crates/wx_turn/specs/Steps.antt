-- What each step on the table tells the seat that makes it.
use Rattle.std.specs.Prelude.{◌≡◌, ◌≢◌, ℕ, ◌<◌, ◌≤◌, List, [], ◌∷◌, ◌++◌, length, Option, Some, None}
use mathlib.Core.List.{IsPrefix}
use Rattle.atomic_table.specs.Table.{Me, Step}
use Rattle.atomic_table.specs.Seated.{TableId}
use Rattle.wx_turn.specs.declared.view.Element.{Element}
use Rattle.wx_turn.specs.declared.view.View.{View}
use Rattle.wx_turn.specs.declared.view.Stage.TheVariants.{Rests, Waits, Acts, Closes}
use Rattle.wx_turn.specs.History.{marks, own, element, Keeps}
use Rattle.wx_turn.specs.Turns.{AreDistinct}
use Rattle.wx_turn.specs.Rule.{numbers}

-- a seat is at this table, which has three words and one slot
abbrev pub IsAtTable : TableId → TableId → Type 0
IsAtTable place table = (place ≡ table) × (table.words ≡ 3) × (table.slots ≡ 1)

abbrev pub TableStep : Type 0 → Type 0
TableStep S = Step (Option S)

-- a seat's view, and the slots that it holds
abbrev pub SeatState : Type 0 → Type 0 → Type 0 → Type 0
SeatState S E F = Me (Option S) (View E F)

-- the numbers that a seat has, each with the marks of its elements
abbrev pub holdings_of : {E : Type 0} → Option ℕ → List (Element E) → List (ℕ × List (Option E))
    → List (ℕ × List (Option E))
holdings_of None history joins = joins
holdings_of (Some n) history joins = (n, own n history) ∷ joins

module _ {E F : Type 0} where
  -- the view after a turn of the number n that added this mark
  abbrev pub after_turn : View E F → ℕ → Option E → View E F
  after_turn v n mark = record v { history = v.history ++ element n mark ∷ []; stage = Rests }

  -- what a seat knows that was joined
  abbrev pub spent_view : View E F
  spent_view =
      record {
        fixed = None;
        history = [];
        other_history = [];
        number = None;
        joins = [];
        stage = Rests;
        known_seats = 0;
      }

  abbrev pub holdings : View E F → List (ℕ × List (Option E))
  holdings v = holdings_of v.number v.history v.joins

  -- the seat with the view v has taken over what that with the view w had, and has not looked yet
  abbrev pub joined_view : View E F → View E F → View E F
  joined_view v w = record v { other_history = w.history; joins = v.joins ++ holdings w }

  -- the seat has seen the whole history so far
  pub record SeesAll (v w : View E F) : Type 0 where
    pub view : w ≡ record v { history = w.history; other_history = [] }
    pub later : IsPrefix v.history w.history
    pub other_later : IsPrefix v.other_history w.history
    pub own_same : (n : ℕ) → v.number ≡ Some n → own n w.history ≡ own n v.history
    pub joins_same : Keeps w.history v.joins
    pub distinct : AreDistinct (numbers v)

module _ {S E F : Type 0} where
  -- draw: the seat has the ticket that it found
  abbrev pub Draws : TableStep S → SeatState S E F → ℕ → SeatState S E F → Type 0
  Draws st m found m' = m' ≡ (record m.0 { stage = Waits found }, m.1)

  -- the last ticket t is served: the seat has seen all
  abbrev pub IsLast : View E F → SeatState S E F → ℕ → Type 0
  IsLast v m' t = (m' ≡ (record v { history = m'.0.history; stage = Closes t }, []))
      × IsPrefix v.history m'.0.history
      × ((n : ℕ) → v.number ≡ Some n → own n m'.0.history ≡ own n v.history)

  -- the seat with the view v has served its turn, in which it left the value x
  abbrev pub HasServed : (S → List (Option E) → Type 0) → View E F → S → SeatState S E F → Type 0
  HasServed stands v x m' = (n : ℕ) (mark : Option E) → v.number ≡ Some n → stands x (marks v.history ++ mark ∷ [])
      → m' ≡ (after_turn v n mark, [])

  module _ (stands : S → List (Option E) → Type 0) (fixed_of : S → F) where
    -- the ticket t is served: the seat has the slot, and its value x stands for all that it has seen now
    pub record BeginsTurn (m m' : SeatState S E F) (t : ℕ) (x : S) : Type 0 where
      pub view : m'.0 ≡ record m.0 { history = m'.0.history; stage = Acts t }
      pub slots : m'.1 ≡ (0, Some x) ∷ m.1
      pub later : IsPrefix m.0.history m'.0.history
      pub stands_for : stands x (marks m'.0.history)
      pub fixed : (f : F) → m.0.fixed ≡ Some f → fixed_of x ≡ f
      pub own_same : (n : ℕ) → m.0.number ≡ Some n → own n m'.0.history ≡ own n m.0.history
      pub joins_same : Keeps m'.0.history m.0.joins
      pub distinct : AreDistinct (numbers m.0)
      pub long : (length m'.0.history ≡ t) × (t < 562949953421312)

    -- look: where the seat found its own ticket, its turn begins
    abbrev pub Looks : TableStep S → SeatState S E F → ℕ → SeatState S E F → Type 0
    Looks st m found m' = (t : ℕ) → m.0.stage ≡ Waits t
        → (found ≡ t → (x : S) × BeginsTurn m m' t x) × (found ≢ t → m' ≡ m)

    -- the value in the slot stands for one mark more than was seen; the seat has seen that one too, and let the slot go
    abbrev pub EndsTurn : SeatState S E F → SeatState S E F → Type 0
    EndsTurn m m' = (n : ℕ) (x : S) → m.0.number ≡ Some n → m.1 ≡ (0, Some x) ∷ []
        → (mark : Option E) × stands x (marks m.0.history ++ mark ∷ []) × (m' ≡ (after_turn m.0 n mark, []))

    -- the value x stands for one mark more than was seen
    abbrev pub HasOneMore : View E F → S → Type 0
    HasOneMore v x = (n : ℕ) × (mark : Option E) × (v.number ≡ Some n)
        × stands x (marks v.history ++ mark ∷ []) × (v.fixed ≡ Some (fixed_of x))

    -- serve
    abbrev pub GivesBack : TableStep S → SeatState S E F → ℕ → SeatState S E F → Type 0
    GivesBack st m found m' = EndsTurn m m'

    -- number: the seat has the number that it found, unless another seat drew one in between
    abbrev pub Numbers : TableStep S → SeatState S E F → ℕ → SeatState S E F → Type 0
    Numbers st m found m' = (found ≡ st.first → (m' ≡ (record m.0 { number = Some found }, m.1))
        × (own found m.0.history ≡ []))
        × (found ≢ st.first → m' ≡ m)

    -- learn: a look after a join
    abbrev pub Learns : TableStep S → SeatState S E F → ℕ → SeatState S E F → Type 0
    Learns st m found m' = (m'.1 ≡ m.1) × SeesAll m.0 m'.0

    -- look of the last ticket: where the seat found its own ticket, it has seen all, and the value stays at home
    abbrev pub LooksLast : TableStep S → SeatState S E F → ℕ → SeatState S E F → Type 0
    LooksLast st m found m' = (t : ℕ) → m.0.stage ≡ Waits t
        → (found ≡ t
        → (m' ≡ (record m.0 { history = m'.0.history; stage = Closes t }, m.1))
        × IsPrefix m.0.history m'.0.history
        × ((n : ℕ) → m.0.number ≡ Some n → own n m'.0.history ≡ own n m.0.history))
        × (found ≢ t → m' ≡ m)

    -- count: at least so many seats were numbered as the seat found
    abbrev pub Counts : TableStep S → SeatState S E F → ℕ → SeatState S E F → Type 0
    Counts st m found m' = (found ≤ 4294967296) × (m.0.known_seats ≤ found)
        × (m' ≡ (record m.0 { known_seats = found }, m.1))
