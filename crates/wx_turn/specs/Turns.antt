-- What a turn, a join and the closing of a lock tell a seat. A view is what the seat knows.
use Rattle.std.specs.Prelude.{◌≡◌, ◌≢◌, ℕ, ◌<◌, ◌≤◌, List, [], ◌∷◌, ◌++◌, map, length, Option, Some, None}
use Rattle.std.specs.List.{AllByRecursion, Contains}
use mathlib.Core.List.{IsPrefix}
use Rattle.wx_turn.specs.declared.view.Element.{Element}
use Rattle.wx_turn.specs.declared.view.View.{View}
use Rattle.wx_turn.specs.declared.view.Stage.TheVariants.{Rests}
use Rattle.wx_turn.specs.History.{marks, own, element, Keeps}

-- no two numbers are equal
abbrev pub AreDistinct : List ℕ → Type 0
AreDistinct [] = Unit {0}
AreDistinct (n ∷ ns) = AllByRecursion (λ m. m ≢ n) ns × AreDistinct ns

-- a seat's number, and the numbers that it has taken over
abbrev pub with_joined : {A : Type 0} → ℕ → List (ℕ × A) → List ℕ
with_joined n joins = n ∷ map (λ p. p.0) joins

module _ {E F : Type 0} where
  -- what the first seat knows, which has the number 0
  abbrev pub first_view : F → View E F
  first_view f =
      record {
        fixed = Some f;
        history = [];
        other_history = [];
        number = Some 0;
        joins = [];
        stage = Rests;
        known_seats
            = 0;
      }

  -- a seat with no number, which has seen as much and has joined nobody
  abbrev pub unnumbered_view : View E F → View E F
  unnumbered_view v =
      record {
        fixed = v.fixed;
        history = v.history;
        other_history = [];
        number = None;
        joins = [];
        stage = Rests;
        known_seats = v.known_seats;
      }

  -- what a new seat knows that was split off, with the number n
  abbrev pub split_view : View E F → ℕ → View E F
  split_view v n = record (unnumbered_view v) { number = Some n }

  -- One turn of the seat n, from the view v to w. It was made on a history that begins with all that the seat had
  -- seen, and has no further element of this seat. After it the seat has seen that history and its one new element.
  pub record IsTurn (n : ℕ) (v w : View E F) (relates : F → List (Option E) → Option E → Type 0) : Type 0 where
    pub before : List (Element E)
    pub mark : Option E
    pub later : IsPrefix v.history before
    pub own_same : own n before ≡ own n v.history
    pub history : w.history ≡ before ++ element n mark ∷ []
    pub fixed : F
    pub fixed_is : (v.fixed ≡ Some fixed) × (w.fixed ≡ Some fixed)
    pub related : relates fixed (marks before) mark
    pub joins : w.joins ≡ v.joins
    pub joins_same : Keeps w.history w.joins
    pub distinct : AreDistinct (with_joined n w.joins)
    pub known_seats : w.known_seats ≡ v.known_seats

  -- The seat n, with the view v, joins the seat m, with the view w, and has the view u afterwards: it has seen all
  -- that the two had seen, and keeps the elements of m under this number, with those that m kept.
  pub record IsJoin (n m : ℕ) (v w u : View E F) : Type 0 where
    pub later : IsPrefix v.history u.history
    pub other_later : IsPrefix w.history u.history
    pub own_same : own n u.history ≡ own n v.history
    pub fixed : u.fixed ≡ v.fixed
    pub joins : u.joins ≡ v.joins ++ (m, own m w.history) ∷ w.joins
    pub joins_same : Keeps u.history u.joins
    pub distinct : AreDistinct (with_joined n u.joins)
    pub known_seats : u.known_seats ≡ v.known_seats

  -- The history is that of the whole lock, of which `count` seats were numbered; the seat n closed it, with the view v.
  -- Each element has a number below the count; where as many seats were joined, it is the number of one of them.
  pub record IsWholeHistory (count n : ℕ) (v : View E F) (history : List (Element E)) : Type 0 where
    pub later : IsPrefix v.history history
    pub own_same : own n history ≡ own n v.history
    pub joins_same : Keeps history v.joins
    pub distinct : AreDistinct (with_joined n v.joins)
    pub below : AllByRecursion (λ m. m < count) (with_joined n v.joins)
    pub made_below : AllByRecursion (λ e. e.by < count) history
    pub made_by : length (with_joined n v.joins) ≡ count
        → AllByRecursion (λ e. Contains (with_joined n v.joins) e.by) history
    pub seat_limit : count ≤ 4294967296
    pub known_seats : v.known_seats ≤ count

module _ {S E F : Type 0} where
  -- the value x, with which the seat n closed the lock, stands for the history of the whole lock
  abbrev pub StandsForWhole : (S → List (Option E) → Type 0) → S → (count n : ℕ) → View E F → Type 0
  StandsForWhole stands x count n v = (h : List (Element E)) × stands x (marks h) × IsWholeHistory count n v h
