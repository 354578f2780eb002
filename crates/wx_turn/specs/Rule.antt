-- The rule of the lock, which holds between any two steps.
-- Word 0 counts the tickets that were drawn, word 1 the turns that were served, word 2 the seats that were numbered.
use Rattle.std.specs.Prelude.{◌≡◌, ℕ, zero, suc, ◌+◌, ◌<◌, ◌≤◌, List, [], ◌∷◌, map, length, Option, Some, None}
use Rattle.std.specs.List.{AllByRecursion}
use mathlib.Core.List.{IsPrefix}
use mathlib.Core.Option.{none, some}
use mathlib.Core.Option as maybe
use lib.ListN.{get_elem?}
use Rattle.atomic_table.specs.Table.{State}
use Rattle.wx_turn.specs.declared.view.Element.{Element}
use Rattle.wx_turn.specs.declared.view.View.{View}
use Rattle.wx_turn.specs.declared.view.Stage.{Stage}
use Rattle.wx_turn.specs.declared.view.Stage.TheVariants.{Rests, Waits, Acts, Closes}
use Rattle.wx_turn.specs.History.{marks, own}
use Rattle.wx_turn.specs.Turns.{AreDistinct, with_joined}

-- f of each number below k, added up
abbrev pub sum_below : (ℕ → ℕ) → ℕ → ℕ
sum_below f zero = 0
sum_below f (suc k) = sum_below f k + f k

-- how many tickets the seat has
abbrev pub ticket_count : Stage → ℕ
ticket_count Rests = 0
ticket_count (Waits t) = 1
ticket_count (Acts t) = 1
ticket_count (Closes t) = 1

-- the seat has the ticket t
abbrev pub HasTicket : ℕ → Stage → Type 0
HasTicket t Rests = ⊥
HasTicket t (Waits u) = u ≡ t
HasTicket t (Acts u) = u ≡ t
HasTicket t (Closes u) = u ≡ t

-- a seat's own number, if it has one, and those that it has taken over
abbrev pub numbers_of : {A : Type 0} → Option ℕ → List (ℕ × A) → List ℕ
numbers_of None joins = map (λ p. p.0) joins
numbers_of (Some n) joins = with_joined n joins

abbrev pub numbers : {E F : Type 0} → View E F → List ℕ
numbers v = numbers_of v.number v.joins

module _ {E : Type 0} (log : List (Element E)) where
  -- Seat i is at this stage, and has seen this history. `owner` says which seat drew a ticket, `acting` which seat acts
  -- on the value. A ticket that waits is not served yet; who acts, or closes, has the next one and has seen all.
  abbrev pub StageFits : ℕ → (ℕ → ℕ) → maybe.Option ℕ → ℕ → List (Element E) → Stage → Type 0
  StageFits tickets owner acting i history Rests = Unit {0}
  StageFits tickets owner acting i history (Waits t) = (owner t ≡ i) × (length log ≤ t) × (t < tickets)
  StageFits tickets owner acting i history (Acts t) =
      (owner t ≡ i) × (t ≡ length log) × (t < tickets) × (acting ≡ some i) × (history ≡ log)
  StageFits tickets owner acting i history (Closes t) =
      (owner t ≡ i) × (t ≡ length log) × (t < tickets) × (history ≡ log)

  -- Seat i has this number. `keeper` says which seat has a number, `drawn` how many tickets were drawn for it. The seat
  -- has seen all elements of its number, and drew a ticket for each of them and for the one that it has.
  abbrev pub NumberFits : ℕ → (ℕ → ℕ) → (ℕ → ℕ) → ℕ → List (Element E) → Stage → Option ℕ → Type 0
  NumberFits seats keeper drawn i history stage None = stage ≡ Rests
  NumberFits seats keeper drawn i history stage (Some n) =
      (n < seats) × (keeper n ≡ i) × (own n log ≡ own n history)
      × (drawn n ≡ length (own n history) + ticket_count stage)

  -- seat i has taken over these numbers, and keeps all elements of each
  abbrev pub JoinsFit : ℕ → (ℕ → ℕ) → ℕ → List (ℕ × List (Option E)) → Type 0
  JoinsFit seats keeper i joins = AllByRecursion (λ p. (p.0 < seats) × (keeper p.0 ≡ i) × (own p.0 log ≡ p.1)) joins

-- what holds of the view of seat i
pub record ViewFits {E F : Type 0} (fixed : F) (log : List (Element E)) (tickets seats : ℕ) (owner keeper drawn : ℕ → ℕ)
    (acting : maybe.Option ℕ) (i : ℕ) (v : View E F) : Type 0 where
  pub same : (f : F) → v.fixed ≡ Some f → f ≡ fixed
  pub history : IsPrefix v.history log
  pub other_history : IsPrefix v.other_history log
  pub number : NumberFits log seats keeper drawn i v.history v.stage v.number
  pub joins : JoinsFit log seats keeper i v.joins
  pub distinct : AreDistinct (numbers v)
  pub stage : StageFits log tickets owner acting i v.history v.stage
  pub known_seats : v.known_seats ≤ seats

module _ {S E F : Type 0} (stands : S → List (Option E) → Type 0) (fixed_of : S → F) (fixed : F) where
  -- There is one history, `log`, whose length is word 1. Where no seat acts on the value, it is at home and stands for
  -- this history. Each ticket from word 1 on is had by the seat that drew it.
  pub record LockRule (s : State (Option S) (View E F)) : Type 0 where
    pub log : List (Element E)
    pub tickets : ℕ
    pub seats : ℕ
    pub home : maybe.Option (Option S)
    pub views : List (View E F)
    pub owner : ℕ → ℕ
    pub keeper : ℕ → ℕ
    pub drawn : ℕ → ℕ
    pub acting : maybe.Option ℕ
    pub is : s ≡ record { words = tickets ∷ length log ∷ seats ∷ []; homes = home ∷ []; views = views }
    pub seat_limit : seats ≤ 4294967296
    pub ticket_sum : sum_below drawn seats ≡ tickets
    pub few : (n : ℕ) → drawn n ≤ 65537
    pub fresh : (n : ℕ) → seats ≤ n → (drawn n ≡ 0) × (own n log ≡ [])
    pub turns : length log ≤ tickets
    pub at_home : acting ≡ none → (x : S) × (home ≡ some (Some x)) × stands x (marks log) × (fixed_of x ≡ fixed)
    pub in_use : (i : ℕ) → acting ≡ some i
        → (owner (length log) ≡ i) × ((v : View E F) × (get_elem? views i ≡ some v) × (v.stage ≡ Acts (length log)))
    pub live : (t : ℕ) → length log ≤ t → t < tickets
        → (v : View E F) × (get_elem? views (owner t) ≡ some v) × HasTicket t v.stage
    pub each : (i : ℕ) (v : View E F) → get_elem? views i ≡ some v
        → ViewFits fixed log tickets seats owner keeper drawn acting i v
