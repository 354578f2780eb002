-- The starters that the slots leave.
use Rattle.std.proofs.Common.{◌≡◌, ℕ, ◌+◌, ◌-◌, ◌^◌, ◌≤◌, ◌<◌, length, map, arith, List, [], ◌∷◌, refl, sym, ap, ◌∙◌, subst, append_assoc, append-nil}
use Rattle.std.specs.declared.option.Option.{Option}
use Rattle.std.specs.Prelude.{min}
use Rattle.std.proofs.Math.Nat.{min-eq_left, min-le_right}
use Rattle.wx_external.specs.World.{WorldLists}
use Rattle.wx_machine.specs.declared.entries.Entry.{Entry}
use Rattle.wx_host_launch.specs.Records.{Writing, StarterState, plus, faults_in, faults_of, taking_over}
use Rattle.wx_host_slot.specs.Slots.{SlotState, closing_record, closing_starter}
use Rattle.wx_run.specs.Hosts.{with_faults, with_records}
use Rattle.wx_run.specs.Slots.{SlotsStand, keeping, absorbing}

-- so many slots are left, which still have their places, and their starters are to come
pub record FinishedSoFar (start now : StarterState) (slots left : List SlotState) (count : ℕ) : Type 0 where
  pub counted : count ≡ length left
  pub places : length left ≤ now.places
  pub to_come : absorbing now left ≡ absorbing start slots

pub finishing_begins : (start : StarterState) (slots left : List SlotState) (count : ℕ) → left ≡ slots → count ≡ length slots → length slots ≤ start.places → FinishedSoFar start start slots left count
finishing_begins start slots left count all counted places = subst (λ l. FinishedSoFar start start slots l count) (sym all) (record { counted = counted; places = places; to_come = refl })

-- a place is left for the next record
pub place_left : (start now : StarterState) (slots left rest : List SlotState) (slot : SlotState) (count : ℕ) → FinishedSoFar start now slots left count → left ≡ slot ∷ rest → 0 < now.places
place_left start now slots left rest slot count so next =
    let places = so.places in
    let some = ap length next in
    omega (arith, places, some)

slot_finished : (start now : StarterState) (slots rest : List SlotState) (slot : SlotState) (count fewer : ℕ) → FinishedSoFar start now slots (slot ∷ rest) count → fewer + 1 ≡ count → FinishedSoFar start (taking_over now (closing_starter slot)) slots rest fewer
slot_finished start now slots rest slot count fewer so less = record {
  counted = (let counted = so.counted in omega (arith, counted, less));
  places = (let places = so.places in omega (arith, places));
  to_come = so.to_come;
}

-- one more starter is taken over
pub slot_absorbed : (start now later other : StarterState) (slots left rest : List SlotState) (slot : SlotState) (count fewer : ℕ) → FinishedSoFar start now slots left count → left ≡ slot ∷ rest → fewer + 1 ≡ count → other ≡ closing_starter slot → later ≡ taking_over now other → FinishedSoFar start later slots rest fewer
slot_absorbed start now later other slots left rest slot count fewer so next less is took =
    subst (λ s. FinishedSoFar start s slots rest fewer) (sym (took ∙ ap (taking_over now) is)) (slot_finished start now slots rest slot count fewer (subst (λ l. FinishedSoFar start now slots l count) next so) less)

pub all_finished : (start now : StarterState) (slots left : List SlotState) (count : ℕ) → FinishedSoFar start now slots left count → count ≡ 0 → now ≡ absorbing start slots
all_finished start now slots [] count so none = so.to_come
all_finished start now slots (slot ∷ left) count so none = absurd (let counted = so.counted in omega (arith, counted, none))

-- ---- of slots of which nothing else was started

capped : (n : ℕ) → plus 0 (min n (2 ^ 64 - 1)) ≡ min n (2 ^ 64 - 1)
capped n =
    let sum : 0 + min n (2 ^ 64 - 1) ≡ min n (2 ^ 64 - 1) = omega arith in
    ap (λ m. min m (2 ^ 64 - 1)) sum ∙ min-eq_left (min-le_right n (2 ^ 64 - 1))

-- a slot that took nothing over hands over the count of its own record
own_faults : (slot : SlotState) (count : ℕ) → slot.starter.taken_over ≡ 0 → plus count (faults_of (closing_starter slot)) ≡ plus count (faults_in (closing_record slot))
own_faults slot count none =
    let r = closing_record slot in
    ap (λ n. plus count (plus n (faults_in r))) none ∙ ap (plus count) (capped (plus r.failed_starts r.failed_reads + r.failed_writes))

absorbing_all : (writing : Option Writing) (world : WorldLists) (past : List Entry) (n : ℕ) (slots : List SlotState) (s : StarterState) → SlotsStand writing world past n slots
    → absorbing s slots ≡ record (with_records s (map closing_record slots)) { places = s.places - length slots }
absorbing_all writing world past n [] s stand = λ i. record s { records = sym (append-nil s.records) i; places = (let same : s.places ≡ s.places - 0 = omega arith in same) i }
absorbing_all writing world past n (slot ∷ slots) s stand =
    let r = closing_record slot in
    let faults = own_faults slot s.taken_over (ap (λ (t : StarterState). t.taken_over) stand.0.alone) in
    let places : s.places - 1 - length slots ≡ s.places - length (slot ∷ slots) = omega arith in
    absorbing_all writing world past (n + 1) slots (taking_over s (closing_starter slot)) stand.1
    ∙ (λ i. record s {
      records = append_assoc s.records (r ∷ []) (map closing_record slots) i;
      places = places i;
      taken_over = with_faults (faults i) (map closing_record slots);
    })

-- the places that were kept are used up
pub absorbing_kept : (writing : Option Writing) (world : WorldLists) (past : List Entry) (slots : List SlotState) (s : StarterState) → SlotsStand writing world past 0 slots
    → absorbing (keeping (length slots - 0) s) slots ≡ with_records s (map closing_record slots)
absorbing_kept writing world past slots s stand =
    let places : s.places + (length slots - 0) - length slots ≡ s.places = omega arith in
    absorbing_all writing world past 0 slots (keeping (length slots - 0) s) stand
    ∙ (λ i. record (with_records s (map closing_record slots)) { places = places i })
