-- Slots by their starters, and by what these tell.
use Rattle.std.proofs.Common.{◌≡◌, ℕ, ◌-◌, ◌<◌, length, set, get_or, cond, arith, Bool, true, false, List, [], ◌∷◌, ◌++◌, None, Some, sym, ap, ◌∙◌}
use Rattle.std.specs.declared.option.Option.{Option}
use Rattle.std.proofs.lemmas.List.{map-append, map-set, length-map, get_or-map}
use Rattle.wx_external.specs.World.{WorldLists}
use Rattle.wx_machine.specs.declared.entries.Entry.{Entry}
use Rattle.wx_machine.specs.Words.{hosts}
use Rattle.wx_host_launch.specs.Records.{Writing, StarterState}
use Rattle.wx_host_slot.specs.Slots.{SlotView, slot_of, slots_of}
use Rattle.wx_run.specs.Slots.{HostsStand, AllWereStarted, first_spent_slot, first_unended_slot}
use Rattle.wx_run.proofs.ServeLemmas.{IsSlotAt, slot_at, IsFirstSlot, first_slot, is_first_unended}

pub size_of : {P : Type 0} (state : P → StarterState) (views : List (SlotView P)) → length (slots_of state views) ≡ length views
size_of state views = length-map views (slot_of state)

pub set_of : {P : Type 0} (state : P → StarterState) (views : List (SlotView P)) (i : ℕ) (view : SlotView P) → set (slots_of state views) i (slot_of state view) ≡ slots_of state (set views i view)
set_of state views i view = sym (map-set (slot_of state) views i view)

pub pushed_of : {P : Type 0} (state : P → StarterState) (views more : List (SlotView P)) (view : SlotView P) (ok : Bool) → more ≡ cond ok (views ++ view ∷ []) views → slots_of state more ≡ cond ok (slots_of state views ++ slot_of state view ∷ []) (slots_of state views)
pushed_of state views more view true is = ap (slots_of state) is ∙ map-append (slot_of state) views (view ∷ [])
pushed_of state views more view false is = ap (slots_of state) is

pub more_of : {P : Type 0} (state : P → StarterState) (old new : List (SlotView P)) → length (slots_of state new) - length (slots_of state old) ≡ length new - length old
more_of state old new = omega (arith, size_of state old, size_of state new)

-- the slot at a place
pub view_at : {P : Type 0} (state : P → StarterState) (writing : Option Writing) (world : WorldLists) (i : ℕ) (views : List (SlotView P)) (past : List Entry) (view : SlotView P) → HostsStand writing world past (slots_of state views)
    → first_spent_slot 0 (slots_of state views) ≡ None → i < length views → view ≡ get_or views i view → IsSlotAt world i (slots_of state views) past (slot_of state view)
view_at state writing world i views past view so unspent below read =
    let size = size_of state views in
    slot_at writing world i (slots_of state views) past (slot_of state view) so unspent (omega (arith, below, size)) (ap (slot_of state) read ∙ sym (get_or-map (slot_of state) views i view (slot_of state view) below))

-- the slot of the first host that has not ended
pub first_view : {P : Type 0} (state : P → StarterState) (writing : Option Writing) (world : WorldLists) (i : ℕ) (views : List (SlotView P)) (past : List Entry) (view : SlotView P) → HostsStand writing world past (slots_of state views)
    → length views ≡ length (hosts past) → first_spent_slot 0 (slots_of state views) ≡ None → AllWereStarted (slots_of state views) → first_unended_slot 0 (slots_of state views) ≡ Some i → view ≡ get_or views i view
    → IsFirstSlot world i (slots_of state views) past (slot_of state view)
first_view state writing world i views past view so all unspent started found read =
    let slots = slots_of state views in
    let below : i < length views = (let host = (is_first_unended writing world past slots i so found).is_host in omega (arith, host, all)) in
    first_slot writing world i slots past (slot_of state view) so (size_of state views ∙ all) unspent started found (ap (slot_of state) read ∙ sym (get_or-map (slot_of state) views i view (slot_of state view) below))
