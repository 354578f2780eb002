-- Slots for the hosts that have none.
use Rattle.std.proofs.Common.{◌≡◌, ℕ, ◌+◌, ◌-◌, ◌*◌, ◌<◌, ◌≤◌, length, take, cond, arith, Bool, true, List, [], ◌∷◌, ◌++◌, refl, sym, ap, ◌∙◌, subst, append_assoc, append-nil}
use Rattle.std.specs.Prelude.{None}
use Rattle.std.specs.Option.{option_map}
use Rattle.std.proofs.lemmas.List.{length-append, take-append-le}
use Rattle.std.proofs.lemmas.List.Elements.{All-nil}
use Rattle.std.proofs.lemmas.List.Sums.{sum_by_push}
use Rattle.wx_external.specs.World.{WorldLists}
use Rattle.wx_machine.specs.declared.entries.Entry.{Entry}
use Rattle.wx_machine.specs.Words.{hosts}
use Rattle.wx_host_launch.specs.Records.{StarterState, slot_like, with_place}
use Rattle.wx_host_slot.specs.Slots.{SlotState, WasStarted, waiting_slot, is_spent_at, turns_left, host_limit}
use Rattle.wx_run.specs.Hosts.{host_numbered}
use Rattle.wx_run.specs.Slots.{HostsStand, AllWereStarted, WereStartedBelow, AddsBehind, first_spent_slot, all_turns_left, keeping}
use Rattle.wx_run.proofs.FirstLemmas.{none-append}
use Rattle.wx_run.proofs.SlotLemmas.{hosts_stand_append, no_spent_slot}

-- slots were added so far, with waiting hosts, and a place was kept for each
pub record AddedSoFar (world : WorldLists) (past : List Entry) (start now : StarterState) (old slots : List SlotState) : Type 0 where
  pub stand : HostsStand start.writing world past slots
  pub more : length old ≤ length slots
  pub front : AddsBehind old slots
  pub unspent : first_spent_slot 0 old ≡ None → first_spent_slot 0 slots ≡ None
  pub left : all_turns_left slots ≡ all_turns_left old + (host_limit + 4) * (length slots - length old)
  pub kept : now ≡ keeping (length slots - length old) start

adds_on : (old slots : List SlotState) (q : SlotState) → AddsBehind old slots → AddsBehind old (slots ++ q ∷ [])
adds_on old slots q added = (added.0 ++ q ∷ [], ap (λ s. s ++ q ∷ []) added.1 ∙ append_assoc old added.0 (q ∷ []))

-- the old slots, which stand in front, were started
pub were_started : (old new : List SlotState) (known : ℕ) → AddsBehind old new → WereStartedBelow known old → AllWereStarted (take known new)
were_started old new known added started = subst AllWereStarted (sym (take-append-le known old added.0 started.0) ∙ ap (λ slots. take known slots) (sym added.1)) started.1

pub none_below : (slots : List SlotState) → WereStartedBelow 0 slots
none_below slots = (omega arith, All-nil WasStarted)

pub adding_begins : (world : WorldLists) (past : List Entry) (start : StarterState) (slots : List SlotState) → HostsStand start.writing world past slots → AddedSoFar world past start start slots slots
adding_begins world past start slots stand =
    let none : length slots - length slots ≡ 0 = omega arith in
    record {
      stand = stand;
      more = omega arith;
      front = ([], sym (append-nil slots));
      unspent = λ none. none;
      left = omega arith;
      kept = ap (λ n. record start { places = n }) (let same : start.places ≡ start.places + (length slots - length slots) = omega arith in same);
    }

-- one more is added
pub slot_added : (world : WorldLists) (past : List Entry) (start now : StarterState) (old slots : List SlotState) → AddedSoFar world past start now old slots → length slots < length (hosts past)
    → AddedSoFar world past start (with_place now) old (slots ++ waiting_slot (slot_like now) ∷ [])
slot_added world past start now old slots so below =
    let q = waiting_slot (slot_like now) in
    let writing : now.writing ≡ start.writing = ap (λ s. s.writing) so.kept in
    let size = length-append slots (q ∷ []) in
    let more = so.more in
    let places : start.places + (length slots - length old) + 1 ≡ start.places + (length (slots ++ q ∷ []) - length old) = omega (arith, size, more) in
    record {
      stand = subst (λ w. HostsStand w world past (slots ++ q ∷ [])) writing (hosts_stand_append world past slots now (subst (λ w. HostsStand w world past slots) (sym writing) so.stand) below);
      more = omega (arith, size, more);
      front = adds_on old slots q so.front;
      unspent = λ none. ap (option_map host_numbered) (none-append is_spent_at slots 0 q (no_spent_slot slots (so.unspent none)) refl);
      left = (let left = sum_by_push turns_left slots q in omega (arith, size, more, left, so.left));
      kept = ap with_place so.kept ∙ ap (λ n. record start { places = n }) places;
    }

-- the same, as the loop has it
pub slot_pushed : (world : WorldLists) (past : List Entry) (start now next one : StarterState) (old slots more : List SlotState) (q : SlotState) (ok : Bool) → AddedSoFar world past start now old slots → length slots < length (hosts past)
    → one ≡ slot_like now → next ≡ with_place now → q ≡ waiting_slot one → more ≡ cond ok (slots ++ q ∷ []) slots → ok ≡ true → AddedSoFar world past start next old more
slot_pushed world past start now next one old slots more q ok so below is_one is_next is_q is_more is_ok =
    let pushed : more ≡ slots ++ waiting_slot (slot_like now) ∷ [] = is_more ∙ ap (λ b. cond b (slots ++ q ∷ []) slots) is_ok ∙ ap (λ q. slots ++ q ∷ []) (is_q ∙ ap waiting_slot is_one) in
    subst (λ s. AddedSoFar world past start next old s) (sym pushed)
    (subst (λ n. AddedSoFar world past start n old (slots ++ waiting_slot (slot_like now) ∷ [])) (sym is_next) (slot_added world past start now old slots so below))
