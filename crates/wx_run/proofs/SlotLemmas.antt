-- How the slots of all hosts stand behind further entries. Every list of entries has the newest first.
use Rattle.std.proofs.Common.{◌≡◌, ◌≢◌, ℕ, zero, suc, ◌+◌, ◌<◌, ◌≤◌, ◌⊎◌, inl, inr, length, map, set, cond, arith, Bool, true, false, List, [], ◌∷◌, ◌++◌, Some, None, refl, sym, ap, ◌∙◌, subst}
use Rattle.std.specs.declared.option.Option.{Option}
use Rattle.std.specs.Prelude.{slice_get, not, ◌&&◌, nat_le, option_to_list}
use Rattle.std.specs.List.{All, position_from}
use Rattle.std.proofs.lemmas.List.Elements.{All-head, All-tail}
use Rattle.std.proofs.lemmas.Bool.{cases_eq, leb-false}
use Rattle.std.proofs.lemmas.List.{length-append, length-set}
use Rattle.std.proofs.lemmas.Option.{slice_get_within}
use Rattle.wx_id.specs.declared.numbers.ContextNo.{ContextNo}
use Rattle.wx_id.specs.declared.numbers.HostNo.{HostNo}
use Rattle.wx_external.specs.World.{WorldLists}
use Rattle.wx_machine.specs.declared.entries.Who.TheVariants.{Context as ByContext}
use Rattle.wx_machine.specs.declared.entries.Entry.{Entry}
use Rattle.wx_machine.specs.Words.{hosts, starts, is_by_host, has_ended}
use Rattle.wx_host_launch.specs.Records.{Writing, StarterState, slot_like}
use Rattle.wx_host_slot.specs.Journals.{entries_of}
use Rattle.wx_host_slot.specs.Slots.{SlotState, waiting, untold, running, at_end, Stands, waiting_slot, closing_record, is_spent_at, host_limit}
use Rattle.wx_run.specs.Hosts.{host_numbered, HaveEnded, is_host_spent, spent_host_from, spent_host, AreHostsWithin, RecordsMeet}
use Rattle.wx_run.specs.Slots.{SlotsStand, HostsStand, first_spent_slot}
use Rattle.wx_host_slot.proofs.JournalLemmas.{none_ended}
use Rattle.wx_host_slot.proofs.StandsLater.{stands_later, meets_at_end, waiting_stands}
use Rattle.wx_run.proofs.FirstLemmas.{none_pass, none_mapped, option_map-cond}
pub use Rattle.wx_run.proofs.HostEntries.{Adds, AreOfHost, hosts_newer, adds_hosts, adds_entries, adds_at_most, by_other_host, GrowsByHosts, host_turns_stay, hosts_stay}

-- ---- one slot

-- a slot tells whether its host has ended
pub ended_so : (writing : Option Writing) (world : WorldLists) (past : List Entry) (h : HostNo) (slot : SlotState) → Stands writing world past h slot → slot.ended ≡ has_ended past h
ended_so writing world past h slot stands = elim stands.stands [
  | waiting unended empty is ↦ ap (λ s. s.ended) is ∙ sym unended
  | untold failed ↦ failed.unended ∙ sym (none_ended past h (sym stands.counted ∙ failed.none_made))
  | running child runs ↦ runs.unended ∙ sym runs.host_unended
  | at_end ended is meets ↦ ended ∙ sym is
]

-- and whether it is spent
pub spent_so : (writing : Option Writing) (world : WorldLists) (past : List Entry) (h : HostNo) (slot : SlotState) → Stands writing world past h slot → is_host_spent past h ≡ is_spent_at slot
spent_so writing world past h slot stands =
    ap (λ n. nat_le host_limit n && not (has_ended past h)) (sym stands.counted)
    ∙ ap (λ b. nat_le host_limit slot.made && not b) (sym (ended_so writing world past h slot stands))

stands_newer : (writing : Option Writing) (world : WorldLists) (newer past : List Entry) (h g : HostNo) (slot : SlotState) → AreOfHost h newer → h.0 ≢ g.0 → g.0 < length (hosts past) → Stands writing world past g slot → Stands writing world (newer ++ past) g slot
stands_newer writing world [] past h g slot own apart below stands = stands
stands_newer writing world (e ∷ newer) past h g slot own apart below stands =
    let rest = stands_newer writing world newer past h g slot own.1 apart below stands in
    let kept = ap length (hosts_newer h newer past own.1) in
    stands_later writing world (newer ++ past) e g slot (omega (arith, kept, below)) (by_other_host e.who h g own.0.own apart) rest

-- the slot of another host stands as it stood
others_stand : (writing : Option Writing) (world : WorldLists) (a b : List Entry) (h g : HostNo) (slot : SlotState) → Adds h a b → h.0 ≢ g.0 → g.0 < length (hosts a) → Stands writing world a g slot → Stands writing world b g slot
others_stand writing world a b h g slot adds apart below stands =
    subst (λ j. Stands writing world j g slot) (sym adds.grown) (stands_newer writing world adds.newer a h g slot adds.own apart below stands)

-- ---- all slots

-- the slot at a place stands
pub stand_at : (writing : Option Writing) (world : WorldLists) (past : List Entry) (slots : List SlotState) (n i m : ℕ) (p : SlotState) → SlotsStand writing world past n slots → slice_get slots i ≡ Some p → m ≡ n + i → Stands writing world past (host_numbered m) p
stand_at writing world past [] n i m p stand is at = absurd cc
stand_at writing world past (r ∷ slots) n zero m p stand is at =
    let same : r ≡ p = cc in
    let here : n ≡ m = omega arith in
    subst (λ m. Stands writing world past (host_numbered m) p) here (subst (λ p. Stands writing world past (host_numbered n) p) same stand.0)
stand_at writing world past (r ∷ slots) n (suc i) m p stand is at =
    let next : m ≡ n + 1 + i = omega arith in
    stand_at writing world past slots (n + 1) i m p stand.1 is next

-- slots stand behind another past, where each does
slots_stand : (writing : Option Writing) (world : WorldLists) (a b : List Entry) (n : ℕ) (slots : List SlotState) → ((g : HostNo) (p : SlotState) → n ≤ g.0 → g.0 < n + length slots → Stands writing world a g p → Stands writing world b g p)
    → SlotsStand writing world a n slots → SlotsStand writing world b n slots
slots_stand writing world a b n [] each stand = tt
slots_stand writing world a b n (p ∷ slots) each stand = (
  each (host_numbered n) p (omega arith) (omega arith) stand.0,
  slots_stand writing world a b (n + 1) slots (λ g q above below. each g q (omega (arith, above)) (omega (arith, below))) stand.1,
)

-- one slot is set, and its host alone made entries
slots_set : (writing : Option Writing) (world : WorldLists) (a b : List Entry) (slots : List SlotState) (n i : ℕ) (h : HostNo) (q : SlotState) → Adds h a b → h.0 ≡ n + i → n + length slots ≤ length (hosts a)
    → SlotsStand writing world a n slots → Stands writing world b h q → SlotsStand writing world b n (set slots i q)
slots_set writing world a b [] n i h q adds at within stand stands = tt
slots_set writing world a b (p ∷ slots) n zero h q adds at within stand stands =
    let here : h.0 ≡ n = omega arith in (
      subst (λ m. Stands writing world b (host_numbered m) q) here stands,
      slots_stand writing world a b (n + 1) slots (λ g r above below. others_stand writing world a b h g r adds (omega (arith, above, here)) (omega (arith, below, within))) stand.1,
    )
slots_set writing world a b (p ∷ slots) n (suc i) h q adds at within stand stands = (
  others_stand writing world a b h (host_numbered n) p adds (omega (arith, at)) (omega (arith, within)) stand.0,
  slots_set writing world a b slots (n + 1) i h q adds (omega (arith, at)) (omega (arith, within)) stand.1 stands,
)

slots_append : (writing : Option Writing) (world : WorldLists) (past : List Entry) (slots : List SlotState) (n m : ℕ) (q : SlotState) → m ≡ n + length slots → SlotsStand writing world past n slots → Stands writing world past (host_numbered m) q → SlotsStand writing world past n (slots ++ q ∷ [])
slots_append writing world past [] n m q at stand stands =
    let here : m ≡ n = omega arith in
    (subst (λ m. Stands writing world past (host_numbered m) q) here stands, tt)
slots_append writing world past (p ∷ slots) n m q at stand stands = (stand.0, slots_append writing world past slots (n + 1) m q (omega (arith, at)) stand.1 stands)

-- ---- the limit

and_true : (b : Bool) → b ≡ (b && true)
and_true true = refl
and_true false = refl

below_limit : (made : ℕ) → (nat_le host_limit made && true) ≡ false → made < host_limit
below_limit made is = leb-false host_limit made (and_true (nat_le host_limit made) ∙ is)

-- an unspent host that made entries has no more than it may
within_own : (writing : Option Writing) (world : WorldLists) (a b : List Entry) (h : HostNo) (p : SlotState) → Adds h a b → Stands writing world a h p → is_spent_at p ≡ false → entries_of h a ≤ host_limit + 2 → entries_of h b ≤ host_limit + 2
within_own writing world a b h p adds stands unspent within =
    let most = adds_at_most h h a b adds in
    elim (has_ended a h) as (λ x. has_ended a h ≡ x → entries_of h b ≤ host_limit + 2) [
      | true ↦ λ is.
          let none : entries_of h b ≤ 0 + entries_of h a = subst (λ x. entries_of h b ≤ cond x 0 2 + entries_of h a) is most in
          omega (arith, none, within)
      | false ↦ λ is.
          let two : entries_of h b ≤ 2 + entries_of h a = subst (λ x. entries_of h b ≤ cond x 0 2 + entries_of h a) is most in
          let ended : p.ended ≡ false = ended_so writing world a h p stands ∙ is in
          let made : p.made < host_limit = below_limit p.made (ap (λ x. nat_le host_limit p.made && not x) (sym ended) ∙ unspent) in
          omega (arith, two, made, stands.counted)
    ] refl

within_behind : (writing : Option Writing) (world : WorldLists) (a b : List Entry) (h : HostNo) (p : SlotState) → Adds h a b → Stands writing world a h p → is_spent_at p ≡ false → AreHostsWithin a → AreHostsWithin b
within_behind writing world a b h p adds stands unspent within g = elim (cases_eq h.0 g.0) [
  | inl same ↦ subst (λ m. entries_of (host_numbered m) b ≤ host_limit + 2) same (within_own writing world a b h p adds stands unspent (within h))
  | inr apart ↦ (let kept = adds_entries h g a b adds apart in omega (arith, kept, within g))
]

-- ---- all hosts

-- Behind entries of the host of one slot, which is set, all hosts stand.
pub hosts_stand_set : (writing : Option Writing) (world : WorldLists) (a b : List Entry) (slots : List SlotState) (i : ℕ) (p q : SlotState) → HostsStand writing world a slots → slice_get slots i ≡ Some p → is_spent_at p ≡ false
    → Adds (host_numbered i) a b → Stands writing world b (host_numbered i) q → HostsStand writing world b (set slots i q)
hosts_stand_set writing world a b slots i p q so is unspent adds stands =
    let kept = ap length (adds_hosts (host_numbered i) a b adds) in
    let below : i < length slots = slice_get_within slots i p is in
    let same = length-set slots i q in
    record {
      stand = slots_set writing world a b slots 0 i (host_numbered i) q adds (omega arith) (omega (arith, so.below)) so.stand stands;
      below = omega (arith, same, kept, so.below);
      none_beyond = λ g beyond. adds_entries (host_numbered i) g a b adds (omega (arith, beyond, below, same)) ∙ so.none_beyond g (omega (arith, beyond, same));
      within_limit = within_behind writing world a b (host_numbered i) p adds (stand_at writing world a slots 0 i i p so.stand is (omega arith)) unspent so.within_limit;
    }

-- a slot is added for the next host
pub hosts_stand_append : (world : WorldLists) (past : List Entry) (slots : List SlotState) (starter : StarterState) → HostsStand starter.writing world past slots → length slots < length (hosts past)
    → HostsStand starter.writing world past (slots ++ waiting_slot (slot_like starter) ∷ [])
hosts_stand_append world past slots starter so below =
    let q = waiting_slot (slot_like starter) in
    let more = length-append slots (q ∷ []) in
    record {
      stand = slots_append starter.writing world past slots 0 (length slots) q (omega arith) so.stand (waiting_stands world past (host_numbered (length slots)) starter (so.none_beyond (host_numbered (length slots)) (omega arith)));
      below = omega (arith, more, below);
      none_beyond = λ g beyond. so.none_beyond g (omega (arith, beyond, more));
      within_limit = so.within_limit;
    }

entries_by_context : (h : HostNo) (past : List Entry) (e : Entry) (c : ContextNo) → e.who ≡ ByContext c → entries_of h (e ∷ past) ≡ entries_of h past
entries_by_context h past e c own = ap (λ w. cond (is_by_host w h) 1 0 + entries_of h past) own ∙ omega arith

-- An entry of an endpoint changes nothing for the hosts, but that it may start one more.
pub hosts_stand_later : (writing : Option Writing) (world : WorldLists) (past : List Entry) (e : Entry) (c : ContextNo) (slots : List SlotState) → e.who ≡ ByContext c → HostsStand writing world past slots → HostsStand writing world (e ∷ past) slots
hosts_stand_later writing world past e c slots own so =
    let more = length-append (hosts past) (option_to_list (starts past e)) in
    record {
      stand = slots_stand writing world past (e ∷ past) 0 slots (λ g p above below. stands_later writing world past e g p (omega (arith, below, so.below)) (ap (λ w. is_by_host w g) own)) so.stand;
      below = omega (arith, more, so.below);
      none_beyond = λ g beyond. entries_by_context g past e c own ∙ so.none_beyond g beyond;
      within_limit = λ g. subst (λ n. n ≤ host_limit + 2) (sym (entries_by_context g past e c own)) (so.within_limit g);
    }

-- ---- the end

ended_or_spent : (spent : Type 0) (past : List Entry) (h : HostNo) → h.0 < length (hosts past) → HaveEnded past ⊎ spent → has_ended past h ≡ false → spent
ended_or_spent spent past h below so unended = elim so [
  | inl all ↦ (let is = all h below in absurd cc)
  | inr is ↦ is
]

records_meet_from : (spent : Type 0) (writing : Option Writing) (world : WorldLists) (past : List Entry) (n : ℕ) (slots : List SlotState) → SlotsStand writing world past n slots → n + length slots ≤ length (hosts past) → (HaveEnded past ⊎ spent)
    → RecordsMeet spent writing world past n (map closing_record slots)
records_meet_from spent writing world past n [] stand all so = tt
records_meet_from spent writing world past n (p ∷ slots) stand all so = (
  meets_at_end spent writing world past (host_numbered n) p stand.0 (ended_or_spent spent past (host_numbered n) (omega (arith, all)) so),
  records_meet_from spent writing world past (n + 1) slots stand.1 (omega (arith, all)) so,
)

-- The records that the slots leave meet the journal, where every host has ended or the run was spent.
pub records_meet : (spent : Type 0) (writing : Option Writing) (world : WorldLists) (past : List Entry) (slots : List SlotState) → HostsStand writing world past slots → length slots ≡ length (hosts past) → (HaveEnded past ⊎ spent) → RecordsMeet spent writing world past 0 (map closing_record slots)
records_meet spent writing world past slots so all end = records_meet_from spent writing world past 0 slots so.stand (omega (arith, all)) end

spent_from : (writing : Option Writing) (world : WorldLists) (past : List Entry) (n : ℕ) (slots : List SlotState) → SlotsStand writing world past n slots → spent_host_from (length slots) n past ≡ first_spent_slot n slots
spent_from writing world past n [] stand = refl
spent_from writing world past n (p ∷ slots) stand =
    ap (λ b. cond b (Some (host_numbered n)) (spent_host_from (length slots) (n + 1) past)) (spent_so writing world past (host_numbered n) p stand.0)
    ∙ ap (λ o. cond (is_spent_at p) (Some (host_numbered n)) o) (spent_from writing world past (n + 1) slots stand.1)
    ∙ sym (option_map-cond host_numbered (is_spent_at p) n (position_from is_spent_at (n + 1) slots))

-- the slots tell which host is the first that is spent
pub spent_is_first : (writing : Option Writing) (world : WorldLists) (past : List Entry) (slots : List SlotState) → HostsStand writing world past slots → length slots ≡ length (hosts past) → spent_host past ≡ first_spent_slot 0 slots
spent_is_first writing world past slots so all = ap (λ n. spent_host_from n 0 past) (sym all) ∙ spent_from writing world past 0 slots so.stand

-- where no slot's host is spent, none is found
pub no_spent_slot : (slots : List SlotState) → first_spent_slot 0 slots ≡ None → position_from is_spent_at 0 slots ≡ None
no_spent_slot slots unspent = none_mapped host_numbered (position_from is_spent_at 0 slots) unspent

-- hosts that made no entry are not spent
unspent_beyond : (past : List Entry) (n count : ℕ) → ((h : HostNo) → n ≤ h.0 → entries_of h past ≡ 0) → spent_host_from count n past ≡ None
unspent_beyond past n zero none = refl
unspent_beyond past n (suc count) none =
    let first : is_host_spent past (host_numbered n) ≡ false = ap (λ made. nat_le host_limit made && not (has_ended past (host_numbered n))) (none (host_numbered n) (omega arith)) in
    ap (λ b. cond b (Some (host_numbered n)) (spent_host_from count (n + 1) past)) first ∙ unspent_beyond past (n + 1) count (λ h above. none h (omega (arith, above)))

unspent_from : (writing : Option Writing) (world : WorldLists) (past : List Entry) (n count : ℕ) (slots : List SlotState) → SlotsStand writing world past n slots → length slots ≤ count → ((h : HostNo) → n + length slots ≤ h.0 → entries_of h past ≡ 0)
    → All (λ slot. is_spent_at slot ≡ false) slots → spent_host_from count n past ≡ None
unspent_from writing world past n count [] stand most none unspent = unspent_beyond past n count (λ h above. none h (omega (arith, above)))
unspent_from writing world past n zero (p ∷ slots) stand most none unspent = absurd (omega (arith, most))
unspent_from writing world past n (suc count) (p ∷ slots) stand most none unspent =
    let first = All-head (λ slot. is_spent_at slot ≡ false) p slots unspent in
    let rest = All-tail (λ slot. is_spent_at slot ≡ false) p slots unspent in
    ap (λ b. cond b (Some (host_numbered n)) (spent_host_from count (n + 1) past)) (spent_so writing world past (host_numbered n) p stand.0 ∙ first)
    ∙ unspent_from writing world past (n + 1) count slots stand.1 (omega (arith, most)) (λ h above. none h (omega (arith, above))) rest

-- where no slot's host is spent, no host is: those without a slot made no entry
pub unspent_behind : (writing : Option Writing) (world : WorldLists) (past : List Entry) (slots : List SlotState) → HostsStand writing world past slots → first_spent_slot 0 slots ≡ None → spent_host past ≡ None
unspent_behind writing world past slots so unspent =
    unspent_from writing world past 0 (length (hosts past)) slots so.stand so.below (λ h above. so.none_beyond h (omega (arith, above))) (none_pass is_spent_at slots 0 (no_spent_slot slots unspent))
