-- The hosts' part of a round, turn by turn. Every list of entries has the newest first.
use Rattle.std.proofs.Common.{◌≡◌, ℕ, suc, ◌+◌, ◌<◌, ◌≤◌, inl, inr, length, take, set, get_or, arith, Bool, true, false, List, ◌∷◌, refl, sym, ap, ◌∙◌, subst}
use Rattle.std.specs.declared.option.Option.{Option}
use Rattle.std.specs.Prelude.{◌||◌, not, nat_le, slice_get, Some, None}
use Rattle.std.specs.List.{All}
use Rattle.std.specs.Option.{option_map}
use Rattle.std.proofs.lemmas.Bool.{cases_lt, and_right, true≢false, not-false, not-true}
use Rattle.std.proofs.lemmas.List.{length-set}
use Rattle.std.proofs.lemmas.Option.{slice_get_within, slice_get_read}
use Rattle.std.proofs.lemmas.List.Elements.{All-nil, All-push, All-set, All-take}
use Rattle.std.proofs.Math.Seq.{take-length, take-suc-set}
use Rattle.wx_id.specs.declared.numbers.HostNo.{HostNo}
use Rattle.wx_external.specs.World.{WorldLists}
use Rattle.wx_machine.specs.declared.entries.Entry.{Entry}
use Rattle.wx_machine.specs.Words.{hosts, has_ended, is_host_ready}
use Rattle.wx_script.specs.declared.scene.SpentWho.TheVariants.{Host}
use Rattle.wx_host_launch.specs.Records.{Writing, StarterState}
use Rattle.wx_host_slot.specs.Slots.{SlotState, Stands, WasStarted, is_spent_at, turns_left, CameTo, host_limit}
use Rattle.wx_host_slot.specs.Turns.{HostTurn, SaysOrEnds}
use Rattle.wx_host_slot.specs.declared.slot.Served.{Served}
use Rattle.wx_host_slot.specs.declared.slot.Served.TheVariants as served
use Rattle.wx_run.specs.declared.rounds.Rounded.TheVariants.{Moved, Idle, Spent}
use Rattle.wx_run.specs.Hosts.{host_numbered, HaveEnded, IsFirstUnended, HostTurns, is_host_spent, spent_host}
use Rattle.wx_run.specs.Slots.{HostsStand, AllWereStarted, first_spent_slot, first_unended_slot, all_turns_left, is_moved}
use Rattle.wx_run.specs.Serving.{SpendsHost, HostsServed, FirstHeard}
use Rattle.wx_id.proofs.ListLemmas.{set_same, set_there}
use Rattle.wx_run.proofs.ListLemmas.{element_at, All-at, All-take-at, sum_by-less}
use Rattle.wx_run.proofs.FirstLemmas.{none_pass, none_at, none-set, found-set, is_found}
use Rattle.wx_run.proofs.HostEntries.{Adds, turn_adds, called_so, turn_is_one, says_adds, says_one, adds_hosts, host_turns_stay, hosts_stay}
use Rattle.wx_run.proofs.SlotLemmas.{ended_so, spent_so, stand_at, hosts_stand_set, spent_is_first, no_spent_slot, unspent_behind}

-- ---- one host's turn

-- The slot at a place became another in a turn of its host.
pub record IsTurnOf (world : WorldLists) (i : ℕ) (slots : List SlotState) (before after : List Entry) (p q : SlotState) : Type 0 where
  pub at : slice_get slots i ≡ Some p
  pub adds : Adds (host_numbered i) before after
  pub stands : Stands p.starter.writing world after (host_numbered i) q

-- all hosts stand behind it
pub stand_behind : (writing : Option Writing) (world : WorldLists) (i : ℕ) (slots : List SlotState) (a b : List Entry) (p q : SlotState) → first_spent_slot 0 slots ≡ None → IsTurnOf world i slots a b p q → HostsStand writing world a slots
    → HostsStand writing world b (set slots i q)
stand_behind writing world i slots a b p q unspent turn so =
    let same = ap (λ (t : StarterState). t.writing) (stand_at writing world a slots 0 i i p so.stand turn.at (omega arith)).alone in
    hosts_stand_set writing world a b slots i p q so turn.at (none_at is_spent_at slots 0 i p (no_spent_slot slots unspent) turn.at) turn.adds (subst (λ w. Stands w world b (host_numbered i) q) same turn.stands)

-- where its host is spent behind it, that is the first
pub spent_behind_turn : (writing : Option Writing) (world : WorldLists) (i : ℕ) (slots : List SlotState) (a b : List Entry) (p q : SlotState) → first_spent_slot 0 slots ≡ None → IsTurnOf world i slots a b p q → HostsStand writing world a slots
    → length slots ≡ length (hosts a) → is_spent_at q ≡ true → spent_host b ≡ Some (host_numbered i)
spent_behind_turn writing world i slots a b p q unspent turn so all is =
    let kept = ap length (adds_hosts (host_numbered i) a b turn.adds) in
    let size = length-set slots i q in
    spent_is_first writing world b (set slots i q) (stand_behind writing world i slots a b p q unspent turn so) (omega (arith, kept, size, all))
    ∙ ap (option_map host_numbered) (found-set is_spent_at slots 0 i i q (slice_get_within slots i p turn.at) (omega arith) (no_spent_slot slots unspent) is)

-- ---- a turn by which a host is spent

-- a host that ended is not spent
ended_unspent : (writing : Option Writing) (world : WorldLists) (h : HostNo) (b : List Entry) (q : SlotState) → has_ended b h ≡ true → Stands writing world b h q → is_spent_at q ≡ false
ended_unspent writing world h b q over stands = and_right (nat_le host_limit q.made) (not q.ended) (ap not (ended_so writing world b h q stands ∙ over))

-- nor is one that made no entry and was not spent
rested_unspent : (writing told : Option Writing) (world : WorldLists) (h : HostNo) (a b : List Entry) (p q : SlotState) → b ≡ a → Stands writing world a h p → is_spent_at p ≡ false → Stands told world b h q → is_spent_at q ≡ false
rested_unspent writing told world h a b p q same before unspent after =
    sym (spent_so told world b h q after) ∙ ap (λ j. is_host_spent j h) same ∙ spent_so writing world a h p before ∙ unspent

-- so a turn by which a host is spent is one entry
spends_by_one : (called : Type 0) (writing told : Option Writing) (world : WorldLists) (h : HostNo) (a b : List Entry) (p q : SlotState) → Stands writing world a h p → is_spent_at p ≡ false → Stands told world b h q → is_spent_at q ≡ true
    → HostTurn called h a b → (last : Entry) × (b ≡ last ∷ a)
spends_by_one called writing told world h a b p q before unspent after spent turn = elim (turn_is_one called h a b turn) [
  | inl one ↦ one
  | inr (inl over) ↦ absurd (true≢false (sym spent ∙ ended_unspent told world h b q over after))
  | inr (inr same) ↦ absurd (true≢false (sym spent ∙ rested_unspent writing told world h a b p q same before unspent after))
]

-- ---- the turns of the first hosts

-- In their turns the first i hosts did nothing, as there was nothing to take.
pub record RestedBelow (i : ℕ) (old slots : List SlotState) (before after : List Entry) : Type 0 where
  pub same : after ≡ before
  pub same_slots : slots ≡ old
  pub none_ready : (h : HostNo) → h.0 < i → is_host_ready before h ≡ false

-- fewer turns are left, where one did something
abbrev pub RestedUnlessMoved : ℕ → List SlotState → List SlotState → List Entry → List Entry → Bool → Type 0
RestedUnlessMoved i old slots before after true = all_turns_left slots < all_turns_left old
RestedUnlessMoved i old slots before after false = RestedBelow i old slots before after

-- the first i hosts made their turns and were started, and none is spent; the slots behind theirs are the old ones
pub record ServedSoFar (world : WorldLists) (i : ℕ) (old slots : List SlotState) (before after : List Entry) (moved : Bool) : Type 0 where
  pub same_size : length slots ≡ length old
  pub stand : (writing : Option Writing) → HostsStand writing world before old → HostsStand writing world after slots
  pub started : AllWereStarted (take i slots)
  pub later : (j : ℕ) → i ≤ j → slice_get slots j ≡ slice_get old j
  pub turns : (known : ℕ) → AllWereStarted (take known old) → HostTurns known i before after
  pub unspent : first_spent_slot 0 slots ≡ None
  pub rest : RestedUnlessMoved i old slots before after moved

pub serving_begins : (world : WorldLists) (old : List SlotState) (a : List Entry) → first_spent_slot 0 old ≡ None → ServedSoFar world 0 old old a a false
serving_begins world old a unspent = record {
  same_size = refl;
  stand = λ writing so. so;
  started = All-nil WasStarted;
  later = λ j behind. refl;
  turns = λ known first. refl;
  unspent = unspent;
  rest = record { same = refl; same_slots = refl; none_ready = λ h below. absurd (omega (arith, below)) };
}

-- a slot at a place, as its host's turn asks for it
pub record IsSlotAt (world : WorldLists) (i : ℕ) (slots : List SlotState) (past : List Entry) (p : SlotState) : Type 0 where
  pub at : slice_get slots i ≡ Some p
  pub stands : Stands p.starter.writing world past (host_numbered i) p
  pub unspent : is_spent_at p ≡ false

pub slot_at : (writing : Option Writing) (world : WorldLists) (i : ℕ) (slots : List SlotState) (past : List Entry) (p : SlotState) → HostsStand writing world past slots → first_spent_slot 0 slots ≡ None → i < length slots → p ≡ get_or slots i p → IsSlotAt world i slots past p
slot_at writing world i slots past p so unspent below read =
    let at = slice_get_read slots (length slots) i p refl below read in
    let stands = stand_at writing world past slots 0 i i p so.stand at (omega arith) in
    record { at = at; stands = subst (λ w. Stands w world past (host_numbered i) p) (ap (λ (t : StarterState). t.writing) (sym stands.alone)) stands; unspent = none_at is_spent_at slots 0 i p (no_spent_slot slots unspent) at }

-- What the turn of the next host was and came to.
pub record IsNextTurn (world : WorldLists) (i : ℕ) (slots : List SlotState) (before after : List Entry) (p q : SlotState) (came : Served) : Type 0 where
  pub at : slice_get slots i ≡ Some p
  pub turn : HostTurn (¬ WasStarted p) (host_numbered i) before after
  pub stands : Stands p.starter.writing world after (host_numbered i) q
  pub started : WasStarted q
  pub came_to : CameTo (host_numbered i) before after p q came

pub is_turn : (world : WorldLists) (i : ℕ) (slots : List SlotState) (a b : List Entry) (p q : SlotState) (came : Served) → IsNextTurn world i slots a b p q came → IsTurnOf world i slots a b p q
is_turn world i slots a b p q came next = record { at = next.at; adds = turn_adds (¬ WasStarted p) (host_numbered i) a b next.turn; stands = next.stands }

-- one more slot was started
started_more : (slots : List SlotState) (i : ℕ) (q : SlotState) → i < length slots → WasStarted q → AllWereStarted (take i slots) → AllWereStarted (take (suc i) (set slots i q))
started_more slots i q below started all = subst AllWereStarted (sym (take-suc-set slots i q below)) (All-push WasStarted (take i slots) q all started)

-- a host that was not started is none of the known
not_known : (known i : ℕ) (old : List SlotState) (p : SlotState) → AllWereStarted (take known old) → slice_get old i ≡ Some p → ¬ WasStarted p → known ≤ i
not_known known i old p first at waits = elim (cases_lt i known) [
  | inl before ↦ absurd (waits (All-take-at WasStarted old known i p first before at))
  | inr behind ↦ omega (arith, behind)
]

-- so the next host's turn is one in which those alone can fail to start that are not known
next_turn : (world : WorldLists) (i : ℕ) (old slots : List SlotState) (a b c : List Entry) (p q : SlotState) (moved : Bool) (came : Served) → ServedSoFar world i old slots a b moved → IsNextTurn world i slots b c p q came
    → (known : ℕ) → AllWereStarted (take known old) → HostTurn (known ≤ i) (host_numbered i) b c
next_turn world i old slots a b c p q moved came so next known first =
    let at : slice_get old i ≡ Some p = sym (so.later i (omega arith)) ∙ next.at in
    called_so (¬ WasStarted p) (known ≤ i) (host_numbered i) b c (not_known known i old p first at) next.turn

none_ready_below : (i : ℕ) (a : List Entry) → ((h : HostNo) → h.0 < i → is_host_ready a h ≡ false) → is_host_ready a (host_numbered i) ≡ false → (h : HostNo) → h.0 < suc i → is_host_ready a h ≡ false
none_ready_below i a below last h less = elim (cases_lt h.0 i) [
  | inl before ↦ below h before
  | inr behind ↦ (let here : i ≡ h.0 = omega (arith, less, behind) in subst (λ m. is_host_ready a (host_numbered m) ≡ false) here last)
]

rests_on : (world : WorldLists) (i : ℕ) (old slots : List SlotState) (a b c : List Entry) (p q : SlotState) → RestedBelow i old slots a b → IsNextTurn world i slots b c p q served.Rested → RestedBelow (suc i) old (set slots i q) a c
rests_on world i old slots a b c p q rest next =
    let (same, not_ready, unchanged) = next.came_to in
    record {
      same = same ∙ rest.same;
      same_slots = ap (set slots i) unchanged ∙ set_same slots i p next.at ∙ rest.same_slots;
      none_ready = none_ready_below i a rest.none_ready (ap (λ j. is_host_ready j (host_numbered i)) (sym rest.same) ∙ not_ready);
    }

rest_behind : (world : WorldLists) (i : ℕ) (old slots : List SlotState) (a b c : List Entry) (p q : SlotState) (moved : Bool) (came : Served) → RestedUnlessMoved i old slots a b moved → IsNextTurn world i slots b c p q came
    → RestedUnlessMoved (suc i) old (set slots i q) a c (moved || is_moved came)
rest_behind world i old slots a b c p q true served.Moved rest next = let less = sum_by-less turns_left slots i p q next.at next.came_to in omega (arith, less, rest)
rest_behind world i old slots a b c p q false served.Moved rest next =
    let less = sum_by-less turns_left slots i p q next.at next.came_to in
    let same = ap all_turns_left rest.same_slots in
    omega (arith, less, same)
rest_behind world i old slots a b c p q true served.Rested rest next =
    let same : set slots i q ≡ slots = ap (set slots i) next.came_to.2 ∙ set_same slots i p next.at in
    let left = ap all_turns_left same in
    omega (arith, left, rest)
rest_behind world i old slots a b c p q false served.Rested rest next = rests_on world i old slots a b c p q rest next

-- one more host made its turn, and is not spent
turn_served_next : (world : WorldLists) (i : ℕ) (old slots : List SlotState) (a b c : List Entry) (p q : SlotState) (moved : Bool) (came : Served) → ServedSoFar world i old slots a b moved → IsNextTurn world i slots b c p q came → is_spent_at q ≡ false
    → ServedSoFar world (suc i) old (set slots i q) a c (moved || is_moved came)
turn_served_next world i old slots a b c p q moved came so next unspent = record {
  same_size = length-set slots i q ∙ so.same_size;
  stand = λ writing first. stand_behind writing world i slots b c p q so.unspent (is_turn world i slots b c p q came next) (so.stand writing first);
  started = started_more slots i q (slice_get_within slots i p next.at) next.started so.started;
  later = λ j behind. set_there slots i j q (omega (arith, behind)) ∙ so.later j (omega (arith, behind));
  turns = λ known first. (b, so.turns known first, next_turn world i old slots a b c p q moved came so next known first);
  unspent = ap (option_map host_numbered) (none-set is_spent_at slots 0 i q (no_spent_slot slots so.unspent) unspent);
  rest = rest_behind world i old slots a b c p q moved came so.rest next;
}

pub turn_served : (world : WorldLists) (i : ℕ) (old slots : List SlotState) (a b c : List Entry) (p q : SlotState) (moved served : Bool) (came : Served) → ServedSoFar world i old slots a b moved → IsNextTurn world i slots b c p q came → served ≡ is_moved came
    → is_spent_at q ≡ false → ServedSoFar world (i + 1) old (set slots i q) a c (moved || served)
turn_served world i old slots a b c p q moved served came so next is unspent =
    let one : suc i ≡ i + 1 = omega arith in
    subst (λ n. ServedSoFar world n old (set slots i q) a c (moved || served)) one
    (subst (λ m. ServedSoFar world (suc i) old (set slots i q) a c (moved || m)) (sym is) (turn_served_next world i old slots a b c p q moved came so next unspent))

-- one more host made its turn, and is spent
pub turn_spends : (writing : Option Writing) (world : WorldLists) (i : ℕ) (old slots : List SlotState) (a b c : List Entry) (p q : SlotState) (moved : Bool) (came : Served) → HostsStand writing world a old → length old ≡ length (hosts a)
    → ServedSoFar world i old slots a b moved → IsNextTurn world i slots b c p q came → is_spent_at q ≡ true
    → (known : ℕ) → AllWereStarted (take known old) → HostsServed known a c old (set slots i q) (Spent (Host (host_numbered i)))
turn_spends writing world i old slots a b c p q moved came first all so next is known known_first =
    let kept = ap length (hosts_stay a b (host_turns_stay known i a b (so.turns known known_first))) in
    let within = slice_get_within slots i p next.at in
    let stand = so.stand writing first in
    let before = stand_at writing world b slots 0 i i p stand.stand next.at (omega arith) in
    let one = spends_by_one (¬ WasStarted p) writing p.starter.writing world (host_numbered i) b c p q before (none_at is_spent_at slots 0 i p (no_spent_slot slots so.unspent) next.at) next.stands is next.turn in
    let spends : SpendsHost (host_numbered i) b c = record {
      last = one.0;
      made = one.1;
      unspent = unspent_behind writing world b slots stand so.unspent;
      spent = spent_behind_turn writing world i slots b c p q so.unspent (is_turn world i slots b c p q came next) stand (omega (arith, kept, all, so.same_size)) is;
    } in
    (i, b, omega (arith, within, all, so.same_size), so.turns known known_first, next_turn world i old slots a b c p q moved came so next known known_first, spends)

-- ---- all hosts

all_started : (world : WorldLists) (i : ℕ) (old slots : List SlotState) (a b : List Entry) (moved : Bool) → i ≡ length (hosts a) → length old ≡ length (hosts a) → ServedSoFar world i old slots a b moved → AllWereStarted slots
all_started world i old slots a b moved all size so =
    let every : i ≡ length slots = all ∙ sym size ∙ sym so.same_size in
    subst AllWereStarted (ap (λ n. take n slots) every ∙ take-length slots) so.started

pub all_moved : (world : WorldLists) (i : ℕ) (old slots : List SlotState) (a b : List Entry) → i ≡ length (hosts a) → length old ≡ length (hosts a) → ServedSoFar world i old slots a b true
    → (known : ℕ) → AllWereStarted (take known old) → HostsServed known a b old slots Moved
all_moved world i old slots a b all size so known first =
    (subst (λ n. HostTurns known n a b) all (so.turns known first), so.unspent, all_started world i old slots a b true all size so, so.rest)

pub all_rested : (world : WorldLists) (i : ℕ) (old slots : List SlotState) (a b : List Entry) → i ≡ length (hosts a) → length old ≡ length (hosts a) → ServedSoFar world i old slots a b false
    → (known : ℕ) → HostsServed known a b old slots Idle
all_rested world i old slots a b all size so known =
    let rest = so.rest in
    (rest.same, λ h below. rest.none_ready h (omega (arith, all, below)), all_started world i old slots a b false all size so, so.unspent, rest.same_slots)

-- ---- the first host that has not ended

abbrev is_unended : SlotState → Bool
is_unended slot = not slot.ended

-- hosts whose slots have ended have ended
ended_below : (writing : Option Writing) (world : WorldLists) (past : List Entry) (slots : List SlotState) (n : ℕ) → HostsStand writing world past slots → n ≤ length slots → All (λ slot. is_unended slot ≡ false) (take n slots)
    → (h : HostNo) → h.0 < n → has_ended past h ≡ true
ended_below writing world past slots n so within ended h below =
    let (p, is) = element_at slots h.0 (omega (arith, within, below)) in
    sym (ended_so writing world past h p (stand_at writing world past slots 0 h.0 h.0 p so.stand is (omega arith)))
    ∙ not-false p.ended (All-take-at (λ slot. is_unended slot ≡ false) slots n h.0 p ended below is)

pub all_ended : (writing : Option Writing) (world : WorldLists) (past : List Entry) (slots : List SlotState) → HostsStand writing world past slots → length slots ≡ length (hosts past) → first_unended_slot 0 slots ≡ None → HaveEnded past
all_ended writing world past slots so all none h below =
    let ended = none_pass is_unended slots 0 none in
    ended_below writing world past slots (length slots) so (omega arith) (All-take (λ slot. is_unended slot ≡ false) (length slots) slots ended) h (omega (arith, all, below))

pub is_first_unended : (writing : Option Writing) (world : WorldLists) (past : List Entry) (slots : List SlotState) (m : ℕ) → HostsStand writing world past slots → first_unended_slot 0 slots ≡ Some m → IsFirstUnended past (host_numbered m)
is_first_unended writing world past slots m so found =
    let first = is_found is_unended slots 0 m found in
    let within = slice_get_within slots first.i first.element first.at in
    let place = first.place in
    let here : first.i ≡ m = omega arith in
    record {
      is_host = omega (arith, so.below, within, place);
      unended = sym (ended_so writing world past (host_numbered m) first.element (stand_at writing world past slots 0 first.i m first.element so.stand first.at first.place)) ∙ not-true first.element.ended first.passes;
      first = ended_below writing world past slots m so (omega (arith, within, place)) (subst (λ n. All (λ slot. is_unended slot ≡ false) (take n slots)) here first.first);
    }

-- What the turn of the first host was.
pub record IsHeardTurn (world : WorldLists) (i : ℕ) (slots : List SlotState) (before after : List Entry) (p q : SlotState) : Type 0 where
  pub at : slice_get slots i ≡ Some p
  pub first : IsFirstUnended before (host_numbered i)
  pub turn : SaysOrEnds (host_numbered i) before after
  pub stands : Stands p.starter.writing world after (host_numbered i) q
  pub started : WasStarted q
  pub less : turns_left q < turns_left p

-- the slot of the first host that has not ended, as its turn asks for it
pub record IsFirstSlot (world : WorldLists) (i : ℕ) (slots : List SlotState) (past : List Entry) (p : SlotState) : Type 0 where
  pub slot : IsSlotAt world i slots past p
  pub first : IsFirstUnended past (host_numbered i)
  pub unended : p.ended ≡ false
  pub started : WasStarted p

pub first_slot : (writing : Option Writing) (world : WorldLists) (i : ℕ) (slots : List SlotState) (past : List Entry) (p : SlotState) → HostsStand writing world past slots → length slots ≡ length (hosts past) → first_spent_slot 0 slots ≡ None → AllWereStarted slots
    → first_unended_slot 0 slots ≡ Some i → p ≡ get_or slots i p → IsFirstSlot world i slots past p
first_slot writing world i slots past p so all unspent started found read =
    let first = is_first_unended writing world past slots i so found in
    let slot = slot_at writing world i slots past p so unspent (let below = first.is_host in omega (arith, below, all)) read in
    record {
      slot = slot;
      first = first;
      unended = ended_so p.starter.writing world past (host_numbered i) p slot.stands ∙ first.unended;
      started = All-at WasStarted slots i p started slot.at;
    }

pub heard_turn : (world : WorldLists) (i : ℕ) (slots : List SlotState) (a b : List Entry) (p q : SlotState) → IsHeardTurn world i slots a b p q → IsTurnOf world i slots a b p q
heard_turn world i slots a b p q heard = record { at = heard.at; adds = says_adds (host_numbered i) a b heard.first.unended heard.turn; stands = heard.stands }

pub heard_moved : (world : WorldLists) (i : ℕ) (slots : List SlotState) (a b : List Entry) (p q : SlotState) → first_spent_slot 0 slots ≡ None → AllWereStarted slots → IsHeardTurn world i slots a b p q → is_spent_at q ≡ false
    → FirstHeard a b slots (set slots i q) Moved
heard_moved world i slots a b p q unspent started heard is =
    ((host_numbered i, heard.first, heard.turn), ap (option_map host_numbered) (none-set is_spent_at slots 0 i q (no_spent_slot slots unspent) is), All-set WasStarted slots i q heard.started started, sum_by-less turns_left slots i p q heard.at heard.less)

pub heard_spent : (writing : Option Writing) (world : WorldLists) (i : ℕ) (slots : List SlotState) (a b : List Entry) (p q : SlotState) → HostsStand writing world a slots → length slots ≡ length (hosts a) → first_spent_slot 0 slots ≡ None
    → IsHeardTurn world i slots a b p q → is_spent_at q ≡ true → FirstHeard a b slots (set slots i q) (Spent (Host (host_numbered i)))
heard_spent writing world i slots a b p q so all unspent heard is =
    let one = says_one (host_numbered i) a b heard.turn in
    let spends : SpendsHost (host_numbered i) a b = record {
      last = one.0;
      made = one.1;
      unspent = unspent_behind writing world a slots so unspent;
      spent = spent_behind_turn writing world i slots a b p q unspent (heard_turn world i slots a b p q heard) so all is;
    } in
    ((host_numbered i, heard.first, heard.turn), spends)
