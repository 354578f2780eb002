-- One more round of a run.
use Rattle.std.proofs.Common.{◌≡◌, ℕ, zero, suc, ◌+◌, ◌-◌, ◌*◌, ◌<◌, ◌≤◌, ◌⊎◌, length, take, cond, arith, true, false, List, [], ◌++◌, map, Some, None, refl, sym, ap, ◌∙◌, subst, inl, inr}
use Rattle.std.specs.declared.option.Option.{Option}
use Rattle.std.specs.Prelude.{reverse, Result, Ok, Err, IfOk, OnOk}
use Rattle.wx_id.specs.declared.texts.NoMemory.{NoMemory}
use Rattle.std.proofs.lemmas.List.{length-map, reverse-append, reverse-reverse}
use Rattle.std.proofs.lemmas.List.Elements.{All-take}
use Rattle.wx_id.specs.declared.numbers.HostNo.{HostNo}
use Rattle.wx_external.specs.World.{WorldLists}
use Rattle.wx_machine.specs.declared.entries.Entry.{Entry}
use Rattle.wx_machine.specs.Words.{hosts, FollowsMachine, EachAfter}
use Rattle.wx_host_launch.specs.Records.{Writing, StarterState}
use Rattle.wx_host_slot.specs.Slots.{SlotState, SlotView, WasStarted, slot_of, slots_of, host_limit, closing_record}
use Rattle.wx_host_slot.specs.Turns.{rested, SaysOrEnds}
use Rattle.wx_script.specs.declared.script.Command.{Command}
use Rattle.wx_script.specs.declared.scene.SpentWho.{SpentWho}
use Rattle.wx_script.specs.declared.scene.SpentWho.TheVariants.{Endpoint, Host}
use Rattle.wx_script.specs.Ends.{spent_of, AreIdle}
use Rattle.wx_endpoint.specs.Turn.{CursorState}
use Rattle.wx_run.specs.declared.rounds.Rounded.{Rounded}
use Rattle.wx_run.specs.declared.rounds.Rounded.TheVariants.{Moved, Idle, Spent}
use Rattle.wx_run.specs.declared.outcome.RunEnd.{RunEnd}
use Rattle.wx_run.specs.declared.outcome.RunEnd.TheVariants as end
use Rattle.wx_run.specs.Cursors.{AreBehind, first_spent_in, all_left, work_in}
use Rattle.wx_run.specs.Hosts.{HaveEnded, NoneReady, spent_host, HostTurns, host_numbered, IsFirstUnended, HaveRecords}
use Rattle.wx_run.specs.Slots.{HostsStand, AllWereStarted, WereStartedBelow, first_spent_slot, all_turns_left, keeping, absorbing}
use Rattle.wx_run.specs.Serving.{SpendsHost, HostsServed, FirstHeard}
use Rattle.wx_run.specs.Rounds.{Turns, Round, of_all, of_first_host, Rounds, FirstTurns, of_endpoints, of_hosts, whole, IsCutShort, IsSpent}
use Rattle.wx_run.specs.Round.{AllStand, IsRound, RoundLessens}
use Rattle.wx_run.specs.Run.{BeginsWith, HasEnd}
use Rattle.wx_run.specs.Running.{AreReady, MayGoOn, AllTurns, IsWholeRound, RoundOrNone, IsNextRound, turns_in, TurnsLessen, KeepsPlaces, AreRounds, RoundsSoFar}
use Rattle.wx_run.proofs.EndLemmas.{spent_behind, done_behind, left_behind}
use Rattle.wx_run.proofs.SlotLemmas.{records_meet, unspent_behind}
use Rattle.wx_run.proofs.FinishLemmas.{absorbing_kept}
use Rattle.wx_run.proofs.HostEntries.{host_turns_stay, says_stays, hosts_stay}
use Rattle.wx_run.proofs.HostLemmas.{grows_on, Turns_grow, by_hosts_grow, still_behind, endpoints_stand, Turns_keep, Rounds_grow, same_or_more}

-- ---- nobody is spent

not_some : {A : Type 0} (o : Option A) (x : A) → o ≡ None → o ≡ Some x → ⊥
not_some o x none some = let never : Some x ≡ None = sym some ∙ none in cc

not_spent : (scripts : List (List Command)) (past : List Entry) → spent_of scripts past ≡ None → spent_host past ≡ None → ¬ IsSpent scripts past
not_spent scripts past endpoints none (inl (n, is)) = not_some (spent_of scripts past) n endpoints is
not_spent scripts past endpoints none (inr (h, is)) = not_some (spent_host past) h none is

-- where another round may begin
pub none_spent : (writing : Option Writing) (world : WorldLists) (scripts : List (List Command)) (ps : List CursorState) (slots : List SlotState) (past : List Entry) → AreReady writing world scripts ps slots past → ¬ IsSpent scripts past
none_spent writing world scripts ps slots past ready =
    not_spent scripts past (spent_behind scripts ps past ready.endpoints.behind ∙ ready.unspent)
    (unspent_behind writing world past slots ready.hosts_stand ready.hosts_unspent)

-- ---- rounds that are cut short

-- an endpoint is spent by the last entry
pub whole_cut : (known : ℕ) (writing : Option Writing) (world : WorldLists) (scripts : List (List Command)) (ps : List CursorState) (slots : List SlotState) (a b : List Entry) (who : SpentWho) → HostsStand writing world a slots → first_spent_slot 0 slots ≡ None
    → IsRound scripts ps a b (Spent who) → IsWholeRound known scripts ps slots a b (Spent who)
whole_cut known writing world scripts ps slots a b (Endpoint n) stand unspent spends =
    let hosts_stand = Turns_keep writing world (take n scripts) 0 a spends.past slots spends.earlier stand in
    let cut : IsCutShort known scripts a b = record {
      turns = of_endpoints (n + 1) spends.turns;
      last = spends.last;
      past = spends.past;
      made = spends.made;
      unspent = not_spent scripts spends.past spends.unspent (unspent_behind writing world spends.past slots hosts_stand unspent);
      spent = inl (n, spends.spent);
    } in
    (cut, spends.spent)
whole_cut known writing world scripts ps slots a b (Host h) stand unspent round = absurd round

-- a host is spent by the last entry, and no endpoint is
cut_by_host : (known : ℕ) (scripts : List (List Command)) (ps : List CursorState) (a b c : List Entry) (h : HostNo) → FirstTurns known scripts a c → AreBehind scripts ps b → AreBehind scripts ps c → first_spent_in 0 ps ≡ None → SpendsHost h b c
    → IsCutShort known scripts a c × HasEnd scripts c (end.Spent (Host h))
cut_by_host known scripts ps a b c h turns before after unspent spends =
    let cut : IsCutShort known scripts a c = record {
      turns = turns;
      last = spends.last;
      past = b;
      made = spends.made;
      unspent = not_spent scripts b (spent_behind scripts ps b before ∙ unspent) spends.unspent;
      spent = inr (h, spends.spent);
    } in
    (cut, (spent_behind scripts ps c after ∙ unspent, spends.spent))

-- ---- a whole round

-- where no host is ready, all make a turn in which they do nothing
none_turn : (known n : ℕ) (past : List Entry) → n ≤ length (hosts past) → NoneReady past → HostTurns known n past past
none_turn known zero past within none = refl
none_turn known (suc n) past within none = (past, none_turn known n past (omega (arith, within)) none, rested (none (host_numbered n) (omega (arith, within))) refl)

-- the hosts made their turns behind all endpoints, and one did something or is spent
pub whole_served : (known : ℕ) (world : WorldLists) (scripts : List (List Command)) (ps : List CursorState) (old new : List SlotState) (a b c : List Entry) (r : Rounded) → AllStand world scripts ps b → Turns scripts 0 a b → first_spent_in 0 ps ≡ None
    → length new ≡ length (hosts b) → (r ≡ Idle → ⊥) → HostsServed known b c old new r → IsWholeRound known scripts ps new a c r
whole_served known world scripts ps old new a b c Moved stand turns unspent size moved served =
    let kept = ap length (hosts_stay b c (host_turns_stay known (length (hosts b)) b c served.0)) in
    ((b, turns, served.0), record { unspent = unspent; hosts_unspent = served.1; all = size ∙ sym kept; started = served.2 })
whole_served known world scripts ps old new a b c Idle stand turns unspent size moved served = absurd (moved refl)
whole_served known world scripts ps old new a b c (Spent (Endpoint n)) stand turns unspent size moved served = absurd served
whole_served known world scripts ps old new a b c (Spent (Host h)) stand turns unspent size moved (n, past, below, earlier, turn, spends) =
    let all : HostTurns known (suc n) b c = (past, earlier, turn) in
    let before = still_behind scripts ps b past stand.behind (host_turns_stay known n b past earlier) in
    let after = still_behind scripts ps b c stand.behind (host_turns_stay known (suc n) b c all) in
    cut_by_host known scripts ps a past c h (of_hosts b (suc n) turns (omega (arith, below)) all) before after unspent spends

-- they could do nothing behind all endpoints
pub whole_rested : (known : ℕ) (scripts : List (List Command)) (ps : List CursorState) (old new : List SlotState) (a b c : List Entry) (r : Rounded) → IsRound scripts ps a b r → ((who : SpentWho) → r ≡ Spent who → ⊥)
    → length old ≡ length (hosts b) → HostsServed known b c old new Idle → IsWholeRound known scripts ps new a c r
whole_rested known scripts ps old new a b c Moved round unspent all (same, none, started, hosts_unspent, same_slots) =
    let here : AllTurns known scripts a b = (b, round.0, none_turn known (length (hosts b)) b (omega arith) none) in
    let counted : length new ≡ length (hosts c) = ap length same_slots ∙ all ∙ sym (ap (λ j. length (hosts j)) same) in
    (subst (λ j. AllTurns known scripts a j) (sym same) here, record { unspent = round.1; hosts_unspent = hosts_unspent; all = counted; started = started })
whole_rested known scripts ps old new a b c Idle round unspent all (same, none, started, hosts_unspent, same_slots) =
    let counted : length new ≡ length (hosts c) = ap length same_slots ∙ all ∙ sym (ap (λ j. length (hosts j)) same) in
    (same ∙ round.3, round.2, subst (λ j. NoneReady j) round.3 none, record { unspent = round.1; hosts_unspent = hosts_unspent; all = counted; started = started })
whole_rested known scripts ps old new a b c (Spent who) round unspent all served = absurd (unspent who refl)

-- ---- what stands behind a whole round

-- the hosts stand behind the endpoints' part
pub round_keeps : (writing : Option Writing) (world : WorldLists) (scripts : List (List Command)) (ps : List CursorState) (slots : List SlotState) (a b : List Entry) (r : Rounded) → IsRound scripts ps a b r → HostsStand writing world a slots → HostsStand writing world b slots
round_keeps writing world scripts ps slots a b Moved round stand = Turns_keep writing world scripts 0 a b slots round.0 stand
round_keeps writing world scripts ps slots a b Idle round stand = Turns_keep writing world scripts 0 a b slots round.0 stand
round_keeps writing world scripts ps slots a b (Spent (Endpoint n)) round stand = Turns_keep writing world (take (n + 1) scripts) 0 a b slots round.turns stand
round_keeps writing world scripts ps slots a b (Spent (Host h)) round stand = absurd round

-- all endpoints made their turns, unless one is spent
pub round_made : (scripts : List (List Command)) (ps : List CursorState) (a b : List Entry) (r : Rounded) → IsRound scripts ps a b r → ((who : SpentWho) → r ≡ Spent who → ⊥) → Turns scripts 0 a b × (first_spent_in 0 ps ≡ None)
round_made scripts ps a b Moved round unspent = (round.0, round.1)
round_made scripts ps a b Idle round unspent = (round.0, round.1)
round_made scripts ps a b (Spent who) round unspent = absurd (unspent who refl)

-- the endpoints stand behind the turns of hosts
pub served_stand : (world : WorldLists) (scripts : List (List Command)) (ps : List CursorState) (known : ℕ) (old new : List SlotState) (a b : List Entry) (r : Rounded) → AllStand world scripts ps a → HostsServed known a b old new r → EachAfter (FollowsMachine world) b → AllStand world scripts ps b
served_stand world scripts ps known old new a b Moved stand served legal = endpoints_stand world scripts ps a b stand (host_turns_stay known (length (hosts a)) a b served.0) legal
served_stand world scripts ps known old new a b Idle stand served legal = subst (λ j. AllStand world scripts ps j) (sym served.0) stand
served_stand world scripts ps known old new a b (Spent (Endpoint n)) stand served legal = absurd served
served_stand world scripts ps known old new a b (Spent (Host h)) stand (n, past, below, earlier, turn, spends) legal = endpoints_stand world scripts ps a b stand (host_turns_stay known (suc n) a b (past, earlier, turn)) legal

-- and behind that of the first host
pub heard_stand : (world : WorldLists) (scripts : List (List Command)) (ps : List CursorState) (old new : List SlotState) (a b : List Entry) (r : Rounded) → AllStand world scripts ps a → FirstHeard a b old new r → EachAfter (FollowsMachine world) b → AllStand world scripts ps b
heard_stand world scripts ps old new a b Moved stand heard legal = endpoints_stand world scripts ps a b stand (says_stays heard.0.0 a b heard.0.2) legal
heard_stand world scripts ps old new a b Idle stand heard legal = subst (λ j. AllStand world scripts ps j) (sym heard.0) stand
heard_stand world scripts ps old new a b (Spent (Endpoint n)) stand heard legal = absurd heard
heard_stand world scripts ps old new a b (Spent (Host g)) stand heard legal = endpoints_stand world scripts ps a b stand (says_stays heard.0.0 a b heard.0.2) legal

-- ---- fewer turns are left

-- behind an entry, whatever the hosts did
moved_fewer : (w v g h k l m : ℕ) → v < w → h + v ≤ g + w → l ≡ k + (host_limit + 4) * (h - g) → m ≤ l → (host_limit + 5) * v + m < (host_limit + 5) * w + k
moved_fewer w v g h k l m less called left most = omega (arith, less, called, left, most)

-- behind the turn of a host
served_fewer : (w v g h k l m : ℕ) → v ≤ w → h + v ≤ g + w → l ≡ k + (host_limit + 4) * (h - g) → m < l → (host_limit + 5) * v + m < (host_limit + 5) * w + k
served_fewer w v g h k l m less called left most = omega (arith, less, called, left, most)

-- at the slots that were added, which are all
pub record SlotsAdded (old new : List SlotState) (past : List Entry) : Type 0 where
  pub all : length new ≡ length (hosts past)
  pub left : all_turns_left new ≡ all_turns_left old + (host_limit + 4) * (length new - length old)

pub slots_added : {P : Type 0} (state : P → StarterState) (old new : List (SlotView P)) (past : List Entry) → length new ≡ length (hosts past)
    → all_turns_left (slots_of state new) ≡ all_turns_left (slots_of state old) + (host_limit + 4) * (length new - length old) → SlotsAdded (slots_of state old) (slots_of state new) past
slots_added state old new past all left =
    let more : length new - length old ≡ length (slots_of state new) - length (slots_of state old) = omega (arith, length-map new (slot_of state), length-map old (slot_of state)) in
    record {
      all = length-map new (slot_of state) ∙ all;
      left = left ∙ ap (λ n. all_turns_left (slots_of state old) + (host_limit + 4) * n) more;
    }

left_so : (old mid : List SlotState) (a b : List Entry) → length old ≡ length (hosts a) → SlotsAdded old mid b → all_turns_left mid ≡ all_turns_left old + (host_limit + 4) * (length (hosts b) - length (hosts a))
left_so old mid a b known added =
    subst (λ n. all_turns_left mid ≡ all_turns_left old + (host_limit + 4) * (length (hosts b) - n)) known
    (subst (λ n. all_turns_left mid ≡ all_turns_left old + (host_limit + 4) * (n - length old)) added.all added.left)

-- the endpoints' part of a round never leaves more
no_more : (ps qs : List CursorState) (a b : List Entry) (r : Rounded) → RoundLessens ps qs a b r → ((who : SpentWho) → r ≡ Spent who → ⊥) → (work_in qs ≤ work_in ps) × (length (hosts b) + work_in qs ≤ length (hosts a) + work_in ps)
no_more ps qs a b Moved less unspent = (let fewer = less.fewer in omega arith, less.one_host_each)
no_more ps qs a b Idle less unspent = (let fewer = less.fewer in omega arith, less.one_host_each)
no_more ps qs a b (Spent who) less unspent = absurd (unspent who refl)

pub served_lessens : (ps qs : List CursorState) (known : ℕ) (old mid new : List SlotState) (a b c : List Entry) (r : Rounded) (made : Rounded) → RoundLessens ps qs a b made → ((who : SpentWho) → made ≡ Spent who → ⊥)
    → length old ≡ length (hosts a) → SlotsAdded old mid b → (r ≡ Idle → ⊥) → HostsServed known b c mid new r → TurnsLessen (turns_in ps old) (turns_in qs new) r
served_lessens ps qs known old mid new a b c Moved made less unspent all added moved served =
    let few = no_more ps qs a b made less unspent in
    served_fewer (work_in ps) (work_in qs) (length (hosts a)) (length (hosts b)) (all_turns_left old) (all_turns_left mid) (all_turns_left new) few.0 few.1 (left_so old mid a b all added) served.3
served_lessens ps qs known old mid new a b c Idle made less unspent all added moved served = absurd (moved refl)
served_lessens ps qs known old mid new a b c (Spent who) made less unspent all added moved served = tt

pub rested_lessens : (scripts : List (List Command)) (ps qs : List CursorState) (known : ℕ) (old mid new : List SlotState) (a b c : List Entry) (r : Rounded) → IsRound scripts qs a b r → RoundLessens ps qs a b r
    → length old ≡ length (hosts a) → SlotsAdded old mid b → HostsServed known b c mid new Idle → TurnsLessen (turns_in ps old) (turns_in qs new) r
rested_lessens scripts ps qs known old mid new a b c Moved round less all added served =
    let most : all_turns_left new ≤ all_turns_left mid = (let same = ap all_turns_left served.4 in omega (arith, same)) in
    moved_fewer (work_in ps) (work_in qs) (length (hosts a)) (length (hosts b)) (all_turns_left old) (all_turns_left mid) (all_turns_left new) less.fewer less.one_host_each (left_so old mid a b all added) most
rested_lessens scripts ps qs known old mid new a b c Idle round less all added served =
    let called = ap (λ j. length (hosts j)) round.3 in
    let left = ap all_turns_left served.4 ∙ left_so old mid a b all added in
    let same_work : work_in qs ≡ work_in ps = less.fewer in
    omega (arith, called, left, same_work)
rested_lessens scripts ps qs known old mid new a b c (Spent who) round less all added served = tt

-- the turn of the first host
pub heard_lessens : (ps : List CursorState) (old new : List SlotState) (a b : List Entry) (r : Rounded) → FirstHeard a b old new r → TurnsLessen (turns_in ps old) (turns_in ps new) r
heard_lessens ps old new a b Moved heard = let fewer = heard.3 in omega (arith, fewer)
heard_lessens ps old new a b Idle heard = ap (λ slots. turns_in ps slots) heard.2
heard_lessens ps old new a b (Spent who) heard = tt

-- ---- the next round

all_or_none : (known : ℕ) (scripts : List (List Command)) (a b : List Entry) → AllTurns known scripts a b → RoundOrNone known scripts a b
all_or_none known scripts a b turns =
    let by_hosts = host_turns_stay known (length (hosts turns.0)) turns.0 b turns.2 in
    let grown = grows_on a turns.0 b (Turns_grow scripts 0 a turns.0 turns.1) (by_hosts_grow turns.0 b by_hosts) in
    elim (same_or_more a b grown) [
      | inl same ↦ inr same
      | inr moved ↦ inl (of_all turns.0 turns.1 turns.2 moved)
    ]

-- a whole round in which somebody did something is the next
pub next_whole : (known : ℕ) (scripts : List (List Command)) (ps : List CursorState) (slots : List SlotState) (a b : List Entry) (r : Rounded) → (r ≡ Idle → ⊥) → IsWholeRound known scripts ps slots a b r → IsNextRound known scripts ps slots a b r
next_whole known scripts ps slots a b Moved moved round = (all_or_none known scripts a b round.0, round.1)
next_whole known scripts ps slots a b Idle moved round = absurd (moved refl)
next_whole known scripts ps slots a b (Spent who) moved round = round

heard_round : (known : ℕ) (scripts : List (List Command)) (ps : List CursorState) (slots : List SlotState) (a b c : List Entry) → IsWholeRound known scripts ps slots a b Idle → (h : HostNo) → IsFirstUnended b h → SaysOrEnds h b c → Round known scripts a c
heard_round known scripts ps slots a b c idle h first turn =
    let here : Round known scripts b c = of_first_host (subst (λ j. AreIdle scripts j) (sym idle.0) idle.1) (subst (λ j. NoneReady j) (sym idle.0) idle.2) h first turn in
    subst (λ j. Round known scripts j c) idle.0 here

-- where nobody could do anything, the first host's turn is the next round
pub next_heard : (known : ℕ) (world : WorldLists) (scripts : List (List Command)) (ps : List CursorState) (old new : List SlotState) (a b c : List Entry) (r : Rounded) → AllStand world scripts ps b → AllStand world scripts ps c → length new ≡ length old
    → IsWholeRound known scripts ps old a b Idle → FirstHeard b c old new r → IsNextRound known scripts ps new a c r
next_heard known world scripts ps old new a b c Moved before after size idle heard =
    let kept = ap length (hosts_stay b c (says_stays heard.0.0 b c heard.0.2)) in
    let go_on : MayGoOn ps new c = record { unspent = idle.3.unspent; hosts_unspent = heard.1; all = size ∙ idle.3.all ∙ sym kept; started = heard.2 } in
    (inl (heard_round known scripts ps old a b c idle heard.0.0 heard.0.1 heard.0.2), go_on)
next_heard known world scripts ps old new a b c Idle before after size idle heard = (
  record {
    idle = subst (λ j. AreIdle scripts j) (sym (heard.0 ∙ idle.0)) idle.1;
    ended = subst (λ j. HaveEnded j) (sym heard.0) heard.1;
    same = heard.0 ∙ idle.0;
  },
  idle.3.unspent,
)
next_heard known world scripts ps old new a b c (Spent (Endpoint n)) before after size idle heard = absurd heard
next_heard known world scripts ps old new a b c (Spent (Host g)) before after size idle heard =
    cut_by_host known scripts ps a b c g (whole (heard_round known scripts ps old a b c idle heard.0.0 heard.0.1 heard.0.2)) before.behind after.behind idle.3.unspent heard.1

-- the same of what `hear_first` answers
pub heard_stands : (world : WorldLists) (scripts : List (List Command)) (ps : List CursorState) (old new : List SlotState) (a b : List Entry) (result : Result Rounded NoMemory) → AllStand world scripts ps a
    → IfOk result (λ r. FirstHeard a b old new r) → OnOk result (EachAfter (FollowsMachine world) b) → OnOk result (AllStand world scripts ps b)
heard_stands world scripts ps old new a b (Ok r) stand heard legal = heard_stand world scripts ps old new a b r stand heard legal
heard_stands world scripts ps old new a b (Err e) stand heard legal = tt

pub heard_next : (known : ℕ) (world : WorldLists) (scripts : List (List Command)) (ps : List CursorState) (old new : List SlotState) (a b c : List Entry) (result : Result Rounded NoMemory) → AllStand world scripts ps b → length new ≡ length old
    → IsWholeRound known scripts ps old a b Idle → IfOk result (λ r. FirstHeard b c old new r) → OnOk result (EachAfter (FollowsMachine world) c) → IfOk result (λ r. IsNextRound known scripts ps new a c r)
heard_next known world scripts ps old new a b c (Ok r) stand size idle heard legal = next_heard known world scripts ps old new a b c r stand (heard_stand world scripts ps old new b c r stand heard legal) size idle heard
heard_next known world scripts ps old new a b c (Err e) stand size idle heard legal = tt

then_lessens : (m n k : ℕ) (r : Rounded) → n ≡ m → TurnsLessen n k r → TurnsLessen m k r
then_lessens m n k r same less = subst (λ n. TurnsLessen n k r) same less

pub heard_lessens_on : (before : ℕ) (ps : List CursorState) (old new : List SlotState) (b c : List Entry) (result : Result Rounded NoMemory) → turns_in ps old ≡ before → IfOk result (λ r. FirstHeard b c old new r)
    → IfOk result (λ r. TurnsLessen before (turns_in ps new) r)
heard_lessens_on before ps old new b c (Ok r) same heard = then_lessens before (turns_in ps old) (turns_in ps new) r same (heard_lessens ps old new b c r heard)
heard_lessens_on before ps old new b c (Err e) same heard = tt

-- ---- places

keeping_none : (n : ℕ) (s : StarterState) → s ≡ keeping (n - n) s
keeping_none n s =
    let same : s.places ≡ s.places + (n - n) = omega arith in
    λ i. record s { places = same i }

pub keeps_none : (slots : List SlotState) (s : StarterState) → KeepsPlaces slots slots s s
keeps_none slots s = record { more = omega arith; kept = keeping_none (length slots) s }

-- slots of one size
pub keeps_same : (slots new : List SlotState) (s : StarterState) → length new ≡ length slots → KeepsPlaces slots new s s
keeps_same slots new s same =
    let none : length slots - length slots ≡ length new - length slots = omega (arith, same) in
    record { more = omega (arith, same); kept = keeping_none (length slots) s ∙ ap (λ n. keeping n s) none }

pub places_kept : {P : Type 0} (state : P → StarterState) (old new : List (SlotView P)) (a b : StarterState) → length old ≤ length new → b ≡ keeping (length new - length old) a → KeepsPlaces (slots_of state old) (slots_of state new) a b
places_kept state old new a b more kept =
    let same : length new - length old ≡ length (slots_of state new) - length (slots_of state old) = omega (arith, length-map new (slot_of state), length-map old (slot_of state)) in
    record {
      more = omega (arith, more, length-map new (slot_of state), length-map old (slot_of state));
      kept = kept ∙ ap (λ n. keeping n a) same;
    }

pub keeps_on : (old mid new : List SlotState) (a b c : StarterState) → KeepsPlaces old mid a b → KeepsPlaces mid new b c → KeepsPlaces old new a c
keeps_on old mid new a b c first second =
    let both : a.places + (length mid - length old) + (length new - length mid) ≡ a.places + (length new - length old) = (let more = first.more in let most = second.more in omega (arith, more, most)) in
    record {
      more = (let more = first.more in let most = second.more in omega (arith, more, most));
      kept = second.kept ∙ ap (λ s. keeping (length new - length mid) s) first.kept ∙ (λ i. record a { places = both i });
    }

-- children write what they wrote
pub keeps_writing : (old new : List SlotState) (a b : StarterState) → KeepsPlaces old new a b → b.writing ≡ a.writing
keeps_writing old new a b keeps = ap (λ (s : StarterState). s.writing) keeps.kept

-- slots of one size as their views are
pub same_sizes : {P : Type 0} (state : P → StarterState) (old new : List (SlotView P)) → length new ≡ length old → length (slots_of state new) ≡ length (slots_of state old)
same_sizes state old new same = length-map new (slot_of state) ∙ same ∙ sym (length-map old (slot_of state))

-- a slot was added for each host that had none
pub places_added : {P : Type 0} (state : P → StarterState) (writing : Option Writing) (world : WorldLists) (past : List Entry) (old new : List (SlotView P)) (a b : StarterState) → HostsStand writing world past (slots_of state old) → length new ≡ length (hosts past)
    → b ≡ keeping (length new - length old) a → KeepsPlaces (slots_of state old) (slots_of state new) a b
places_added state writing world past old new a b stand all kept =
    let below = stand.below in
    places_kept state old new a b (omega (arith, below, all, length-map old (slot_of state))) kept

-- ---- rounds

-- the same of the world, the scripts and what children write as they stand now
pub ready_now : (writing told : Option Writing) (world other : WorldLists) (scripts ss : List (List Command)) (ps : List CursorState) (slots : List SlotState) (past : List Entry) → told ≡ writing → other ≡ world → ss ≡ scripts
    → AreReady writing world scripts ps slots past → AreReady told other ss ps slots past
ready_now writing told world other scripts ss ps slots past same_writing same_world same_scripts ready =
    subst (λ w. AreReady w other ss ps slots past) (sym same_writing)
    (subst (λ w. AreReady writing w ss ps slots past) (sym same_world)
    (subst (λ ss. AreReady writing world ss ps slots past) (sym same_scripts) ready))

pub stand_now : (world other : WorldLists) (scripts ss : List (List Command)) (ps : List CursorState) (past : List Entry) → other ≡ world → ss ≡ scripts → AllStand other ss ps past → AllStand world scripts ps past
stand_now world other scripts ss ps past same_world same_scripts stand = subst (λ w. AllStand w scripts ps past) same_world (subst (λ ss. AllStand other ss ps past) same_scripts stand)

pub hosts_now : (writing told : Option Writing) (world other : WorldLists) (past : List Entry) (slots : List SlotState) → told ≡ writing → other ≡ world → HostsStand told other past slots → HostsStand writing world past slots
hosts_now writing told world other past slots same_writing same_world stand = subst (λ w. HostsStand writing w past slots) same_world (subst (λ t. HostsStand t other past slots) same_writing stand)

pub round_now : (known : ℕ) (scripts ss : List (List Command)) (ps : List CursorState) (slots : List SlotState) (a b : List Entry) (r q : Rounded) → ss ≡ scripts → r ≡ q → IsNextRound known ss ps slots a b r → IsNextRound known scripts ps slots a b q
round_now known scripts ss ps slots a b r q same_scripts is round = subst (λ r. IsNextRound known scripts ps slots a b r) is (subst (λ ss. IsNextRound known ss ps slots a b r) same_scripts round)

pub rounds_begin : (known : ℕ) (scripts : List (List Command)) (slots : List SlotState) (a : List Entry) → WereStartedBelow known slots → RoundsSoFar known scripts slots a a
rounds_begin known scripts slots a started = record { now = known; started = started; rounds = λ m last r. (m, r) }

-- all that were started are started below any number
all_below : (known : ℕ) (slots : List SlotState) → known ≤ length slots → AllWereStarted slots → WereStartedBelow known slots
all_below known slots below all = (below, All-take WasStarted known slots all)

-- what a round leaves where another may begin
pub ready_again : (writing : Option Writing) (world : WorldLists) (scripts : List (List Command)) (ps : List CursorState) (slots : List SlotState) (past : List Entry) → AllStand world scripts ps past → HostsStand writing world past slots → MayGoOn ps slots past
    → AreReady writing world scripts ps slots past
ready_again writing world scripts ps slots past stand hosts_stand go_on =
    record { endpoints = stand; hosts_stand = hosts_stand; unspent = go_on.unspent; hosts_unspent = go_on.hosts_unspent; all = go_on.all }

-- one round more, or none
pub rounds_go_on : (known : ℕ) (scripts : List (List Command)) (qs : List CursorState) (old new : List SlotState) (a b c : List Entry) → length old ≤ length new → ¬ IsSpent scripts c → (so : RoundsSoFar known scripts old a b)
    → IsNextRound so.now scripts qs new b c Moved → RoundsSoFar known scripts new a c
rounds_go_on known scripts qs old new a b c more unspent so (inl round, go_on) = record {
  now = length (hosts c);
  started = all_below (length (hosts c)) new (let all = go_on.all in omega (arith, all)) go_on.started;
  rounds = λ m last r. so.rounds (suc m) last (c, round, unspent, r);
}
rounds_go_on known scripts qs old new a b c more unspent so (inr same, go_on) = record {
  now = so.now;
  started = all_below so.now new (let below = so.started.0 in omega (arith, below, more)) go_on.started;
  rounds = λ m last r. so.rounds m last (subst (λ j. Rounds m so.now scripts j last) same r);
}

-- nobody can do anything
pub rounds_idle : (known : ℕ) (world : WorldLists) (scripts : List (List Command)) (qs : List CursorState) (old new : List SlotState) (a b c : List Entry) (so : RoundsSoFar known scripts old a b) → AllStand world scripts qs c
    → IsNextRound so.now scripts qs new b c Idle → AreRounds known scripts a c (cond (all_left qs) end.Done end.Stalled)
rounds_idle known world scripts qs old new a b c so stand round =
    let rounds = so.rounds 0 c (inl round.0) in
    record {
      count = rounds.0;
      rounds = rounds.1;
      follows = stand.follows;
      within_limit = stand.within_limit;
      ended = elim (all_left qs) as (λ d. all_left qs ≡ d → HasEnd scripts c (cond d end.Done end.Stalled)) [
        | true ↦ λ is. (done_behind scripts qs c stand.behind is, round.0.ended)
        | false ↦ λ is. (
          record {
            unspent = spent_behind scripts qs c stand.behind ∙ round.1;
            idle = round.0.idle;
            unended = λ done. let never : true ≡ false = sym (left_behind scripts qs c stand.behind done) ∙ is in cc;
          },
          round.0.ended,
        )
      ] refl;
    }

ends_spent : (scripts : List (List Command)) (past : List Entry) (who : SpentWho) → HasEnd scripts past (end.Spent who) → IsSpent scripts past
ends_spent scripts past (Endpoint n) ends = inl (n, ends)
ends_spent scripts past (Host h) ends = inr (h, ends.1)

-- somebody is spent
pub rounds_spent : (known : ℕ) (world : WorldLists) (scripts : List (List Command)) (qs : List CursorState) (old new : List SlotState) (a b c : List Entry) (who : SpentWho) (so : RoundsSoFar known scripts old a b) → AllStand world scripts qs c
    → IsNextRound so.now scripts qs new b c (Spent who) → AreRounds known scripts a c (end.Spent who)
rounds_spent known world scripts qs old new a b c who so stand (cut, ends) =
    let rounds = so.rounds 0 c (inr cut) in
    record { count = rounds.0; rounds = rounds.1; follows = stand.follows; within_limit = stand.within_limit; ended = ends }

-- a run ends with every host ended, or spent
pub ended_or_spent : (scripts : List (List Command)) (past : List Entry) (e : RunEnd) → HasEnd scripts past e → HaveEnded past ⊎ IsSpent scripts past
ended_or_spent scripts past end.Done ends = inl ends.1
ended_or_spent scripts past end.Stalled ends = inl ends.1
ended_or_spent scripts past (end.Spent who) ends = inr (ends_spent scripts past who ends)

pub begins_with : (n known : ℕ) (ss : List (List Command)) (front journal : List Entry) → Rounds n known ss (reverse front) (reverse journal) → BeginsWith front journal
begins_with n known ss front journal rounds =
    let grown = Rounds_grow n known ss (reverse front) (reverse journal) rounds in
    (reverse grown.0, sym (reverse-reverse journal) ∙ ap reverse grown.1 ∙ reverse-append grown.0 (reverse front) ∙ ap (λ j. j ++ reverse grown.0) (reverse-reverse front))

-- the records that the slots of all hosts leave are taken over, and nothing else was done with the starter
pub have_records : (scripts : List (List Command)) (world : WorldLists) (past : List Entry) (e : RunEnd) (slots : List SlotState) (old mid new : StarterState) → HasEnd scripts past e → HostsStand old.writing world past slots → length slots ≡ length (hosts past)
    → KeepsPlaces [] slots old mid → new ≡ absorbing mid slots → HaveRecords (IsSpent scripts past) world past old new
have_records scripts world past e slots old mid new ends stand all keeps absorbed = record {
  more = map closing_record slots;
  taken_over = absorbed ∙ ap (λ s. absorbing s slots) keeps.kept ∙ absorbing_kept old.writing world past slots old stand.stand;
  one_each = length-map slots closing_record ∙ all;
  meet = records_meet (IsSpent scripts past) old.writing world past slots stand all (ended_or_spent scripts past e ends);
}

-- the starter keeps a place for each slot
pub has_places : (slots : List SlotState) (old new : StarterState) → KeepsPlaces [] slots old new → length slots ≤ new.places
has_places slots old new keeps = let places = ap (λ (s : StarterState). s.places) keeps.kept in omega (arith, places)
