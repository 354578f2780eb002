-- What rounds put before a past, and that an entry of a host changes nothing for endpoints.
use Rattle.std.proofs.Common.{◌≡◌, ℕ, zero, suc, ◌+◌, ◌≤◌, ◌⊎◌, length, take, cond, arith, List, [], ◌∷◌, ◌++◌, Some, None, refl, sym, ap, ◌∙◌, subst, inl, inr, append_assoc}
use Rattle.std.specs.declared.option.Option.{Option}
use Rattle.std.specs.Prelude.{option_to_list}
use Rattle.std.proofs.lemmas.List.{length-append}
use Rattle.wx_id.specs.declared.numbers.ContextNo.{ContextNo}
use Rattle.wx_id.specs.declared.numbers.HostNo.{HostNo}
use Rattle.wx_external.specs.World.{WorldLists}
use Rattle.wx_machine.specs.declared.entries.Who.TheVariants.{Host as ByHost}
use Rattle.wx_machine.specs.declared.entries.Entry.{Entry}
use Rattle.wx_machine.specs.Words.{contexts, is_by, hosts, starts, FollowsMachine, EachAfter}
use Rattle.wx_host_launch.specs.Records.{Writing}
use Rattle.wx_host_slot.specs.Slots.{SlotState}
use Rattle.wx_script.specs.declared.script.Command.{Command}
use Rattle.wx_script.specs.Places.{place_of, place_behind}
use Rattle.wx_script.specs.Carries.{AskedOf}
use Rattle.wx_script.specs.Ends.{entries_by, numbered}
use Rattle.wx_endpoint.specs.Turn.{CursorState}
use Rattle.wx_run.specs.Cursors.{cursor_of, cursors_from, AreBehind}
use Rattle.wx_run.specs.Slots.{HostsStand}
use Rattle.wx_run.specs.Rounds.{Turn, Turns, Round, of_all, of_first_host, Rounds, FirstTurns, of_endpoints, of_hosts, whole}
use Rattle.wx_run.specs.Round.{AllStand}
use Rattle.wx_run.proofs.HostEntries.{IsHostEntry, AreOfHosts, GrowsByHosts, host_turns_stay, says_stays}
use Rattle.wx_run.proofs.SlotLemmas.{hosts_stand_later}

-- one past is the other with newer entries before it
abbrev pub Grows : List Entry → List Entry → Type 0
Grows before after = (newer : List Entry) × (after ≡ newer ++ before)

pub grows_on : (a b c : List Entry) → Grows a b → Grows b c → Grows a c
grows_on a b c first second = (second.0 ++ first.0, second.1 ∙ ap (λ j. second.0 ++ j) first.1 ∙ sym (append_assoc second.0 first.0 a))

Turn_grows : (s : List Command) (n : ℕ) (a b : List Entry) → Turn s (numbered n) a b → Grows a b
Turn_grows s n a b turn = elim turn [
  | inl one ↦ (one.entry ∷ [], one.made)
  | inr none ↦ ([], none.same)
]

pub Turns_grow : (ss : List (List Command)) (n : ℕ) (a b : List Entry) → Turns ss n a b → Grows a b
Turns_grow [] n a b same = ([], same)
Turns_grow (s ∷ ss) n a b turns = grows_on a turns.0 b (Turn_grows s n a turns.0 turns.1) (Turns_grow ss (n + 1) turns.0 b turns.2)

pub by_hosts_grow : (a b : List Entry) → GrowsByHosts a b → Grows a b
by_hosts_grow a b grows = (grows.newer, grows.grown)

-- ---- rounds

Round_grows : (known : ℕ) (ss : List (List Command)) (a b : List Entry) → Round known ss a b → Grows a b
Round_grows known ss a b round = elim round [
  | of_all between turns host_turns moved ↦ grows_on a between b (Turns_grow ss 0 a between turns) (by_hosts_grow between b (host_turns_stay known (length (hosts between)) between b host_turns))
  | of_first_host idle none_ready h first turn ↦ by_hosts_grow a b (says_stays h a b turn)
]

FirstTurns_grow : (known : ℕ) (ss : List (List Command)) (a b : List Entry) → FirstTurns known ss a b → Grows a b
FirstTurns_grow known ss a b turns = elim turns [
  | of_endpoints count made ↦ Turns_grow (take count ss) 0 a b made
  | of_hosts between count made within host_turns ↦ grows_on a between b (Turns_grow ss 0 a between made) (by_hosts_grow between b (host_turns_stay known count between b host_turns))
  | whole round ↦ Round_grows known ss a b round
]

pub Rounds_grow : (n known : ℕ) (ss : List (List Command)) (a b : List Entry) → Rounds n known ss a b → Grows a b
Rounds_grow zero known ss a b rounds = elim rounds [
  | inl over ↦ ([], over.same)
  | inr cut ↦ FirstTurns_grow known ss a b cut.turns
]
Rounds_grow (suc n) known ss a b rounds =
    grows_on a rounds.0 b (Round_grows known ss a rounds.0 rounds.1) (Rounds_grow n (length (hosts rounds.0)) ss rounds.0 b rounds.3)

longer : (e : Entry) (newer a b : List Entry) → b ≡ e ∷ newer ++ a → b ≡ a → ⊥
longer e newer a b grown same =
    let long : length b ≡ suc (length (newer ++ a)) = ap length grown in
    let so : length b ≡ length a = ap length same in
    let more = length-append newer a in
    omega (arith, long, so, more)

-- whether entries were made
pub same_or_more : (a b : List Entry) → Grows a b → (b ≡ a) ⊎ (b ≡ a → ⊥)
same_or_more a b ([], same) = inl same
same_or_more a b (e ∷ newer, grown) = inr (longer e newer a b grown)

-- ---- hosts that were called

one_or_none : {A : Type 0} (o : Option A) → length (option_to_list o) ≤ 1
one_or_none None = omega arith
one_or_none (Some x) = omega arith

-- an entry calls one host at most
pub one_host_more : (past : List Entry) (e : Entry) → length (hosts (e ∷ past)) ≤ length (hosts past) + 1
one_host_more past e =
    let more = length-append (hosts past) (option_to_list (starts past e)) in
    omega (arith, more, one_or_none (starts past e))

-- ---- an entry of a host changes nothing for contexts

entries_by-host : (c : ContextNo) (past : List Entry) (e : Entry) (h : HostNo) → e.who ≡ ByHost h → entries_by c (e ∷ past) ≡ entries_by c past
entries_by-host c past e h own = ap (λ w. cond (is_by w c) 1 0 + entries_by c past) own ∙ omega arith

place_of-host : (s : List Command) (c : ContextNo) (past : List Entry) (e : Entry) (h : HostNo) → e.who ≡ ByHost h → place_of s c (e ∷ past) ≡ place_of s c past
unfolding place_of
place_of-host s c past e h own = ap (λ w. cond (is_by w c) (place_behind s (place_of s c past) e.answer) (place_of s c past)) own

cursor_of-host : (s : List Command) (c : ContextNo) (past : List Entry) (e : Entry) (h : HostNo) → e.who ≡ ByHost h → cursor_of s c (e ∷ past) ≡ cursor_of s c past
cursor_of-host s c past e h own = λ i. record { script = s; place = place_of-host s c past e h own i; made = entries_by-host c past e h own i }

cursors_from-host : (ss : List (List Command)) (n : ℕ) (past : List Entry) (e : Entry) (h : HostNo) → e.who ≡ ByHost h → cursors_from ss n (e ∷ past) ≡ cursors_from ss n past
cursors_from-host [] n past e h own = refl
cursors_from-host (s ∷ ss) n past e h own =
    ap (λ p. p ∷ cursors_from ss (n + 1) (e ∷ past)) (cursor_of-host s (numbered n) past e h own)
    ∙ ap (λ ps. cursor_of s (numbered n) past ∷ ps) (cursors_from-host ss (n + 1) past e h own)

newer_behind : (ss : List (List Command)) (newer past : List Entry) → AreOfHosts newer → cursors_from ss 0 (newer ++ past) ≡ cursors_from ss 0 past
newer_behind ss [] past own = refl
newer_behind ss (e ∷ newer) past own = cursors_from-host ss 0 (newer ++ past) e own.0.0 own.0.1.own ∙ newer_behind ss newer past own.1

-- cursors stand behind the journal still where hosts alone made entries
pub still_behind : (ss : List (List Command)) (ps : List CursorState) (a b : List Entry) → AreBehind ss ps a → GrowsByHosts a b → AreBehind ss ps b
still_behind ss ps a b behind grows = behind ∙ sym (newer_behind ss grows.newer a grows.own) ∙ ap (cursors_from ss 0) (sym grows.grown)

host_stands : (world : WorldLists) (scripts : List (List Command)) (ps : List CursorState) (past : List Entry) (e : Entry) (h : HostNo) → IsHostEntry h e → AllStand world scripts ps past → FollowsMachine world past e → AllStand world scripts ps (e ∷ past)
host_stands world scripts ps past e h host stand follows =
    let no_script : AskedOf scripts past (ByHost h) e = tt in
    let counted : contexts (e ∷ past) ≡ contexts past = ap (λ b. cond b 1 0 + contexts past) host.no_enter ∙ omega arith in
    record {
      legal = (stand.legal, follows);
      behind = stand.behind ∙ sym (cursors_from-host scripts 0 past e h host.own);
      follows = (stand.follows, subst (λ w. AskedOf scripts past w e) (sym host.own) no_script);
      all_in = (let all = stand.all_in in omega (arith, all, counted));
      within_limit = λ c. let within = stand.within_limit c in let same = entries_by-host c past e h host.own in omega (arith, within, same);
    }

newer_stand : (world : WorldLists) (scripts : List (List Command)) (ps : List CursorState) (newer past : List Entry) → AllStand world scripts ps past → AreOfHosts newer → EachAfter (FollowsMachine world) (newer ++ past) → AllStand world scripts ps (newer ++ past)
newer_stand world scripts ps [] past stand own legal = stand
newer_stand world scripts ps (e ∷ newer) past stand own legal = host_stands world scripts ps (newer ++ past) e own.0.0 own.0.1 (newer_stand world scripts ps newer past stand own.1 legal.0) legal.1

-- endpoints stand as they stood where hosts alone made entries
pub endpoints_stand : (world : WorldLists) (scripts : List (List Command)) (ps : List CursorState) (a b : List Entry) → AllStand world scripts ps a → GrowsByHosts a b → EachAfter (FollowsMachine world) b → AllStand world scripts ps b
endpoints_stand world scripts ps a b stand grows legal =
    subst (λ j. AllStand world scripts ps j) (sym grows.grown)
    (newer_stand world scripts ps grows.newer a stand grows.own (subst (λ j. EachAfter (FollowsMachine world) j) grows.grown legal))

-- ---- hosts behind the turns of endpoints

Turn_keeps : (writing : Option Writing) (world : WorldLists) (s : List Command) (n : ℕ) (a b : List Entry) (slots : List SlotState) → Turn s (numbered n) a b → HostsStand writing world a slots → HostsStand writing world b slots
Turn_keeps writing world s n a b slots turn stand = elim turn [
  | inl one ↦ subst (λ j. HostsStand writing world j slots) (sym one.made) (hosts_stand_later writing world a one.entry (numbered n) slots one.own stand)
  | inr none ↦ subst (λ j. HostsStand writing world j slots) (sym none.same) stand
]

-- the slots stand as they stood where endpoints made their turns
pub Turns_keep : (writing : Option Writing) (world : WorldLists) (ss : List (List Command)) (n : ℕ) (a b : List Entry) (slots : List SlotState) → Turns ss n a b → HostsStand writing world a slots → HostsStand writing world b slots
Turns_keep writing world [] n a b slots same stand = subst (λ j. HostsStand writing world j slots) (sym same) stand
Turns_keep writing world (s ∷ ss) n a b slots turns stand = Turns_keep writing world ss (n + 1) turns.0 b slots turns.2 (Turn_keeps writing world s n a turns.0 slots turns.1 stand)
