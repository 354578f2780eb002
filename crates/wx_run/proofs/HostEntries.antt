-- What the turns of hosts add to a journal. Every list of entries has the newest first.
use Rattle.std.proofs.Common.{◌≡◌, ◌≢◌, ℕ, zero, suc, ◌+◌, ◌≤◌, ◌⊎◌, inl, inr, length, cond, arith, Bool, true, false, List, [], ◌∷◌, ◌++◌, refl, sym, ap, ◌∙◌, subst, append_assoc, append-nil}
use Rattle.std.specs.Prelude.{option_to_list, not, ◌&&◌}
use Rattle.std.proofs.lemmas.Bool.{ne_eqb, eq-eqb, or_right}
use Rattle.wx_id.specs.declared.numbers.HostNo.{HostNo}
use Rattle.wx_machine.specs.declared.entries.Who.{Who}
use Rattle.wx_machine.specs.declared.entries.Call.{Call}
use Rattle.wx_machine.specs.declared.entries.Entry.{Entry}
use Rattle.wx_machine.specs.Words.{is_enter, hosts, started_by, is_by_host, has_ended}
use Rattle.wx_machine.specs.declared.entries.Who.TheVariants.{Host as ByHost}
use Rattle.wx_machine.specs.declared.entries.Call.TheVariants.{HostEnded}
use Rattle.wx_machine.specs.declared.entries.Reason.TheVariants.{WriteFailed}
use Rattle.wx_machine.specs.declared.entries.Answer.TheVariants.{Text as HasText}
use Rattle.wx_host_slot.specs.Journals.{entries_of}
use Rattle.wx_host_slot.proofs.JournalLemmas.{none_ended}
use Rattle.wx_host_slot.specs.Turns.{Makes, HostTurn, not_started, took, not_written, rested, SaysOrEnds, said, ended}
use Rattle.wx_run.specs.Hosts.{host_numbered, HostTurns}

-- host h made the entry, and nobody enters by it
pub record IsHostEntry (h : HostNo) (e : Entry) : Type 0 where
  pub own : e.who ≡ ByHost h
  pub no_enter : is_enter e.call ≡ false

-- host h made each of these
abbrev pub AreOfHost : HostNo → List Entry → Type 0
AreOfHost h [] = Unit {0}
AreOfHost h (e ∷ newer) = IsHostEntry h e × AreOfHost h newer

-- Host h added these entries: at most two, and none behind its end.
pub record Adds (h : HostNo) (before after : List Entry) : Type 0 where
  pub newer : List Entry
  pub own : AreOfHost h newer
  pub few : length newer ≤ cond (has_ended before h) 0 2
  pub grown : after ≡ newer ++ before

ready_unended : (over news : Bool) → (not over && news) ≡ true → over ≡ false
ready_unended true news is = absurd cc
ready_unended false news is = refl

adds_one : (h : HostNo) (call : Call) (a b : List Entry) → has_ended a h ≡ false → is_enter call ≡ false → Makes h call a b → Adds h a b
adds_one h call a b unended no_enter made = record {
  newer = record { who = ByHost h; call = call; answer = made.answer } ∷ [];
  own = (record { own = refl; no_enter = no_enter }, tt);
  few = subst (λ x. 1 ≤ cond x 0 2) (sym unended) (omega arith);
  grown = made.made;
}

adds_two : (h : HostNo) (first second : Call) (a between b : List Entry) → has_ended a h ≡ false → is_enter first ≡ false → is_enter second ≡ false → Makes h first a between → Makes h second between b → Adds h a b
adds_two h first second a between b unended first_is second_is made more =
    let e : Entry = record { who = ByHost h; call = second; answer = more.answer } in
    record {
      newer = e ∷ record { who = ByHost h; call = first; answer = made.answer } ∷ [];
      own = (record { own = refl; no_enter = second_is }, (record { own = refl; no_enter = first_is }, tt));
      few = subst (λ x. 2 ≤ cond x 0 2) (sym unended) (omega arith);
      grown = more.made ∙ ap (λ j. e ∷ j) made.made;
    }

-- A turn of an unspent host that has not ended adds at most two entries, and one that has ended adds none.
pub turn_adds : (called : Type 0) (h : HostNo) (a b : List Entry) → HostTurn called h a b → Adds h a b
turn_adds called h a b turn = elim turn [
  | not_started now none made ↦ adds_one h _ a b (none_ended a h none) refl made
  | took ready made ↦ adds_one h _ a b (ready_unended (has_ended a h) _ ready) refl made
  | not_written ready between taken made ↦ adds_two h _ _ a between b (ready_unended (has_ended a h) _ ready) refl refl (record { answer = HasText taken.text; made = taken.made }) made
  | rested not_ready same ↦ record { newer = []; own = tt; few = omega arith; grown = same }
]

-- the same turn, where something else follows for a host that could not be started
pub called_so : (waits called : Type 0) (h : HostNo) (a b : List Entry) → (waits → called) → HostTurn waits h a b → HostTurn called h a b
called_so waits called h a b so turn = elim turn [
  | not_started now none made ↦ not_started (so now) none made
  | took ready made ↦ took ready made
  | not_written ready between taken made ↦ not_written ready between taken made
  | rested not_ready same ↦ rested not_ready same
]

-- a host that says or ends adds one
pub says_adds : (h : HostNo) (a b : List Entry) → has_ended a h ≡ false → SaysOrEnds h a b → Adds h a b
says_adds h a b unended turn = elim turn [
  | said text made ↦ adds_one h _ a b unended refl made
  | ended reason heard made ↦ adds_one h _ a b unended refl made
]

-- ---- turns of one entry

one_more : (h : HostNo) (call : Call) (a b : List Entry) → Makes h call a b → (last : Entry) × (b ≡ last ∷ a)
one_more h call a b made = (record { who = ByHost h; call = call; answer = made.answer }, made.made)

write_ended : (h : HostNo) (a b : List Entry) → Makes h (HostEnded WriteFailed) a b → has_ended b h ≡ true
write_ended h a b made = ap (λ j. has_ended j h) made.made ∙ or_right (has_ended a h) _ (eq-eqb h.0 h.0 refl)

-- A turn of a host is one entry, or behind it the host has ended, or nothing was done.
pub turn_is_one : (called : Type 0) (h : HostNo) (a b : List Entry) → HostTurn called h a b → ((last : Entry) × (b ≡ last ∷ a)) ⊎ ((has_ended b h ≡ true) ⊎ (b ≡ a))
turn_is_one called h a b turn = elim turn [
  | not_started now none made ↦ inl (one_more h _ a b made)
  | took ready made ↦ inl (one_more h _ a b made)
  | not_written ready between taken made ↦ inr (inl (write_ended h between b made))
  | rested not_ready same ↦ inr (inr same)
]

-- and so is what a host says
pub says_one : (h : HostNo) (a b : List Entry) → SaysOrEnds h a b → (last : Entry) × (b ≡ last ∷ a)
says_one h a b turn = elim turn [
  | said text made ↦ one_more h _ a b made
  | ended reason heard made ↦ one_more h _ a b made
]

-- ---- what such entries leave

pub by_other_host : (who : Who) (h g : HostNo) → who ≡ ByHost h → h.0 ≢ g.0 → is_by_host who g ≡ false
by_other_host who h g own apart = ap (λ w. is_by_host w g) own ∙ ne_eqb h.0 g.0 apart

pub hosts_by_host : (past : List Entry) (e : Entry) (h : HostNo) → e.who ≡ ByHost h → hosts (e ∷ past) ≡ hosts past
hosts_by_host past e h own = ap (λ w. hosts past ++ option_to_list (started_by past w e.call e.answer)) own ∙ append-nil (hosts past)

pub hosts_newer : (h : HostNo) (newer past : List Entry) → AreOfHost h newer → hosts (newer ++ past) ≡ hosts past
hosts_newer h [] past own = refl
hosts_newer h (e ∷ newer) past own = hosts_by_host (newer ++ past) e h own.0.own ∙ hosts_newer h newer past own.1

-- no host is started
pub adds_hosts : (h : HostNo) (a b : List Entry) → Adds h a b → hosts b ≡ hosts a
adds_hosts h a b adds = ap hosts adds.grown ∙ hosts_newer h adds.newer a adds.own

entries_newer : (h g : HostNo) (newer past : List Entry) → AreOfHost h newer → h.0 ≢ g.0 → entries_of g (newer ++ past) ≡ entries_of g past
entries_newer h g [] past own apart = refl
entries_newer h g (e ∷ newer) past own apart =
    ap (λ b. cond b 1 0 + entries_of g (newer ++ past)) (by_other_host e.who h g own.0.own apart)
    ∙ (let rest = entries_newer h g newer past own.1 apart in omega (arith, rest))

-- other hosts made no entry
pub adds_entries : (h g : HostNo) (a b : List Entry) → Adds h a b → h.0 ≢ g.0 → entries_of g b ≡ entries_of g a
adds_entries h g a b adds apart = ap (entries_of g) adds.grown ∙ entries_newer h g adds.newer a adds.own apart

at_most_one : (b : Bool) (n : ℕ) → cond b 1 0 + n ≤ 1 + n
at_most_one true n = omega arith
at_most_one false n = omega arith

entries_few : (g : HostNo) (newer past : List Entry) → entries_of g (newer ++ past) ≤ length newer + entries_of g past
entries_few g [] past = omega arith
entries_few g (e ∷ newer) past =
    let one = at_most_one (is_by_host e.who g) (entries_of g (newer ++ past)) in
    omega (arith, one, entries_few g newer past)

-- nobody has more entries than before and two
pub adds_at_most : (h g : HostNo) (a b : List Entry) → Adds h a b → entries_of g b ≤ cond (has_ended a h) 0 2 + entries_of g a
adds_at_most h g a b adds =
    let same = ap (entries_of g) adds.grown in
    omega (arith, same, adds.few, entries_few g adds.newer a)

-- ---- the turns of many hosts

-- entries of hosts, by which nobody enters
abbrev pub AreOfHosts : List Entry → Type 0
AreOfHosts [] = Unit {0}
AreOfHosts (e ∷ newer) = ((h : HostNo) × IsHostEntry h e) × AreOfHosts newer

-- one past is the other with newer entries of hosts before it
pub record GrowsByHosts (before after : List Entry) : Type 0 where
  pub newer : List Entry
  pub own : AreOfHosts newer
  pub grown : after ≡ newer ++ before

of_hosts : (h : HostNo) (newer : List Entry) → AreOfHost h newer → AreOfHosts newer
of_hosts h [] own = tt
of_hosts h (e ∷ newer) own = ((h, own.0), of_hosts h newer own.1)

both_of_hosts : (newer older : List Entry) → AreOfHosts newer → AreOfHosts older → AreOfHosts (newer ++ older)
both_of_hosts [] older own more = more
both_of_hosts (e ∷ newer) older own more = (own.0, both_of_hosts newer older own.1 more)

pub adds_by_hosts : (h : HostNo) (a b : List Entry) → Adds h a b → GrowsByHosts a b
adds_by_hosts h a b adds = record { newer = adds.newer; own = of_hosts h adds.newer adds.own; grown = adds.grown }

grows_by_hosts_on : (a b c : List Entry) → GrowsByHosts a b → GrowsByHosts b c → GrowsByHosts a c
grows_by_hosts_on a b c first second = record {
  newer = second.newer ++ first.newer;
  own = both_of_hosts second.newer first.newer second.own first.own;
  grown = second.grown ∙ ap (λ j. second.newer ++ j) first.grown ∙ sym (append_assoc second.newer first.newer a);
}

-- the turns of so many hosts add entries of hosts alone
pub host_turns_stay : (known count : ℕ) (a b : List Entry) → HostTurns known count a b → GrowsByHosts a b
host_turns_stay known zero a b same = record { newer = []; own = tt; grown = same }
host_turns_stay known (suc n) a b turns =
    grows_by_hosts_on a turns.0 b (host_turns_stay known n a turns.0 turns.1) (adds_by_hosts (host_numbered n) turns.0 b (turn_adds (known ≤ n) (host_numbered n) turns.0 b turns.2))

-- and so does what a host says
pub says_stays : (h : HostNo) (a b : List Entry) → SaysOrEnds h a b → GrowsByHosts a b
says_stays h a b turn = elim turn [
  | said text made ↦ record { newer = _ ∷ []; own = ((h, record { own = refl; no_enter = refl }), tt); grown = made.made }
  | ended reason heard made ↦ record { newer = _ ∷ []; own = ((h, record { own = refl; no_enter = refl }), tt); grown = made.made }
]

hosts_of_hosts : (newer past : List Entry) → AreOfHosts newer → hosts (newer ++ past) ≡ hosts past
hosts_of_hosts [] past own = refl
hosts_of_hosts (e ∷ newer) past own = hosts_by_host (newer ++ past) e own.0.0 own.0.1.own ∙ hosts_of_hosts newer past own.1

-- no host is started by them
pub hosts_stay : (a b : List Entry) → GrowsByHosts a b → hosts b ≡ hosts a
hosts_stay a b grows = ap hosts grows.grown ∙ hosts_of_hosts grows.newer a grows.own
