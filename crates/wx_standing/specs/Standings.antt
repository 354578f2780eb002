-- What is kept of each endpoint and each host, and what the journal tells of that. Every list of entries has the newest
-- first.
use Rattle.std.specs.Prelude.{◌≡◌, ℕ, ◌+◌, ◌-◌, ◌==◌, ◌<◌, nat_le, cond, Bool, true, false, ◌&&◌, ◌||◌, not, List, [], ◌∷◌, length, get_or, zero, suc, All}
use Rattle.wx_machine.specs.declared.entries.Who.{Who}
use Rattle.wx_machine.specs.declared.entries.Who.TheVariants.{Context, Host}
use Rattle.wx_machine.specs.declared.entries.Call.{Call}
use Rattle.wx_machine.specs.declared.entries.Call.TheVariants.{Leave, HostEnded}
use Rattle.wx_machine.specs.declared.entries.Entry.{Entry}
use Rattle.wx_machine.specs.Words.{contexts, hosts, has_pending, is_by, is_by_host, is_host_ready}
use Rattle.wx_standing.specs.declared.standing.TheConstants.{ENTRY_LIMIT}
use Rattle.wx_standing.specs.declared.standing.Standing.{Standing}

-- endpoint n made the call
abbrev pub by_endpoint : ℕ → Who → Bool
by_endpoint n who = is_by who (record { 0 = n })

-- host n made it
abbrev pub by_host : ℕ → Who → Bool
by_host n who = is_by_host who (record { 0 = n })

-- an endpoint leaves by it, or a host ends
abbrev pub is_last : Call → Bool
is_last Leave = true
is_last (HostEnded reason) = true
is_last _ = false

-- how many entries were made by whom this is said of
abbrev pub made_by : (Who → Bool) → List Entry → ℕ
made_by by [] = 0
made_by by (e ∷ past) = made_by by past + cond (by e.who) 1 0

-- whether one of them is its last
abbrev pub has_last : (Who → Bool) → List Entry → Bool
has_last by [] = false
has_last by (e ∷ past) = has_last by past || (by e.who && is_last e.call)

-- it has made as many entries as it may, and has not ended
abbrev pub is_spent : (Who → Bool) → List Entry → Bool
is_spent by past = nat_le ENTRY_LIMIT (made_by by past) && not (has_last by past)

-- no endpoint is spent, and no host
pub record NobodyIsSpent (past : List Entry) : Type 0 where
  pub endpoints : (n : ℕ) → is_spent (by_endpoint n) past ≡ false
  pub hosts : (n : ℕ) → is_spent (by_host n) past ≡ false

-- ---- what is kept

-- one that has made no entry
abbrev pub fresh : Standing
fresh = record { left = ENTRY_LIMIT; ended = false; waits = false }

abbrev pub standing_at : List Standing → ℕ → Standing
standing_at rows n = get_or rows n fresh

-- of each is kept how many entries are left to it, and whether it has ended, as the journal tells
abbrev pub TellEach : (ℕ → Who → Bool) → List Entry → List Standing → Type 0
TellEach by past rows = (n : ℕ) → ((standing_at rows n).left ≡ ENTRY_LIMIT - made_by (by n) past)
    × ((standing_at rows n).ended ≡ has_last (by n) past)

-- What holds of the journal, the stop flag and what is kept of endpoints and hosts: the journal is told, and where
-- somebody is spent the flag is set.
pub record IsKept (past : List Entry) (stop : Bool) (endpoints hosts : List Standing) : Type 0 where
  pub endpoints_told : TellEach by_endpoint past endpoints
  pub hosts_told : TellEach by_host past hosts
  pub unspent : stop ≡ false → NobodyIsSpent past

-- ---- one turn

-- no entry is left to it, and it has not ended
abbrev pub is_out : Standing → Bool
is_out row = (row.left == 0) && not row.ended

-- nothing is changed but who waits
abbrev pub AreAlike : List Standing → List Standing → Type 0
AreAlike old new = (n : ℕ) → ((standing_at new n).left ≡ (standing_at old n).left)
    × ((standing_at new n).ended ≡ (standing_at old n).ended)

-- those of whom this is said made one entry more, which is their last or not
abbrev pub HasCounted : (ℕ → Bool) → Bool → List Standing → List Standing → Type 0
HasCounted made last old new = (n : ℕ) → ((standing_at new n).left ≡ (standing_at old n).left - cond (made n) 1 0)
    × ((standing_at new n).ended ≡ ((standing_at old n).ended || (made n && last)))

-- something is kept of the caller
abbrev pub HasStanding : Who → List Standing → List Standing → Type 0
HasStanding (Context c) endpoints hosts = c.0 < length endpoints
HasStanding (Host h) endpoints hosts = h.0 < length hosts

-- no entry is left to the caller, and it has not ended
abbrev pub is_out_of : Who → List Standing → List Standing → Bool
is_out_of (Context c) endpoints hosts = is_out (standing_at endpoints c.0)
is_out_of (Host h) endpoints hosts = is_out (standing_at hosts h.0)

-- each number below n passes the test
abbrev pub all_below : ℕ → (ℕ → Bool) → Bool
all_below zero test = true
all_below (suc n) test = all_below n test && test n

-- endpoint c cannot move: it has ended, or it waits and nothing is pending for it
abbrev pub is_still : List Entry → List Standing → ℕ → Bool
is_still past endpoints c = (standing_at endpoints c).ended
    || ((standing_at endpoints c).waits && not (has_pending past (record { 0 = c })))

-- no endpoint can move, and each host has ended
abbrev pub is_quiet : List Entry → List Standing → List Standing → Bool
is_quiet past endpoints rows = all_below (contexts past) (is_still past endpoints)
    && all_below (length (hosts past)) (λ h. (standing_at rows h).ended)

-- Whom a bell is rung for, once `maker` has made a turn: an endpoint that waits, where something is pending for it, and
-- a host of which a pump waits, where there is news for it or its other pump made an entry. Where workers are to stop it
-- is each that waits.
abbrev pub is_woken : Bool → List Entry → List Standing → List Standing → Who → Who → Bool
is_woken stop past endpoints hosts maker (Context c) =
    (standing_at endpoints c.0).waits && (stop || has_pending past c)
is_woken stop past endpoints hosts maker (Host h) =
    (standing_at hosts h.0).waits && (stop || (is_host_ready past h || is_by_host maker h))

-- a bell is rung for each of these
abbrev pub AreWoken : Bool → List Entry → List Standing → List Standing → Who → List Who → Type 0
AreWoken stop past endpoints hosts maker whos = All (λ who. is_woken stop past endpoints hosts maker who ≡ true) whos
