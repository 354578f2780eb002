-- How the scripts of a run end: done, stalled or spent. Every list of entries has the newest first.
use Rattle.std.specs.Prelude.{◌≡◌, ℕ, ◌+◌, Bool, true, false, ◌&&◌, not, List, [], ◌∷◌, slice_get, Option, Some, None, nat_le, cond, if◌then◌else◌}
use Rattle.wx_id.specs.declared.numbers.ContextNo.{ContextNo}
use Rattle.wx_machine.specs.declared.entries.Entry.{Entry}
use Rattle.wx_machine.specs.Words.{is_by, has_pending}
use Rattle.wx_script.specs.declared.script.Command.{Command}
use Rattle.wx_script.specs.Places.{Next, enters, asks, waits, ends, next_of}

-- how many entries context c made
abbrev pub entries_by : ContextNo → List Entry → ℕ
entries_by c [] = 0
entries_by c (e ∷ past) = cond (is_by e.who c) 1 0 + entries_by c past

abbrev pub is_end : Next → Bool
is_end ends = true
is_end _ = false

-- nothing can be done: the script has ended, or it waits and nothing is pending
abbrev pub is_idle : List Entry → ContextNo → Next → Bool
is_idle past c enters = false
is_idle past c (asks x) = false
is_idle past c waits = not (has_pending past c)
is_idle past c ends = true

abbrev pub numbered : ℕ → ContextNo
numbered n = record { 0 = n }

-- the script of context c has ended
abbrev pub script_has_ended : List Command → ContextNo → List Entry → Bool
script_has_ended script c past = is_end (next_of script c past)

-- every script has ended
abbrev pub IsDone : List (List Command) → List Entry → Type 0
IsDone scripts past = (c : ℕ) (script : List Command) → slice_get scripts c ≡ Some script
    → script_has_ended script (numbered c) past ≡ true

-- no endpoint can do anything
abbrev pub AreIdle : List (List Command) → List Entry → Type 0
AreIdle scripts past = (c : ℕ) (script : List Command) → slice_get scripts c ≡ Some script
    → is_idle past (numbered c) (next_of script (numbered c) past) ≡ true

-- the most entries that an endpoint makes in a run
abbrev pub entry_limit : ℕ
entry_limit = 65536

-- context c has made as many entries as it may, and its script has not ended
abbrev pub is_spent : List Command → ContextNo → List Entry → Bool
is_spent script c past = nat_le entry_limit (entries_by c past) && not (script_has_ended script c past)

-- the first of these endpoints, numbered from n, that is spent
abbrev pub spent_from : ℕ → List (List Command) → List Entry → Option ℕ
spent_from n [] past = None
spent_from n (script ∷ scripts) past = if is_spent script (numbered n) past then Some n else spent_from (n + 1) scripts
    past

-- the first endpoint in the scene's order that is spent
abbrev pub spent_of : List (List Command) → List Entry → Option ℕ
spent_of scripts past = spent_from 0 scripts past

-- No endpoint is spent, none can do anything, and some script has not ended.
pub record IsStalled (scripts : List (List Command)) (past : List Entry) : Type 0 where
  pub unspent : spent_of scripts past ≡ None
  pub idle : AreIdle scripts past
  pub unended : IsDone scripts past → ⊥
