-- The endpoints' part of a round. Every list of entries has the newest first.
use Rattle.std.specs.Prelude.{◌≡◌, ℕ, ◌+◌, ◌<◌, ◌≤◌, Bool, true, false, length, take, List, ◌∷◌, slice_get, Some, None}
use Rattle.wx_id.specs.declared.numbers.ContextNo.{ContextNo}
use Rattle.wx_external.specs.World.{WorldLists}
use Rattle.wx_machine.specs.declared.entries.Entry.{Entry}
use Rattle.wx_machine.specs.Words.{FollowsMachine, contexts, EachAfter, hosts}
use Rattle.wx_script.specs.declared.script.Command.{Command}
use Rattle.wx_script.specs.Places.{next_of}
use Rattle.wx_script.specs.Carries.{FollowsScript}
use Rattle.wx_script.specs.Ends.{numbered, is_idle, AreIdle, spent_of, entries_by, entry_limit}
use Rattle.wx_script.specs.declared.scene.SpentWho.TheVariants.{Endpoint, Host}
use Rattle.wx_endpoint.specs.Turn.{CursorState}
use Rattle.wx_run.specs.declared.rounds.Rounded.{Rounded}
use Rattle.wx_run.specs.declared.rounds.Rounded.TheVariants.{Moved, Idle, Spent}
use Rattle.wx_run.specs.Cursors.{AreBehind, first_spent_in, work_in}
use Rattle.wx_run.specs.Rounds.{Turns}

-- each entry follows the scripts
abbrev pub Follows : List (List Command) → List Entry → Type 0
Follows scripts past = EachAfter (FollowsScript scripts) past

-- no context made more entries than it may
abbrev pub IsWithinLimit : List Entry → Type 0
IsWithinLimit past = (c : ContextNo) → entries_by c past ≤ entry_limit

-- The journal is legal, the endpoints came in, their entries carry out the scripts, no more than they may, and the
-- cursors stand behind them.
pub record AllStand (world : WorldLists) (scripts : List (List Command)) (cursors : List CursorState)
    (past : List Entry) : Type 0 where
  pub legal : EachAfter (FollowsMachine world) past
  pub behind : AreBehind scripts cursors past
  pub follows : Follows scripts past
  pub all_in : length scripts ≤ contexts past
  pub within_limit : IsWithinLimit past

-- the first i endpoints can do nothing, and nothing was done
pub record AreIdleBelow (scripts : List (List Command)) (i : ℕ) (before after : List Entry) : Type 0 where
  pub same : after ≡ before
  pub idle : (c : ℕ) (script : List Command) → c < i → slice_get scripts c ≡ Some script
      → is_idle before (numbered c) (next_of script (numbered c) before) ≡ true

-- where no entry was made, they are idle
abbrev pub IdleUnlessMoved : List (List Command) → ℕ → List Entry → List Entry → Bool → Type 0
IdleUnlessMoved scripts i before after true = Unit {0}
IdleUnlessMoved scripts i before after false = AreIdleBelow scripts i before after

-- the first i endpoints have made their turns, and none is spent
pub record RoundSoFar (world : WorldLists) (scripts : List (List Command)) (i : ℕ) (cursors : List CursorState)
    (before after : List Entry) (moved : Bool) : Type 0 where
  pub stand : AllStand world scripts cursors after
  pub unspent : first_spent_in 0 cursors ≡ None
  pub turns : Turns (take i scripts) 0 before after
  pub idle : IdleUnlessMoved scripts i before after moved

-- Behind the turns of the first n endpoints the next made one entry, by which it is spent; before it no endpoint is.
pub record SpendsEndpoint (scripts : List (List Command)) (n : ℕ) (before after : List Entry) : Type 0 where
  pub past : List Entry
  pub earlier : Turns (take n scripts) 0 before past
  pub last : Entry
  pub made : after ≡ last ∷ past
  pub turns : Turns (take (n + 1) scripts) 0 before after
  pub unspent : spent_of scripts past ≡ None
  pub spent : spent_of scripts after ≡ Some n

-- The endpoints' part of a round: every endpoint has made its turn and none is spent; or none can do anything; or the
-- turns end with the entry by which an endpoint is spent.
abbrev pub IsRound : List (List Command) → List CursorState → List Entry → List Entry → Rounded → Type 0
IsRound scripts cursors before after Moved = Turns scripts 0 before after × (first_spent_in 0 cursors ≡ None)
IsRound scripts cursors before after Idle = Turns scripts 0 before after × (first_spent_in 0 cursors ≡ None)
    × AreIdle scripts before × (after ≡ before)
IsRound scripts cursors before after (Spent (Endpoint n)) = SpendsEndpoint scripts n before after
IsRound scripts cursors before after (Spent (Host h)) = ⊥

-- where an entry was made, fewer may still be made
abbrev pub Falls : Bool → ℕ → ℕ → Type 0
Falls true old new = new < old
Falls false old new = new ≡ old

-- Where entries were made, fewer may still be made; and each entry calls one host at most.
pub record Lessens (moved : Bool) (old new : List CursorState) (before after : List Entry) : Type 0 where
  pub fewer : Falls moved (work_in old) (work_in new)
  pub one_host_each : length (hosts after) + work_in new ≤ length (hosts before) + work_in old

-- the same of a round in which nobody is spent
abbrev pub RoundLessens : List CursorState → List CursorState → List Entry → List Entry → Rounded → Type 0
RoundLessens old new before after Moved = Lessens true old new before after
RoundLessens old new before after Idle = Lessens false old new before after
RoundLessens old new before after (Spent who) = Unit {0}
