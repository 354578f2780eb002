-- How far the opening of a run has come. Every list of entries has the newest first.
use Rattle.std.specs.Prelude.{◌≡◌, ℕ, ◌<◌, Bool, List, [], ◌∷◌, map, take, reverse, Option, Some, None}
use Rattle.wx_id.specs.declared.numbers.ContextNo.{ContextNo}
use Rattle.wx_machine.specs.declared.entries.Who.TheVariants.{Context as ByContext}
use Rattle.wx_machine.specs.declared.entries.Entry.{Entry}
use Rattle.wx_machine.specs.Words.{FollowsMachine, contexts, EachAfter, hosts}
use Rattle.wx_external.specs.World.{WorldLists}
use Rattle.wx_context.specs.declared.contexts.Listens.{Listens}
use Rattle.wx_script.specs.declared.script.Command.{Command}
use Rattle.wx_script.specs.declared.scene.SceneEndpoint.{SceneEndpoint}
use Rattle.wx_script.specs.Ends.{numbered}
use Rattle.wx_endpoint.specs.Turn.{CursorState}
use Rattle.wx_run.specs.Cursors.{cursor_at_start, cursors_from, first_spent_in}
use Rattle.wx_run.specs.Opening.{entered, first_listen, opening_from}
use Rattle.wx_run.specs.Round.{Follows, IsWithinLimit}
use Rattle.wx_run.specs.Step.{IsStep}

-- the scripts of these endpoints
abbrev pub scripts_at : List SceneEndpoint → List (List Command)
scripts_at endpoints = map (λ (e : SceneEndpoint). e.script) endpoints

-- an entry by a context below n
pub record IsBelow (n : ℕ) (e : Entry) : Type 0 where
  pub c : ContextNo
  pub own : e.who ≡ ByContext c
  pub below : c.0 < n

-- each entry is by a context below n
abbrev pub AreBelow : ℕ → List Entry → Type 0
AreBelow n [] = Unit {0}
AreBelow n (e ∷ past) = AreBelow n past × IsBelow n e

-- n contexts have come in, and each entry is by one of them
pub record AreIn (n : ℕ) (past : List Entry) : Type 0 where
  pub counted : contexts past ≡ n
  pub below : AreBelow n past

-- the first i endpoints have made their first entries, and stand behind them; none is spent
pub record OpenedSoFar (world : WorldLists) (endpoints : List SceneEndpoint) (i : ℕ) (cursors : List CursorState)
    (past : List Entry) : Type 0 where
  pub legal : EachAfter (FollowsMachine world) past
  pub begins : past ≡ reverse (opening_from 0 (take i endpoints))
  pub behind : cursors ≡ cursors_from (take i (scripts_at endpoints)) 0 past
  pub all_in : AreIn i past
  pub follows : Follows (scripts_at endpoints) past
  pub within_limit : IsWithinLimit past
  pub unspent : first_spent_in 0 cursors ≡ None
  pub no_hosts : hosts past ≡ []

-- behind its `enter` an endpoint has made its first `listen`, if there is one, and its cursor stands behind it
abbrev pub IsOpenedBy : WorldLists → ContextNo → List Command → Option Listens → CursorState → List Entry → List Entry
    → Type 0
IsOpenedBy world c script None cursor before after = (cursor ≡ cursor_at_start script) × (after ≡ before)
IsOpenedBy world c script (Some l) cursor before after = (moved : Bool)
    × IsStep world c (cursor_at_start script) cursor before after moved

-- An endpoint has come in under the next number, and made its first `listen`, if there is one.
pub record IsOpened (world : WorldLists) (endpoint : SceneEndpoint) (cursor : CursorState) (before after : List Entry)
    : Type 0 where
  pub follows : FollowsMachine world before (entered (numbered (contexts before)) endpoint.context)
  pub opened : IsOpenedBy world (numbered (contexts before)) endpoint.script (first_listen endpoint.script) cursor
      (entered (numbered (contexts before)) endpoint.context ∷ before) after
