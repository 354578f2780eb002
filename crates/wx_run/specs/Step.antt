-- What one turn of an endpoint does to the one journal. Every list of entries has the newest first.
use Rattle.std.specs.Prelude.{◌≡◌, ◌<◌, Bool, true, false, List, ◌∷◌}
use Rattle.wx_id.specs.declared.numbers.ContextNo.{ContextNo}
use Rattle.wx_external.specs.World.{WorldLists}
use Rattle.wx_machine.specs.declared.entries.Who.TheVariants.{Context as ByContext}
use Rattle.wx_machine.specs.declared.entries.Entry.{Entry}
use Rattle.wx_machine.specs.Words.{FollowsMachine, contexts, EachAfter, has_pending}
use Rattle.wx_script.specs.Places.{next_at, next_of}
use Rattle.wx_script.specs.Carries.{MayCome}
use Rattle.wx_script.specs.Ends.{entries_by, entry_limit, is_idle}
use Rattle.wx_desk.specs.History.{seen_by}
use Rattle.wx_endpoint.specs.History.{CarriesOn}
use Rattle.wx_endpoint.specs.Turn.{CursorState}
use Rattle.wx_run.specs.Cursors.{cursor_of, is_spent_at}

-- The journal is legal, context c came in, its entries carry out its script, its cursor stands behind them, and it is
-- not spent.
pub record IsReady (world : WorldLists) (c : ContextNo) (cursor : CursorState) (past : List Entry) : Type 0 where
  pub legal : EachAfter (FollowsMachine world) past
  pub given : c.0 < contexts past
  pub behind : cursor ≡ cursor_of cursor.script c past
  pub carries : CarriesOn cursor.script c (seen_by (ByContext c) past)
  pub unspent : is_spent_at cursor ≡ false

-- Context c made the entry that its script asks for, with the machine's answer, and its cursor stands behind it.
pub record Moves (world : WorldLists) (c : ContextNo) (cursor moved : CursorState) (before after : List Entry)
    : Type 0 where
  pub entry : Entry
  pub own : entry.who ≡ ByContext c
  pub asked : MayCome before c (next_of cursor.script c before) entry
  pub follows : FollowsMachine world before entry
  pub made : after ≡ entry ∷ before
  pub behind : moved ≡ cursor_of cursor.script c after
  pub within_limit : entries_by c before < entry_limit

-- It could do nothing, and nothing was done.
pub record Rests (c : ContextNo) (cursor moved : CursorState) (before after : List Entry) : Type 0 where
  pub idle : is_idle before c (next_of cursor.script c before) ≡ true
  pub same_cursor : moved ≡ cursor
  pub same : after ≡ before

-- Whatever was done since, the endpoint of this cursor can do nothing where nothing is pending for it.
abbrev pub IsIdleUnlessPending : CursorState → Type 0
IsIdleUnlessPending cursor = (past : List Entry) (c : ContextNo) → has_pending past c ≡ false
    → is_idle past c (next_at past cursor.place) ≡ true

-- a turn of context c, in which it made an entry or none
abbrev pub IsStep : WorldLists → ContextNo → CursorState → CursorState → List Entry → List Entry → Bool → Type 0
IsStep world c cursor moved before after true = Moves world c cursor moved before after
IsStep world c cursor moved before after false = Rests c cursor moved before after
