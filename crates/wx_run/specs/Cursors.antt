-- Where the cursors of all endpoints stand. Every list of entries has the newest first.
use Rattle.std.specs.Prelude.{◌≡◌, ℕ, ◌+◌, ◌-◌, Bool, ◌&&◌, not, List, [], ◌∷◌, map, Option, nat_le}
use Rattle.std.specs.List.{list_all, position_from, sum_by}
use Rattle.wx_id.specs.declared.numbers.ContextNo.{ContextNo}
use Rattle.wx_machine.specs.declared.entries.Entry.{Entry}
use Rattle.wx_script.specs.declared.script.Command.{Command}
use Rattle.wx_script.specs.Places.{place_of, at_start, is_left}
use Rattle.wx_script.specs.Ends.{entries_by, entry_limit, numbered}
use Rattle.wx_endpoint.specs.Turn.{CursorState}

-- the scripts of cursors
abbrev pub scripts_in : List CursorState → List (List Command)
scripts_in cursors = map (λ (cursor : CursorState). cursor.script) cursors

-- the cursor of context c behind these entries
abbrev pub cursor_of : List Command → ContextNo → List Entry → CursorState
cursor_of script c past = record { script = script; place = place_of script c past; made = entries_by c past }

-- the cursor behind an endpoint's `enter`
abbrev pub cursor_at_start : List Command → CursorState
cursor_at_start script = record { script = script; place = at_start script; made = 1 }

-- the cursor of each endpoint, numbered from n
abbrev pub cursors_from : List (List Command) → ℕ → List Entry → List CursorState
cursors_from [] n past = []
cursors_from (script ∷ scripts) n past = cursor_of script (numbered n) past ∷ cursors_from scripts (n + 1) past

-- each cursor stands behind its endpoint's entries
abbrev pub AreBehind : List (List Command) → List CursorState → List Entry → Type 0
AreBehind scripts cursors past = cursors ≡ cursors_from scripts 0 past

-- its endpoint has made as many entries as it may, and its script has not ended
abbrev pub is_spent_at : CursorState → Bool
is_spent_at cursor = nat_le entry_limit cursor.made && not (is_left cursor.place)

-- the first of these cursors, numbered from n, that is spent
abbrev pub first_spent_in : ℕ → List CursorState → Option ℕ
first_spent_in n cursors = position_from is_spent_at n cursors

-- each cursor stands behind its endpoint's `leave`
abbrev pub all_left : List CursorState → Bool
all_left cursors = list_all (λ (cursor : CursorState). is_left cursor.place) cursors

-- how many entries the endpoints may still make
abbrev pub work_in : List CursorState → ℕ
work_in cursors = sum_by (λ (cursor : CursorState). entry_limit - cursor.made) cursors
