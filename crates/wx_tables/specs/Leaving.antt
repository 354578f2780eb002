-- What the leave of a context tells.
use Rattle.std.specs.Prelude.{ℕ, List, [], ◌∷◌, ◌++◌, Bool, false, not, ◌&&◌, cond, Option, Some, None, map, flat_map, slice_get}
use Rattle.std.specs.List.{range_with_len}
use Rattle.wx_id.specs.declared.numbers.ContextNo.{ContextNo}
use Rattle.wx_id.specs.declared.numbers.EntryNo.{EntryNo}
use Rattle.wx_id.specs.declared.events.Event.{Event}
use Rattle.wx_id.specs.declared.events.EventKind.{EventKind}
use Rattle.wx_id.specs.declared.events.EventKind.TheVariants.{Disconnected}
use Rattle.wx_port.specs.Port.{Port, is_live_end, without}
use Rattle.wx_id.specs.Contexts.{is_among}
use Rattle.wx_tables.specs.State.{in_entry}
use Rattle.wx_tables.specs.Ending.{other_side, heard}

-- the channel once its live end c has left
abbrev pub left_at : ContextNo → Port → Port
left_at c port = cond (is_live_end (Some port) c) (without c port) port

-- the leave of its live end c closes the channel
abbrev pub closes_by : Port → ContextNo → Bool
closes_by port c = not (without c port).is_open

-- what waits once a live end of a channel has left
abbrev pub told_leave : Port → ContextNo → Event → ContextNo → List Event → List Event
told_leave port c e d queue = heard (closes_by port c && is_among (other_side port c) d) e queue

-- context d hears that the channel ended by the leave of c
abbrev pub hears_end : Option Port → ContextNo → ContextNo → Bool
hears_end None c d = false
hears_end (Some port) c d = is_live_end (Some port) c && closes_by port c && is_among (other_side port c) d

abbrev pub end_told : List Port → ContextNo → ContextNo → ℕ → List EventKind
end_told ports c d k = cond (hears_end (slice_get ports k) c d) (Disconnected (record { 0 = k }) ∷ []) []

-- the ends of channels below that number that are told to d
abbrev pub ends_told : List Port → ContextNo → ContextNo → ℕ → List EventKind
ends_told ports c d below = flat_map (end_told ports c d) (range_with_len 0 below)

-- what waits once c has left the channels below that number
abbrev pub told_ends : List Port → ContextNo → EntryNo → ℕ → ContextNo → List Event → List Event
told_ends ports c n below d queue = queue ++ map (in_entry n) (ends_told ports c d below)
