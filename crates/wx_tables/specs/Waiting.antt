-- What waits for one context.
use Rattle.std.specs.Prelude.{List, cond, drop, Option, Some, None, slice_get}
use Rattle.wx_id.specs.declared.numbers.ContextNo.{ContextNo}
use Rattle.wx_id.specs.declared.events.Event.{Event}
use Rattle.wx_id.specs.Contexts.{same_context}

-- the first event of a queue; none where there is no such queue
abbrev pub first_in : Option (List Event) → Option Event
first_in None = None
first_in (Some queue) = slice_get queue 0

-- a queue once context c has taken its first event
abbrev pub taken : ContextNo → ContextNo → List Event → List Event
taken c d queue = cond (same_context c d) (drop 1 queue) queue
