-- What the outcome of a request tells, and what the leave of a context makes of requests.
use Rattle.std.specs.Prelude.{ℕ, List, [], ◌∷◌, ◌++◌, Bool, false, not, ◌&&◌, cond, Option, Some, None, map, flat_map, length, slice_get}
use Rattle.std.specs.List.{range_with_len}
use Rattle.wx_id.specs.declared.numbers.ContextNo.{ContextNo}
use Rattle.wx_id.specs.declared.numbers.EntryNo.{EntryNo}
use Rattle.wx_id.specs.declared.events.Event.{Event}
use Rattle.wx_id.specs.declared.events.EventKind.{EventKind}
use Rattle.wx_id.specs.declared.events.EventKind.TheVariants.{Closed}
use Rattle.wx_port.specs.Port.{Port}
use Rattle.wx_one_shot.specs.Requests.{Request, concerns_at, settled, without}
use Rattle.wx_id.specs.Contexts.{same_context, is_among}
use Rattle.wx_tables.specs.Ending.{heard}
use Rattle.wx_tables.specs.State.{in_entry}
use Rattle.wx_tables.specs.Leaving.{told_ends}

-- the asker of the request hears of its outcome
abbrev pub told_asker : Bool → Request → Event → ContextNo → List Event → List Event
told_asker b request e d queue = heard (b && same_context request.asker d) e queue

-- the request once c, whom it concerns, has left
abbrev pub request_left : ContextNo → Request → Request
request_left c request =
    cond (same_context request.asker c) (settled request)
    (cond (is_among request.receivers c) (without c request) request)

-- the leave of c settles the request without a reply, which its asker hears of
abbrev pub closes_request : Request → ContextNo → Bool
closes_request request c =
    not (same_context request.asker c) && is_among request.receivers c && (without c request).is_settled

-- the request once context c has left, whether it concerns c or not
abbrev pub request_left_at : ContextNo → Request → Request
request_left_at c request = cond (concerns_at (Some request) c) (request_left c request) request

-- context d hears that the request is settled by the leave of c
abbrev pub hears_outcome : Option Request → ContextNo → ContextNo → Bool
hears_outcome None c d = false
hears_outcome (Some request) c d =
    concerns_at (Some request) c && closes_request request c && same_context request.asker d

abbrev pub outcome_told : List Request → ContextNo → ContextNo → ℕ → List EventKind
outcome_told requests c d r = cond (hears_outcome (slice_get requests r) c d) (Closed (record { 0 = r }) ∷ []) []

-- the outcomes of requests below that number that are told to d
abbrev pub outcomes_told : List Request → ContextNo → ContextNo → ℕ → List EventKind
outcomes_told requests c d below = flat_map (outcome_told requests c d) (range_with_len 0 below)

-- what waits once c has left the requests below that number
abbrev pub told_outcomes : List Request → ContextNo → EntryNo → ℕ → ContextNo → List Event → List Event
told_outcomes requests c n below d queue = queue ++ map (in_entry n) (outcomes_told requests c d below)

-- what waits once context c has left: each ended channel is told, and then each unanswered request
abbrev pub told_left :
    List Port → List Request → ContextNo → EntryNo → ContextNo → List Event → List Event
told_left ports requests c n d queue =
    told_outcomes requests c n (length requests) d (told_ends ports c n (length ports) d queue)
