-- What a contract sees of the one-shot requests (WebExtensions "runtime.sendMessage").
use Rattle.std.specs.Prelude.{List, [], Bool, true, false, not, ◌&&◌, ◌||◌, ◌==◌, cond, Option, Some, None, filter, length}
use Rattle.wx_id.specs.Contexts.{same_context, is_among, is_other}
use Rattle.wx_id.specs.declared.numbers.ContextNo.{ContextNo}
use Rattle.wx_one_shot.specs.declared.requests.Standing.{Standing}
use Rattle.wx_one_shot.specs.declared.requests.Standing.TheVariants.{Open, Late, Stranger}

-- a request: who asked it, whom, which of these may still reply, and whether it is settled
pub record Request : Type 0 where
  pub asker : ContextNo
  pub receivers : List ContextNo
  pub still_open : List ContextNo
  pub is_settled : Bool

-- a request as it is made: each receiver may reply
abbrev pub asked : ContextNo → List ContextNo → Request
asked asker receivers = record { asker = asker; receivers = receivers; still_open = receivers; is_settled = false }

-- a request once it is settled: nobody may reply any more
abbrev pub settled : Request → Request
settled request = record { asker = request.asker; receivers = request.receivers; still_open = []; is_settled = true }

-- an unsettled request where just these may still reply: it is settled where there are none
abbrev pub left_to : List ContextNo → Request → Request
left_to contexts request = record {
  asker = request.asker;
  receivers = request.receivers;
  still_open = contexts;
  is_settled = length contexts == 0;
}

-- an unsettled request once receiver c will not reply
abbrev pub without : ContextNo → Request → Request
without c request = left_to (filter (is_other c) request.still_open) request

-- the request once context c has left: an unsettled one that c asked is settled, and one that was sent to c is left to
-- the others
abbrev pub left_by : ContextNo → Request → Request
left_by c request =
    cond request.is_settled request (cond (same_context request.asker c) (settled request)
    (cond (is_among request.receivers c) (without c request) request))

-- the request with a number has been given out and is settled
abbrev pub is_settled_at : Option Request → Bool
is_settled_at None = false
is_settled_at (Some request) = request.is_settled

-- the request with a number has been given out and is not settled
abbrev pub is_unsettled_at : Option Request → Bool
is_unsettled_at None = false
is_unsettled_at (Some request) = not request.is_settled

-- the receivers that may still reply to the request with a number; none to one that was not made yet
abbrev pub still_open_at : Option Request → List ContextNo
still_open_at None = []
still_open_at (Some request) = request.still_open

-- context c may still reply to the request
abbrev pub may_reply : Request → ContextNo → Bool
may_reply request c = not request.is_settled && is_among request.still_open c

-- what context c is to the request with a number
abbrev pub standing_at : Option Request → ContextNo → Standing
standing_at None c = Stranger
standing_at (Some request) c = cond (is_among request.receivers c) (cond (may_reply request c) Open Late) Stranger

-- the request with a number is not settled, and context c asked it or may still reply to it
abbrev pub concerns_at : Option Request → ContextNo → Bool
concerns_at None c = false
concerns_at (Some request) c = not request.is_settled && ((same_context request.asker c)
    || is_among request.still_open c)
