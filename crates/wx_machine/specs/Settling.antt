-- The entry that settles a request.
use Rattle.std.specs.Prelude.{ℕ, length, List, [], ◌∷◌, Bool, false, not, ◌&&◌, ◌||◌, cond, Option, Some, None, is_some, ◌==◌, nat_lt}
use Rattle.std.specs.Option.{option_or}
use Rattle.std.specs.List.{list_any}
use Rattle.wx_id.specs.declared.numbers.ContextNo.{ContextNo}
use Rattle.wx_machine.specs.declared.entries.Who.{Who}
use Rattle.wx_machine.specs.declared.entries.Who.TheVariants.{Context as ByContext, Host as ByHost}
use Rattle.wx_machine.specs.declared.entries.Call.{Call}
use Rattle.wx_machine.specs.declared.entries.Call.TheVariants.{Leave, Reply, Decline, HostSaid, HostEnded}
use Rattle.wx_machine.specs.declared.entries.Entry.{Entry}
use Rattle.wx_machine.specs.declared.entries.TheConstants.{LONGEST}
use Rattle.wx_machine.specs.Contexts.{is_by, is_live}
use Rattle.wx_machine.specs.Requests.{Parties, request, is_asker, is_asked}
use Rattle.wx_machine.specs.Hosts.{is_for_request, work_of}

abbrev pub is_decline : ℕ → Call → Bool
is_decline r (Decline j) = j.0 == r
is_decline r _ = false

-- Context c, a live receiver of request r, declined it. A decline before the request was made is none of a receiver,
-- and does not count.
abbrev pub has_declined : List Entry → ℕ → ContextNo → Bool
has_declined [] r c = false
has_declined (e ∷ past) r c = has_declined past r c || (is_decline r e.call && is_by e.who c && is_live past c
    && is_asked (request past r) c)

-- context c lives and has not declined request r
abbrev pub is_open_to : List Entry → ℕ → ContextNo → Bool
is_open_to past r c = is_live past c && not (has_declined past r c)

-- some receiver of request r, which has these parties, may still reply
abbrev pub has_open : List Entry → ℕ → Option Parties → Bool
has_open past r None = false
has_open past r (Some parties) = list_any (is_open_to past r) parties.receivers

-- entry e settles request r, which has these parties: a reply of a receiver that may still reply, the decline or leave
-- after which none may, the asker's leave, or what its host says or that it ends
abbrev pub settles_by : List Entry → Entry → ℕ → Option Parties → Who → Call → Bool
settles_by past e r parties (ByContext c) (Reply j text) = (j.0 == r) && is_asked parties c && is_open_to past r c
    && not (nat_lt LONGEST (length text))
settles_by past e r parties (ByContext c) (Decline j) = (j.0 == r) && is_asked parties c && is_live past c
    && not (has_open (e ∷ past) r parties)
settles_by past e r parties (ByContext c) Leave = is_asker parties c
    || (is_asked parties c && not (has_open (e ∷ past) r parties))
settles_by past e r parties (ByHost h) (HostSaid text) = is_for_request r (work_of past h)
settles_by past e r parties (ByHost h) (HostEnded reason) = is_for_request r (work_of past h)
settles_by past e r parties _ _ = false

abbrev pub ends_request : List Entry → Entry → ℕ → Bool
ends_request past e r = settles_by past e r (request past r) e.who e.call

-- the number of the entry that settled request r: the first after its opening that ends it
abbrev pub settled_at : List Entry → ℕ → Option ℕ
settled_at [] r = None
settled_at (e ∷ past) r = option_or (settled_at past r) (cond (ends_request past e r) (Some (length past)) None)

abbrev pub is_settled : List Entry → ℕ → Bool
is_settled past r = is_some (settled_at past r)

-- entry e settles request r
abbrev pub settles : List Entry → Entry → ℕ → Bool
settles past e r = not (is_settled past r) && ends_request past e r
