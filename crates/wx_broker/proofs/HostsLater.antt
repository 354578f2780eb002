-- The answers to hosts by the tables are the machine's.
use Rattle.std.proofs.Common.{◌≡◌, ℕ, ◌<◌, ◌≤◌, List, length, refl, ap, sym, ◌∙◌, Bool, true, false, not, arith}
use Rattle.std.specs.Prelude.{Option, Some, None, slice_get}
use Rattle.std.specs.Option.{option_map}
use Rattle.wx_id.specs.declared.numbers.HostNo.{HostNo}
use Rattle.wx_id.specs.declared.numbers.EntryNo.{EntryNo}
use Rattle.wx_machine.specs.declared.work.Work.{Work}
use Rattle.wx_machine.specs.declared.entries.Entry.{Entry}
use Rattle.wx_machine.specs.Words.{Ends, channels, channel, Parties, requests, request, is_closed, is_settled, work_of, is_over, said_for, text_or_end}
use Rattle.wx_machine.specs.declared.work.Work.TheVariants.{Channel as ForChannel, Request as ForRequest}
use Rattle.wx_port.specs.Port.{Port, is_open_port}
use Rattle.wx_one_shot.specs.Requests.{Request, is_settled_at}
use Rattle.wx_broker.specs.Tables.{port_said, request_said, HasChannels, HasRequests, IfRequest, IsWithin, is_over_at, said_at, text_told}
use Rattle.wx_broker.proofs.TestsLater.{not_not, outside}
use Rattle.wx_broker.proofs.WorkLater.{work_within}
use Rattle.wx_broker.proofs.PortsLater.{channels_counted}
use Rattle.wx_broker.proofs.RequestsLater.{requests_counted, settled_later}

-- what a host works for stands in the tables
pub work_within_tables : (past : List Entry) (ports : List Port) (rows : List Request) (h : HostNo) → HasChannels past ports → HasRequests past rows → IsWithin (length ports) (length rows) (work_of past h)
work_within_tables past ports rows h has_ports has_rows =
    rw (channels_counted past ports has_ports, requests_counted past rows has_rows) (work_within past h)

-- a channel is closed as its row says
shut_at : (past : List Entry) (ports : List Port) (k : ℕ) → k < length (channels past) → HasChannels past ports → not (is_open_port (slice_get ports k)) ≡ is_closed past k
shut_at past ports k within has = ap (λ o. not (is_open_port o)) (has k) ∙ by (channel past k) refl
  where
    by : (o : Option Ends) → channel past k ≡ o → not (is_open_port (option_map (port_said past k) o)) ≡ is_closed past k
    by None at = let past_end : length (channels past) ≤ k = outside (channels past) k at in absurd (omega (arith, within, past_end))
    by (Some ends) at = not_not (is_closed past k)

-- a request is settled as its row says
settled_at_row : (past : List Entry) (rows : List Request) (r : ℕ) → HasRequests past rows → is_settled_at (slice_get rows r) ≡ is_settled past r
settled_at_row past rows r has = ap is_settled_at (has r) ∙ by (request past r) refl
  where
    by : (o : Option Parties) → request past r ≡ o → is_settled_at (option_map (request_said past r) o) ≡ is_settled past r
    by None at = sym (settled_later past r (outside (requests past) r at))
    by (Some parties) at = refl

-- what a host works for is over as the tables say
pub over_is : (past : List Entry) (ports : List Port) (rows : List Request) (h : HostNo) → HasChannels past ports → HasRequests past rows → is_over_at ports rows (work_of past h) ≡ is_over past (work_of past h)
over_is past ports rows h has_ports has_rows = by (work_of past h) (work_within past h)
  where
    by : (work : Option Work) → IsWithin (length (channels past)) (length (requests past)) work → is_over_at ports rows work ≡ is_over past work
    by None within = refl
    by (Some (ForChannel k)) within = shut_at past ports k.0 within has_ports
    by (Some (ForRequest r)) within = settled_at_row past rows r.0 has_rows

-- so is what the host is answered
pub said_is : (past : List Entry) (work : Option Work) → said_at (is_over past work) work ≡ said_for past work
said_is past None = refl
said_is past (Some (ForChannel k)) = refl
said_is past (Some (ForRequest r)) = refl

-- a request that a host works for is within the table
pub request_within : (m n : ℕ) (work : Option Work) → IsWithin m n work → IfRequest work (λ r. r < n)
request_within m n None within = tt
request_within m n (Some (ForChannel k)) within = tt
request_within m n (Some (ForRequest r)) within = within

-- the text that the answer to a take tells
pub text_told_is : (next : Option EntryNo) (over : Bool) → text_told (text_or_end next over) ≡ next
text_told_is (Some n) over = refl
text_told_is None true = refl
text_told_is None false = refl
