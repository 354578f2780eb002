-- What is read as an entry of a journal: the tables of words.
use Rattle.std.specs.Prelude.{ℕ, zero, suc, ◌^◌, Bool, true, false, List, [], ◌∷◌, length, take, drop, Option, Some, None, codes, nat_lt, if◌then◌else◌}
use Rattle.std.specs.Str.{is_utf8}
use Rattle.wx_id.specs.Ids.{is_extension_id}
use Rattle.wx_id.specs.declared.numbers.FrameId.{FrameId}
use Rattle.wx_id.specs.declared.events.EventKind.TheVariants.{Connected, Message, Disconnected, Asked, Replied, Closed}
use Rattle.wx_json.specs.Test.{is_json_text}
use Rattle.wx_json.specs.declared.JsonKind.{JsonKind}
use Rattle.wx_json.specs.declared.JsonKind.TheVariants.{Syntax, Utf8, TooDeep, Ends}
use Rattle.wx_context.specs.Paths.{is_page_path}
use Rattle.wx_context.specs.declared.contexts.Context.{Context}
use Rattle.wx_context.specs.declared.contexts.Context.TheVariants.{Page, Content, Web}
use Rattle.wx_context.specs.declared.contexts.Target.{Target}
use Rattle.wx_context.specs.declared.contexts.Target.TheVariants.{Own, Other, Tab}
use Rattle.wx_context.specs.declared.contexts.Listens.{Listens}
use Rattle.wx_external.specs.declared.gates.Rule.{Rule}
use Rattle.wx_external.specs.declared.gates.Rule.TheVariants.{Id, Url}
use Rattle.wx_machine.specs.declared.entries.Who.{Who}
use Rattle.wx_machine.specs.declared.entries.Call.{Call}
use Rattle.wx_machine.specs.declared.entries.Reason.{Reason}
use Rattle.wx_machine.specs.declared.entries.Answer.{Answer}
use Rattle.wx_machine.specs.declared.entries.Entry.{Entry}
use Rattle.wx_machine.specs.declared.entries.Who.TheVariants.{Context as ByContext, Host as ByHost}
use Rattle.wx_machine.specs.declared.entries.Call.TheVariants.{Enter, Listen, Leave, Connect, Post, Disconnect, Send, Reply, Decline, Take, ConnectNative, SendNative, HostTake, HostSaid, HostEnded}
use Rattle.wx_machine.specs.declared.entries.Reason.TheVariants as reason
use Rattle.wx_machine.specs.declared.entries.Answer.TheVariants.{Entered, Channel as OnChannel, Request as OnRequest, Event as Told, Text as HasText, Done, Gone, BadTarget, Forbidden, NoReceiver, Posted, NoPort, PortClosed, TooLong, NoEffect, First, Late, NotYours, Empty, NoPermission, BadHostName, HostNotFound, HostForbidden, End as NoMore, Passed, Ignored, Already}
use Rattle.wx_journal_read.specs.Fits.{is_url}
use Rattle.wx_id.specs.Options.{◌>>=◌, where_so}
use Rattle.wx_journal_read.specs.Reading.{Reader, Rows, behind, number_at, sized_at, both_at, mapped, just, choice, choice_or}

-- numbers
abbrev pub n32 : Reader ℕ
n32 = number_at (2 ^ 32)

abbrev pub n64 : Reader ℕ
n64 = number_at (2 ^ 64)

unfoldable pub id_at : Reader (List ℕ)
id_at bytes =
    if nat_lt (length bytes) 32 then None else where_so (is_extension_id (take 32 bytes)) (take 32 bytes, drop 32 bytes)

abbrev pub sp : List ℕ
sp = codes " "

abbrev pub who_rows : Rows Who
who_rows =
    (codes "c", mapped (λ n. ByContext (record { 0 = n })) n64)
    ∷ (codes "h", mapped (λ n. ByHost (record { 0 = n })) n64)
    ∷ []

unfoldable pub who_at : Reader Who
who_at = choice who_rows

-- any frame, or after the empty word a number
abbrev pub frame_rows : Rows (Option FrameId)
frame_rows =
    (codes "*", just None)
    ∷ ([], mapped (λ n. Some (record { 0 = n })) n32)
    ∷ []

unfoldable pub frame_at : Reader (Option FrameId)
frame_at = choice frame_rows

abbrev pub target_rows : Rows Target
target_rows =
    (codes "own", just Own)
    ∷ (codes "ext ", mapped Other id_at)
    ∷ (codes "tab ", mapped (λ p. Tab (record { 0 = p.0 }) p.1) (both_at sp n32 frame_at))
    ∷ []

unfoldable pub target_at : Reader Target
target_at = choice target_rows

unfoldable pub page_at : Reader Context
page_at = mapped (λ p. Page p.0 p.1) (both_at sp id_at (sized_at is_page_path))

unfoldable pub content_at : Reader Context
content_at =
    mapped (λ p. Content p.0 (record { 0 = p.1.0 }) (record { 0 = p.1.1.0 }) p.1.1.1)
    (both_at sp id_at (both_at sp n32 (both_at sp n32 (sized_at is_url))))

unfoldable pub web_at : Reader Context
web_at =
    mapped (λ p. Web (record { 0 = p.0 }) (record { 0 = p.1.0 }) p.1.1)
    (both_at sp n32 (both_at sp n32 (sized_at is_url)))

abbrev pub context_rows : Rows Context
context_rows = (codes "page ", page_at) ∷ (codes "content ", content_at) ∷ (codes "web ", web_at) ∷ []

unfoldable pub context_at : Reader Context
context_at = choice context_rows

abbrev pub flag_rows : List ℕ → Rows Bool
flag_rows letter = (letter, just true) ∷ (codes "-", just false) ∷ []

unfoldable pub flag_at : List ℕ → Reader Bool
flag_at letter = choice (flag_rows letter)

unfoldable pub listens_at : Reader Listens
listens_at =
    mapped (λ p. record { connect = p.0; message = p.1.0; external_connect = p.1.1.0; external_message = p.1.1.1 })
    (both_at [] (flag_at (codes "c")) (both_at [] (flag_at (codes "m")) (both_at [] (flag_at (codes "C")) (flag_at (codes "M")))))

-- why a text is no JSON text
abbrev pub json_kind_rows : Rows JsonKind
json_kind_rows =
    (codes "syntax", just Syntax)
    ∷ (codes "utf8", just Utf8)
    ∷ (codes "too_deep", just TooDeep)
    ∷ (codes "ends", just Ends)
    ∷ []

unfoldable pub json_kind_at : Reader JsonKind
json_kind_at = choice json_kind_rows

-- why a host ended
abbrev pub end_reason_rows : Rows Reason
end_reason_rows =
    (codes "write_failed", just reason.WriteFailed)
    ∷ (codes "exited", just reason.Exited)
    ∷ (codes "closed", just reason.Closed)
    ∷ []

unfoldable pub end_reason_at : Reader Reason
end_reason_at = choice end_reason_rows

abbrev pub frame_reason_rows : Rows Reason
frame_reason_rows =
    (codes "too_long ", mapped reason.TooLong n32)
    ∷ (codes "bad_json ", mapped (λ p. reason.BadJson p.0 p.1) (both_at sp n64 json_kind_at))
    ∷ (codes "cut ", mapped reason.Cut n64)
    ∷ []

unfoldable pub frame_reason_at : Reader Reason
frame_reason_at = choice_or frame_reason_rows end_reason_at

abbrev pub reason_rows : Rows Reason
reason_rows =
    (codes "start_failed", just reason.StartFailed)
    ∷ (codes "read_failed", just reason.ReadFailed)
    ∷ []

unfoldable pub reason_at : Reader Reason
reason_at = choice_or reason_rows frame_reason_at

-- calls
abbrev pub host_call_rows : Rows Call
host_call_rows =
    (codes "host_take", just HostTake)
    ∷ (codes "host_said ", mapped HostSaid (sized_at is_json_text))
    ∷ (codes "host_ended ", mapped HostEnded reason_at)
    ∷ []

unfoldable pub host_call_at : Reader Call
host_call_at = choice host_call_rows

unfoldable pub send_native_at : Reader Call
send_native_at = mapped (λ p. SendNative p.0 p.1) (both_at sp (sized_at is_utf8) (sized_at is_json_text))

abbrev pub native_call_rows : Rows Call
native_call_rows =
    (codes "connect_native ", mapped ConnectNative (sized_at is_utf8))
    ∷ (codes "send_native ", send_native_at)
    ∷ []

unfoldable pub native_call_at : Reader Call
native_call_at = choice_or native_call_rows host_call_at

unfoldable pub send_at : Reader Call
send_at = mapped (λ p. Send p.0 p.1) (both_at sp target_at (sized_at is_json_text))

unfoldable pub reply_at : Reader Call
reply_at = mapped (λ p. Reply (record { 0 = p.0 }) p.1) (both_at sp n64 (sized_at is_json_text))

abbrev pub request_call_rows : Rows Call
request_call_rows =
    (codes "send ", send_at)
    ∷ (codes "reply ", reply_at)
    ∷ (codes "decline ", mapped (λ n. Decline (record { 0 = n })) n64)
    ∷ []

unfoldable pub request_call_at : Reader Call
request_call_at = choice_or request_call_rows native_call_at

unfoldable pub connect_at : Reader Call
connect_at = mapped (λ p. Connect p.0 p.1) (both_at sp target_at (sized_at is_utf8))

unfoldable pub post_at : Reader Call
post_at = mapped (λ p. Post (record { 0 = p.0 }) p.1) (both_at sp n64 (sized_at is_json_text))

abbrev pub port_call_rows : Rows Call
port_call_rows =
    (codes "connect ", connect_at)
    ∷ (codes "post ", post_at)
    ∷ (codes "disconnect ", mapped (λ n. Disconnect (record { 0 = n })) n64)
    ∷ []

unfoldable pub port_call_at : Reader Call
port_call_at = choice_or port_call_rows request_call_at

abbrev pub call_rows : Rows Call
call_rows =
    (codes "enter ", mapped Enter context_at)
    ∷ (codes "listen ", mapped Listen listens_at)
    ∷ (codes "leave", just Leave)
    ∷ (codes "take", just Take)
    ∷ []

unfoldable pub call_at : Reader Call
call_at = choice_or call_rows port_call_at

-- the rule by which a call from outside is forbidden
abbrev pub rule_rows : Rows Rule
rule_rows =
    (codes "id", just Id)
    ∷ (codes "url", just Url)
    ∷ []

unfoldable pub rule_at : Reader Rule
rule_at = choice rule_rows

-- answers
abbrev pub host_answer_rows : Rows Answer
host_answer_rows =
    (codes "end", just NoMore)
    ∷ (codes "passed", just Passed)
    ∷ (codes "ignored", just Ignored)
    ∷ (codes "already", just Already)
    ∷ []

unfoldable pub host_answer_at : Reader Answer
host_answer_at = choice host_answer_rows

abbrev pub installed_answer_rows : Rows Answer
installed_answer_rows =
    (codes "host_not_found", just HostNotFound)
    ∷ (codes "host_forbidden", just HostForbidden)
    ∷ []

unfoldable pub installed_answer_at : Reader Answer
installed_answer_at = choice_or installed_answer_rows host_answer_at

abbrev pub native_answer_rows : Rows Answer
native_answer_rows =
    (codes "no_permission", just NoPermission)
    ∷ (codes "bad_host_name", just BadHostName)
    ∷ []

unfoldable pub native_answer_at : Reader Answer
native_answer_at = choice_or native_answer_rows installed_answer_at

abbrev pub reply_answer_rows : Rows Answer
reply_answer_rows =
    (codes "first", just First)
    ∷ (codes "late", just Late)
    ∷ (codes "not_yours", just NotYours)
    ∷ []

unfoldable pub reply_answer_at : Reader Answer
reply_answer_at = choice_or reply_answer_rows native_answer_at

abbrev pub common_answer_rows : Rows Answer
common_answer_rows =
    (codes "done", just Done)
    ∷ (codes "gone", just Gone)
    ∷ (codes "empty", just Empty)
    ∷ (codes "too_long", just TooLong)
    ∷ (codes "no_effect", just NoEffect)
    ∷ []

unfoldable pub common_answer_at : Reader Answer
common_answer_at = choice_or common_answer_rows reply_answer_at

abbrev pub post_answer_rows : Rows Answer
post_answer_rows =
    (codes "posted", just Posted)
    ∷ (codes "no_port", just NoPort)
    ∷ (codes "port_closed", just PortClosed)
    ∷ []

unfoldable pub post_answer_at : Reader Answer
post_answer_at = choice_or post_answer_rows common_answer_at

abbrev pub target_answer_rows : Rows Answer
target_answer_rows =
    (codes "bad_target", just BadTarget)
    ∷ (codes "forbidden ", mapped Forbidden rule_at)
    ∷ (codes "no_receiver", just NoReceiver)
    ∷ []

unfoldable pub target_answer_at : Reader Answer
target_answer_at = choice_or target_answer_rows post_answer_at

abbrev pub request_event_rows : Rows Answer
request_event_rows =
    (codes "asked ", mapped (λ p. Told (record { entry = record { 0 = p.1 }; kind = Asked (record { 0 = p.0 }) })) (both_at sp n64 n64))
    ∷ (codes "replied ", mapped (λ p. Told (record { entry = record { 0 = p.1 }; kind = Replied (record { 0 = p.0 }) })) (both_at sp n64 n64))
    ∷ (codes "closed ", mapped (λ p. Told (record { entry = record { 0 = p.1 }; kind = Closed (record { 0 = p.0 }) })) (both_at sp n64 n64))
    ∷ []

unfoldable pub request_event_at : Reader Answer
request_event_at = choice_or request_event_rows target_answer_at

abbrev pub channel_event_rows : Rows Answer
channel_event_rows =
    (codes "connected ", mapped (λ p. Told (record { entry = record { 0 = p.1 }; kind = Connected (record { 0 = p.0 }) })) (both_at sp n64 n64))
    ∷ (codes "message ", mapped (λ p. Told (record { entry = record { 0 = p.1 }; kind = Message (record { 0 = p.0 }) })) (both_at sp n64 n64))
    ∷ (codes "disconnected ", mapped (λ p. Told (record { entry = record { 0 = p.1 }; kind = Disconnected (record { 0 = p.0 }) })) (both_at sp n64 n64))
    ∷ []

unfoldable pub channel_event_at : Reader Answer
channel_event_at = choice_or channel_event_rows request_event_at

abbrev pub answer_rows : Rows Answer
answer_rows =
    (codes "context ", mapped (λ n. Entered (record { 0 = n })) n64)
    ∷ (codes "channel ", mapped (λ n. OnChannel (record { 0 = n })) n64)
    ∷ (codes "request ", mapped (λ n. OnRequest (record { 0 = n })) n64)
    ∷ (codes "text ", mapped (λ n. HasText (record { 0 = n })) n64)
    ∷ []

unfoldable pub answer_at : Reader Answer
answer_at = choice_or answer_rows channel_event_at

unfoldable pub entry_at : Reader Entry
entry_at bytes = do
  x ← both_at sp who_at (both_at (codes " -> ") call_at answer_at) bytes
  rest ← behind (codes "\n") x.1
  Some (record { who = x.0.0; call = x.0.1.0; answer = x.0.1.1 }, rest)

abbrev pub entries_with : List ℕ → Option (Entry × List ℕ) → (List ℕ → List Entry × List ℕ) → List Entry × List ℕ
entries_with bytes None more = ([], bytes)
entries_with bytes (Some x) more = (x.0 ∷ (more x.1).0, (more x.1).1)

-- the whole entries in front, at most n, and what stands after them
unfoldable pub entries_at : ℕ → List ℕ → List Entry × List ℕ
entries_at zero bytes = ([], bytes)
entries_at (suc n) bytes = entries_with bytes (entry_at bytes) (entries_at n)
