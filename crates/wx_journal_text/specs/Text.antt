-- The text of a journal. Each text is nested to the right: a word, a space, and what follows.
use Rattle.std.specs.Prelude.{ℕ, length, List, ◌++◌, Bool, true, false, Option, Some, None, flat_map, decimal, codes}
use Rattle.wx_id.specs.declared.numbers.FrameId.{FrameId}
use Rattle.wx_id.specs.declared.events.EventKind.{EventKind}
use Rattle.wx_id.specs.declared.events.EventKind.TheVariants.{Connected, Message, Disconnected, Asked, Replied, Closed}
use Rattle.wx_context.specs.declared.contexts.Context.{Context}
use Rattle.wx_context.specs.declared.contexts.Context.TheVariants.{Page, Content, Web}
use Rattle.wx_context.specs.declared.contexts.Target.{Target}
use Rattle.wx_context.specs.declared.contexts.Target.TheVariants.{Own, Other, Tab}
use Rattle.wx_context.specs.declared.contexts.Listens.{Listens}
use Rattle.wx_external.specs.declared.gates.Rule.{Rule}
use Rattle.wx_external.specs.declared.gates.Rule.TheVariants.{Id, Url}
use Rattle.wx_machine.specs.declared.entries.Who.{Who}
use Rattle.wx_machine.specs.declared.entries.Call.{Call}
use Rattle.wx_machine.specs.declared.entries.Reason.{Reason}
use Rattle.wx_machine.specs.declared.entries.Answer.{Answer}
use Rattle.wx_machine.specs.declared.entries.Entry.{Entry}
use Rattle.wx_machine.specs.declared.entries.Who.TheVariants.{Context as ByContext, Host as ByHost}
use Rattle.wx_machine.specs.declared.entries.Call.TheVariants.{Enter, Listen, Leave, Connect, Post, Disconnect, Send, Reply, Decline, Take, ConnectNative, SendNative, HostTake, HostSaid, HostEnded}
use Rattle.wx_json.specs.declared.JsonKind.{JsonKind}
use Rattle.wx_json.specs.declared.JsonKind.TheVariants.{Syntax, Utf8, TooDeep, Ends}
use Rattle.wx_machine.specs.declared.entries.Reason.TheVariants as reason
use Rattle.wx_machine.specs.declared.entries.Answer.TheVariants.{Entered, Channel as OnChannel, Request as OnRequest, Event as Told, Done, Gone, BadTarget, Forbidden, NoReceiver, Posted, NoPort, PortClosed, TooLong, NoEffect, First, Late, NotYours, Empty, Text as HasText, NoPermission, BadHostName, HostNotFound, HostForbidden, End as NoMore, Passed, Ignored, Already}

infixr 6 ◌␣◌
-- a word, one space, and what follows
abbrev pub ◌␣◌ : List ℕ → List ℕ → List ℕ
w ␣ more = w ++ (codes " " ++ more)

-- a text, after its length in bytes
abbrev pub sized : List ℕ → List ℕ
sized t = decimal (length t) ++ (codes ":" ++ t)

-- a word and a number
abbrev pub numbered : List ℕ → ℕ → List ℕ
numbered word n = word ␣ decimal n

abbrev pub who_text : Who → List ℕ
who_text (ByContext c) = codes "c" ++ decimal c.0
who_text (ByHost h) = codes "h" ++ decimal h.0

-- a frame, or any
abbrev pub frame_text : Option FrameId → List ℕ
frame_text None = codes "*"
frame_text (Some frame) = decimal frame.0

abbrev pub target_text : Target → List ℕ
target_text Own = codes "own"
target_text (Other id) = codes "ext" ␣ id
target_text (Tab tab frame) = codes "tab" ␣ decimal tab.0 ␣ frame_text frame

abbrev pub context_text : Context → List ℕ
context_text (Page ext path) = codes "page" ␣ ext ␣ sized path
context_text (Content ext tab frame url) = codes "content" ␣ ext ␣ decimal tab.0 ␣ decimal frame.0 ␣ sized url
context_text (Web tab frame url) = codes "web" ␣ decimal tab.0 ␣ decimal frame.0 ␣ sized url

abbrev pub flag : Bool → List ℕ → List ℕ
flag true letter = letter
flag false letter = codes "-"

abbrev pub listens_text : Listens → List ℕ
listens_text l = flag l.connect (codes "c") ++ (flag l.message (codes "m") ++ (flag l.external_connect (codes "C") ++ flag l.external_message (codes "M")))

abbrev pub json_kind_text : JsonKind → List ℕ
json_kind_text Syntax = codes "syntax"
json_kind_text Utf8 = codes "utf8"
json_kind_text TooDeep = codes "too_deep"
json_kind_text Ends = codes "ends"

abbrev pub reason_text : Reason → List ℕ
reason_text reason.StartFailed = codes "start_failed"
reason_text reason.ReadFailed = codes "read_failed"
reason_text reason.WriteFailed = codes "write_failed"
reason_text (reason.TooLong len) = numbered (codes "too_long") len
reason_text (reason.BadJson place kind) = codes "bad_json" ␣ decimal place ␣ json_kind_text kind
reason_text (reason.Cut have) = numbered (codes "cut") have
reason_text reason.Exited = codes "exited"
reason_text reason.Closed = codes "closed"

abbrev pub call_text : Call → List ℕ
call_text (Enter x) = codes "enter" ␣ context_text x
call_text (Listen l) = codes "listen" ␣ listens_text l
call_text Leave = codes "leave"
call_text (Connect target name) = codes "connect" ␣ target_text target ␣ sized name
call_text (Post k text) = codes "post" ␣ decimal k.0 ␣ sized text
call_text (Disconnect k) = numbered (codes "disconnect") k.0
call_text (Send target text) = codes "send" ␣ target_text target ␣ sized text
call_text (Reply r text) = codes "reply" ␣ decimal r.0 ␣ sized text
call_text (Decline r) = numbered (codes "decline") r.0
call_text Take = codes "take"
call_text (ConnectNative name) = codes "connect_native" ␣ sized name
call_text (SendNative name text) = codes "send_native" ␣ sized name ␣ sized text
call_text HostTake = codes "host_take"
call_text (HostSaid text) = codes "host_said" ␣ sized text
call_text (HostEnded reason) = codes "host_ended" ␣ reason_text reason

-- a call of a context for a native host, or of the host
abbrev pub is_native : Call → Bool
is_native (ConnectNative name) = true
is_native (SendNative name text) = true
is_native HostTake = true
is_native (HostSaid text) = true
is_native (HostEnded reason) = true
is_native _ = false

-- an event: its kind, its channel or request, and the entry that delivered it
abbrev pub event_text : EventKind → ℕ → List ℕ
event_text (Connected k) e = codes "connected" ␣ decimal k.0 ␣ decimal e
event_text (Message k) e = codes "message" ␣ decimal k.0 ␣ decimal e
event_text (Disconnected k) e = codes "disconnected" ␣ decimal k.0 ␣ decimal e
event_text (Asked r) e = codes "asked" ␣ decimal r.0 ␣ decimal e
event_text (Replied r) e = codes "replied" ␣ decimal r.0 ␣ decimal e
event_text (Closed r) e = codes "closed" ␣ decimal r.0 ␣ decimal e

abbrev pub rule_text : Rule → List ℕ
rule_text Id = codes "id"
rule_text Url = codes "url"

abbrev pub answer_text : Answer → List ℕ
answer_text (Entered c) = numbered (codes "context") c.0
answer_text (OnChannel k) = numbered (codes "channel") k.0
answer_text (OnRequest r) = numbered (codes "request") r.0
answer_text (Told event) = event_text event.kind event.entry.0
answer_text Done = codes "done"
answer_text Gone = codes "gone"
answer_text BadTarget = codes "bad_target"
answer_text (Forbidden rule) = codes "forbidden" ␣ rule_text rule
answer_text NoReceiver = codes "no_receiver"
answer_text Posted = codes "posted"
answer_text NoPort = codes "no_port"
answer_text PortClosed = codes "port_closed"
answer_text TooLong = codes "too_long"
answer_text NoEffect = codes "no_effect"
answer_text First = codes "first"
answer_text Late = codes "late"
answer_text NotYours = codes "not_yours"
answer_text Empty = codes "empty"
answer_text (HasText e) = numbered (codes "text") e.0
answer_text NoPermission = codes "no_permission"
answer_text BadHostName = codes "bad_host_name"
answer_text HostNotFound = codes "host_not_found"
answer_text HostForbidden = codes "host_forbidden"
answer_text NoMore = codes "end"
answer_text Passed = codes "passed"
answer_text Ignored = codes "ignored"
answer_text Already = codes "already"

-- an entry's line: who, the call, and the answer after an arrow
abbrev pub entry_text : Entry → List ℕ
entry_text e = who_text e.who ␣ call_text e.call ++ (codes " -> " ++ (answer_text e.answer ++ codes "\n"))

-- the text of a journal, oldest entry first
abbrev pub journal_text : List Entry → List ℕ
journal_text journal = codes "wx journal 1 chrome\n" ++ flat_map entry_text journal
