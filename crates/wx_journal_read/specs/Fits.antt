-- The values that have a text: numbers within their types, and texts of their sorts.
use Rattle.std.specs.Prelude.{ℕ, ◌^◌, ◌<◌, Bool, ◌&&◌, List, Option, Some, None, IsTrue}
use Rattle.std.specs.List.{AllByRecursion}
use Rattle.std.specs.Str.{is_utf8}
use Rattle.wx_id.specs.Ids.{is_extension_id}
use Rattle.wx_id.specs.declared.numbers.FrameId.{FrameId}
use Rattle.wx_id.specs.declared.events.EventKind.{EventKind}
use Rattle.wx_id.specs.declared.events.EventKind.TheVariants.{Connected, Message, Disconnected, Asked, Replied, Closed}
use Rattle.wx_json.specs.Text.{IsJsonText}
use Rattle.wx_context.specs.Paths.{is_page_path}
use Rattle.wx_context.specs.WebUrls.{is_web_url}
use Rattle.wx_context.specs.declared.contexts.Context.{Context}
use Rattle.wx_context.specs.declared.contexts.Context.TheVariants.{Page, Content, Web}
use Rattle.wx_context.specs.declared.contexts.Target.{Target}
use Rattle.wx_context.specs.declared.contexts.Target.TheVariants.{Own, Other, Tab}
use Rattle.wx_machine.specs.declared.entries.Who.{Who}
use Rattle.wx_machine.specs.declared.entries.Call.{Call}
use Rattle.wx_machine.specs.declared.entries.Reason.{Reason}
use Rattle.wx_machine.specs.declared.entries.Answer.{Answer}
use Rattle.wx_machine.specs.declared.entries.Entry.{Entry}
use Rattle.wx_machine.specs.declared.entries.Who.TheVariants.{Context as ByContext, Host as ByHost}
use Rattle.wx_machine.specs.declared.entries.Call.TheVariants.{Enter, Listen, Leave, Connect, Post, Disconnect, Send, Reply, Decline, Take, ConnectNative, SendNative, HostTake, HostSaid, HostEnded}
use Rattle.wx_machine.specs.declared.entries.Reason.TheVariants as reason
use Rattle.wx_machine.specs.declared.entries.Answer.TheVariants.{Entered, Channel as OnChannel, Request as OnRequest, Event as Told, Text as HasText}

-- a text of UTF-8 that is read as a web URL whose own text it is
abbrev pub is_url : List ℕ → Bool
is_url t = is_utf8 t && is_web_url t

abbrev pub WhoFits : Who → Type 0
WhoFits (ByContext c) = c.0 < 2 ^ 64
WhoFits (ByHost h) = h.0 < 2 ^ 64

abbrev pub FrameFits : Option FrameId → Type 0
FrameFits None = Unit {0}
FrameFits (Some f) = f.0 < 2 ^ 32

abbrev pub TargetFits : Target → Type 0
TargetFits Own = Unit {0}
TargetFits (Other id) = IsTrue (is_extension_id id)
TargetFits (Tab tab frame) = (tab.0 < 2 ^ 32) × FrameFits frame

abbrev pub ContextFits : Context → Type 0
ContextFits (Page ext path) = IsTrue (is_extension_id ext) × IsTrue (is_page_path path)
ContextFits (Content ext tab frame url) = IsTrue (is_extension_id ext)
    × ((tab.0 < 2 ^ 32) × ((frame.0 < 2 ^ 32) × IsTrue (is_url url)))
ContextFits (Web tab frame url) = (tab.0 < 2 ^ 32) × ((frame.0 < 2 ^ 32) × IsTrue (is_url url))

abbrev pub ReasonFits : Reason → Type 0
ReasonFits reason.StartFailed = Unit {0}
ReasonFits reason.ReadFailed = Unit {0}
ReasonFits reason.WriteFailed = Unit {0}
ReasonFits (reason.TooLong len) = len < 2 ^ 32
ReasonFits (reason.BadJson place kind) = place < 2 ^ 64
ReasonFits (reason.Cut have) = have < 2 ^ 64
ReasonFits reason.Exited = Unit {0}
ReasonFits reason.Closed = Unit {0}

abbrev pub CallFits : Call → Type 0
CallFits (Enter x) = ContextFits x
CallFits (Listen l) = Unit {0}
CallFits Leave = Unit {0}
CallFits (Connect target name) = TargetFits target × IsTrue (is_utf8 name)
CallFits (Post k text) = (k.0 < 2 ^ 64) × IsJsonText text
CallFits (Disconnect k) = k.0 < 2 ^ 64
CallFits (Send target text) = TargetFits target × IsJsonText text
CallFits (Reply r text) = (r.0 < 2 ^ 64) × IsJsonText text
CallFits (Decline r) = r.0 < 2 ^ 64
CallFits Take = Unit {0}
CallFits (ConnectNative name) = IsTrue (is_utf8 name)
CallFits (SendNative name text) = IsTrue (is_utf8 name) × IsJsonText text
CallFits HostTake = Unit {0}
CallFits (HostSaid text) = IsJsonText text
CallFits (HostEnded reason) = ReasonFits reason

abbrev pub KindFits : EventKind → Type 0
KindFits (Connected k) = k.0 < 2 ^ 64
KindFits (Message k) = k.0 < 2 ^ 64
KindFits (Disconnected k) = k.0 < 2 ^ 64
KindFits (Asked r) = r.0 < 2 ^ 64
KindFits (Replied r) = r.0 < 2 ^ 64
KindFits (Closed r) = r.0 < 2 ^ 64

abbrev pub AnswerFits : Answer → Type 0
AnswerFits (Entered c) = c.0 < 2 ^ 64
AnswerFits (OnChannel k) = k.0 < 2 ^ 64
AnswerFits (OnRequest r) = r.0 < 2 ^ 64
AnswerFits (Told event) = KindFits event.kind × (event.entry.0 < 2 ^ 64)
AnswerFits (HasText e) = e.0 < 2 ^ 64
AnswerFits _ = Unit {0}

pub record EntryFits (e : Entry) : Type 0 where
  pub who : WhoFits e.who
  pub call : CallFits e.call
  pub answer : AnswerFits e.answer

abbrev pub JournalFits : List Entry → Type 0
JournalFits journal = AllByRecursion EntryFits journal
