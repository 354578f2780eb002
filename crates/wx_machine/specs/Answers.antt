-- What each call is answered, and which journals are legal.
use Rattle.std.specs.Prelude.{◌≡◌, ℕ, length, List, [], ◌∷◌, Bool, true, false, not, ◌&&◌, ◌||◌, cond, Option, Some, None, IsTrue, reverse, nat_lt, nat_le, ◌==◌}
use Rattle.wx_id.specs.declared.numbers.ContextNo.{ContextNo}
use Rattle.wx_id.specs.declared.numbers.HostNo.{HostNo}
use Rattle.wx_id.specs.declared.numbers.EntryNo.{EntryNo}
use Rattle.wx_id.specs.declared.events.Event.{Event}
use Rattle.wx_id.specs.declared.events.End.{End}
use Rattle.wx_id.specs.declared.events.End.TheVariants.{Neither}
use Rattle.wx_context.specs.declared.contexts.Context.{Context}
use Rattle.wx_context.specs.declared.contexts.Target.{Target}
use Rattle.wx_external.specs.declared.gates.Verdict.{Verdict}
use Rattle.wx_external.specs.declared.gates.Verdict.TheVariants as gate
use Rattle.wx_external.specs.declared.native.NativeVerdict.{NativeVerdict}
use Rattle.wx_external.specs.declared.native.NativeVerdict.TheVariants as native
use Rattle.wx_external.specs.World.{WorldLists}
use Rattle.wx_external.specs.Gate.{gate_of, native_gate_of}
use Rattle.wx_machine.specs.declared.sorts.Sort.TheVariants.{Connection, Message}
use Rattle.wx_machine.specs.declared.entries.Who.{Who}
use Rattle.wx_machine.specs.declared.entries.Who.TheVariants.{Context as ByContext, Host as ByHost}
use Rattle.wx_machine.specs.declared.entries.Call.{Call}
use Rattle.wx_machine.specs.declared.entries.Call.TheVariants.{Enter, Listen, Leave, Connect, Post, Disconnect, Send, Reply, Decline, Take, ConnectNative, SendNative, HostTake, HostSaid, HostEnded}
use Rattle.wx_machine.specs.declared.entries.Answer.{Answer}
use Rattle.wx_machine.specs.declared.entries.Answer.TheVariants.{Entered, Channel as OnChannel, Request as OnRequest, Event as Told, Done, Gone, BadTarget, Forbidden, NoReceiver, Posted, NoPort, PortClosed, TooLong, NoEffect, First, Late, NotYours, Empty, Text as HasText, NoPermission, BadHostName, HostNotFound, HostForbidden, End as NoMore, Passed, Ignored, Already}
use Rattle.wx_machine.specs.declared.entries.Entry.{Entry}
use Rattle.wx_machine.specs.declared.entries.TheConstants.{LONGEST, LONGEST_SAID}
use Rattle.wx_machine.specs.Contexts.{contexts, context_of, is_live, receivers_of}
use Rattle.wx_machine.specs.Channels.{channels, channel, end_in}
use Rattle.wx_machine.specs.Requests.{requests, request, is_asked}
use Rattle.wx_machine.specs.declared.work.Work.{Work}
use Rattle.wx_machine.specs.declared.work.Work.TheVariants.{Channel as ForChannel, Request as ForRequest}
use Rattle.wx_machine.specs.Hosts.{hosts, work_of}
use Rattle.wx_machine.specs.Closing.{is_closed}
use Rattle.wx_machine.specs.Settling.{has_declined, is_settled}
use Rattle.wx_machine.specs.Texts.{has_ended, next_text, is_over, knows_end}
use Rattle.wx_machine.specs.Events.{pending}
use Rattle.wx_machine.specs.Each.{EachAfter, first}

-- whether a caller may reach the target; one that never came in may not
abbrev pub gate_for : WorldLists → Option Context → Target → Verdict
gate_for world None target = gate.BadTarget
gate_for world (Some x) target = gate_of world x target

-- where the gate is not open that is the answer
abbrev pub where_open : Verdict → Answer → Answer
where_open (gate.Open external) a = a
where_open gate.BadTarget a = BadTarget
where_open (gate.Forbidden rule) a = Forbidden rule

-- whether a caller may start the host of that name; one that never came in may not
abbrev pub native_gate_for : WorldLists → Option Context → List ℕ → NativeVerdict
native_gate_for world None name = native.BadTarget
native_gate_for world (Some x) name = native_gate_of world x name

-- where that gate is not open that is the answer
abbrev pub where_native : NativeVerdict → Answer → Answer
where_native (native.Open place) a = a
where_native native.BadTarget a = BadTarget
where_native native.NoPermission a = NoPermission
where_native native.BadHostName a = BadHostName
where_native native.HostNotFound a = HostNotFound
where_native native.HostForbidden a = HostForbidden

-- with no receiver that is the answer
abbrev pub where_heard : List ContextNo → Answer → Answer
where_heard [] a = NoReceiver
where_heard (c ∷ cs) a = a

-- a long text is refused
abbrev pub where_short : List ℕ → Answer → Answer
where_short text a = cond (nat_lt LONGEST (length text)) TooLong a

-- the answer on a channel: to one that is no end of it, where it is closed, and where it is open
abbrev pub at_end : End → Bool → Answer → Answer → Answer
at_end Neither closed on_closed on_open = NoPort
at_end _ closed on_closed on_open = cond closed on_closed on_open

-- the answer on a request: to one whom it was not sent to, where it is too late, and else
abbrev pub on_request : Bool → Bool → Answer → Answer
on_request asked late a = cond asked (cond late Late a) NotYours

-- it is too late for context c to reply to request r, or to decline it
abbrev pub is_late : List Entry → ℕ → ContextNo → Bool
is_late past r c = is_settled past r || has_declined past r c

abbrev pub told_or_empty : Option Event → Answer
told_or_empty None = Empty
told_or_empty (Some event) = Told event

-- what a live context is answered
abbrev pub answer_to : WorldLists → List Entry → ContextNo → Call → Answer
answer_to world past c (Enter x) = Entered (record { 0 = contexts past })
answer_to world past c (Listen l) = Done
answer_to world past c Leave = Done
answer_to world past c (Connect target name) =
    where_open (gate_for world (context_of past c) target)
    (where_heard (receivers_of past c target Connection) (OnChannel (record { 0 = length (channels past) })))
answer_to world past c (Post k text) = at_end (end_in (channel past k.0) c) (is_closed past k.0) PortClosed
    (where_short text Posted)
answer_to world past c (Disconnect k) = at_end (end_in (channel past k.0) c) (is_closed past k.0) NoEffect Done
answer_to world past c (Send target text) =
    where_open (gate_for world (context_of past c) target)
    (where_heard (receivers_of past c target Message) (where_short text
    (OnRequest (record { 0 = length (requests past) }))))
answer_to world past c (Reply r text) = on_request (is_asked (request past r.0) c) (is_late past r.0 c)
    (where_short text First)
answer_to world past c (Decline r) = on_request (is_asked (request past r.0) c) (is_late past r.0 c) Done
answer_to world past c Take = told_or_empty (first (pending past c))
answer_to world past c (ConnectNative name) =
    where_native (native_gate_for world (context_of past c) name) (OnChannel (record { 0 = length (channels past) }))
answer_to world past c (SendNative name text) =
    where_native (native_gate_for world (context_of past c) name)
    (where_short text (OnRequest (record { 0 = length (requests past) })))
answer_to world past c _ = Gone

-- the next text for a host, or else that none comes any more, or that none is there yet
abbrev pub text_or_end : Option EntryNo → Bool → Answer
text_or_end (Some n) over = HasText n
text_or_end None over = cond over NoMore Empty

-- what a host that says something is answered, by what it works for
abbrev pub said_for : List Entry → Option Work → Answer
said_for past None = Gone
said_for past (Some (ForChannel k)) = cond (is_closed past k.0) PortClosed Passed
said_for past (Some (ForRequest r)) = cond (is_settled past r.0) Ignored Passed

-- what a host is answered
abbrev pub answer_to_host : List Entry → HostNo → Call → Answer
answer_to_host past h HostTake = text_or_end (next_text past h) (has_ended past h || is_over past (work_of past h))
answer_to_host past h (HostSaid text) = said_for past (work_of past h)
answer_to_host past h (HostEnded reason) = cond (has_ended past h) Already Done
answer_to_host past h _ = Gone

-- the answer tells a host a text, or for the first time that none comes any more
abbrev pub is_news : Answer → Bool → Bool
is_news (HasText n) knows = true
is_news NoMore knows = not knows
is_news _ knows = false

-- a take of host h, which did not end, would tell it something new
abbrev pub is_host_ready : List Entry → HostNo → Bool
is_host_ready past h = not (has_ended past h) && is_news (answer_to_host past h HostTake) (knows_end past h)

-- who enters need not live; every other call of one who does not is answered `Gone`
abbrev pub if_live : Call → Bool → Answer → Answer
if_live (Enter x) live a = a
if_live _ live a = cond live a Gone

-- the answer to a call after this past
abbrev pub answer_after : WorldLists → List Entry → Who → Call → Answer
answer_after world past (ByContext c) call = if_live call (is_live past c) (answer_to world past c call)
answer_after world past (ByHost h) call = answer_to_host past h call

-- a call that hosts make
abbrev pub is_of_host : Call → Bool
is_of_host HostTake = true
is_of_host (HostSaid text) = true
is_of_host (HostEnded reason) = true
is_of_host _ = false

-- a host says no more than it may
abbrev pub is_short_said : Call → Bool
is_short_said (HostSaid text) = nat_le (length text) LONGEST_SAID
is_short_said _ = true

-- who may make a call: a context whose number was given out, and for an enter the next number; or a host that was
-- started. A host makes the calls of hosts alone and says no more than it may, and a context makes all others.
abbrev pub may_make : List Entry → Who → Call → Bool
may_make past (ByContext c) (Enter x) = c.0 == contexts past
may_make past (ByContext c) call = not (is_of_host call) && nat_lt c.0 (contexts past)
may_make past (ByHost h) call = is_of_host call && is_short_said call && nat_lt h.0 (length (hosts past))

-- An entry was made by one who may make it, and has the machine's answer after the entries before it.
pub record FollowsMachine (world : WorldLists) (past : List Entry) (e : Entry) : Type 0 where
  pub may : IsTrue (may_make past e.who e.call)
  pub answered : e.answer ≡ answer_after world past e.who e.call

-- the machine's answer to a call after a journal, whose oldest entry stands first
abbrev pub answer_of : WorldLists → List Entry → Who → Call → Answer
answer_of world journal who call = answer_after world (reverse journal) who call

-- a journal in which each entry follows the machine
abbrev pub IsLegal : WorldLists → List Entry → Type 0
IsLegal world journal = EachAfter (FollowsMachine world) (reverse journal)

-- the past that calls make, one after another
abbrev pub made_of : WorldLists → List (Who × Call) → List Entry → List Entry
made_of world [] past = past
made_of world (c ∷ calls) past = made_of world calls (record
    { who = c.0; call = c.1; answer = answer_after world past c.0 c.1 } ∷ past)
