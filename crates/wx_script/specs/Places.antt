-- Where an endpoint stands in its script, and what comes next.
use Rattle.std.specs.Prelude.{ℕ, ◌-◌, Bool, true, false, List, [], ◌∷◌, length, slice_get, slice_set, replicate, Option, Some, None, ◌==◌, is_none, nat_le, if◌then◌else◌}
use Rattle.std.specs.Option.{option_map, option_and_then}
use Rattle.wx_id.specs.declared.numbers.ContextNo.{ContextNo}
use Rattle.wx_id.specs.declared.numbers.ChannelNo.{ChannelNo}
use Rattle.wx_id.specs.declared.numbers.RequestNo.{RequestNo}
use Rattle.wx_id.specs.declared.numbers.EntryNo.{EntryNo}
use Rattle.wx_id.specs.declared.events.Event.{Event}
use Rattle.wx_id.specs.declared.events.EventKind.{EventKind}
use Rattle.wx_id.specs.declared.events.EventKind.TheVariants as kind
use Rattle.wx_machine.specs.declared.entries.Call.{Call}
use Rattle.wx_machine.specs.declared.entries.Answer.{Answer}
use Rattle.wx_machine.specs.declared.entries.Entry.{Entry}
use Rattle.wx_machine.specs.Words.{is_by, text_of}
use Rattle.wx_machine.specs.declared.entries.Call.TheVariants as call
use Rattle.wx_machine.specs.declared.entries.Answer.TheVariants.{Channel as OnChannel, Request as OnRequest, Event as Told}
use Rattle.wx_script.specs.declared.script.Act.{Act}
use Rattle.wx_script.specs.declared.script.Act.TheVariants as act
use Rattle.wx_script.specs.declared.script.Command.{Command}
use Rattle.wx_script.specs.declared.script.Var.{Var}
use Rattle.wx_script.specs.declared.script.Received.{Received}
use Rattle.wx_script.specs.declared.script.Heard.{Heard}
use Rattle.wx_script.specs.declared.script.Heard.TheVariants as heard
use Rattle.wx_script.specs.Acts.{acts_of}

-- ---- variables

-- what each variable is set to, if it is: a channel, a request that was asked, or a request that came
pub record Variables : Type 0 where
  pub channels : List (Option ChannelNo)
  pub asked : List (Option RequestNo)
  pub received : List (Option Received)

-- what a variable of one sort is set to
abbrev pub value_of : {A : Type 0} → List (Option A) → Var → Option A
value_of values v = option_and_then (λ x. x) (slice_get values v.0)

-- a variable set to a channel, or cleared
abbrev pub set_channel : Variables → Var → Option ChannelNo → Variables
set_channel variables v k = record variables { channels = slice_set variables.channels v.0 k }

-- a variable set to a request that was asked, or cleared
abbrev pub set_asked : Variables → Var → Option RequestNo → Variables
set_asked variables v r = record variables { asked = slice_set variables.asked v.0 r }

-- a variable set to a request that came
abbrev pub set_received : Variables → Var → Option Received → Variables
set_received variables v r = record variables { received = slice_set variables.received v.0 r }

-- no variable is set
abbrev pub unset : ℕ → Variables
unset n = record { channels = replicate n None; asked = replicate n None; received = replicate n None }

-- ---- what comes next

-- what comes next of an endpoint
pub data Next : Type 0 where
  -- its `enter`
  enters : Next
  -- this call
  asks : Call → Next
  -- a `take` as soon as an event is pending
  waits : Next
  -- nothing, after its `leave`
  ends : Next

-- what an act begins with
pub data Beginning : Type 0 where
  -- this call
  calls : Call → Beginning
  -- a `take` as soon as an event is pending
  awaits : Beginning
  -- an answer to what came, by the text that this entry carries
  answers : Heard → EntryNo → Beginning

-- what an act begins with, unless it uses a variable that is not set
abbrev pub begins_with : Variables → Act → Option Beginning
begins_with variables (act.Listen l) = Some (calls (call.Listen l))
begins_with variables (act.Connect v target name) = Some (calls (call.Connect target name))
begins_with variables (act.Post v text) = option_map (λ k. calls (call.Post k text)) (value_of variables.channels v)
begins_with variables (act.Disconnect v) = option_map (λ k. calls (call.Disconnect k)) (value_of variables.channels v)
begins_with variables (act.Send v target text) = Some (calls (call.Send target text))
begins_with variables (act.Reply v text) = option_map (λ (r : Received). calls (call.Reply r.request text))
    (value_of variables.received v)
begins_with variables (act.ReplySame v) = option_map (λ (r : Received). answers (heard.Request r.request) r.entry)
    (value_of variables.received v)
begins_with variables (act.Decline v) = option_map (λ (r : Received). calls (call.Decline r.request))
    (value_of variables.received v)
begins_with variables (act.Native v name) = Some (calls (call.ConnectNative name))
begins_with variables (act.Ask v name text) = Some (calls (call.SendNative name text))
begins_with variables act.Take = Some (calls call.Take)
begins_with variables (act.AwaitConnect v) = Some awaits
begins_with variables (act.AwaitMessage v) = option_map (λ k. awaits) (value_of variables.channels v)
begins_with variables (act.AwaitRequest v) = Some awaits
begins_with variables (act.AwaitReply v) = option_map (λ r. awaits) (value_of variables.asked v)
begins_with variables (act.AwaitClose v) = option_map (λ k. awaits) (value_of variables.channels v)
begins_with variables (act.Echo n) = Some awaits

-- the acts without those in front that are passed over
abbrev pub unskipped : Variables → List Act → List Act
unskipped variables [] = []
unskipped variables (a ∷ acts) = if is_none (begins_with variables a) then unskipped variables acts else a ∷ acts

-- how far the first act that is left has come
pub data Progress : Type 0 where
  -- nothing of it was made
  unbegun : Progress
  -- an echo, with so many answers to come
  echoing : ℕ → Progress
  -- an echo, with so many answers to come, the first to this, whose text this entry carries
  answering : ℕ → Heard → EntryNo → Progress

-- where an endpoint stands
pub data Place : Type 0 where
  -- it has made no entry
  outside : Place
  -- these acts are left, and the variables are set so
  within : Progress → List Act → Variables → Place
  -- it has made its `leave`
  left : Place

-- what came is answered by this text: a message by a post on its channel, a request by a reply
abbrev pub answer_by : Heard → List ℕ → Call
answer_by (heard.Message k) text = call.Post k text
answer_by (heard.Request r) text = call.Reply r text

-- what came is answered by the text that it came with (in a legal journal it came with one)
abbrev pub asks_answer : Heard → Option (List ℕ) → Next
asks_answer came None = waits
asks_answer came (Some text) = asks (answer_by came text)

-- what comes next of what begins so, after these entries
abbrev pub next_from : List Entry → Beginning → Next
next_from past (calls x) = asks x
next_from past awaits = waits
next_from past (answers came e) = asks_answer came (text_of past e)

abbrev pub next_or_end : List Entry → Option Beginning → Next
next_or_end past None = ends
next_or_end past (Some beginning) = next_from past beginning

-- what the first act begins with; after the last act comes a `leave`
abbrev pub asks_first : List Entry → Variables → List Act → Next
asks_first past variables [] = asks call.Leave
asks_first past variables (a ∷ acts) = next_or_end past (begins_with variables a)

-- what comes next at a place, after these entries
abbrev pub next_at : List Entry → Place → Next
next_at past outside = enters
next_at past (within unbegun acts variables) = asks_first past variables (unskipped variables acts)
next_at past (within (echoing n) acts variables) = waits
next_at past (within (answering n came e) acts variables) = asks_answer came (text_of past e)
next_at past left = ends

-- ---- the place after an entry

-- the channel that an answer gives
abbrev pub channel_in : Answer → Option ChannelNo
channel_in (OnChannel k) = Some k
channel_in _ = None

-- the request that an answer gives
abbrev pub request_in : Answer → Option RequestNo
request_in (OnRequest r) = Some r
request_in _ = None

-- the event that an answer gives
abbrev pub event_in : Answer → Option Event
event_in (Told event) = Some event
event_in _ = None

abbrev pub is_channel : Option ChannelNo → ChannelNo → Bool
is_channel None k = false
is_channel (Some j) k = j.0 == k.0

abbrev pub is_request : Option RequestNo → RequestNo → Bool
is_request None r = false
is_request (Some s) r = s.0 == r.0

-- whether an await takes no further than this event
abbrev pub is_wanted : Variables → Act → EventKind → Bool
is_wanted variables (act.AwaitConnect v) (kind.Connected k) = true
is_wanted variables (act.AwaitMessage v) (kind.Message k) = is_channel (value_of variables.channels v) k
is_wanted variables (act.AwaitMessage v) (kind.Disconnected k) = is_channel (value_of variables.channels v) k
is_wanted variables (act.AwaitRequest v) (kind.Asked r) = true
is_wanted variables (act.AwaitReply v) (kind.Replied r) = is_request (value_of variables.asked v) r
is_wanted variables (act.AwaitReply v) (kind.Closed r) = is_request (value_of variables.asked v) r
is_wanted variables (act.AwaitClose v) (kind.Disconnected k) = is_channel (value_of variables.channels v) k
is_wanted variables _ _ = false

-- what was awaited sets its variable: a connection, or a request, which this entry delivered
abbrev pub set_by : Variables → Act → EntryNo → EventKind → Variables
set_by variables (act.AwaitConnect v) e (kind.Connected k) = set_channel variables v (Some k)
set_by variables (act.AwaitRequest v) e (kind.Asked r) = set_received variables v
    (Some (record { request = r; entry = e }))
set_by variables _ e _ = variables

-- after an event that an await takes: an event that is not wanted is passed over
abbrev pub behind_await : Variables → Act → List Act → Option Event → Place
behind_await variables a acts None = within unbegun (a ∷ acts) variables
behind_await variables a acts (Some event) =
    if is_wanted variables a event.kind then within unbegun acts (set_by variables a event.entry event.kind) else within
    unbegun (a ∷ acts) variables

-- after an event that an echo takes: a message and a request are to be answered, and every other event is passed over
abbrev pub behind_kind : ℕ → EntryNo → EventKind → Progress
behind_kind n e (kind.Message k) = answering n (heard.Message k) e
behind_kind n e (kind.Asked r) = answering n (heard.Request r) e
behind_kind n e _ = echoing n

abbrev pub behind_event : ℕ → Option Event → Progress
behind_event n None = echoing n
behind_event n (Some event) = behind_kind n event.entry event.kind

-- Behind the first entry of an act. A command that binds a variable sets it to the number that it was answered with,
-- and clears it where it was refused.
abbrev pub behind_act : Variables → Answer → Act → List Act → Place
behind_act variables answer (act.Listen l) acts = within unbegun acts variables
behind_act variables answer (act.Connect v target name) acts = within unbegun acts
    (set_channel variables v (channel_in answer))
behind_act variables answer (act.Post v text) acts = within unbegun acts variables
behind_act variables answer (act.Disconnect v) acts = within unbegun acts variables
behind_act variables answer (act.Send v target text) acts = within unbegun acts
    (set_asked variables v (request_in answer))
behind_act variables answer (act.Reply v text) acts = within unbegun acts variables
behind_act variables answer (act.ReplySame v) acts = within unbegun acts variables
behind_act variables answer (act.Decline v) acts = within unbegun acts variables
behind_act variables answer (act.Native v name) acts = within unbegun acts (set_channel variables v (channel_in answer))
behind_act variables answer (act.Ask v name text) acts = within unbegun acts (set_asked variables v (request_in answer))
behind_act variables answer act.Take acts = within unbegun acts variables
behind_act variables answer (act.AwaitConnect v) acts = behind_await variables (act.AwaitConnect v) acts
    (event_in answer)
behind_act variables answer (act.AwaitMessage v) acts = behind_await variables (act.AwaitMessage v) acts
    (event_in answer)
behind_act variables answer (act.AwaitRequest v) acts = behind_await variables (act.AwaitRequest v) acts
    (event_in answer)
behind_act variables answer (act.AwaitReply v) acts = behind_await variables (act.AwaitReply v) acts (event_in answer)
behind_act variables answer (act.AwaitClose v) acts = behind_await variables (act.AwaitClose v) acts (event_in answer)
behind_act variables answer (act.Echo n) acts = within (behind_event n (event_in answer)) (act.Echo n ∷ acts) variables

abbrev pub behind_first : Variables → Answer → List Act → Place
behind_first variables answer [] = left
behind_first variables answer (a ∷ acts) = behind_act variables answer a acts

-- after an answer of an echo, which ends it where it is the last
abbrev pub behind_answer : ℕ → List Act → Variables → Place
behind_answer n [] variables = within unbegun [] variables
behind_answer n (a ∷ acts) variables = if nat_le n 1 then within unbegun acts variables else within (echoing (n - 1))
    (a ∷ acts) variables

-- after the `enter` every act is left, and no variable is set
abbrev pub at_start : List Command → Place
at_start script = within unbegun (acts_of script) (unset (length script))

-- the place after an own entry with this answer
abbrev pub place_behind : List Command → Place → Answer → Place
place_behind script outside answer = at_start script
place_behind script (within unbegun acts variables) answer = behind_first variables answer (unskipped variables acts)
place_behind script (within (echoing n) acts variables) answer = within (behind_event n (event_in answer)) acts
    variables
place_behind script (within (answering n came e) acts variables) answer = behind_answer n acts variables
place_behind script left answer = left

-- the place after the `leave`
abbrev pub is_left : Place → Bool
is_left outside = false
is_left (within progress acts variables) = false
is_left left = true

-- the place of context c after one more entry, which changes it only where it is c's own
abbrev pub behind_entry : List Command → ContextNo → Place → Entry → Place
behind_entry script c place e = if is_by e.who c then place_behind script place e.answer else place

-- the place of context c after these entries, the newest first
unfoldable pub place_of : List Command → ContextNo → List Entry → Place
place_of script c [] = outside
place_of script c (e ∷ past) = behind_entry script c (place_of script c past) e

-- what comes next of context c
abbrev pub next_of : List Command → ContextNo → List Entry → Next
next_of script c past = next_at past (place_of script c past)
