-- The parts of a script in the calls of its endpoint. Every list of calls has the newest first.
use Rattle.std.specs.Prelude.{◌≡◌, ℕ, ◌+◌, ◌<◌, ◌≤◌, List, [], ◌∷◌, ◌++◌, cond, replicate, IsTrue, ◌⊎◌}
use Rattle.wx_id.specs.declared.numbers.ContextNo.{ContextNo}
use Rattle.wx_id.specs.declared.numbers.ChannelNo.{ChannelNo}
use Rattle.wx_id.specs.declared.numbers.RequestNo.{RequestNo}
use Rattle.wx_machine.specs.declared.entries.Call.{Call}
use Rattle.wx_machine.specs.declared.entries.Entry.{Entry}
use Rattle.wx_machine.specs.Words.{is_by, is_enter}
use Rattle.wx_machine.specs.declared.entries.Call.TheVariants as call
use Rattle.wx_script.specs.declared.script.Act.{Act}
use Rattle.wx_script.specs.declared.script.Act.TheVariants as act
use Rattle.wx_script.specs.declared.script.Command.{Command}
use Rattle.wx_script.specs.declared.script.Heard.{Heard}
use Rattle.wx_script.specs.declared.script.Heard.TheVariants as heard
use Rattle.wx_script.specs.Acts.{acts_of}
use Rattle.wx_script.specs.Places.{answer_by}

-- the calls of context c
abbrev pub calls_by : ContextNo → List Entry → List Call
calls_by c [] = []
calls_by c (e ∷ past) = cond (is_by e.who c) (e.call ∷ []) [] ++ calls_by c past

-- an act that uses a variable which an earlier one binds: where that is not set the act is passed over
abbrev pub UsesVariable : Act → Type 0
UsesVariable (act.Post v text) = Unit {0}
UsesVariable (act.Disconnect v) = Unit {0}
UsesVariable (act.Reply v text) = Unit {0}
UsesVariable (act.ReplySame v) = Unit {0}
UsesVariable (act.Decline v) = Unit {0}
UsesVariable (act.AwaitMessage v) = Unit {0}
UsesVariable (act.AwaitReply v) = Unit {0}
UsesVariable (act.AwaitClose v) = Unit {0}
UsesVariable _ = ⊥

-- what came is answered by a text: in a legal journal by that with which it came (one that had no such text would take)
abbrev pub IsAnswer : Heard → Call → Type 0
IsAnswer came x = ((text : List ℕ) × (x ≡ answer_by came text)) ⊎ (x ≡ call.Take)

-- takes, and after some of them an answer: so many answers in all
pub data Echoes : ℕ → List Call → Type 0 where
  none : Echoes 0 []
  takes : {n : ℕ} {calls : List Call} → Echoes n calls → Echoes n (call.Take ∷ calls)
  answers : {n : ℕ} {calls : List Call} (came : Heard) (x : Call) → IsAnswer came x → Echoes n (call.Take ∷ calls)
      → Echoes (n + 1) (x ∷ call.Take ∷ calls)

-- one take or more
abbrev pub AreTakes : List Call → Type 0
AreTakes part = (n : ℕ) × (part ≡ call.Take ∷ replicate n call.Take)

-- the whole part of an act: its one call; for an await the takes up to the event that is awaited; for an echo the
-- takes and answers up to the last answer
abbrev pub IsPart : Act → List Call → Type 0
IsPart (act.Listen l) part = part ≡ call.Listen l ∷ []
IsPart (act.Connect v target name) part = part ≡ call.Connect target name ∷ []
IsPart (act.Post v text) part = (k : ChannelNo) × (part ≡ call.Post k text ∷ [])
IsPart (act.Disconnect v) part = (k : ChannelNo) × (part ≡ call.Disconnect k ∷ [])
IsPart (act.Send v target text) part = part ≡ call.Send target text ∷ []
IsPart (act.Reply v text) part = (r : RequestNo) × (part ≡ call.Reply r text ∷ [])
IsPart (act.ReplySame v) part = (r : RequestNo) × (x : Call) × IsAnswer (heard.Request r) x × (part ≡ x ∷ [])
IsPart (act.Decline v) part = (r : RequestNo) × (part ≡ call.Decline r ∷ [])
IsPart (act.Native v name) part = part ≡ call.ConnectNative name ∷ []
IsPart (act.Ask v name text) part = part ≡ call.SendNative name text ∷ []
IsPart act.Take part = part ≡ call.Take ∷ []
IsPart (act.AwaitConnect v) part = AreTakes part
IsPart (act.AwaitMessage v) part = AreTakes part
IsPart (act.AwaitRequest v) part = AreTakes part
IsPart (act.AwaitReply v) part = AreTakes part
IsPart (act.AwaitClose v) part = AreTakes part
IsPart (act.Echo n) part = 0 < n → Echoes n part

-- a part of an act that is not whole yet
abbrev pub IsBegunPart : Act → List Call → Type 0
IsBegunPart (act.AwaitConnect v) part = AreTakes part
IsBegunPart (act.AwaitMessage v) part = AreTakes part
IsBegunPart (act.AwaitRequest v) part = AreTakes part
IsBegunPart (act.AwaitReply v) part = AreTakes part
IsBegunPart (act.AwaitClose v) part = AreTakes part
IsBegunPart (act.Echo n) part = (m : ℕ) × Echoes m part × (m ≤ n)
IsBegunPart _ part = ⊥

-- nothing was begun, or a part of the first of these acts
abbrev pub IsBegun : List Call → List Act → Type 0
IsBegun [] acts = Unit {0}
IsBegun (x ∷ begun) [] = ⊥
IsBegun (x ∷ begun) (a ∷ acts) = IsBegunPart a (x ∷ begun)

-- The `enter`, and then one part for each of these acts that was not passed over, in their order.
pub data MadeOf : List Act → List Call → Type 0 where
  entered : (x : Call) → IsTrue (is_enter x) → MadeOf [] (x ∷ [])
  passed : {acts : List Act} {calls : List Call} (a : Act) → UsesVariable a → MadeOf acts calls
      → MadeOf (acts ++ a ∷ []) calls
  with_part : {acts : List Act} {calls : List Call} (a : Act) (part : List Call) → IsPart a part → MadeOf acts calls
      → MadeOf (acts ++ a ∷ []) (part ++ calls)

-- The calls of an endpoint with this script: none; or its `enter`, the parts of the first acts, and a part that was
-- begun of the act after them; or all of its parts, and its `leave`.
pub data HasParts (script : List Command) : List Call → Type 0 where
  outside : HasParts script []
  within : (done left : List Act) (begun whole : List Call) → acts_of script ≡ done ++ left → MadeOf done whole
      → IsBegun begun left → HasParts script (begun ++ whole)
  has_left : (whole : List Call) → MadeOf (acts_of script) whole → HasParts script (call.Leave ∷ whole)
