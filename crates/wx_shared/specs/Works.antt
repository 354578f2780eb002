-- What one turn at the shared broker does: the marks before it, its own mark, and its answer.
use Rattle.std.specs.Prelude.{◌≡◌, ℕ, List, [], ◌∷◌, ◌++◌, Option, Some, None, reverse, Bool, true, false, Result, IfOk}
use Rattle.wx_id.specs.declared.numbers.ContextNo.{ContextNo}
use Rattle.wx_id.specs.declared.numbers.EntryNo.{EntryNo}
use Rattle.wx_id.specs.declared.numbers.HostNo.{HostNo}
use Rattle.wx_id.specs.declared.texts.NoMemory.{NoMemory}
use Rattle.wx_external.specs.World.{WorldLists}
use Rattle.wx_machine.specs.declared.entries.Who.{Who}
use Rattle.wx_machine.specs.declared.entries.Who.TheVariants.{Context}
use Rattle.wx_machine.specs.declared.entries.Call.{Call}
use Rattle.wx_machine.specs.declared.entries.Call.TheVariants.{Take}
use Rattle.wx_machine.specs.declared.entries.Answer.{Answer}
use Rattle.wx_machine.specs.declared.entries.Entry.{Entry}
use Rattle.wx_machine.specs.Words.{FollowsMachine, EachAfter, has_ended, has_pending, text_of}
use Rattle.wx_broker.specs.State.{BrokerState}
use Rattle.wx_broker.specs.Steps.{Appends, Stays}
use Rattle.wx_turn.specs.Works.{entries}
use Rattle.wx_shared.specs.declared.taking.Taken.{Taken}
use Rattle.wx_shared.specs.declared.taking.Taken.TheVariants.{Nothing, Took, Refused}

abbrev pub entry_by : Who → Call → Answer → Entry
entry_by who call answer = record { who = who; call = call; answer = answer }

-- the journal of these marks, the newest entry first
abbrev pub past_in : List (Option Entry) → List Entry
past_in marks = reverse (entries marks)

-- A turn of which this is said, and which leaves the journal legal.
pub record LeavesLegal (said : Type 0) (world : WorldLists) (marks : List (Option Entry)) (mark : Option Entry) : Type 0
  where
    pub is : said
    pub legal : EachAfter (FollowsMachine world) (past_in (marks ++ mark ∷ []))

-- at the broker, a call was made and answered so; or none was, and it is still there
abbrev pub IsMade : BrokerState → BrokerState → Who → Option Call → Option Call → Option Answer → Type 0
IsMade old new who (Some call) after (Some answer) = Appends old new who call answer
IsMade old new who None after (Some answer) = ⊥
IsMade old new who call after None = Stays old new × (after ≡ call)

-- the same, by the mark that the turn leaves
abbrev pub MarksCall : Who → Option Call → Option Call → Option Entry → Option Answer → Type 0
MarksCall who (Some call) after mark (Some answer) = mark ≡ Some (entry_by who call answer)
MarksCall who None after mark (Some answer) = ⊥
MarksCall who call after mark None = (mark ≡ None) × (after ≡ call)

-- a turn in which a call is made, or is still there
abbrev pub MakesCall : Who → Option Call → Option Call → WorldLists → List (Option Entry) → Option Entry → Option Answer
    → Type 0
MakesCall who call after world marks mark answer = LeavesLegal (MarksCall who call after mark answer) world marks mark

-- at the broker, context c took where an event is pending for it
abbrev pub IsTaken : BrokerState → BrokerState → ContextNo → Taken → Type 0
IsTaken old new c Nothing = Stays old new × (has_pending (reverse old.entries) c ≡ false)
IsTaken old new c (Took answer) =
    Appends old new (Context c) Take answer × (has_pending (reverse old.entries) c ≡ true)
IsTaken old new c Refused = Stays old new

-- the same, by the marks before the turn and the one that it leaves
abbrev pub MarksTake : ContextNo → List (Option Entry) → Option Entry → Taken → Type 0
MarksTake c marks mark Nothing = (mark ≡ None) × (has_pending (past_in marks) c ≡ false)
MarksTake c marks mark (Took answer) =
    (mark ≡ Some (entry_by (Context c) Take answer)) × (has_pending (past_in marks) c ≡ true)
MarksTake c marks mark Refused = mark ≡ None

-- a turn in which context c takes where an event is pending for it
abbrev pub TakesIn : ContextNo → WorldLists → List (Option Entry) → Option Entry → Taken → Type 0
TakesIn c world marks mark taken = LeavesLegal (MarksTake c marks mark taken) world marks mark

-- a turn in which the text of an entry is copied
abbrev pub CopiesIn : EntryNo → WorldLists → List (Option Entry) → Option Entry → Result (Option (List ℕ)) NoMemory
    → Type 0
CopiesIn e world marks mark copy =
    LeavesLegal ((mark ≡ None) × IfOk copy (λ text. text ≡ text_of (past_in marks) e)) world marks mark

-- this host has ended
abbrev pub host_is_over : List Entry → Option HostNo → Bool
host_is_over past None = false
host_is_over past (Some h) = has_ended past h

-- a turn in which it is asked whether to stop; an endpoint asks for no host
abbrev pub AsksIn : Option HostNo → WorldLists → List (Option Entry) → Option Entry → Bool → Type 0
AsksIn host world marks mark stop =
    LeavesLegal ((mark ≡ None) × (stop ≡ false → host_is_over (past_in marks) host ≡ false)) world marks mark
