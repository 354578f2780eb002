-- Which contexts came in, which of them live, what they listen to, and whom a target reaches.
-- A journal is asked newest entry first: `past` has the newest entry at its head, so that the tail of `e ∷ past` is
-- what stood before e.
use Rattle.std.specs.Prelude.{ℕ, ◌+◌, List, [], ◌∷◌, ◌++◌, Bool, true, false, not, ◌&&◌, ◌||◌, cond, Option, Some, None, filter, bytes_eq, ◌==◌}
use Rattle.std.specs.Option.{option_or}
pub use Rattle.wx_id.specs.Contexts.{same_context}
use Rattle.wx_id.specs.declared.numbers.ContextNo.{ContextNo}
use Rattle.wx_id.specs.declared.numbers.TabId.{TabId}
use Rattle.wx_id.specs.declared.numbers.FrameId.{FrameId}
use Rattle.wx_context.specs.declared.contexts.Context.{Context}
use Rattle.wx_context.specs.declared.contexts.Context.TheVariants.{Page, Content, Web}
use Rattle.wx_context.specs.declared.contexts.Target.{Target}
use Rattle.wx_context.specs.declared.contexts.Target.TheVariants.{Own, Other, Tab}
use Rattle.wx_context.specs.declared.contexts.Listens.{Listens}
use Rattle.wx_machine.specs.declared.sorts.Sort.{Sort}
use Rattle.wx_machine.specs.declared.sorts.Sort.TheVariants.{Connection, Message}
use Rattle.wx_machine.specs.declared.entries.Who.{Who}
use Rattle.wx_machine.specs.declared.entries.Who.TheVariants.{Context as ByContext, Host as ByHost}
use Rattle.wx_machine.specs.declared.entries.Call.{Call}
use Rattle.wx_machine.specs.declared.entries.Call.TheVariants.{Enter, Listen, Leave}
use Rattle.wx_machine.specs.declared.entries.Answer.{Answer}
use Rattle.wx_machine.specs.declared.entries.Answer.TheVariants.{Entered}
use Rattle.wx_machine.specs.declared.entries.Entry.{Entry}
use Rattle.wx_external.specs.Gate.{meant}

-- context c makes the call
abbrev pub is_by : Who → ContextNo → Bool
is_by (ByContext d) c = same_context d c
is_by (ByHost h) c = false

-- the context that a call brings in, with the number that it was answered with
abbrev pub brought : Who → Call → Answer → Option (ContextNo × Context)
brought (ByContext d) (Enter x) (Entered c) = Some (c, x)
brought _ _ _ = None

abbrev pub enters : Entry → Option (ContextNo × Context)
enters e = brought e.who e.call e.answer

-- that context, where its number is c
abbrev pub if_numbered : ContextNo → Option (ContextNo × Context) → Option Context
if_numbered c None = None
if_numbered c (Some came) = cond (same_context came.0 c) (Some came.1) None

-- context c, as the first entry that brought it in says
abbrev pub context_of : List Entry → ContextNo → Option Context
context_of [] c = None
context_of (e ∷ past) c = option_or (context_of past c) (if_numbered c (enters e))

abbrev pub is_there : Option Context → Bool
is_there None = false
is_there (Some x) = true

abbrev pub is_leave : Call → Bool
is_leave Leave = true
is_leave _ = false

-- context c left after it came in
abbrev pub has_left : List Entry → ContextNo → Bool
has_left [] c = false
has_left (e ∷ past) c = has_left past c || (is_there (context_of past c) && is_leave e.call && is_by e.who c)

-- context c came in and did not leave
abbrev pub is_live : List Entry → ContextNo → Bool
is_live past c = is_there (context_of past c) && not (has_left past c)

-- what a context listens to before it said so
abbrev pub deaf : Listens
deaf = record { connect = false; message = false; external_connect = false; external_message = false }

abbrev pub listens_after : Call → Bool → Listens → Listens
listens_after (Listen l) true before = l
listens_after _ _ before = before

-- what context c said last that it listens to
abbrev pub listens_of : List Entry → ContextNo → Listens
listens_of [] c = deaf
listens_of (e ∷ past) c = listens_after e.call (is_by e.who c) (listens_of past c)

abbrev pub is_enter : Call → Bool
is_enter (Enter x) = true
is_enter _ = false

-- how many contexts were brought in
abbrev pub contexts : List Entry → ℕ
contexts [] = 0
contexts (e ∷ past) = cond (is_enter e.call) 1 0 + contexts past

abbrev pub numbers_of : Option (ContextNo × Context) → List ContextNo
numbers_of None = []
numbers_of (Some came) = came.0 ∷ []

-- the numbers that contexts were given, in the order of their coming
abbrev pub numbers : List Entry → List ContextNo
numbers [] = []
numbers (e ∷ past) = numbers past ++ numbers_of (enters e)

-- the extension of a context; a web page has none
abbrev pub extension_of : Context → Option (List ℕ)
extension_of (Page ext path) = Some ext
extension_of (Content ext tab frame url) = Some ext
extension_of (Web tab frame url) = None

abbrev pub is_extension : Option (List ℕ) → List ℕ → Bool
is_extension None id = false
is_extension (Some ext) id = bytes_eq ext id

-- a page of that extension
abbrev pub is_page_of : Option (List ℕ) → Context → Bool
is_page_of own (Page ext path) = is_extension own ext
is_page_of own _ = false

-- the frame, or any where none is given
abbrev pub is_frame : Option FrameId → FrameId → Bool
is_frame None frame = true
is_frame (Some f) frame = f.0 == frame.0

-- a content script of that extension in that tab, and in that frame where one is given
abbrev pub is_script_in : Option (List ℕ) → TabId → Option FrameId → Context → Bool
is_script_in own t f (Content ext tab frame url) = is_extension own ext && t.0 == tab.0 && is_frame f frame
is_script_in own t f _ = false

-- whether a target of a caller from that extension names a context: pages of its own extension, pages of another, or
-- its own content scripts in a tab
abbrev pub names : Option (List ℕ) → Target → Context → Bool
names own Own y = is_page_of own y
names own (Other id) y = is_page_of (Some id) y
names own (Tab t f) y = is_script_in own t f y

-- what is for another extension comes to it from outside
abbrev pub is_external : Target → Bool
is_external (Other id) = true
is_external _ = false

-- whether one who listens so hears that sort, from its own extension or from outside
abbrev pub hears : Sort → Bool → Listens → Bool
hears Connection external l = cond external l.external_connect l.connect
hears Message external l = cond external l.external_message l.message

-- whether what is for that target reaches a context that listens so
abbrev pub reaches : Option (List ℕ) → Target → Sort → Context → Listens → Bool
reaches own target sort y l = names own target y && hears sort (is_external target) l

-- the same of what the caller means by the target
abbrev pub reaches_from : Option Context → Target → Sort → Option Context → Listens → Bool
reaches_from (Some x) target sort (Some y) l = reaches (extension_of x) (meant x target) sort y l
reaches_from _ target sort _ l = false

-- whether context d is a receiver of what context c sends to a target (WebExtensions "runtime.connect" and
-- "runtime.sendMessage")
abbrev pub is_receiver : List Entry → ContextNo → Target → Sort → ContextNo → Bool
is_receiver past c target sort d =
    not (same_context d c) && is_live past d && reaches_from (context_of past c) target sort (context_of past d)
    (listens_of past d)

-- the receivers of what context c sends to a target, in rising number
abbrev pub receivers_of : List Entry → ContextNo → Target → Sort → List ContextNo
receivers_of past c target sort = filter (is_receiver past c target sort) (numbers past)
