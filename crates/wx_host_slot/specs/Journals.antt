-- What a journal says of one native host. Every list of entries has the newest first.
use Rattle.std.specs.Prelude.{◌≡◌, ℕ, ◌+◌, List, [], ◌∷◌, ◌++◌, true, cond, Option, Some, None, slice_get, option_map}
use Rattle.wx_id.specs.declared.numbers.HostNo.{HostNo}
use Rattle.wx_external.specs.World.{WorldLists}
use Rattle.wx_host_manifest.specs.HostManifests.{Host, arguments_of}
use Rattle.wx_machine.specs.declared.entries.Call.{Call}
use Rattle.wx_machine.specs.declared.entries.Reason.{Reason}
use Rattle.wx_machine.specs.declared.entries.Entry.{Entry}
use Rattle.wx_machine.specs.Words.{is_host_ready, is_by_host, next_text}
use Rattle.wx_machine.specs.declared.entries.Call.TheVariants.{HostTake, HostEnded}
use Rattle.wx_machine.specs.declared.entries.Reason.TheVariants.{StartFailed, WriteFailed}
use Rattle.wx_broker.specs.declared.host_view.HostView.{HostView}
use Rattle.wx_broker.specs.Views.{host_view}
use Rattle.wx_host_launch.specs.Halves.{text_of_take, text_said}
use Rattle.wx_host_launch.specs.Records.{Program}

-- how many entries host h made
abbrev pub entries_of : HostNo → List Entry → ℕ
entries_of h [] = 0
entries_of h (e ∷ past) = cond (is_by_host e.who h) 1 0 + entries_of h past

-- the texts that host h took, the first first
abbrev pub taken_by : HostNo → List Entry → List (List ℕ)
taken_by h [] = []
taken_by h (e ∷ past) = taken_by h past ++ cond (is_by_host e.who h) (text_of_take past e.call e.answer) []

-- the texts that it said
abbrev pub said_by : HostNo → List Entry → List (List ℕ)
said_by h [] = []
said_by h (e ∷ past) = said_by h past ++ cond (is_by_host e.who h) (text_said e.call) []

-- each call of host h has the property, given the entries before it
abbrev pub EachOf : HostNo → (List Entry → Call → Type 0) → List Entry → Type 0
EachOf h P [] = Unit {0}
EachOf h P (e ∷ past) = EachOf h P past × (is_by_host e.who h ≡ true → P past e.call)

-- it has taken every text, unless it could not be started or written to
abbrev pub LeavesNoText : HostNo → List Entry → Reason → Type 0
LeavesNoText h past StartFailed = Unit {0}
LeavesNoText h past WriteFailed = Unit {0}
LeavesNoText h past _ = next_text past h ≡ None

-- host h takes where that has something new to tell, and ends when it has taken every text
abbrev pub IsInPlace : HostNo → List Entry → Call → Type 0
IsInPlace h past HostTake = is_host_ready past h ≡ true
IsInPlace h past (HostEnded reason) = LeavesNoText h past reason
IsInPlace h past _ = Unit {0}

-- a host's program: the path in its manifest, started with the origin of its caller (Chrome's "Native messaging",
-- "Native messaging host")
abbrev pub program_at : WorldLists → Option HostView → Option Program
program_at world None = None
program_at world (Some view) = option_map (λ (host : Host). record
    { path = host.path; arguments = arguments_of view.caller }) (slice_get world.hosts view.manifest)

-- the program of host h
abbrev pub program_of : WorldLists → List Entry → HostNo → Option Program
program_of world past h = program_at world (host_view world past h.0)
