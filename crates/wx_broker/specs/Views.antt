-- What is told of a native host: the place of its manifest, and the extension that started it.
use Rattle.std.specs.Prelude.{ℕ, List, Option, Some, None, slice_get}
use Rattle.wx_context.specs.declared.contexts.Context.{Context}
use Rattle.wx_external.specs.World.{WorldLists}
use Rattle.wx_external.specs.declared.native.NativeVerdict.{NativeVerdict}
use Rattle.wx_external.specs.declared.native.NativeVerdict.TheVariants as native
use Rattle.wx_external.specs.Gate.{native_gate_of}
use Rattle.wx_machine.specs.declared.entries.Entry.{Entry}
use Rattle.wx_machine.specs.Words.{context_of, extension_of, Start, hosts}
use Rattle.wx_broker.specs.declared.host_view.HostView.{HostView}

-- where the gate is open, the host's place among the world's hosts, and the caller's extension
abbrev pub view_at : NativeVerdict → Option (List ℕ) → Option HostView
view_at (native.Open place) (Some ext) = Some (record { manifest = place; caller = ext })
view_at _ _ = None

-- the host of that name, as this caller may start it
abbrev pub view_for : WorldLists → Option Context → List ℕ → Option HostView
view_for world None name = None
view_for world (Some x) name = view_at (native_gate_of world x name) (extension_of x)

-- the host that this start started
abbrev pub view_of : WorldLists → List Entry → Option Start → Option HostView
view_of world past None = None
view_of world past (Some start) = view_for world (context_of past start.caller) start.name

-- host h: the start at its place among the hosts, judged by the gate that its caller passed
abbrev pub host_view : WorldLists → List Entry → ℕ → Option HostView
host_view world past h = view_of world past (slice_get (hosts past) h)
