-- What a call does to the starter of native hosts.
use Rattle.std.specs.Prelude.{◌≡◌}
use Rattle.wx_host_launch.specs.Records.{StarterState}
use Rattle.wx_status.specs.Changes.{Change}
use Rattle.wx_cmd.specs.Verdict.{Verdict, read_fault, refused, manifest_refused, no_memory, ran}

-- a starter over a call
abbrev pub StarterChange : Type 0
StarterChange = Change StarterState

-- all that it tells is as it was
abbrev pub IsUnused : StarterChange → Type 0
IsUnused starter = starter.after ≡ starter.before

-- Unless the verdict is that of a run, the starter is unused. Where memory was refused, the verdict's cause says
-- whether a run may have begun.
abbrev pub IsUnusedUnlessRun : Verdict → StarterChange → Type 0
IsUnusedUnlessRun (read_fault file) starter = IsUnused starter
IsUnusedUnlessRun (refused fault) starter = IsUnused starter
IsUnusedUnlessRun (manifest_refused refusal file) starter = IsUnused starter
IsUnusedUnlessRun no_memory starter = Unit {0}
IsUnusedUnlessRun (ran end text lines) starter = Unit {0}
