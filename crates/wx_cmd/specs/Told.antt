-- How each verdict on a run is told. Only a run's text is written on `out`.
use Rattle.wx_status.specs.declared.status.Status.{Status}
use Rattle.wx_status.specs.declared.status.Status.TheVariants as status
use Rattle.wx_status.specs.Lines.{read_fault_line, refusal_line}
use Rattle.wx_status.specs.Manifests.{manifest_line}
use Rattle.wx_status.specs.Changes.{SinkChange, IsUntouched}
use Rattle.wx_status.specs.Told.{LineTold, ToldRun, ToldNoMemory}
use Rattle.wx_cmd.specs.Endings.{answer_by}
use Rattle.wx_cmd.specs.Verdict.{Verdict, read_fault, refused, manifest_refused, no_memory, ran}

abbrev pub Told : Verdict → SinkChange → SinkChange → Status → Type 0
Told (read_fault file) out err result = IsUntouched out × LineTold status.ReadFault (read_fault_line file) err result
Told (refused fault) out err result = IsUntouched out × LineTold (status.SceneRefused fault.line fault.kind)
    (refusal_line fault) err result
Told (manifest_refused refusal file) out err result =
    IsUntouched out × LineTold (status.ManifestRefused refusal.file refusal.kind) (manifest_line file refusal.kind) err
    result
Told no_memory out err result = IsUntouched out × ToldNoMemory err result
Told (ran end text lines) out err result = ToldRun (answer_by end) text lines out err result
