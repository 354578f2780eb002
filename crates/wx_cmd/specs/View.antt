-- A verdict without where it lies in memory.
use Rattle.wx_cmd.specs.declared.tell.Verdict as code
use Rattle.wx_cmd.specs.declared.tell.Verdict.TheVariants as v
use Rattle.wx_cmd.specs.Verdict.{Verdict, read_fault, refused, manifest_refused, no_memory, ran}

abbrev pub verdict_view : code.Verdict → Verdict
verdict_view (v.ReadFault file) = read_fault file
verdict_view (v.Refused fault) = refused fault
verdict_view (v.ManifestRefused refusal file) = manifest_refused refusal file
verdict_view v.NoMemory = no_memory
verdict_view (v.Ran end text lines) = ran end text.items lines.items
