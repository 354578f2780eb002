-- Outputs and verdicts without where they lie in memory.
use Rattle.std.specs.Prelude.{◌≡◌, Result, Ok, Err}
use Rattle.wx_status.specs.declared.status.InputKind.{InputKind}
use Rattle.wx_plain.specs.declared.verdict.Output as output
use Rattle.wx_plain.specs.declared.verdict.Refusal.{Refusal}
use Rattle.wx_plain.specs.declared.verdict.Refusal.TheVariants as refusal
use Rattle.wx_plain.specs.declared.verdict.Verdict as code
use Rattle.wx_plain.specs.declared.verdict.Verdict.TheVariants as v
use Rattle.wx_plain.specs.Output.{Output}
use Rattle.wx_plain.specs.Verdict.{Verdict, usage, read_fault, refused, no_memory, answered}

abbrev pub output_view : output.Output → Output
output_view o = record { yes = o.yes; text = o.text.items }

abbrev pub verdict_view : code.Verdict → Verdict
verdict_view v.Usage = usage
verdict_view (v.ReadFault file) = read_fault file.now
verdict_view (v.Refused kind) = refused kind
verdict_view v.NoMemory = no_memory
verdict_view (v.Answered o) = answered (output_view o)

-- the fact holds of the answer, unless memory was refused
abbrev pub Says : (Result Output InputKind → Type 0) → Result output.Output Refusal → Type 0
Says Fact (Ok o) = Fact (Ok (output_view o))
Says Fact (Err (refusal.Input kind)) = Fact (Err kind)
Says Fact (Err refusal.NoMemory) = Unit {0}

-- what was read is the expected value, unless memory was refused
abbrev pub Gives : {T : Type 0} → Result T Refusal → Result T InputKind → Type 0
Gives (Ok read) expected = expected ≡ Ok read
Gives (Err (refusal.Input kind)) expected = expected ≡ Err kind
Gives (Err refusal.NoMemory) expected = Unit {0}

-- an answer as a verdict
abbrev pub verdict_in : Result output.Output Refusal → Verdict
verdict_in (Ok o) = answered (output_view o)
verdict_in (Err (refusal.Input kind)) = refused kind
verdict_in (Err refusal.NoMemory) = no_memory
