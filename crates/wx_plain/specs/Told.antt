-- How each verdict is told. Only the output of a command is written on `out`.
use Rattle.wx_status.specs.declared.status.Status.{Status}
use Rattle.wx_status.specs.declared.status.Status.TheVariants as status
use Rattle.wx_status.specs.Lines.{usage_line, read_fault_line, input_line}
use Rattle.wx_status.specs.Changes.{SinkChange, IsUntouched}
use Rattle.wx_status.specs.Told.{LineTold, ToldText, ToldNoMemory}
use Rattle.wx_plain.specs.Output.{answer_status}
use Rattle.wx_plain.specs.Verdict.{Verdict, usage, read_fault, refused, no_memory, answered}

abbrev pub Told : Verdict → SinkChange → SinkChange → Status → Type 0
Told usage out err result = IsUntouched out × LineTold status.Usage usage_line err result
Told (read_fault file) out err result = IsUntouched out × LineTold status.ReadFault (read_fault_line file) err result
Told (refused kind) out err result = IsUntouched out × LineTold (status.InputRefused kind) (input_line kind) err result
Told no_memory out err result = IsUntouched out × ToldNoMemory err result
Told (answered output) out err result = ToldText (answer_status output.yes) output.text out err result
