-- What serving a host comes to.
use Rattle.std.specs.Prelude.{◌≡◌, ℕ, Bool, true, false, List, [], Option, Result, Ok, Err}
use Rattle.wx_id.specs.declared.numbers.HostNo.{HostNo}
use Rattle.wx_native_frame.specs.Frames.{Unfinished}
use Rattle.wx_machine.specs.declared.entries.Answer.{Answer}
use Rattle.wx_machine.specs.declared.entries.Entry.{Entry}
use Rattle.wx_machine.specs.declared.entries.Call.TheVariants.{HostEnded}
use Rattle.wx_machine.specs.declared.entries.Reason.TheVariants.{StartFailed}
use Rattle.wx_machine.specs.declared.entries.TheConstants.{LONGEST_SAID}
use Rattle.wx_desk.specs.Desks.{HostDeskState, MakesNone, MakesOne}
use Rattle.wx_host_launch.specs.Pipes.{InState, OutState}
use Rattle.wx_host_launch.specs.Records.{Writing, AreFresh}
use Rattle.wx_host_launch.specs.declared.starter.StartFault.{StartFault}
use Rattle.wx_host_launch.specs.declared.starter.StartFault.TheVariants as fault
use Rattle.wx_pump.specs.Pumps.{IsInPump, IsOutPump}
use Rattle.wx_pump.specs.declared.pumps.PumpEnd.{PumpEnd}
use Rattle.wx_pump.specs.declared.serving.Served.{Served}
use Rattle.wx_pump.specs.declared.serving.Served.TheVariants.{NotStarted, NoMemory, Ran}

-- what a desk tells, in one
pub record Told : Type 0 where
  pub state : HostDeskState
  pub told : Option Bool
  pub key : List ℕ

abbrev pub told_by : {D : Type 0} → (D → HostDeskState) → (D → Option Bool) → (D → List ℕ) → D → Told
told_by state told key desk = record { state = state desk; told = told desk; key = key desk }

-- the host ended as it could not be started, where that was told; else no entry was made
abbrev pub TellsNotStarted : HostDeskState → HostDeskState → Bool → Type 0
TellsNotStarted old new true = (answer : Answer) × MakesOne old new (HostEnded StartFailed) answer
TellsNotStarted old new false = MakesNone old new

-- what the start came to
abbrev pub start_came : {I O : Type 0} → Served I O → Result (Unit {0}) StartFault
start_came (NotStarted told) = Err fault.Failed
start_came NoMemory = Err fault.NoMemory
start_came (Ran input output reader sent said) = Ok tt

abbrev pub fresh_reader : Unfinished
fresh_reader = record { limit = LONGEST_SAID; bytes = [] }

-- Both pumps ran, each at its desk, from the ends of a child that was just started and from a new reader.
pub record HasRun (going : HostNo → List Entry → Type 0) (writing : Option Writing) (path : List ℕ)
    (first after second last : Told) (input : InState) (output : OutState) (reader : Unfinished) (sent said : PumpEnd)
    : Type 0 where
  pub input_at : InState
  pub output_at : OutState
  pub fresh : AreFresh writing path input_at output_at
  pub sends : IsInPump going first.state after.state input_at input after.told sent
  pub says : IsOutPump going second.state last.state fresh_reader reader output_at output last.told said
  pub limit : reader.limit ≡ LONGEST_SAID

-- the service of a host, by what it came to; each desk is told before and after
abbrev pub IsServed : {I O : Type 0} → (I → InState) → (O → OutState) → (HostNo → List Entry → Type 0)
    → Option Writing → List ℕ → Told → Told → Told → Told → Served I O → Type 0
IsServed i o going writing path first after second last (NotStarted told) =
    TellsNotStarted first.state after.state told × (after.told ≡ first.told) × (last ≡ second)
IsServed i o going writing path first after second last NoMemory = (after ≡ first) × (last ≡ second)
IsServed i o going writing path first after second last (Ran input output reader sent said) =
    HasRun going writing path first after second last (i input) (o output) reader sent said
