-- What a worker of a host is to do, and what it brings back.
use Rattle.std.specs.Prelude.{◌≡◌, ℕ, List, Option, Bool, string_bytes}
use Rattle.wx_id.specs.declared.numbers.HostNo.{HostNo}
use Rattle.wx_machine.specs.declared.entries.Entry.{Entry}
use Rattle.wx_desk.specs.Desks.{HostDeskState, IsSound}
use Rattle.wx_host_launch.specs.Pipes.{InState, OutState}
use Rattle.wx_host_launch.specs.Records.{StarterState, Starts}
use Rattle.wx_pump.specs.Serving.{Told, told_by, start_came, IsServed}
use Rattle.wx_pump.specs.declared.serving.Served.{Served}
use Rattle.wx_pump.specs.declared.worker.HostDone.{HostDone}
use Rattle.wx_pump.specs.declared.worker.HostPart.{HostPart}
use Rattle.wx_pump.specs.declared.worker.HostWorker.{HostWorker}
use Rattle.wx_pump.specs.declared.worker.HostWorker.TheVariants.{Runs, Ran}

-- what it is to do: to start the program of this path with these arguments, and to serve the host at both desks
pub record HostTask : Type 0 where
  pub starter : StarterState
  pub path : List ℕ
  pub arguments : List (List ℕ)
  pub first : Told
  pub second : Told

abbrev pub task_for : StarterState → List ℕ → List (List ℕ) → Told → Told → HostTask
task_for starter path arguments first second =
    record { starter = starter; path = path; arguments = arguments; first = first; second = second }

-- What it did: one start, and the service of the host. Its starter and its desks are as that left them.
pub record IsTaskDone {I O : Type 0} (input : I → InState) (output : O → OutState)
    (going : HostNo → List Entry → Type 0) (task : HostTask) (starter : StarterState) (first second : Told)
    (came : Served I O) : Type 0 where
  pub start : Starts task.starter starter task.path task.arguments (start_came came)
  pub served : IsServed input output going task.starter.writing task.path task.first first task.second second came
  pub sound_first : IsSound first.state
  pub sound_second : IsSound second.state
  pub same_first : first.key ≡ task.first.key
  pub same_second : second.key ≡ task.second.key

module _ {P D I O : Type 0} (starter : P → StarterState) (state : D → HostDeskState) (told : D → Option Bool)
    (key : D → List ℕ) where
  -- what the part of a worker says that it is to do
  abbrev pub task_of : HostPart P D I O → HostTask
  task_of part = task_for (starter part.starter.value) (string_bytes part.path.value) part.arguments.value
      (told_by state told key part.first.value) (told_by state told key part.second.value)

  abbrev pub task_in : HostWorker P D I O → HostTask
  task_in (Runs child) = task_of child.promise
  task_in (Ran done part) = task_of part

  -- a worker brought back what its task left
  abbrev pub IsDone : (I → InState) → (O → OutState) → (HostNo → List Entry → Type 0) → HostTask → HostDone P D I O
      → Type 0
  IsDone input output going task done = IsTaskDone input output going task (starter done.starter)
      (told_by state told key done.first) (told_by state told key done.second) done.came

  -- a worker runs, or has done its task
  abbrev pub IsGood : (I → InState) → (O → OutState) → (HostNo → List Entry → Type 0) → HostWorker P D I O → Type 0
  IsGood input output going (Runs child) = Unit {0}
  IsGood input output going (Ran done part) = IsDone input output going (task_of part) done
