-- How a line and a text are told: by a status, and by what stands on the two sinks.
use Rattle.std.specs.Prelude.{◌≡◌, ◌≢◌, ℕ, ◌⊎◌, List, [], ◌∷◌}
use Rattle.wx_status.specs.declared.status.Status.{Status}
use Rattle.wx_status.specs.declared.status.Status.TheVariants as status
use Rattle.wx_status.specs.Lines.{write_fault_line, no_memory_line}
use Rattle.wx_status.specs.Changes.{SinkChange, IsUntouched, Gained, GainedFront, HasFailed, WasTried}

-- The line of an answer was written on `err`, or that write failed.
abbrev pub LineTold : Status → List ℕ → SinkChange → Status → Type 0
LineTold answer line err result =
    ((result ≡ answer) × Gained err line)
    ⊎ ((result ≡ status.WriteFault) × GainedFront err line × HasFailed err)

-- The text of an answer was written on `out` and nothing on `err`; or the text is not empty and that write failed, of
-- which a line was tried.
abbrev pub ToldText : Status → List ℕ → SinkChange → SinkChange → Status → Type 0
ToldText answer text out err result =
    ((result ≡ answer) × Gained out text × IsUntouched err)
    ⊎ ((result ≡ status.WriteFault) × (text ≢ []) × GainedFront out text × HasFailed out
    × WasTried err write_fault_line)

-- The lines of an answer, if it has any, were written on `err`, or that write failed.
abbrev pub LinesTold : Status → List ℕ → SinkChange → Status → Type 0
LinesTold answer [] err result = (result ≡ answer) × IsUntouched err
LinesTold answer (b ∷ line) err result = LineTold answer (b ∷ line) err result

-- The text of a run was written on `out`, and then the lines of its answer were told on `err`; or the write of the text
-- failed, of which a line was tried.
abbrev pub ToldRun : Status → List ℕ → List ℕ → SinkChange → SinkChange → Status → Type 0
ToldRun answer text lines out err result =
    (Gained out text × LinesTold answer lines err result)
    ⊎ ((result ≡ status.WriteFault) × GainedFront out text × HasFailed out × WasTried err write_fault_line)

-- Want of memory: its line was tried.
abbrev pub ToldNoMemory : SinkChange → Status → Type 0
ToldNoMemory err result = (result ≡ status.NoMemory) × WasTried err no_memory_line
