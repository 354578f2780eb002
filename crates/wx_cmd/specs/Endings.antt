-- The answer and the lines by which the end of a run is told.
use Rattle.std.specs.Prelude.{ℕ, ◌+◌, Bool, List, [], ◌∷◌, ◌++◌, Option, Some, None, slice_get, codes, decimal, if◌then◌else◌}
use Rattle.wx_machine.specs.declared.entries.Entry.{Entry}
use Rattle.wx_machine.specs.Words.{has_left}
use Rattle.wx_script.specs.declared.scene.SceneEndpoint.{SceneEndpoint}
use Rattle.wx_script.specs.SceneValue.{SceneValue}
use Rattle.wx_script.specs.Ends.{numbered}
use Rattle.wx_run.specs.declared.outcome.RunEnd.{RunEnd}
use Rattle.wx_run.specs.declared.outcome.RunEnd.TheVariants as end
use Rattle.wx_script.specs.declared.scene.SpentWho.TheVariants.{Endpoint, Host}
use Rattle.wx_status.specs.declared.status.Status.{Status}
use Rattle.wx_status.specs.declared.status.Status.TheVariants as status

-- the answer of a run with this end
abbrev pub answer_by : RunEnd → Status
answer_by end.Done = status.Done
answer_by end.Stalled = status.Stalled
answer_by (end.Spent who) = status.Spent who

abbrev pub stalled_line : List ℕ → List ℕ
stalled_line name = codes "wx: stalled: " ++ (name ++ codes "\n")

-- the line of an endpoint, unless its context has left, by which its script ends
abbrev pub stalled_unless : Bool → List ℕ → List ℕ
stalled_unless left name = if left then [] else stalled_line name

-- the lines of those among these endpoints, numbered from n, whose contexts have not left, in order
abbrev pub stalled_from : List Entry → ℕ → List SceneEndpoint → List ℕ
stalled_from past n [] = []
stalled_from past n (e ∷ endpoints) = stalled_unless (has_left past (numbered n)) e.name
    ++ stalled_from past (n + 1) endpoints

abbrev pub spent_line : List ℕ → List ℕ
spent_line name = codes "wx: spent: " ++ (name ++ codes "\n")

-- the line of the native host that is spent, by its number
abbrev pub spent_host_line : ℕ → List ℕ
spent_host_line h = codes "wx: spent: host " ++ (decimal h ++ codes "\n")

-- the line of the endpoint that is spent
abbrev pub spent_lines : Option SceneEndpoint → List ℕ
spent_lines None = []
spent_lines (Some e) = spent_line e.name

-- the lines that tell of this end of a run of the scene, whose entries are these, the newest first
abbrev pub lines_of_end : SceneValue → List Entry → RunEnd → List ℕ
lines_of_end scene past end.Done = []
lines_of_end scene past end.Stalled = stalled_from past 0 scene.endpoints
lines_of_end scene past (end.Spent (Endpoint n)) = spent_lines (slice_get scene.endpoints n)
lines_of_end scene past (end.Spent (Host h)) = spent_host_line h.0
