-- Which scripts are sound: each variable has a number below the number of the script's commands, and each count is
-- from 1 to 1,000,000.
use Rattle.std.specs.Prelude.{ℕ, ◌<◌, List, length, All, IsTrue}
use Rattle.wx_script.specs.declared.script.Act.{Act}
use Rattle.wx_script.specs.declared.script.Act.TheVariants as act
use Rattle.wx_script.specs.declared.script.Command.{Command}
use Rattle.wx_script.specs.declared.script.Command.TheVariants.{Plain, Repeat}
use Rattle.wx_script.specs.declared.scene.SceneEndpoint.{SceneEndpoint}
use Rattle.wx_script.specs.Words.{is_count}

-- an act of a script with n commands
abbrev pub IsSoundAct : ℕ → Act → Type 0
IsSoundAct n (act.Listen l) = Unit {0}
IsSoundAct n (act.Connect v target name) = v.0 < n
IsSoundAct n (act.Post v text) = v.0 < n
IsSoundAct n (act.Disconnect v) = v.0 < n
IsSoundAct n (act.Send v target text) = v.0 < n
IsSoundAct n (act.Reply v text) = v.0 < n
IsSoundAct n (act.ReplySame v) = v.0 < n
IsSoundAct n (act.Decline v) = v.0 < n
IsSoundAct n (act.Native v name) = v.0 < n
IsSoundAct n (act.Ask v name text) = v.0 < n
IsSoundAct n act.Take = Unit {0}
IsSoundAct n (act.AwaitConnect v) = v.0 < n
IsSoundAct n (act.AwaitMessage v) = v.0 < n
IsSoundAct n (act.AwaitRequest v) = v.0 < n
IsSoundAct n (act.AwaitReply v) = v.0 < n
IsSoundAct n (act.AwaitClose v) = v.0 < n
IsSoundAct n (act.Echo k) = IsTrue (is_count k)

abbrev pub IsSoundCommand : ℕ → Command → Type 0
IsSoundCommand n (Plain a) = IsSoundAct n a
IsSoundCommand n (Repeat k a) = IsTrue (is_count k) × IsSoundAct n a

abbrev pub IsSound : List Command → Type 0
IsSound script = All (IsSoundCommand (length script)) script

-- every endpoint's script is sound
abbrev pub AreSound : List SceneEndpoint → Type 0
AreSound endpoints = All (λ (e : SceneEndpoint). IsSound e.script) endpoints
