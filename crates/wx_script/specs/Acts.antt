-- What the commands of a script do, one act after another.
use Rattle.std.specs.Prelude.{List, [], ◌∷◌, ◌++◌, replicate}
use Rattle.wx_script.specs.declared.script.Act.{Act}
use Rattle.wx_script.specs.declared.script.Command.{Command}
use Rattle.wx_script.specs.declared.script.Command.TheVariants.{Plain, Repeat}

-- the acts of a command: a repeated act is the same as the act written so many times
abbrev pub acts_by : Command → List Act
acts_by (Plain a) = a ∷ []
acts_by (Repeat n a) = replicate n a

-- the acts of commands in order
abbrev pub acts_of : List Command → List Act
acts_of [] = []
acts_of (c ∷ commands) = acts_by c ++ acts_of commands
