use Rattle.std.proofs.Common.{◌≡◌, ◌-◌, take, length}
use Rattle.std.specs.Process.{command_program, command_args}
use Rattle.wx_children.proofs.command.with_arguments.Given as goal

-- the program, and the arguments so far
abbrev pub invariant-loop-text : goal.invariant-loop-text
invariant-loop-text l = (command_program l.command ≡ l.path) × (command_args l.command ≡ take l.at l.arguments)

abbrev pub decreases-loop-text : goal.decreases-loop-text
decreases-loop-text l = length l.arguments - l.at
