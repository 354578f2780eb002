use Rattle.std.proofs.Common.{◌≡◌, drop}
use Rattle.wx_outside.specs.Memory.{bytes_at}
use Rattle.wx_outside.proofs.memory.file_of.Given as goal

-- what is found among the files that are left is what is found among all
abbrev pub invariant-loop-file : goal.invariant-loop-file
invariant-loop-file l = bytes_at (drop l.file-index l.files) l.name ≡ bytes_at l.files l.name
