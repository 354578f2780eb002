use Rattle.std.proofs.Common.{◌≡◌, length}
use denote.Text.{Utf8}
use denote.Shadow.{shadow}
use Rattle.wx_script.specs.Words.{file_name}
use Rattle.wx_script.proofs.word.file_name.Given as goal

-- what is left has the file's own name
abbrev pub invariant-loop-rest : goal.invariant-loop-rest
invariant-loop-rest l = shadow (Utf8 l.left) × (file_name l.left ≡ file_name l.fn.file)

abbrev pub decreases-loop-rest : goal.decreases-loop-rest
decreases-loop-rest l = length l.left
