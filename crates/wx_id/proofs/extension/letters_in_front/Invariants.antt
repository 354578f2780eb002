use Rattle.std.proofs.Common.{◌≡◌, ◌+◌, drop}
use Rattle.std.specs.List.{prefix_len}
use Rattle.wx_id.specs.Ids.{is_id_letter}
use Rattle.wx_id.proofs.extension.letters_in_front.Given as goal

-- letters alone came so far
abbrev pub invariant-loop-i : goal.invariant-loop-i
invariant-loop-i l = l.i + prefix_len is_id_letter (drop l.i l.text) ≡ prefix_len is_id_letter l.text
