use Rattle.std.proofs.Common.{◌≡◌, ◌++◌, take}
use Rattle.std.specs.Prelude.{string_bytes}
use Rattle.wx_who.specs.Reach.{names_text, receivers}
use Rattle.wx_who.proofs.verdicts.put_names.Given as goal

-- the names of those before are written
abbrev pub invariant-loop-other : goal.invariant-loop-other
invariant-loop-other l =
    string_bytes l.out ≡ string_bytes l.initial.out ++ names_text (receivers l.x l.target (take l.other-index l.others))
