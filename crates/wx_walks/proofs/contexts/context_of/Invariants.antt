use Rattle.std.proofs.Common.{◌≡◌, take}
use Rattle.std.specs.Prelude.{reverse, option_copied}
use Rattle.wx_machine.specs.Words.{context_of}
use Rattle.wx_walks.proofs.contexts.context_of.Given as goal

abbrev pub invariant-loop-e : goal.invariant-loop-e
invariant-loop-e l = option_copied l.found ≡ context_of (reverse (take l.e-index l.entries)) l.c
