use Rattle.std.proofs.Common.{◌≡◌, take}
use Rattle.std.specs.Prelude.{reverse}
use Rattle.wx_machine.specs.Words.{listens_of}
use Rattle.wx_walks.proofs.contexts.listens_of.Given as goal

abbrev pub invariant-loop-e : goal.invariant-loop-e
invariant-loop-e l = l.last ≡ listens_of (reverse (take l.e-index l.entries)) l.c
