use Rattle.std.proofs.Common.{length, ◌-◌}
use Rattle.wx_host_kit.proofs.ServeLemmas.{IsWithin}
use Rattle.wx_host_kit.proofs.serve.answer_piece.Given as goal

-- what was used of the piece is answered
abbrev pub invariant-loop-at : goal.invariant-loop-at
invariant-loop-at g l = IsWithin ((goal.Handler-dyn g (l.initial.handler.vtable, l.initial.handler.value)).reply l.initial.handler.value) ((goal.Handler-dyn g (l.handler.vtable, l.handler.value)).reply l.handler.value) l.initial.reader l.reader l.piece l.at (g.O.HostIn.state l.initial.output) (g.O.HostIn.state l.output)

abbrev pub decreases-loop-at : goal.decreases-loop-at
decreases-loop-at g l = length l.piece - l.at
