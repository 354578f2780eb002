use Rattle.std.proofs.Common.{◌≡◌, drop}
use Rattle.wx_host_slot.specs.Slots.{slots_of}
use Rattle.wx_run.specs.Slots.{first_unended_slot}
use Rattle.wx_run.proofs.hosts.first_unended.Given as goal

-- each so far has ended
abbrev pub invariant-loop-i : goal.invariant-loop-i
invariant-loop-i g l = first_unended_slot l.i (slots_of g.P.Starter.state (drop l.i l.slots)) ≡ first_unended_slot 0 (slots_of g.P.Starter.state l.slots)
