use Rattle.std.proofs.Common.{◌≡◌, ◌≤◌, take, length}
use Rattle.std.specs.Prelude.{reverse}
use Rattle.wx_machine.specs.Words.{hosts, work_of}
use Rattle.wx_walks.proofs.hosts.work_of.Given as goal

abbrev pub invariant-loop-i : goal.invariant-loop-i
invariant-loop-i l = (l.count ≡ length (hosts (reverse (take l.i l.entries)))) × (l.count ≤ l.i) × (l.work ≡ work_of (reverse (take l.i l.entries)) l.h)
