use Rattle.std.proofs.Common.{◌≡◌, ◌≤◌, take, length}
use Rattle.std.specs.Prelude.{reverse}
use Rattle.wx_machine.specs.Words.{channels, channel, end_in}
use Rattle.wx_walks.proofs.channels.end_of.Given as goal

abbrev pub invariant-loop-i : goal.invariant-loop-i
invariant-loop-i l = (l.count ≡ length (channels (reverse (take l.i l.entries)))) × (l.count ≤ l.i) × (l.end ≡ end_in (channel (reverse (take l.i l.entries)) l.k.0) l.c)
