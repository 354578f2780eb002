use Rattle.std.proofs.Common.{◌≡◌, ◌≤◌, ◌∷◌, take, length}
use Rattle.std.specs.Prelude.{reverse}
use Rattle.wx_machine.specs.Words.{channels, channel, has_live}
use Rattle.wx_walks.proofs.closing.has_live_receiver.Given as goal

abbrev pub invariant-loop-i : goal.invariant-loop-i
invariant-loop-i l =
    (l.count ≡ length (channels (reverse (take l.i l.before)))) × (l.count ≤ l.i) × (l.live ≡ has_live (l.e ∷ reverse l.before) (channel (reverse (take l.i l.before)) l.k.0))
