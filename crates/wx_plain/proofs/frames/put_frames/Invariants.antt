use Rattle.std.proofs.Common.{◌≡◌, [], length, ◌-◌}
use Rattle.wx_plain.specs.Framing.{frame_limit}
use Rattle.wx_plain.specs.Writing.{IsWritten}
use Rattle.wx_plain.proofs.frames.put_frames.Given as goal

-- the reader is ready for the next frame, and the lines of those before are written
abbrev pub invariant-loop-at : goal.invariant-loop-at
invariant-loop-at l = record { limit : l.reader.limit ≡ frame_limit; ready : l.reader.bytes ≡ []; written : IsWritten l.bytes l.at l.n l.initial.out.items l.out.items }

abbrev pub decreases-loop-at : goal.decreases-loop-at
decreases-loop-at l = length l.bytes - l.at
