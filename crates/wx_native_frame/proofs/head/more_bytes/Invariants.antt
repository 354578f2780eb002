use Rattle.std.proofs.Common.{◌≡◌, ℕ, ◌+◌, ◌<◌, ◌++◌, take, length, slice_index}
use Rattle.wx_native_frame.proofs.head.more_bytes.Given as goal

abbrev pub invariant-loop-byte : goal.invariant-loop-byte
invariant-loop-byte l = record {
  at : l.at ≡ l.len + l.byte-index;
  bytes : take l.at l.bytes ≡ take l.len l.fn.bytes ++ take l.byte-index l.more;
  size : length l.bytes ≡ 4;
  small : (i : ℕ) → slice_index l.bytes i < 256;
}
