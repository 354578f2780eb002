-- What the fields of the bytes of a length keep.
use Rattle.std.specs.Prelude.{◌≡◌, ℕ, ◌<◌, ◌≤◌, length, slice_index}
use Rattle.wx_native_frame.specs.declared.head.Head.TheInside.{Inside}

pub record IsFour (h : Inside) : Type 0 where
  pub len : h.len ≤ 4
  pub four : length h.bytes ≡ 4
  pub small : (i : ℕ) → slice_index h.bytes i < 256
