-- How the lines of the frames are written one behind the other.
use Rattle.std.specs.Prelude.{◌≡◌, ℕ, ◌≤◌, List, [], ◌++◌, length, take}
use Rattle.wx_native_frame.specs.Frames.{IsFrame}
use Rattle.wx_native_frame.specs.Splits.{IsSplit}
use Rattle.wx_plain.specs.declared.frames.FramesEnd.{FramesEnd}
use Rattle.wx_plain.specs.declared.frames.First.{First}
use Rattle.wx_plain.specs.declared.frames.First.TheVariants.{Frame, End}
use Rattle.wx_plain.specs.Framing.{frame_limit, frame_line, frame_lines, EndsBy}

-- The first bytes are the frames of some texts, of which there are so many, and their lines were written.
pub record IsWritten (bytes : List ℕ) (at count : ℕ) (old new : List ℕ) : Type 0 where
  pub inside : at ≤ length bytes
  pub texts : List (List ℕ)
  pub split : IsSplit frame_limit (take at bytes) texts []
  pub count_is : count ≡ length texts
  pub few : count ≤ at
  pub lines : new ≡ old ++ frame_lines 0 texts

-- All bytes are the frames of some texts and a rest that ends so, and the lines of the frames were written.
pub record AllWritten (bytes old new : List ℕ) (end : FramesEnd) : Type 0 where
  pub texts : List (List ℕ)
  pub rest : List ℕ
  pub split : IsSplit frame_limit bytes texts rest
  pub ends : EndsBy rest end
  pub lines : new ≡ old ++ frame_lines 0 texts

-- What stands first in the bytes: a frame of so many bytes, whose line with the number n was written; or no frame, and
-- they end so.
abbrev pub IsFirst : List ℕ → ℕ → List ℕ → List ℕ → First → Type 0
IsFirst bytes n old new (Frame used) =
    (text : List ℕ) × IsFrame frame_limit (take used bytes) text × (used ≤ length bytes)
    × (new ≡ old ++ frame_line n text)
IsFirst bytes n old new (End end) = EndsBy bytes end × (new ≡ old)

-- behind a frame nothing is in hand
abbrev pub IsReady : List ℕ → First → Type 0
IsReady left (Frame used) = left ≡ []
IsReady left (End end) = Unit {0}
