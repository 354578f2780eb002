-- What a kit read decides its end.
use Rattle.std.specs.Prelude.{◌≡◌, ℕ, List, Bool, true, false, Some}
use Rattle.wx_host_launch.specs.Pipes.{Stream, InState, OutState}
use Rattle.wx_host_kit.specs.declared.KitEnd.{KitEnd}
use Rattle.wx_host_kit.specs.declared.KitEnd.TheVariants.{WriteFailed, NoMemory}
use Rattle.wx_host_kit.specs.Kit.{Reply, IsServed}

-- The input tells its bytes, and has not ended.
pub record IsOpen (input : OutState) : Type 0 where
  pub stream : Stream
  pub told : input.stream ≡ Some stream
  pub on : input.ended ≡ false

-- neither a write that failed nor want of memory
abbrev pub is_by_input : KitEnd → Bool
is_by_input WriteFailed = false
is_by_input NoMemory = false
is_by_input _ = true

-- Two kits with the same handler that read the same of the same input end the same, whatever their outputs are, unless
-- a write failed or memory was refused: so these ends exclude each other.
abbrev pub OneEnd : Type 0
OneEnd = (reply : Reply) (old new : OutState) (before now first last : InState) (end other : KitEnd) → IsOpen old
    → is_by_input end ≡ true → is_by_input other ≡ true
    → IsServed reply old new before now end → IsServed reply old new first last other → end ≡ other
