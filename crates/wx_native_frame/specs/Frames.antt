-- Frames: the length of a JSON text in four bytes, the lowest first, and the text.
use Rattle.std.specs.Prelude.{◌≡◌, ℕ, ◌<◌, ◌≤◌, List, ◌++◌, length, take, drop}
use Rattle.byteorder.specs.Endian.{little_bytes, little_number}
use Rattle.wx_json.specs.Text.{IsJsonText, IsFault, IsUnfinished}
use Rattle.wx_json.specs.declared.JsonFault.{JsonFault}
use Rattle.wx_native_frame.specs.declared.FrameFault.{FrameFault}
use Rattle.wx_native_frame.specs.declared.FrameFault.TheVariants.{TooLong, BadJson}

-- the four bytes that `byteorder` writes for a number in little-endian order
unfoldable pub length_bytes : ℕ → List ℕ
length_bytes n = little_bytes 4 n

-- the number that the first four bytes tell
unfoldable pub told_length : List ℕ → ℕ
told_length r = little_number 4 r

-- the frame of a text
abbrev pub frame : List ℕ → List ℕ
frame t = length_bytes (length t) ++ t

-- The bytes are the frame of a JSON text of at most so many bytes.
pub record IsFrame (limit : ℕ) (bytes t : List ℕ) : Type 0 where
  pub json : IsJsonText t
  pub fits : length t ≤ limit
  pub bytes_are : bytes ≡ frame t

-- the bytes after the length, at most as many as it tells
abbrev pub text_in : List ℕ → List ℕ
text_in r = take (told_length r) (drop 4 r)

-- What is wrong with bytes that begin where a frame does. With fewer than four nothing is wrong.
pub data IsTrouble (r : List ℕ) (limit : ℕ) : FrameFault → Type 0 where
  too_long : {n : ℕ} → 4 ≤ length r → n ≡ told_length r → limit < n → IsTrouble r limit (TooLong n)
  bad_text : {f : JsonFault} → 4 ≤ length r → told_length r ≤ limit → IsFault (text_in r) f
      → IsTrouble r limit (BadJson f)
  cut_text : {f : JsonFault} → 4 ≤ length r → told_length r ≤ limit → length (text_in r) ≡ told_length r
      → IsUnfinished (text_in r) f → IsTrouble r limit (BadJson f)

-- Nothing is wrong, and no whole frame stands in front.
pub record IsUnderWay (r : List ℕ) (limit : ℕ) : Type 0 where
  pub no_trouble : (f : FrameFault) → ¬ IsTrouble r limit f
  pub no_frame : (i : ℕ) (t : List ℕ) → ¬ IsFrame limit (take i r) t

-- no shorter front of the bytes has trouble
abbrev pub IsTroubleFirst : List ℕ → ℕ → Type 0
IsTroubleFirst r limit = (i : ℕ) (f : FrameFault) → i < length r → ¬ IsTrouble (take i r) limit f

-- With so many bytes of the piece, and with no fewer, the bytes in hand are the frame of this text.
pub record EndsFrame (limit : ℕ) (bytes piece : List ℕ) (used : ℕ) (t : List ℕ) : Type 0 where
  pub inside : used ≤ length piece
  pub frame : IsFrame limit (bytes ++ take used piece) t
  pub least : (i : ℕ) (u : List ℕ) → i < used → ¬ IsFrame limit (bytes ++ take i piece) u

-- With the piece the bytes in hand have this trouble. What is left ends with the first byte of the piece that brings
-- it, or with no byte of the piece where the trouble was there before.
pub record StopsAt (limit : ℕ) (bytes piece : List ℕ) (f : FrameFault) (left : List ℕ) : Type 0 where
  pub trouble : IsTrouble (bytes ++ piece) limit f
  pub upto : ℕ
  pub left_is : left ≡ bytes ++ take upto piece
  pub kept : IsTrouble left limit f
  pub least : (i : ℕ) (g : FrameFault) → i < upto → ¬ IsTrouble (bytes ++ take i piece) limit g

-- what callers see of a reader: its limit, and the bytes of the unfinished frame
pub record Unfinished : Type 0 where
  pub limit : ℕ
  pub bytes : List ℕ
