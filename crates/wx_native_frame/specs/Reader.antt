-- What a reader's fields stand for.
use Rattle.std.specs.Prelude.{◌≡◌, ℕ, ◌^◌, ◌<◌, ◌≤◌, List, [], ◌++◌, length, Some, None}
use Rattle.std.specs.Vec.{vec_capacity}
use Rattle.wx_json.specs.Check.{Progress, Stands, taken}
use Rattle.wx_json.specs.Text.{IsPrefixOfJson}
use Rattle.wx_native_frame.specs.Frames.{Unfinished, IsTrouble, IsTroubleFirst, told_length}
use Rattle.wx_native_frame.specs.declared.FrameFault.{FrameFault}
use Rattle.wx_native_frame.specs.declared.frame_reader.FrameReader.TheInside.{Inside}

abbrev pub unfinished_of : Inside → Unfinished
unfinished_of a = record { limit = a.limit; bytes = a.head ++ a.text.items }

-- the length is not yet whole
pub record IsEarly (a : Inside) : Type 0 where
  pub text : a.text.items ≡ []
  pub fault : a.fault ≡ None

-- The check was given these bytes of a text, and found no fault.
pub record Reads (check : Progress) (text : List ℕ) : Type 0 where
  pub stands : Stands check text
  pub count : taken check ≤ length text
  pub start : IsPrefixOfJson text

-- a text is being read
pub record IsInside (a : Inside) : Type 0 where
  pub within : told_length a.head ≤ a.limit
  pub short : length a.text.items < told_length a.head
  pub room : told_length a.head ≤ vec_capacity a.text
  pub reads : Reads a.check a.text.items

pub record IsSound (a : Inside) : Type 0 where
  pub limit : a.limit < 2 ^ 32
  pub head : length a.head ≤ 4
  pub early : length a.head < 4 → IsEarly a
  pub inside : length a.head ≡ 4 → a.fault ≡ None → IsInside a
  pub broken : (f : FrameFault) → a.fault ≡ Some f → IsTrouble (a.head ++ a.text.items) a.limit f
  pub first : (f : FrameFault) → a.fault ≡ Some f → IsTroubleFirst (a.head ++ a.text.items) a.limit
