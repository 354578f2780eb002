-- Where in a text of RFC 8259's grammar the automaton stands. A Bool says whether a string is a member's name.
use Rattle.std.specs.Prelude.{ℕ, Bool}

pub data Mode : Type 0 where
  -- a value comes; what stands after [ and after {; a member's name comes; its colon comes; a value has ended
  value : Mode
  array_start : Mode
  object_start : Mode
  key : Mode
  colon : Mode
  after : Mode
  -- in a string; after its reverse solidus; before a hex digit after which so many follow
  text : Bool → Mode
  escape : Bool → Mode
  hex : ℕ → Bool → Mode
  -- after the parts of a number
  minus : Mode
  zero_digit : Mode
  digits : Mode
  point : Mode
  decimals : Mode
  e : Mode
  e_sign : Mode
  power : Mode
  -- after so many letters of true, false and null
  t1 : Mode
  t2 : Mode
  t3 : Mode
  f1 : Mode
  f2 : Mode
  f3 : Mode
  f4 : Mode
  n1 : Mode
  n2 : Mode
  n3 : Mode
