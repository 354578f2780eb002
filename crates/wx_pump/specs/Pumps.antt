-- What the two pumps of a host do, turn after turn.
use Rattle.std.specs.Prelude.{◌≡◌, ℕ, ◌+◌, ◌≤◌, Bool, true, false, List, [], ◌∷◌, ◌++◌, cond, Option, Some}
use Rattle.wx_id.specs.declared.numbers.HostNo.{HostNo}
use Rattle.wx_native_frame.specs.Frames.{Unfinished}
use Rattle.wx_machine.specs.declared.entries.Who.TheVariants.{Host as ByHost}
use Rattle.wx_machine.specs.declared.entries.Call.{Call}
use Rattle.wx_machine.specs.declared.entries.Answer.{Answer}
use Rattle.wx_machine.specs.declared.entries.Entry.{Entry}
use Rattle.wx_machine.specs.declared.entries.Call.TheVariants.{HostTake, HostEnded}
use Rattle.wx_machine.specs.declared.entries.Answer.TheVariants.{End as NoMore}
use Rattle.wx_desk.specs.History.{Seen, entries_in}
use Rattle.wx_desk.specs.Desks.{HostDeskState, past_of}
use Rattle.wx_host_launch.specs.Pipes.{InState, OutState}
use Rattle.wx_host_launch.specs.Halves.{texts_of_takes, IsInHalf, IsOutHalf}
use Rattle.wx_pump.specs.declared.pumps.PumpEnd.{PumpEnd}
use Rattle.wx_pump.specs.declared.pumps.PumpEnd.TheVariants.{Ended, Stopped, NoMemory}

abbrev pub is_ended : PumpEnd → Bool
is_ended Ended = true
is_ended _ = false

abbrev pub is_stopped : PumpEnd → Bool
is_stopped Stopped = true
is_stopped _ = false

abbrev pub is_refused : PumpEnd → Bool
is_refused NoMemory = true
is_refused _ = false

-- a call after which a pump has nothing more to do
abbrev pub is_last : Call → Answer → Bool
is_last HostTake NoMore = true
is_last (HostEnded reason) _ = true
is_last _ _ = false

-- the last entry made at this desk is such a call
abbrev pub is_over : List Seen → Bool
is_over [] = false
is_over (s ∷ more) = cond s.own (is_last s.entry.call s.entry.answer) (is_over more)

-- Entries of host h that were made while its desk was asked again and again whether to stop. Each time it said to go
-- on, this was known of the journal, and at most so many entries were made until it was asked again. None was made
-- before the first time, nor after the time that it said to stop. The number is that of the entries that may still be
-- made.
pub data Paced (most : ℕ) (h : HostNo) (going : List Entry → Type 0) (past : List Entry) : List Seen → ℕ → Type 0 where
  begins : Paced most h going past [] 0
  goes_on : {more : List Seen} {n : ℕ} → going (entries_in more ++ past) → Paced most h going past more n
      → Paced most h going past more most
  halts : {more : List Seen} {n : ℕ} → Paced most h going past more n → Paced most h going past more 0
  comes : {s : Seen} {more : List Seen} {n : ℕ} → s.own ≡ false → Paced most h going past more n
      → Paced most h going past (s ∷ more) n
  makes : {s : Seen} {more : List Seen} {n : ℕ} → s.own ≡ true → s.entry.who ≡ ByHost h
      → Paced most h going past more (n + 1) → Paced most h going past (s ∷ more) n

-- the texts that were taken in these entries are told the same by every later journal
abbrev pub TextsStay : List Entry → List Seen → Type 0
TextsStay past more = (later : List Entry) → texts_of_takes (later ++ past) more ≡ texts_of_takes past more

-- The pump of the input: what it sent and entered is the half of the input; it asked before every two entries; it came
-- to its end exactly where its last entry says so, and stopped exactly where the desk told it to when last asked.
pub record IsInPump (going : HostNo → List Entry → Type 0) (old new : HostDeskState) (before now : InState)
    (told : Option Bool) (result : PumpEnd) : Type 0 where
  pub half : IsInHalf old new before now (is_refused result)
  pub stays : TextsStay (past_of new) half.more
  pub left : ℕ
  pub paced : Paced 2 old.who (going old.who) (past_of old) half.more left
  pub over : is_over half.more ≡ is_ended result
  pub told_is : told ≡ Some (is_stopped result)
  pub later : before.faults ≤ now.faults
  pub same_who : new.who ≡ old.who
  pub same_world : new.world ≡ old.world

-- The pump of the output, in the same way; it asked before every entry.
pub record IsOutPump (going : HostNo → List Entry → Type 0) (old new : HostDeskState) (reader after : Unfinished)
    (before now : OutState) (told : Option Bool) (result : PumpEnd) : Type 0 where
  pub half : IsOutHalf old new reader after before now (is_refused result)
  pub left : ℕ
  pub paced : Paced 1 old.who (going old.who) (past_of old) half.more left
  pub over : is_over half.more ≡ is_ended result
  pub told_is : told ≡ Some (is_stopped result)
  pub later : before.faults ≤ now.faults
  pub same_who : new.who ≡ old.who
  pub same_world : new.world ≡ old.world
