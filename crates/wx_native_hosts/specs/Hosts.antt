-- The native hosts that were started, as contracts see them: a list, each at the place of its number.
use Rattle.std.specs.Prelude.{◌≡◌, ℕ, List, [], ◌∷◌, ◌++◌, Bool, true, false, Option, Some, None, drop, slice_get, ◌==◌}
use Rattle.wx_id.specs.declared.numbers.HostNo.{HostNo}
use Rattle.wx_id.specs.declared.numbers.EntryNo.{EntryNo}
use Rattle.wx_machine.specs.declared.work.Work.{Work}
use Rattle.wx_machine.specs.Words.{is_for_channel}
use Rattle.wx_native_hosts.specs.declared.hosts.Start.{Start}

-- a host: what it was started for, the entries with the texts that it has not taken, whether it ended, whether it was
-- told that no text comes any more, and whether a message of it was answered that its channel is closed
pub record HostState : Type 0 where
  pub start : Start
  pub texts : List EntryNo
  pub has_ended : Bool
  pub knows_end : Bool
  pub said_closed : Bool

-- the hosts, and how many more have room
pub record HostsState : Type 0 where
  pub hosts : List HostState
  pub spare : ℕ

-- a host that was just started, with these texts
abbrev pub started : Start → List EntryNo → HostState
started start texts = record { start = start; texts = texts; has_ended = false; knows_end = false; said_closed = false }

abbrev pub work_in : Option HostState → Option Work
work_in None = None
work_in (Some host) = Some host.start.work

-- with one more text
abbrev pub told : EntryNo → HostState → HostState
told n host = record host { texts = host.texts ++ n ∷ [] }

-- without its first text
abbrev pub took : HostState → HostState
took host = record host { texts = drop 1 host.texts }

abbrev pub ended : HostState → HostState
ended host = record host { has_ended = true }

abbrev pub knowing : HostState → HostState
knowing host = record host { knows_end = true }

abbrev pub refused : HostState → HostState
refused host = record host { said_closed = true }

abbrev pub has_ended_in : Option HostState → Bool
has_ended_in None = false
has_ended_in (Some host) = host.has_ended

abbrev pub knows_end_in : Option HostState → Bool
knows_end_in None = false
knows_end_in (Some host) = host.knows_end

abbrev pub said_closed_in : Option HostState → Bool
said_closed_in None = false
said_closed_in (Some host) = host.said_closed

-- the first text that a host has not taken
abbrev pub first_text_in : Option HostState → Option EntryNo
first_text_in None = None
first_text_in (Some host) = slice_get host.texts 0

-- host h is that one
abbrev pub is_the : Option HostNo → HostNo → Bool
is_the None h = false
is_the (Some g) h = g.0 == h.0

-- each channel finds the host that works for it, and no other
pub record AreFound (hosts : List HostState) (find : ℕ → Option HostNo) : Type 0 where
  pub each : (k : ℕ) (h : HostNo) → is_for_channel k (work_in (slice_get hosts h.0)) ≡ is_the (find k) h
