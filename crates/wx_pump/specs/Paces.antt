-- How many entries the two pumps of a host make.
use Rattle.std.specs.Prelude.{◌≡◌, ℕ, ◌+◌, ◌<◌, ◌≤◌, false, List, [], ◌∷◌}
use Rattle.wx_id.specs.declared.numbers.HostNo.{HostNo}
use Rattle.wx_machine.specs.declared.entries.Entry.{Entry}
use Rattle.wx_machine.specs.Words.{is_by_host}
use Rattle.wx_desk.specs.History.{Seen, entries_in}
use Rattle.wx_host_slot.specs.Journals.{entries_of}
use Rattle.wx_host_slot.specs.Slots.{host_limit}
use Rattle.wx_pump.specs.Pumps.{Paced}

-- so few entries are made by host h that its pumps may still be told to go on
abbrev pub IsBelowLimit : HostNo → List Entry → Type 0
IsBelowLimit h past = entries_of h past < host_limit

-- one history, as two desks see it: each entry of host h was made at one of them
abbrev pub AreBoth : HostNo → List Seen → List Seen → Type 0
AreBoth h [] [] = Unit {0}
AreBoth h (x ∷ xs) (y ∷ ys) = AreBoth h xs ys × (x.entry ≡ y.entry)
    × (x.own ≡ false → y.own ≡ false → is_by_host x.entry.who h ≡ false)
AreBoth h _ _ = ⊥

-- A host whose two pumps go on only while it is below the limit makes at most two entries more, whatever others do.
abbrev pub EntriesAreFew : Type 0
EntriesAreFew = (h : HostNo) (first second : List Seen) (m n : ℕ) → Paced 2 h (IsBelowLimit h) [] first m
    → Paced 1 h (IsBelowLimit h) [] second n → AreBoth h first second → entries_of h (entries_in first) ≤ host_limit + 2
