-- The entries that a report names, asked by their numbers.
use Rattle.std.specs.Prelude.{◌≡◌, ℕ, length, List, [], ◌∷◌, Bool, true, cond, Option, Some, None, ◌==◌}
use Rattle.std.specs.Option.{option_map}
use Rattle.wx_id.specs.declared.numbers.EntryNo.{EntryNo}
use Rattle.wx_machine.specs.declared.entries.Entry.{Entry}
use Rattle.wx_machine.specs.Words.{request, closes, settles}
use Rattle.wx_reports.specs.declared.requests.Settled.{Settled}
use Rattle.wx_reports.specs.Reports.{opens_channel, makes_request, way}

-- the entries before the one with number n, and that one
abbrev pub entry_at : List Entry → ℕ → Option (List Entry × Entry)
entry_at [] n = None
entry_at (e ∷ past) n = cond (length past == n) (Some (past, e)) (entry_at past n)

-- entry n opened channel k
abbrev pub IsOpening : List Entry → ℕ → EntryNo → Type 0
IsOpening past k n = option_map (λ (p : List Entry × Entry). opens_channel p.0 p.1 k) (entry_at past n.0) ≡ Some true

-- entry n closed channel k
abbrev pub IsClosing : List Entry → ℕ → EntryNo → Type 0
IsClosing past k n = option_map (λ (p : List Entry × Entry). closes p.0 p.1 k) (entry_at past n.0) ≡ Some true

-- entry n made request r
abbrev pub IsAsking : List Entry → ℕ → EntryNo → Type 0
IsAsking past r n = option_map (λ (p : List Entry × Entry). makes_request p.0 p.1 r) (entry_at past n.0) ≡ Some true

-- that entry settled request r, in that way
abbrev pub IsSettlement : List Entry → ℕ → EntryNo × Settled → Type 0
IsSettlement past r s =
    option_map {U = Bool × Settled} (λ (p : List Entry × Entry).
    (settles p.0 p.1 r, way (request p.0 r) p.1.who p.1.call)) (entry_at past s.0.0) ≡ Some (true, s.1)
